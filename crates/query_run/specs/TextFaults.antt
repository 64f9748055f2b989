-- What the faults of a text say.
use Rattle.query_meaning.specs.Faults as text
use Rattle.check_meaning.specs.Fault as fault
use Rattle.query_check.specs.Faults.{limit_view, place_view}
use Rattle.query_run.specs.Queries.{Refused, unread, unchecked}
use Rattle.query_run.specs.declared.text_fault.TextFault.{TextFault}
use Rattle.query_run.specs.declared.text_fault.TextFault.TheVariants as of

abbrev pub refused_view : TextFault → Refused
refused_view of.TooLong = unread text.too_long
refused_view (of.BadToken p) = unread (text.bad_token p)
refused_view of.TooManyTokens = unread text.too_many
refused_view (of.RefusedWord p) = unread (text.refused p)
refused_view (of.TooDeep p) = unread (text.too_deep p)
refused_view of.NotAQuery = unread text.not_a_query
refused_view (of.TooMany l) = unchecked (fault.too_many (limit_view l))
refused_view (of.Nested p) = unchecked (fault.nested (place_view p))
refused_view (of.NotGrouped p) = unchecked (fault.not_grouped (place_view p))
refused_view (of.OverGroups p) = unchecked (fault.over_groups (place_view p))
refused_view (of.SameName k) = unchecked (fault.same_name k)
refused_view (of.NoSuchOrder i) = unchecked (fault.no_such_order i)
