-- What is looked for among the parts of an expression, and where the search stops.
use Rattle.std.specs.Prelude.{Bool, List}
use Rattle.tree_meaning.specs.Tree.{Ex}
use Rattle.check_meaning.specs.Parts.{none}
use Rattle.check_meaning.specs.Aggregates.{is_aggregate}
use Rattle.check_meaning.specs.Tests.{is_long, is_path, is_row_form, is_given}
use Rattle.query_walk.specs.declared.parts.Asked.{Asked}
use Rattle.query_walk.specs.declared.parts.Asked.TheVariants.{LongPath, Aggregate, Path, RowForm}

abbrev pub is_stop : Asked → List Ex → Ex → Bool
is_stop LongPath keys = none
is_stop Aggregate keys = none
is_stop Path keys = is_given keys
is_stop RowForm keys = is_given keys

abbrev pub is_meant : Asked → Ex → Bool
is_meant LongPath = is_long
is_meant Aggregate = is_aggregate
is_meant Path = is_path
is_meant RowForm = is_row_form
