use Rattle.std.proofs.Common.{◌∙◌, ap, sym}
use Rattle.lane_field.specs.CellsOf.{denoted}
use Rattle.lane_field.proofs.Nested.{same_shown}
use Rattle.lane_field.proofs.load.look_in.Goals as goal

pub returns-in-Some-clause-value : goal.returns-in-Some-clause-value
returns-in-Some-clause-value c =
    c.look_of.ensures.value ∙ same_shown c.args.table.now _ _ c.under_table.ensures.bytes ∙ sym (ap (denoted c.args.table.now) c.in-Some.is)
