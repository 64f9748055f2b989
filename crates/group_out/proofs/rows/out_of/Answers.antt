use Rattle.std.proofs.Common.{◌≡◌, subst}
use Rattle.std.specs.Prelude.{IfOk}
use Rattle.std.specs.Option.{option_map}
use Rattle.snel_values.specs.Made.{row_view as made_view}
use Rattle.hash_agg.specs.Finished.{row_view}
use Rattle.group_out.proofs.GroupValues.{made_is}
use Rattle.group_out.proofs.rows.out_of.Goals as goal

pub returns : goal.returns
returns c group same =
    subst (λ w. IfOk c.made_of.result (λ made. option_map made_view made ≡ w)) (made_is c.args.checked.now group (row_view c.args.row.now) same) c.made_of.ensures
