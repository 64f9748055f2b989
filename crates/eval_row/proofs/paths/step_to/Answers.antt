use Rattle.std.proofs.Common.{sym, ◌∙◌, ap}
use Rattle.std.specs.Prelude.{unwrap_or}
use Rattle.value_meaning.specs.Val.{missing}
use Rattle.eval_row.proofs.Walking.{name_step, item_step}
use Rattle.eval_row.proofs.paths.step_to.Goals as goal

pub returns-in-Name-Struct : goal.returns-in-Name-Struct
returns-in-Name-Struct c =
    ap (λ o. unwrap_or o missing) c.get.ensures ∙ rw (c.in-Name-Struct.is-0, c.in-Name-Struct.is-1) (rw c.as_str.ensures (sym (name_step c.in-Name-Struct.name c.in-Name-Struct.pairs)))

pub returns-in-At-List : goal.returns-in-At-List
returns-in-At-List c =
    ap (λ o. unwrap_or o missing) c.get-in-At-List.ensures ∙ rw (c.in-At-List.is-0, c.in-At-List.is-1) (sym (item_step c.in-At-List.at c.in-At-List.items))
