use Rattle.std.proofs.Common.{◌≡◌, subst}
use Rattle.std.specs.Prelude.{IfOk}
use Rattle.value_meaning.specs.Val.{Val}
use Rattle.snel_values.specs.View.{view}
use Rattle.block_lines.proofs.TreeCells.{blank_is_cell, value_of_tree}
use Rattle.block_lines.proofs.values.look_value.Goals as goal

pub of_bytes-requires : goal.of_bytes-requires
of_bytes-requires c = blank_is_cell c.args.table.now c.args.look c.in-Tree.bytes c.last.result c.in-Tree.is c.requires c.last.ensures

pub returns-in-Tree : goal.returns-in-Tree
returns-in-Tree c =
    subst (λ (x : Val). IfOk c.value_of.result (λ v. view v ≡ x)) (value_of_tree c.args.table.now c.args.look c.in-Tree.bytes c.of_bytes.result c.in-Tree.is c.of_bytes.ensures.bytes) c.value_of.ensures
