use Rattle.std.proofs.Common.{◌≡◌, ◌++◌, OnOk, ℕ, List, subst}
use Rattle.block_lines.proofs.TreeCells.{blank_is_cell, text_of_tree}
use Rattle.block_lines.proofs.pairs.append_look.Goals as goal

pub of_bytes-requires : goal.of_bytes-requires
of_bytes-requires c = blank_is_cell c.args.table.now c.args.look c.in-Tree.bytes c.last.result c.in-Tree.is c.requires c.last.ensures

pub returns-in-Tree : goal.returns-in-Tree
returns-in-Tree c =
    subst (λ (l : List ℕ). OnOk c.put_value.result (c.put_value.new.into ≡ c.args.into.now ++ l)) (text_of_tree c.args.table.now c.args.look c.in-Tree.bytes c.of_bytes.result c.in-Tree.is c.of_bytes.ensures.bytes) c.put_value.ensures
