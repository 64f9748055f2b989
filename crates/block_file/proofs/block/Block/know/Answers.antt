use Rattle.std.proofs.Common.{ℕ, List, subst}
use Rattle.value_meaning.specs.Val.{Val}
use Rattle.block_meaning.specs.Blocks.{AreRows}
use Rattle.block_file.proofs.RowCells.{rows_are}
use Rattle.block_file.proofs.block.Block.know.Goals as goal

pub returns-clause-structs : goal.returns-clause-structs
returns-clause-structs c =
    subst (λ (p : List (List ℕ) × List Val). AreRows p.1) c.self.view_is (rows_are c.self.inside.table c.self.inside.rows.items c.self.invariant.rows)
