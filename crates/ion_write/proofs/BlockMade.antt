-- What is written for rows is their block.
use Rattle.std.proofs.Common.{◌≡◌, ℕ, suc, ◌+◌, ◌≤◌, List, [], ◌∷◌, length, sum_by, refl, sym, ap, subst, arith}
use Rattle.snel_values.specs.declared.value.Value.{Value}
use Rattle.snel_values.specs.View.{views}
use Rattle.value_meaning.specs.Val.{Val, vals}
use Rattle.value_meaning.specs.Sound.{AreSound}
use Rattle.block_meaning.specs.Blocks.{IsBlock}
use Rattle.write_meaning.specs.Weights.{weight}
use Rattle.write_meaning.specs.Standing.{AreWritableRows}
use Rattle.write_meaning.proofs.Blocks.{blocks_are_written}
use Rattle.write_meaning.proofs.Bounded.{blocks_are_light, rows_may_be_blocks}
use Rattle.ion_write.specs.Written.{AreWritten, AreBlockOf}

pub views_long : (xs : List Value) → length (views xs) ≡ length xs
views_long [] = refl
views_long (x ∷ xs) = ap suc (views_long xs)

pub block_stands : (rows : List Val) (bytes : List ℕ) → AreWritten rows bytes → 1 ≤ length rows → length rows ≤ 65_536 → AreSound (vals rows) → AreWritableRows rows → sum_by weight rows ≤ 1_000_000 → AreBlockOf rows bytes
block_stands rows bytes w some few sound writable light = record {
  table = w.table;
  of_rows = w.of_rows;
  block = subst (IsBlock w.table rows) (sym w.are) (blocks_are_written w.table rows (rows_may_be_blocks w.table rows w.of_rows some few sound writable light));
}

pub block_light : (rows : List Val) (bytes : List ℕ) → AreWritten rows bytes → length bytes ≤ sum_by weight rows + 32
block_light rows bytes w = rw w.are (blocks_are_light w.table rows w.of_rows)
