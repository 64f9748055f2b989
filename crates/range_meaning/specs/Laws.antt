-- Laws of exclusion.
use Rattle.std.specs.Prelude.{◌≡◌, ◌≢◌, ◌↔◌, ℕ, ℤ, true, false, List, Some, FitsSigned}
use Rattle.std.specs.List as list
use Rattle.std.specs.Int.{w64}
use Rattle.std.specs.Ordering.{int_cmp}
use Rattle.value_meaning.specs.Val.{Val}
use Rattle.tree_meaning.specs.declared.BinOp.{BinOp}
use Rattle.tree_meaning.specs.Tree.{Ex}
use Rattle.eval_meaning.specs.Comparisons.{meets}
use Rattle.eval_meaning.specs.Pair.{alone}
use Rattle.eval_meaning.specs.Passed.{is_kept}
use Rattle.file_meaning.specs.Files.{Entry}
use Rattle.range_meaning.specs.declared.Bounds.{Bounds}
use Rattle.range_meaning.specs.declared.Bounds.TheVariants.{All}
use Rattle.range_meaning.specs.Intervals.{interval, meet, LiesIn}
use Rattle.range_meaning.specs.Binding.{bounds}
use Rattle.range_meaning.specs.Excluded.{IsExcluded, IsSoundEntry}

-- Where a comparison with a number binds, its interval has exactly the numbers of 64 bits for which the comparison holds.
abbrev pub IntervalsAreExact : Type 0
IntervalsAreExact =
    (op : BinOp) (t x : ℤ) → interval op t ≢ All → FitsSigned w64 x → LiesIn x (interval op t) ↔ (meets op (int_cmp x t) ≡ true)

-- A number lies in a meet exactly where it lies in both bounds.
abbrev pub MeetsAreExact : Type 0
MeetsAreExact = (b c : Bounds) (x : ℤ) → LiesIn x (meet b c) ↔ (LiesIn x b × LiesIn x c)

-- No row of an excluded block whose entry is sound passes the WHERE that excludes the block. An entry's times have 64 bits.
pub record HasTimes (entry : Entry) : Type 0 where
  pub least : FitsSigned w64 entry.least
  pub greatest : FitsSigned w64 entry.greatest

abbrev pub NoExcludedRowPasses : Type 0
NoExcludedRowPasses =
    (field : List ℕ) (filter : Ex) (entry : Entry) (rows : List Val)
    → HasTimes entry → IsSoundEntry field entry rows → IsExcluded entry (bounds field filter)
    → list.All (λ row. is_kept (Some filter) (alone row) ≡ false) rows
