-- Laws of made logs.
use Rattle.std.specs.Prelude.{◌≡◌, ℕ, ◌<◌, ◌≤◌, ◌^◌, Some, codes}
use Rattle.value_meaning.specs.Val.{time}
use Rattle.value_meaning.specs.Pairs.{value_of}
use Rattle.write_meaning.specs.Standing.{IsWritableRow}
use Rattle.write_meaning.specs.Weights.{weight}
use Rattle.log_meaning.specs.Rows.{log_row, row_pairs, time_of}

-- Every row may stand in a block.
abbrev pub RowsMayBeWritten : Type 0
RowsMayBeWritten = (start number : ℕ) → number < 2 ^ 32 → IsWritableRow (log_row start number)

-- A row is light.
abbrev pub RowsAreLight : Type 0
RowsAreLight = (start number : ℕ) → weight (log_row start number) ≤ 130

-- Each row has its time.
abbrev pub RowsHaveTimes : Type 0
RowsHaveTimes = (number state : ℕ) → value_of (codes "time") (row_pairs number state) ≡ Some (time (time_of number))
