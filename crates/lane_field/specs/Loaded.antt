-- What cells denote, lane by lane.
use Rattle.std.specs.Prelude.{◌≡◌, ◌<◌, ℕ, ℤ, pos, false, List, [], unwrap_or}
use Rattle.std.specs.Borrow.{Bor}
use Rattle.block_meaning.specs.Tables.{Table}
use Rattle.ion_cells.specs.Values.{int_of, truth_of, time_of, text_in}
use Rattle.lane_base.specs.Bits.{has}
use Rattle.lane_base.specs.Registers.{number_at, span_at}
use Rattle.lane_field.specs.declared.cells.CellLanes.{CellLanes}
use Rattle.lane_field.specs.CellsOf.{cell_within, denoted, AreCellsOf}

-- Each lane of the mask whose cell is a whole number has that number, and each other lane 0.
abbrev pub IntsAre : ℕ → CellLanes → List ℤ → Type 0
IntsAre mask lanes numbers =
    (table : Table) → AreCellsOf table mask lanes → (i : ℕ) → i < 16
    → number_at numbers i ≡ unwrap_or (int_of (denoted table (cell_within mask lanes i))) (pos 0)

-- Each lane of the mask whose cell is a time has its microseconds, and each other lane 0.
abbrev pub TimesAre : ℕ → CellLanes → List ℤ → Type 0
TimesAre mask lanes numbers =
    (table : Table) → AreCellsOf table mask lanes → (i : ℕ) → i < 16
    → number_at numbers i ≡ unwrap_or (time_of (denoted table (cell_within mask lanes i))) (pos 0)

-- The lanes of the mask whose cells are true are those of the result.
abbrev pub TruthsAre : ℕ → CellLanes → ℕ → Type 0
TruthsAre mask lanes result =
    (table : Table) → AreCellsOf table mask lanes → (i : ℕ) → i < 16
    → has result i ≡ unwrap_or (truth_of (denoted table (cell_within mask lanes i))) false

-- Each lane of the mask whose cell is a text under the table has that text's bytes, and each other lane none.
abbrev pub TextsAre : Table → ℕ → CellLanes → List (Bor (List ℕ)) → Type 0
TextsAre table mask lanes spans =
    (i : ℕ) → i < 16 → span_at spans i ≡ unwrap_or (text_in (denoted table (cell_within mask lanes i))) []
