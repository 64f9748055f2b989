-- How rows are cut into blocks: each block takes rows as long as they fit.
use Rattle.std.specs.Prelude.{◌≡◌, ℕ, ◌≤◌, Bool, ◌&&◌, nat_le, List, [], ◌∷◌, ◌++◌, length, sum_by, if◌then◌else◌, IsTrue}
use Rattle.value_meaning.specs.Val.{Val}
use Rattle.write_meaning.specs.Weights.{weight}

abbrev pub Rows : Type 0
Rows = List Val

-- the rows fit into one block
unfoldable pub fits : ℕ → Rows → Bool
fits most rows = nat_le (sum_by weight rows) most && nat_le (length rows) 65_536

-- the row that follows, if there is one, doesn't fit any more
abbrev pub IsFull : ℕ → Rows → Rows → Type 0
IsFull most block [] = Unit {0}
IsFull most block (r ∷ rs) = ¬ IsTrue (fits most (block ++ r ∷ []))

-- The blocks are the cut of the rows: end to end, each with at least one row and as long as it fits.
abbrev pub AreCut : ℕ → List Rows → Rows → Type 0
AreCut most [] rows = rows ≡ []
AreCut most (block ∷ blocks) rows =
    (rest : Rows) × (rows ≡ block ++ rest) × (1 ≤ length block) × IsTrue (fits most block) × IsFull most block rest × AreCut most blocks rest

-- The same row by row, beside the block that is open.
abbrev pub last_block : Rows → List Rows
last_block [] = []
last_block (r ∷ rs) = (r ∷ rs) ∷ []

abbrev pub cut_on : ℕ → Rows → Rows → List Rows
cut_on most block [] = last_block block
cut_on most block (r ∷ rs) =
    if fits most (block ++ r ∷ []) then cut_on most (block ++ r ∷ []) rs else block ∷ cut_on most (r ∷ []) rs

unfoldable pub cut : ℕ → Rows → List Rows
cut most rows = cut_on most [] rows

-- After the rows so far these blocks are closed and this one is open, whatever follows.
unfoldable pub IsCutSoFar : ℕ → Rows → List Rows → Rows → Type 0
IsCutSoFar most done closed block = (rest : Rows) → cut most (done ++ rest) ≡ closed ++ cut_on most block rest

-- each row fits into a block of its own
abbrev pub EachFits : ℕ → Rows → Type 0
EachFits most [] = Unit {0}
EachFits most (r ∷ rs) = (weight r ≤ most) × EachFits most rs
