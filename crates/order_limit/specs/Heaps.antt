-- Heaps of rows, and what adding a row to the first rows does.
use Rattle.std.specs.Prelude.{◌≡◌, ◌≢◌, ℕ, ◌+◌, ◌*◌, ◌<◌, ◌≤◌, Bool, true, false, List, [], ◌∷◌, ◌++◌, length, slice_index_or, map, All, IsPermutation}
use Rattle.std.specs.Ordering.{is_lt}
use Rattle.snel_values.specs.declared.made.MadeRow.{MadeRow}
use Rattle.snel_values.specs.Made.{row_view}
use Rattle.order_limit.specs.Padded.{padded_cmp}
use Rattle.order_limit.specs.Top.{Top}

-- whether a row comes before another
abbrev pub row_before : List Bool → MadeRow → MadeRow → Bool
row_before falling a b = is_lt (padded_cmp falling a.keys b.keys)

-- the first rows, as they are held
abbrev pub top_of : List Bool → ℕ → List MadeRow → Top
top_of falling most rows = record { falling = falling; most = most; held = map row_view rows }

-- no element is below one of its children, which for place p are at 2 p + 1 and 2 p + 2
abbrev pub IsHeap : {X : Type 0} → (X → X → Bool) → List X → Type 0
IsHeap {X} lt xs =
    (p k : ℕ) (d : X) → p * 2 + 1 ≤ k → k ≤ p * 2 + 2 → k < length xs
    → lt (slice_index_or xs p d) (slice_index_or xs k d) ≡ false

-- so it is at all places but one, whose parent isn't below its children either
pub record IsHeapBut {X : Type 0} (lt : X → X → Bool) (xs : List X) (at : ℕ) : Type 0 where
  pub others :
      (p k : ℕ) (d : X) → (p ≢ at) → p * 2 + 1 ≤ k → k ≤ p * 2 + 2 → k < length xs
      → lt (slice_index_or xs p d) (slice_index_or xs k d) ≡ false
  pub across :
      (p k : ℕ) (d : X) → p * 2 + 1 ≤ at → at ≤ p * 2 + 2 → at * 2 + 1 ≤ k → k ≤ at * 2 + 2 → k < length xs
      → lt (slice_index_or xs p d) (slice_index_or xs k d) ≡ false

-- a child of the element at a place that is below no other child of it
pub record IsLastChild {X : Type 0} (lt : X → X → Bool) (xs : List X) (at child : ℕ) : Type 0 where
  pub low : at * 2 + 1 ≤ child
  pub high : child ≤ at * 2 + 2
  pub there : child < length xs
  pub last :
      (k : ℕ) (d : X) → at * 2 + 1 ≤ k → k ≤ at * 2 + 2 → k < length xs
      → lt (slice_index_or xs child d) (slice_index_or xs k d) ≡ false

-- at most so many rows, and a heap where there are so many
pub record IsKept (falling : List Bool) (most : ℕ) (rows : List MadeRow) : Type 0 where
  pub few : length rows ≤ most
  pub heap : length rows ≡ most → IsHeap (row_before falling) rows

-- an element is added to at most so many: there is room; or there is none, and it is below none and is dropped; or it takes the
-- place of one that is below none, and that one isn't below it
pub data Adds {X : Type 0} (lt : X → X → Bool) (most : ℕ) (old : List X) (x : X) (new : List X) : Type 0 where
  fills : length old < most → IsPermutation (old ++ x ∷ []) new → Adds lt most old x new
  drops : length old ≡ most → All (λ y. lt x y ≡ false) old → new ≡ old → Adds lt most old x new
  replaces :
      (out : X) (rest : List X) → length old ≡ most → IsPermutation old (out ∷ rest) → IsPermutation (x ∷ rest) new
      → All (λ y. lt out y ≡ false) old → lt x out ≡ true → Adds lt most old x new
