-- A list that is filled from the left, so that each place fits.
use Rattle.std.proofs.Common.{◌≢◌, ℕ, ◌+◌, ◌<◌, List, length, arith, below_more, get_or-set_same, get_or-set_other}
use Rattle.std.specs.Prelude.{slice_index_or, slice_set}

-- the places below i fit
abbrev pub Filled : {X : Type 0} → (ℕ → X → Type 0) → X → List X → ℕ → Type 0
Filled P d xs i = (k : ℕ) → k < i → P k (slice_index_or xs k d)

pub Filled-none : {X : Type 0} (P : ℕ → X → Type 0) (d : X) (xs : List X) → Filled P d xs 0
Filled-none P d xs k h = absurd (omega arith)

pub Filled-set : {X : Type 0} (P : ℕ → X → Type 0) (d : X) (xs : List X) (i : ℕ) (v : X) → i < length xs → Filled P d xs i → P i v → Filled P d (slice_set xs i v) (i + 1)
Filled-set P d xs i v within before here =
    below_more _ _
    (λ k h. let ne : k ≢ i = omega arith in rw get_or-set_other (before k h))
    (rw get_or-set_same here)
