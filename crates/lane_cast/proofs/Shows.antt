-- The steps of a loop that makes a number in some lanes.
use Rattle.std.proofs.Common.{◌≡◌, ◌≢◌, ℕ, ℤ, ◌<◌, ◌+◌, ◌*◌, ◌%◌, ◌^◌, refl, ap, ◌∙◌, arith, Bool, true, false, cond, List, length, nat_lt, bit_or, slice_set, ⊎_elim, get_or-set_same, get_or-set_other}
use Rattle.std.proofs.lemmas.Bool.{cases_eq, lt-ltb, le-ltb}
use Rattle.value_meaning.specs.Val.{Val, missing, int}
use Rattle.lane_base.specs.Bits.{has}
use Rattle.lane_base.specs.Registers.{number_at}
use Rattle.lane_base.proofs.BitLemmas.{has-zero}
use Rattle.lane_compare.proofs.Marks.{has-set_same, has-set_other, lt_more, lt_here}
use Rattle.lane_cast.specs.Made.{number_if}

-- each lane below i shows what it is to show, and every other lane nothing
abbrev pub Shows : ℕ → List ℤ → ℕ → (ℕ → Val) → Type 0
Shows ok nums i shows = (k : ℕ) → number_if (has ok k) (number_at nums k) ≡ cond (nat_lt k i) (shows k) missing

pub Shows-start : (f : ℕ → Val) (k : ℕ) (z : ℤ) → number_if (has 0 k) z ≡ cond (nat_lt k 0) (f k) missing
Shows-start f k z = let off : nat_lt k 0 ≡ false = le-ltb k 0 (omega arith) in rw (has-zero k, off) refl

not_made : (b : Bool) (z : ℤ) → number_if b z ≡ missing → b ≡ false
not_made true z e = cc
not_made false z e = refl

-- lane i is still free
free : (ok : ℕ) (nums : List ℤ) (i : ℕ) (f : ℕ → Val) → Shows ok nums i f → has ok i ≡ false
free ok nums i f shows =
    let off : nat_lt i i ≡ false = le-ltb i i (omega arith) in
    not_made (has ok i) (number_at nums i) (shows i ∙ ap (λ b. cond b (f i) missing) off)

pub Shows-made : (ok : ℕ) (nums : List ℤ) (i : ℕ) (f : ℕ → Val) (z : ℤ) → i < 16 → i < length nums → Shows ok nums i f → int z ≡ f i
    → Shows (bit_or ok (1 * 2 ^ i % 2 ^ 16)) (slice_set nums i z) (i + 1) f
Shows-made ok nums i f z low within shows e k =
    ⊎_elim
    (λ (same : k ≡ i).
    let on : has (bit_or ok (1 * 2 ^ i % 2 ^ 16)) k ≡ true = rw same (has-set_same ok i low) in
    let lt : nat_lt k (i + 1) ≡ true = rw same (lt_here i) in
    rw (on, lt, same, get_or-set_same) e)
    (λ (ne : k ≢ i). rw (has-set_other ok i k low ne, lt_more k i ne, get_or-set_other) (shows k))
    (cases_eq k i)

pub Shows-none_made : (ok : ℕ) (nums : List ℤ) (i : ℕ) (f : ℕ → Val) (z : ℤ) → i < length nums → Shows ok nums i f → missing ≡ f i
    → Shows ok (slice_set nums i z) (i + 1) f
Shows-none_made ok nums i f z within shows e k =
    ⊎_elim
    (λ (same : k ≡ i).
    let off : has ok k ≡ false = rw same (free ok nums i f shows) in
    let lt : nat_lt k (i + 1) ≡ true = rw same (lt_here i) in
    rw (off, lt, same) e)
    (λ (ne : k ≢ i). rw (lt_more k i ne, get_or-set_other) (shows k))
    (cases_eq k i)

pub Shows-skip : (ok : ℕ) (nums : List ℤ) (i : ℕ) (f : ℕ → Val) → Shows ok nums i f → missing ≡ f i → Shows ok nums (i + 1) f
Shows-skip ok nums i f shows e k =
    ⊎_elim
    (λ (same : k ≡ i).
    let off : has ok k ≡ false = rw same (free ok nums i f shows) in
    let lt : nat_lt k (i + 1) ≡ true = rw same (lt_here i) in
    rw (off, lt, same) e)
    (λ (ne : k ≢ i). rw (lt_more k i ne) (shows k))
    (cases_eq k i)

pub Shows-all : (ok : ℕ) (nums : List ℤ) (n : ℕ) (f : ℕ → Val) → Shows ok nums n f → (k : ℕ) → k < n → number_if (has ok k) (number_at nums k) ≡ f k
Shows-all ok nums n f shows k below = shows k ∙ ap (λ b. cond b (f k) missing) (lt-ltb k n below)
