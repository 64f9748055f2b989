-- The steps of a loop that makes a truth value in some lanes.
use Rattle.std.proofs.Common.{◌≡◌, ◌≢◌, ℕ, ◌<◌, ◌+◌, ◌*◌, ◌%◌, ◌^◌, refl, ap, ◌∙◌, arith, Bool, true, false, cond, nat_lt, bit_or, ⊎_elim}
use Rattle.std.proofs.lemmas.Bool.{cases_eq, lt-ltb, le-ltb}
use Rattle.value_meaning.specs.Val.{Val, missing, truth}
use Rattle.lane_base.specs.Bits.{has}
use Rattle.lane_base.specs.Registers.{truth_as}
use Rattle.lane_base.proofs.BitLemmas.{has-zero}
use Rattle.lane_compare.proofs.Marks.{has-set_same, has-set_other, lt_more, lt_here}

-- each lane below i shows what it is to show, and every other lane nothing
abbrev pub TruthsShow : ℕ → ℕ → ℕ → (ℕ → Val) → Type 0
TruthsShow yeses noes i shows = (k : ℕ) → truth_as false (has yeses k) (has noes k) ≡ cond (nat_lt k i) (shows k) missing

pub TruthsShow-start : (f : ℕ → Val) → TruthsShow 0 0 0 f
TruthsShow-start f k = let off : nat_lt k 0 ≡ false = le-ltb k 0 (omega arith) in rw (has-zero k, off) refl

not_true : (y n : Bool) → truth_as false y n ≡ missing → y ≡ false
not_true true n e = cc
not_true false n e = refl

not_false : (y n : Bool) → truth_as false y n ≡ missing → n ≡ false
not_false true n e = cc
not_false false true e = cc
not_false false false e = refl

-- lane i still shows nothing
free : (yeses noes i : ℕ) (f : ℕ → Val) → TruthsShow yeses noes i f → truth_as false (has yeses i) (has noes i) ≡ missing
free yeses noes i f shows =
    let off : nat_lt i i ≡ false = le-ltb i i (omega arith) in
    shows i ∙ ap (λ b. cond b (f i) missing) off

pub TruthsShow-true : (yeses noes i : ℕ) (f : ℕ → Val) → i < 16 → TruthsShow yeses noes i f → truth true ≡ f i → TruthsShow (bit_or yeses (1 * 2 ^ i % 2 ^ 16)) noes (i + 1) f
TruthsShow-true yeses noes i f low shows e k =
    ⊎_elim
    (λ (same : k ≡ i).
    let on : has (bit_or yeses (1 * 2 ^ i % 2 ^ 16)) k ≡ true = rw same (has-set_same yeses i low) in
    let lt : nat_lt k (i + 1) ≡ true = rw same (lt_here i) in
    rw (on, lt, same) e)
    (λ (ne : k ≢ i). rw (has-set_other yeses i k low ne, lt_more k i ne) (shows k))
    (cases_eq k i)

pub TruthsShow-false : (yeses noes i : ℕ) (f : ℕ → Val) → i < 16 → TruthsShow yeses noes i f → truth false ≡ f i → TruthsShow yeses (bit_or noes (1 * 2 ^ i % 2 ^ 16)) (i + 1) f
TruthsShow-false yeses noes i f low shows e k =
    ⊎_elim
    (λ (same : k ≡ i).
    let off : has yeses k ≡ false = rw same (not_true (has yeses i) (has noes i) (free yeses noes i f shows)) in
    let on : has (bit_or noes (1 * 2 ^ i % 2 ^ 16)) k ≡ true = rw same (has-set_same noes i low) in
    let lt : nat_lt k (i + 1) ≡ true = rw same (lt_here i) in
    rw (off, on, lt, same) e)
    (λ (ne : k ≢ i). rw (has-set_other noes i k low ne, lt_more k i ne) (shows k))
    (cases_eq k i)

pub TruthsShow-skip : (yeses noes i : ℕ) (f : ℕ → Val) → TruthsShow yeses noes i f → missing ≡ f i → TruthsShow yeses noes (i + 1) f
TruthsShow-skip yeses noes i f shows e k =
    ⊎_elim
    (λ (same : k ≡ i).
    let nothing : truth_as false (has yeses k) (has noes k) ≡ missing = rw same (free yeses noes i f shows) in
    let lt : nat_lt k (i + 1) ≡ true = rw same (lt_here i) in
    nothing ∙ rw (lt, same) e)
    (λ (ne : k ≢ i). rw (lt_more k i ne) (shows k))
    (cases_eq k i)

pub TruthsShow-all : (yeses noes n : ℕ) (f : ℕ → Val) → TruthsShow yeses noes n f → (k : ℕ) → k < n → truth_as false (has yeses k) (has noes k) ≡ f k
TruthsShow-all yeses noes n f shows k below = shows k ∙ ap (λ b. cond b (f k) missing) (lt-ltb k n below)
