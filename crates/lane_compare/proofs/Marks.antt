-- A mask that is built lane by lane.
use Rattle.std.proofs.Common.{◌≡◌, ◌≢◌, ℕ, ◌<◌, ◌+◌, ◌*◌, ◌%◌, ◌^◌, ap, sym, ◌∙◌, arith, Bool, true, false, nat_eq, nat_lt, ◌&&◌, bit_or, ⊎_elim}
use Rattle.std.specs.Int.{w16}
use Rattle.std.proofs.lemmas.Bool.{cases_eq, lt-ltb, le-ltb}
use Rattle.std.proofs.lemmas.Bool.Decides.{nat_tests}
use Rattle.std.proofs.lemmas.Nat.Bits.{bit_at_set_same, bit_at_set_other}
use Rattle.lane_base.specs.Bits.{has}
use Rattle.lane_base.proofs.BitLemmas.{has-zero}

-- of the lanes below i, the mask has those that pass the test, and it has no other
abbrev pub Marks : ℕ → ℕ → (ℕ → Bool) → Type 0
Marks mask i test = (k : ℕ) → has mask k ≡ (nat_lt k i && test k)

pub has-set_same : (n k : ℕ) → k < 16 → has (bit_or n (1 * 2 ^ k % 2 ^ 16)) k ≡ true
unfolding has
has-set_same n k within = ap (λ b. nat_eq b 1) (bit_at_set_same w16 n k within)

pub has-set_other : (n k i : ℕ) → k < 16 → i ≢ k → has (bit_or n (1 * 2 ^ k % 2 ^ 16)) i ≡ has n i
unfolding has
has-set_other n k i within ne = ap (λ b. nat_eq b 1) (bit_at_set_other w16 n k within i ne)

pub Marks-none : (f : ℕ → Bool) → Marks 0 0 f
Marks-none f k = has-zero k ∙ sym (ap (λ b. b && f k) (le-ltb k 0 (omega arith)))

-- lt at a further bound
pub lt_more : (k i : ℕ) → k ≢ i → nat_lt k (i + 1) ≡ nat_lt k i
lt_more k i ne = grind (arith, nat_tests)

pub lt_here : (i : ℕ) → nat_lt i (i + 1) ≡ true
lt_here i = lt-ltb i (i + 1) (omega arith)

pub Marks-set : (mask i : ℕ) (f : ℕ → Bool) → i < 16 → Marks mask i f → f i ≡ true → Marks (bit_or mask (1 * 2 ^ i % 2 ^ 16)) (i + 1) f
Marks-set mask i f within marks passes k =
    ⊎_elim
    (λ (e : k ≡ i). let here : has (bit_or mask (1 * 2 ^ i % 2 ^ 16)) k ≡ true = rw e (has-set_same mask i within) in let lt : nat_lt k (i + 1) ≡ true = rw e (lt_here i) in let p : f k ≡ true = rw e passes in cc)
    (λ ne. has-set_other mask i k within ne ∙ marks k ∙ sym (ap (λ b. b && f k) (lt_more k i ne)))
    (cases_eq k i)

pub Marks-skip : (mask i : ℕ) (f : ℕ → Bool) → Marks mask i f → f i ≡ false → Marks mask (i + 1) f
Marks-skip mask i f marks fails k =
    ⊎_elim
    (λ (e : k ≡ i). let not_yet : nat_lt k i ≡ false = le-ltb k i (omega arith) in let lt : nat_lt k (i + 1) ≡ true = rw e (lt_here i) in let p : f k ≡ false = rw e fails in marks k ∙ cc)
    (λ ne. marks k ∙ sym (ap (λ b. b && f k) (lt_more k i ne)))
    (cases_eq k i)

pub Marks-all : (mask n : ℕ) (f : ℕ → Bool) → Marks mask n f → (k : ℕ) → k < n → has mask k ≡ f k
Marks-all mask n f marks k within = marks k ∙ ap (λ b. b && f k) (lt-ltb k n within)
