-- One more lane in a mask.
use Rattle.std.proofs.Common.{◌≡◌, ◌≢◌, ℕ, ◌<◌, ◌*◌, ◌%◌, ◌^◌, ap, arith, true, false, nat_eq, bit_or, ⊎_elim}
use Rattle.std.specs.Prelude.{◌||◌}
use Rattle.std.specs.Int.{w16}
use Rattle.std.proofs.lemmas.Bool.{cases_eq}
use Rattle.std.proofs.lemmas.Bool.Decides.{nat_tests}
use Rattle.std.proofs.lemmas.Nat.Bits.{bit_at_set_same, bit_at_set_other}
use Rattle.lane_base.specs.Bits.{has}

same : (n k : ℕ) → k < 16 → has (bit_or n (1 * 2 ^ k % 2 ^ 16)) k ≡ true
unfolding has
same n k within = ap (λ b. nat_eq b 1) (bit_at_set_same w16 n k within)

other : (n k i : ℕ) → k < 16 → i ≢ k → has (bit_or n (1 * 2 ^ k % 2 ^ 16)) i ≡ has n i
unfolding has
other n k i within ne = ap (λ b. nat_eq b 1) (bit_at_set_other w16 n k within i ne)

pub set_bit : (n k i : ℕ) → k < 16 → has (bit_or n (1 * 2 ^ k % 2 ^ 16)) i ≡ (nat_eq i k || has n i)
set_bit n k i within =
    ⊎_elim
    (λ (e : i ≡ k). let t : nat_eq i k ≡ true = grind (arith, nat_tests) in rw (t, e) (same n k within))
    (λ (ne : i ≢ k). let f : nat_eq i k ≡ false = grind (arith, nat_tests) in rw f (other n k i within ne))
    (cases_eq i k)
