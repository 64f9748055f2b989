-- Heads of cells as they are written.
use Rattle.std.proofs.Common.{◌≡◌, ◌≢◌, ℕ, ◌+◌, ◌*◌, ◌<◌, ◌≤◌, Bool, true, false, nat_le, List, [], ◌∷◌, ◌++◌, length, refl, sym, ap, ◌∙◌, arith, inl, inr}
use Rattle.std.proofs.lemmas.Bool.{leb-true}
use Rattle.std.proofs.lemmas.Bool.Decides.{leb_tells}
use Rattle.std.proofs.lemmas.List.{length-append}
use Rattle.block_meaning.specs.Numbers.{IsVarUInt}
use Rattle.block_meaning.specs.Cells.{SaysLength, IsHead, HasPayload}
use Rattle.write_meaning.specs.Encoding.{head_bytes, cell_bytes, var_uint_bytes}
use Rattle.write_meaning.proofs.Digits.{var_uint_length, var_uint_some, var_uint_spelled}

short_head : (t n : ℕ) → nat_le n 13 ≡ true → head_bytes t n ≡ (16 * t + n) ∷ []
unfolding head_bytes
short_head t n e = rw e refl

pub long_head : (t n : ℕ) → nat_le n 13 ≡ false → head_bytes t n ≡ (16 * t + 14) ∷ var_uint_bytes n
unfolding head_bytes
long_head t n e = rw e refl

behind : (t n first : ℕ) (bytes : List ℕ) → SaysLength first t n → IsVarUInt bytes n → IsHead t n (first ∷ bytes)
behind t n first [] s v = absurd v.spells
behind t n first (b ∷ bs) s v = (s, v)

above : (n : ℕ) → nat_le n 13 ≡ false → 13 < n
above n e = elim (leb_tells n 13) [ inl h ↦ absurd cc | inr h ↦ h.1 ]

pub head_stands : (t n : ℕ) → n < 268_435_456 → (n ≤ 13 → 16 * t + n ≡ 209 → ⊥) → IsHead t n (head_bytes t n)
head_stands t n h apart = at (nat_le n 13) refl
  where
    at : (b : Bool) → nat_le n 13 ≡ b → IsHead t n (head_bytes t n)
    at true e = rw (short_head t n e) (leb-true _ _ e, refl, apart (leb-true _ _ e))
    at false e = rw (long_head t n e) (behind t n (16 * t + 14) (var_uint_bytes n) (inl refl) (var_uint_spelled n h))

pub head_length : (t n : ℕ) → length (head_bytes t n) ≤ 5
head_length t n = at (nat_le n 13) refl
  where
    at : (b : Bool) → nat_le n 13 ≡ b → length (head_bytes t n) ≤ 5
    at true e = rw (short_head t n e) (omega arith)
    at false e = rw (long_head t n e) (omega (arith, var_uint_length n))

pub head_of_short : (t n : ℕ) → n ≤ 13 → length (head_bytes t n) ≡ 1
head_of_short t n h = at (nat_le n 13) refl
  where
    at : (b : Bool) → nat_le n 13 ≡ b → length (head_bytes t n) ≡ 1
    at true e = rw (short_head t n e) refl
    at false e = absurd (omega (arith, above n e))

pub head_some : (t n : ℕ) → 1 ≤ length (head_bytes t n)
head_some t n = at (nat_le n 13) refl
  where
    at : (b : Bool) → nat_le n 13 ≡ b → 1 ≤ length (head_bytes t n)
    at true e = rw (short_head t n e) (omega arith)
    at false e = rw (long_head t n e) (omega arith)

pub cell_stands : (t : ℕ) (payload : List ℕ) → length payload < 268_435_456 → (length payload ≤ 13 → 16 * t + length payload ≡ 209 → ⊥) → HasPayload t payload (cell_bytes t payload)
unfolding cell_bytes
cell_stands t payload h apart = record { head = head_bytes t (length payload); heads = head_stands t (length payload) h apart; parts = refl }

pub cell_length : (t : ℕ) (payload : List ℕ) → length (cell_bytes t payload) ≡ length (head_bytes t (length payload)) + length payload
unfolding cell_bytes
cell_length t payload = length-append (head_bytes t (length payload)) payload
