-- Bounds of the numbers so far, and one more byte of them.
use Rattle.std.proofs.Common.{◌≡◌, ℕ, zero, suc, ◌+◌, ◌*◌, ◌<◌, ◌≤◌, ◌^◌, ◌-◌, List, [], ◌∷◌, length, get_or, drop, Option, Some, None, ltb, true, false, refl, sym, ◌∙◌, arith, add-one, drop-cons}
use Rattle.std.proofs.lemmas.Bool.{le-ltb}
use Rattle.std.proofs.lemmas.Bool.Decides.{nat_tests}
use Rattle.block_meaning.specs.Numbers.{magnitude_on, var_uint_in, var_uint}
use Rattle.std.proofs.Math.ListN.{drop_of_length-le}

abbrev pub none : Option (ℕ × List ℕ)
none = None

pub below_128 : (n b k : ℕ) → k < 4 → n < 128 ^ k → b < 128 → (n * 128 + b < 128 ^ (k + 1)) × (n * 128 + b < 2 ^ 28)
below_128 n b zero h lt c = (omega arith, omega arith)
below_128 n b (suc zero) h lt c = (omega arith, omega arith)
below_128 n b (suc (suc zero)) h lt c = (omega arith, omega arith)
below_128 n b (suc (suc (suc zero))) h lt c = (omega arith, omega arith)
below_128 n b (suc (suc (suc (suc k)))) h lt c = absurd (omega arith)

pub below_256 : (n b k : ℕ) → k < 8 → n < 256 ^ k → b < 256 → (n * 256 + b < 256 ^ (k + 1)) × (n * 256 + b < 2 ^ 64)
below_256 n b zero h lt c = (omega arith, omega arith)
below_256 n b (suc zero) h lt c = (omega arith, omega arith)
below_256 n b (suc (suc zero)) h lt c = (omega arith, omega arith)
below_256 n b (suc (suc (suc zero))) h lt c = (omega arith, omega arith)
below_256 n b (suc (suc (suc (suc zero)))) h lt c = (omega arith, omega arith)
below_256 n b (suc (suc (suc (suc (suc zero))))) h lt c = (omega arith, omega arith)
below_256 n b (suc (suc (suc (suc (suc (suc zero)))))) h lt c = (omega arith, omega arith)
below_256 n b (suc (suc (suc (suc (suc (suc (suc zero))))))) h lt c = (omega arith, omega arith)
below_256 n b (suc (suc (suc (suc (suc (suc (suc (suc k)))))))) h lt c = absurd (omega arith)

pub magnitude_next : (n i : ℕ) (bytes : List ℕ) (b w : ℕ) → i < length bytes → b ≡ get_or bytes i 0 → w ≡ magnitude_on n (drop i bytes) → w ≡ magnitude_on (n * 256 + b) (drop (i + 1) bytes)
magnitude_next n i bytes b w h e sofar = sofar ∙ (rw (add-one, drop-cons bytes i 0 h, ← e) refl)

pub uint_none : (room s : ℕ) (bytes : List ℕ) → length bytes ≡ 0 → var_uint_in room s bytes ≡ None
uint_none zero s bytes h = refl
uint_none (suc room) s [] h = refl
uint_none (suc room) s (b ∷ bs) h = absurd (omega arith)

pub uint_full : (room s : ℕ) (bytes : List ℕ) → room ≡ 0 → var_uint_in room s bytes ≡ None
uint_full zero s bytes h = refl
uint_full (suc room) s bytes h = absurd (omega arith)

pub uint_last : (room s b : ℕ) (bytes rest : List ℕ) → 0 < room → bytes ≡ b ∷ rest → 128 ≤ b → var_uint_in room s bytes ≡ Some (s * 128 + (b - 128), rest)
uint_last zero s b bytes rest h e k = absurd (omega arith)
uint_last (suc room) s b bytes rest h e k =
    let test : ltb b 128 ≡ false = le-ltb _ _ k in
    rw (e, test) refl

pub uint_more : (room after s b : ℕ) (bytes rest : List ℕ) → room ≡ suc after → bytes ≡ b ∷ rest → b < 128 → var_uint_in room s bytes ≡ var_uint_in after (s * 128 + b) rest
uint_more room after s b bytes rest h e k =
    let test : ltb b 128 ≡ true = grind (arith, nat_tests) in
    rw (h, e, test) refl

module _ (bytes : List ℕ) (at i n : ℕ) (sofar : var_uint_in 4 0 (drop at bytes) ≡ var_uint_in (4 - i) n (drop (at + i) bytes)) where
  pub uint_ends : length bytes ≤ at + i → none ≡ var_uint (drop at bytes)
  unfolding var_uint
  uint_ends h = sym (sofar ∙ uint_none (4 - i) n (drop (at + i) bytes) (rw (drop_of_length-le bytes h) refl))

  pub uint_long : 4 ≤ i → none ≡ var_uint (drop at bytes)
  unfolding var_uint
  uint_long h = sym (sofar ∙ uint_full (4 - i) n (drop (at + i) bytes) (omega arith))

  module _ (b : ℕ) (h : i < 4) (within : at + i < length bytes) (byte : b ≡ get_or bytes (at + i) 0) where
    here : drop (at + i) bytes ≡ b ∷ drop (at + i + 1) bytes
    here = rw (drop-cons bytes (at + i) 0 within, ← byte, add-one) refl

    pub uint_lasts : 128 ≤ b → Some (n * 128 + (b - 128), drop (at + i + 1) bytes) ≡ var_uint (drop at bytes)
    unfolding var_uint
    uint_lasts k = sym (sofar ∙ uint_last (4 - i) n b (drop (at + i) bytes) (drop (at + i + 1) bytes) (omega arith) here k)

    pub uint_goes_on : b < 128 → var_uint_in 4 0 (drop at bytes) ≡ var_uint_in (4 - (i + 1)) (n * 128 + b) (drop (at + (i + 1)) bytes)
    uint_goes_on k =
        let same : at + (i + 1) ≡ at + i + 1 = omega arith in
        sofar ∙ uint_more (4 - i) (4 - (i + 1)) n b (drop (at + i) bytes) (drop (at + i + 1) bytes) (omega arith) here k ∙ (rw same refl)

pub below_room : (n b room : ℕ) → 0 < room → room ≤ 4 → n < 128 ^ (4 - room) → b < 128 → (n * 128 + b < 128 ^ (4 - (room - 1))) × (n * 128 + b < 2 ^ 28)
below_room n b zero h k lt c = absurd (omega arith)
below_room n b (suc zero) h k lt c = (omega arith, omega arith)
below_room n b (suc (suc zero)) h k lt c = (omega arith, omega arith)
below_room n b (suc (suc (suc zero))) h k lt c = (omega arith, omega arith)
below_room n b (suc (suc (suc (suc zero)))) h k lt c = (omega arith, omega arith)
below_room n b (suc (suc (suc (suc (suc room))))) h k lt c = absurd (omega arith)
