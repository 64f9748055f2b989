-- Numbers inside a cell, as its bytes spell them (Ion 1.0, "Primitive fields"), with at most four bytes of seven bits.
use Rattle.std.specs.Prelude.{◌≡◌, ℕ, zero, suc, ◌+◌, ◌-◌, ◌*◌, ◌%◌, ◌<◌, ◌≤◌, Bool, true, false, List, [], ◌∷◌, length, Option, Some, None, nat_lt, if◌then◌else◌}
use Rattle.std.specs.Option.{option_map}

-- What bytes of seven bits make of the number so far, the high bit set on the last byte alone.
abbrev pub Completes : ℕ → List ℕ → ℕ → Type 0
Completes so_far [] n = ⊥
Completes so_far (b ∷ []) n = (128 ≤ b) × (n ≡ so_far * 128 + (b - 128))
Completes so_far (b ∷ c ∷ bs) n = (b < 128) × Completes (so_far * 128 + b) (c ∷ bs) n

-- A VarUInt: an unsigned number of one to four bytes of seven bits, the most significant first. It may be padded.
pub record IsVarUInt (bytes : List ℕ) (n : ℕ) : Type 0 where
  pub short : length bytes ≤ 4
  pub spells : Completes 0 bytes n

-- A VarInt: bit 6 of the first byte is the sign, and without it the bytes are the size as a VarUInt.
pub record IsVarInt (bytes : List ℕ) (negative : Bool) (size : ℕ) : Type 0 where
  pub first : ℕ
  pub more : List ℕ
  pub bare : first % 128 < 64
  pub spells : IsVarUInt (first ∷ more) size
  pub parts : bytes ≡ (first + (if negative then 64 else 0)) ∷ more

-- a magnitude: an unsigned number, the most significant byte first
abbrev pub magnitude_on : ℕ → List ℕ → ℕ
magnitude_on so_far [] = so_far
magnitude_on so_far (b ∷ bs) = magnitude_on (so_far * 256 + b) bs

unfoldable pub magnitude : List ℕ → ℕ
magnitude bytes = magnitude_on 0 bytes

-- The same by reading from left to right: the number at the front, and what follows it.

-- of at most so many bytes
abbrev pub var_uint_in : ℕ → ℕ → List ℕ → Option (ℕ × List ℕ)
var_uint_in zero so_far bytes = None
var_uint_in (suc room) so_far [] = None
var_uint_in (suc room) so_far (b ∷ bytes) =
    if nat_lt b 128 then var_uint_in room (so_far * 128 + b) bytes else Some (so_far * 128 + (b - 128), bytes)

unfoldable pub var_uint : List ℕ → Option (ℕ × List ℕ)
var_uint bytes = var_uint_in 4 0 bytes

-- whether it is negative, its size, and what follows it
unfoldable pub var_int : List ℕ → Option (Bool × ℕ × List ℕ)
var_int [] = None
var_int (b ∷ bytes) =
    if nat_lt (b % 128) 64 then option_map (λ x. (false, x.0, x.1)) (var_uint (b ∷ bytes))
    else option_map (λ x. (true, x.0, x.1)) (var_uint ((b - 64) ∷ bytes))
