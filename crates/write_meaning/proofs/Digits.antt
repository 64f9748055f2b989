-- The digits of a number spell it.
use Rattle.std.proofs.Common.{◌≡◌, ℕ, zero, suc, ◌+◌, ◌-◌, ◌*◌, ◌/◌, ◌%◌, ◌^◌, ◌<◌, ◌≤◌, Bool, true, false, eqb, List, [], ◌∷◌, ◌++◌, length, refl, sym, ap, ◌∙◌, subst, arith}
use Rattle.std.proofs.Math.Nat.{mod-eq-sub-div-mul, div-mul-le_self, mod-lt, div-lt_iff_lt-mul, pow-suc, pow-zero}
use Rattle.std.proofs.lemmas.Bool.Decides.{nat_tests}
use Rattle.std.proofs.lemmas.List.{length-append}
use Rattle.block_meaning.specs.Numbers.{Completes, IsVarUInt, magnitude_on, magnitude}
use Rattle.write_meaning.specs.Encoding.{digits, var_uint_bytes}

-- the number that digits of a base make on top of a number so far
abbrev pub value_on : ℕ → ℕ → List ℕ → ℕ
value_on base so_far [] = so_far
value_on base so_far (b ∷ bs) = value_on base (so_far * base + b) bs

value_pushed : (base so_far : ℕ) (xs : List ℕ) (b : ℕ) → value_on base so_far (xs ++ b ∷ []) ≡ value_on base so_far xs * base + b
value_pushed base so_far [] b = refl
value_pushed base so_far (x ∷ xs) b = value_pushed base (so_far * base + x) xs b

zero_digits : (base room n : ℕ) → eqb n 0 ≡ true → digits base (suc room) n ≡ []
unfolding digits
zero_digits base room n e = rw e refl

more_digits : (base room n : ℕ) → eqb n 0 ≡ false → digits base (suc room) n ≡ digits base room (n / base) ++ (n % base) ∷ []
unfolding digits
more_digits base room n e = rw e refl

pub no_digits : (base n : ℕ) → digits base 0 n ≡ []
unfolding digits
no_digits base n = refl

whole : (a m n : ℕ) → a ≤ n → m ≡ n - a → a + m ≡ n
whole a m n h e = omega arith

divided : (n base : ℕ) → n / base * base + n % base ≡ n
divided n base = whole (n / base * base) (n % base) n (div-mul-le_self n base) (mod-eq-sub-div-mul n base)

pub digits_length : (base room n : ℕ) → length (digits base room n) ≤ room
digits_length base zero n = rw (no_digits base n) (omega arith)
digits_length base (suc room) n = at (eqb n 0) refl (digits_length base room (n / base))
  where
    at : (t : Bool) → eqb n 0 ≡ t → length (digits base room (n / base)) ≤ room → length (digits base (suc room) n) ≤ suc room
    at true e rest = rw (zero_digits base room n e) (omega arith)
    at false e rest =
        rw (more_digits base room n e) (omega (arith, rest, length-append (digits base room (n / base)) ((n % base) ∷ [])))

pub digits_spell : (base room n : ℕ) → 0 < base → n < base ^ room → value_on base 0 (digits base room n) ≡ n
digits_spell base zero n b h =
    let one : base ^ 0 ≡ 1 = pow-zero base in
    rw (no_digits base n) (omega arith)
digits_spell base (suc room) n b h =
    let bound : n < base ^ room * base = rw (pow-suc base room) at h in
    at (eqb n 0) refl (digits_spell base room (n / base) b ((div-lt_iff_lt-mul b).1 bound))
  where
    at : (t : Bool) → eqb n 0 ≡ t → value_on base 0 (digits base room (n / base)) ≡ n / base → value_on base 0 (digits base (suc room) n) ≡ n
    at true e rest =
        let none : n ≡ 0 = grind (arith, nat_tests) in
        rw (zero_digits base room n e) (sym none)
    at false e rest = rw (more_digits base room n e, value_pushed base 0 (digits base room (n / base)) (n % base), rest) (divided n base)

-- each is below the base
abbrev pub AreBelow : ℕ → List ℕ → Type 0
AreBelow base [] = Unit {0}
AreBelow base (x ∷ xs) = (x < base) × AreBelow base xs

below_pushed : (base : ℕ) (xs : List ℕ) (b : ℕ) → AreBelow base xs → b < base → AreBelow base (xs ++ b ∷ [])
below_pushed base [] b h k = (k, tt)
below_pushed base (x ∷ xs) b h k = (h.0, below_pushed base xs b h.1 k)

pub digits_below : (base room n : ℕ) → 0 < base → AreBelow base (digits base room n)
digits_below base zero n b = rw (no_digits base n) tt
digits_below base (suc room) n b = at (eqb n 0) refl (digits_below base room (n / base) b)
  where
    at : (t : Bool) → eqb n 0 ≡ t → AreBelow base (digits base room (n / base)) → AreBelow base (digits base (suc room) n)
    at true e rest = rw (zero_digits base room n e) tt
    at false e rest = rw (more_digits base room n e) (below_pushed base (digits base room (n / base)) (n % base) rest (mod-lt n b))

magnitude_is : (so_far : ℕ) (bytes : List ℕ) → magnitude_on so_far bytes ≡ value_on 256 so_far bytes
magnitude_is so_far [] = refl
magnitude_is so_far (b ∷ bs) = magnitude_is (so_far * 256 + b) bs

pub magnitude_spelled : (room n : ℕ) → n < 256 ^ room → magnitude (digits 256 room n) ≡ n
unfolding magnitude
magnitude_spelled room n h = magnitude_is 0 (digits 256 room n) ∙ digits_spell 256 room n (omega arith) h

completes : (so_far : ℕ) (xs : List ℕ) (b : ℕ) → AreBelow 128 xs → Completes so_far (xs ++ (b + 128) ∷ []) (value_on 128 so_far xs * 128 + b)
completes so_far [] b h = (omega arith, omega arith)
completes so_far (x ∷ []) b h = (h.0, (omega arith, omega arith))
completes so_far (x ∷ y ∷ xs) b h = (h.0, completes (so_far * 128 + x) (y ∷ xs) b h.1)

pub var_uint_length : (n : ℕ) → length (var_uint_bytes n) ≤ 4
unfolding var_uint_bytes
var_uint_length n = omega (arith, digits_length 128 3 (n / 128), length-append (digits 128 3 (n / 128)) ((n % 128 + 128) ∷ []))

pub var_uint_some : (n : ℕ) → 1 ≤ length (var_uint_bytes n)
unfolding var_uint_bytes
var_uint_some n = omega (arith, length-append (digits 128 3 (n / 128)) ((n % 128 + 128) ∷ []))

completed : (n : ℕ) → n < 268_435_456 → Completes 0 (var_uint_bytes n) n
unfolding var_uint_bytes
completed n h =
    let high : value_on 128 0 (digits 128 3 (n / 128)) ≡ n / 128 = digits_spell 128 3 (n / 128) (omega arith) (omega arith) in
    let all : value_on 128 0 (digits 128 3 (n / 128)) * 128 + n % 128 ≡ n = rw high (divided n 128) in
    subst (Completes 0 (digits 128 3 (n / 128) ++ (n % 128 + 128) ∷ [])) all (completes 0 (digits 128 3 (n / 128)) (n % 128) (digits_below 128 3 (n / 128) (omega arith)))

pub var_uint_spelled : (n : ℕ) → n < 268_435_456 → IsVarUInt (var_uint_bytes n) n
var_uint_spelled n h = record { short = var_uint_length n; spells = completed n h }

-- the last digit and those before it
pub digits_last : (base room n : ℕ) → 0 < room → 0 < n → digits base room n ≡ digits base (room - 1) (n / base) ++ (n % base) ∷ []
digits_last base zero n h k = absurd (omega arith)
digits_last base (suc room) n h k =
    let some : eqb n 0 ≡ false = grind (arith, nat_tests) in
    let less : suc room - 1 ≡ room = omega arith in
    rw less (more_digits base room n some)

pub zero_is : (base room : ℕ) → digits base (suc room) 0 ≡ []
zero_is base room = zero_digits base room 0 refl

-- a small number takes one byte
pub one_byte : (n : ℕ) → n < 128 → length (var_uint_bytes n) ≡ 1
unfolding var_uint_bytes
one_byte n h =
    let none : n / 128 ≡ 0 = omega arith in
    rw (none, zero_is 128 2) refl
