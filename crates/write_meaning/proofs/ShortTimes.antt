-- What is written for a time has at most twelve bytes.
use Rattle.std.proofs.Common.{◌≡◌, ℕ, zero, suc, ◌+◌, ◌-◌, ◌*◌, ◌/◌, ◌%◌, ◌^◌, ◌<◌, ◌≤◌, Bool, true, false, eqb, nat_le, ℤ, pos, List, [], ◌∷◌, ◌++◌, length, inl, inr, refl, sym, ap, ◌∙◌, arith}
use Rattle.std.proofs.Math.Nat.{div-lt_iff_lt-mul, pow-suc, pow-zero}
use Rattle.std.proofs.lemmas.Bool.Decides.{leb_tells}
use Rattle.std.proofs.lemmas.List.{length-append}
use Rattle.jiff_core.proofs.SignedLemmas.{signed_arith}
use Rattle.time_meaning.specs.Moments.{is_time}
use Rattle.time_meaning.specs.Dates.{year_of, month_of, day_of}
use Rattle.time_meaning.specs.Printed.{day_at, micros_at}
use Rattle.write_meaning.specs.Encoding.{digits, var_uint_bytes, with_clear_sign, micros_bytes, moment_bytes, time_bytes}
use Rattle.write_meaning.proofs.Digits.{digits_length, digits_last, no_digits, zero_is}
use Rattle.write_meaning.proofs.DatesBack.{IsDated, is_dated, few_days}
use Rattle.write_meaning.proofs.Timestamped.{clear, micros_none, micros_some, IsParted, parted}

digits_small : (base k room n : ℕ) → 0 < base → n < base ^ k → length (digits base room n) ≤ k
digits_small base k zero n b h = rw (no_digits base n) (omega arith)
digits_small base k (suc room) zero b h = rw (zero_is base room) (omega arith)
digits_small base zero (suc room) (suc n) b h =
    let one : base ^ 0 ≡ 1 = pow-zero base in
    absurd (omega (arith, h, one))
digits_small base (suc k) (suc room) (suc n) b h =
    let bound : suc n < base ^ k * base = rw (pow-suc base k) at h in
    let rest : length (digits base room (suc n / base)) ≤ k = digits_small base k room (suc n / base) b ((div-lt_iff_lt-mul b).1 bound) in
    let less : suc room - 1 ≡ room = omega arith in
    let last = digits_last base (suc room) (suc n) (omega arith) (omega arith) in
    rw (last, less) (omega (arith, rest, length-append (digits base room (suc n / base)) ((suc n % base) ∷ [])))

var_uint_one : (n : ℕ) → n < 128 → length (var_uint_bytes n) ≤ 1
unfolding var_uint_bytes
var_uint_one n h = omega (arith, digits_small 128 0 3 (n / 128) (omega arith) (omega arith), length-append (digits 128 3 (n / 128)) ((n % 128 + 128) ∷ []))

var_uint_two : (n : ℕ) → n < 16_384 → length (var_uint_bytes n) ≤ 2
unfolding var_uint_bytes
var_uint_two n h = omega (arith, digits_small 128 1 3 (n / 128) (omega arith) (omega arith), length-append (digits 128 3 (n / 128)) ((n % 128 + 128) ∷ []))

three : (u : ℕ) → 65_536 ≤ u → digits 256 3 u ≡ (u / 256 / 256 % 256) ∷ (u / 256 % 256) ∷ (u % 256) ∷ []
three u h =
    let a = digits_last 256 3 u (omega arith) (omega arith) in
    let b = digits_last 256 2 (u / 256) (omega arith) (omega arith) in
    let c = digits_last 256 1 (u / 256 / 256) (omega arith) (omega arith) in
    a ∙ ap (λ ds. ds ++ (u % 256) ∷ []) (b ∙ ap (λ ds. ds ++ (u / 256 % 256) ∷ []) (c ∙ ap (λ ds. ds ++ (u / 256 / 256 % 256) ∷ []) (no_digits 256 (u / 256 / 256 / 256))))

as_it_is : (b : ℕ) (bs : List ℕ) → b < 128 → with_clear_sign (b ∷ bs) ≡ b ∷ bs
as_it_is b bs h = at (nat_le 128 b) refl
  where
    at : (t : Bool) → nat_le 128 b ≡ t → with_clear_sign (b ∷ bs) ≡ b ∷ bs
    at true e = elim (leb_tells 128 b) [ inl k ↦ absurd (omega (arith, k.1)) | inr k ↦ absurd cc ]
    at false e = rw e refl

coefficient_short : (u : ℕ) → u < 1_000_000 → length (with_clear_sign (digits 256 3 u)) ≤ 3
coefficient_short u h = elim (leb_tells 65_536 u) [
  | inl k ↦
      let high : 65_536 ≤ u = k.1 in
      rw (three u high, as_it_is (u / 256 / 256 % 256) ((u / 256 % 256) ∷ (u % 256) ∷ []) (omega arith)) (omega arith)
  | inr k ↦
      let low : u < 65_536 = k.1 in
      omega (arith, (clear (digits 256 3 u)).2, digits_small 256 2 3 u (omega arith) (omega arith))
]

micros_short : (u : ℕ) → u < 1_000_000 → length (micros_bytes u) ≤ 4
micros_short u h = at (eqb u 0) refl
  where
    at : (t : Bool) → eqb u 0 ≡ t → length (micros_bytes u) ≤ 4
    at true e = rw (micros_none u e) (omega arith)
    at false e = rw (micros_some u e) (omega (arith, coefficient_short u h))

moment_short : (y m d h k s u : ℕ) → y ≤ 9999 → m ≤ 12 → d ≤ 31 → h ≤ 23 → k ≤ 59 → s ≤ 59 → u < 1_000_000 → length (moment_bytes y m d h k s u) ≤ 12
unfolding moment_bytes
moment_short y m d h k s u yy mm dd hh kk ss uu =
    omega (
      arith,
      var_uint_two y (omega arith),
      var_uint_one m (omega arith),
      var_uint_one d (omega arith),
      var_uint_one h (omega arith),
      var_uint_one k (omega arith),
      var_uint_one s (omega arith),
      micros_short u uu,
      length-append (var_uint_bytes y) (var_uint_bytes m ++ (var_uint_bytes d ++ (var_uint_bytes h ++ (var_uint_bytes k ++ (var_uint_bytes s ++ micros_bytes u))))),
      length-append (var_uint_bytes m) (var_uint_bytes d ++ (var_uint_bytes h ++ (var_uint_bytes k ++ (var_uint_bytes s ++ micros_bytes u)))),
      length-append (var_uint_bytes d) (var_uint_bytes h ++ (var_uint_bytes k ++ (var_uint_bytes s ++ micros_bytes u))),
      length-append (var_uint_bytes h) (var_uint_bytes k ++ (var_uint_bytes s ++ micros_bytes u)),
      length-append (var_uint_bytes k) (var_uint_bytes s ++ micros_bytes u),
      length-append (var_uint_bytes s) (micros_bytes u),
    )

pub time_short : (t : ℤ) → is_time t ≡ true → length (time_bytes t) ≤ 12
unfolding time_bytes
time_short t e =
    let p = parted t e in
    let d = is_dated (day_at t) p.low p.high in
    let w = micros_at t in
    let h = p.within in
    let last : day_of (day_at t) ≤ 31 = omega (arith, d.civil.2.1, few_days (pos (year_of (day_at t))) (month_of (day_at t))) in
    moment_short _ _ _ (w / 1_000_000 / 3600) (w / 1_000_000 / 60 % 60) (w / 1_000_000 % 60) (w % 1_000_000) (omega (arith, signed_arith, d.civil.0)) d.civil.1.1 last (omega arith) (omega arith) (omega arith) (omega arith)
