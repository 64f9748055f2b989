-- The text of a time from what a calendar and a clock show.
use Rattle.std.proofs.Common.{◌≡◌, ℕ, ◌/◌, ◌%◌, ℤ, List, [], ◌∷◌, ◌++◌, eqb, false, refl, append_assoc}
use Rattle.time_meaning.specs.Dates.{year_of, month_of, day_of}
use Rattle.time_meaning.specs.Printed.{to_second, after_second, six, day_at, micros_at, time_text}

-- what a calendar and a clock show at the time
pub record Shows (t : ℤ) (year month day second micros : ℕ) : Type 0 where
  pub year_is : year ≡ year_of (day_at t)
  pub month_is : month ≡ month_of (day_at t)
  pub day_is : day ≡ day_of (day_at t)
  pub second_is : second ≡ micros_at t / 1_000_000
  pub micros_is : micros ≡ micros_at t % 1_000_000

pub text_is : (t : ℤ) (year month day second micros : ℕ) → Shows t year month day second micros
    → time_text t ≡ to_second year month day (second / 3600) (second / 60 % 60) (second % 60) ++ after_second micros
unfolding time_text
text_is t year month day second micros h = rw (h.year_is, h.month_is, h.day_is, h.second_is, h.micros_is) refl

-- the text of a time with no microseconds left
pub whole : (t : ℤ) (old : List ℕ) (year month day second micros : ℕ) → Shows t year month day second micros → micros ≡ 0
    → (old ++ to_second year month day (second / 3600) (second / 60 % 60) (second % 60)) ++ 90 ∷ [] ≡ old ++ time_text t
whole t old year month day second micros h e =
    let none : after_second micros ≡ 90 ∷ [] = rw e refl in
    rw (text_is t year month day second micros h, none) (append_assoc old _ (90 ∷ []))

-- the text of a time with microseconds left
pub with_fraction : (t : ℤ) (old : List ℕ) (year month day second micros : ℕ) → Shows t year month day second micros → eqb micros 0 ≡ false
    → (old ++ to_second year month day (second / 3600) (second / 60 % 60) (second % 60)) ++ 46 ∷ (six micros ++ 90 ∷ []) ≡ old ++ time_text t
with_fraction t old year month day second micros h e =
    let some : after_second micros ≡ 46 ∷ (six micros ++ 90 ∷ []) = rw e refl in
    rw (text_is t year month day second micros h, some) (append_assoc old _ (46 ∷ (six micros ++ 90 ∷ [])))
