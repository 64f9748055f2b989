-- Timestamps: which payload of a cell denotes which time (Ion 1.0, "6: Timestamp", in the profile of docs/FORMAT.md).
use Rattle.std.specs.Prelude.{◌≡◌, ℕ, ◌*◌, ◌/◌, ◌^◌, ◌<◌, ◌≤◌, Bool, true, false, not, ◌&&◌, ◌||◌, nat_lt, nat_le, ℤ, pos, List, [], ◌∷◌, ◌++◌, length, Option, Some, None, if◌then◌else◌}
use Rattle.std.specs.Option.{option_map, option_and_then}
use Rattle.jiff_core.specs.Calendar.{IsDate}
use Rattle.time_meaning.specs.Moments.{moment, is_real}
use Rattle.block_meaning.specs.Numbers.{IsVarUInt, IsVarInt, var_uint, var_int, magnitude}

-- A number stands at the front, and what follows it is meant.
abbrev pub Leads : ℕ → (List ℕ → Type 0) → List ℕ → Type 0
Leads n Rest bytes = (front : List ℕ) × (rest : List ℕ) × (bytes ≡ front ++ rest) × IsVarUInt front n × Rest rest

-- the same, or nothing is left and the number is the least of its field
abbrev pub MayLead : ℕ → ℕ → (List ℕ → Type 0) → List ℕ → Type 0
MayLead least n Rest [] = (n ≡ least) × Rest []
MayLead least n Rest (b ∷ bs) = Leads n Rest (b ∷ bs)

-- the hour and the minute, or neither
abbrev pub ClockLeads : ℕ → ℕ → (List ℕ → Type 0) → List ℕ → Type 0
ClockLeads hour minute Rest [] = (hour ≡ 0) × (minute ≡ 0) × Rest []
ClockLeads hour minute Rest (b ∷ bs) = Leads hour (Leads minute Rest) (b ∷ bs)

-- a magnitude whose first bit, the sign, is clear
abbrev pub HasClearSign : List ℕ → Type 0
HasClearSign [] = Unit {0}
HasClearSign (b ∷ bs) = b < 128

-- an exponent of minus n: the sign is set, or n is 0
abbrev pub IsMinus : Bool → ℕ → Type 0
IsMinus false n = n ≡ 0
IsMinus true n = Unit {0}

-- A fraction of a second: an exponent of ten from -18 to 0, and a coefficient that makes it less than one second.
-- It is cut down to whole microseconds.
pub record IsFraction (bytes : List ℕ) (micros : ℕ) : Type 0 where
  pub sign_set : Bool
  pub places : ℕ
  pub exponent : List ℕ
  pub coefficient : List ℕ
  pub parts : bytes ≡ exponent ++ coefficient
  pub spells : IsVarInt exponent sign_set places
  pub minus : IsMinus sign_set places
  pub few : places ≤ 18
  pub short : length coefficient ≤ 8
  pub clear : HasClearSign coefficient
  pub proper : magnitude coefficient < 10 ^ places
  pub cut : micros ≡ magnitude coefficient * 1_000_000 / 10 ^ places

abbrev pub IsMicros : ℕ → List ℕ → Type 0
IsMicros micros [] = micros ≡ 0
IsMicros micros (b ∷ bs) = IsFraction (b ∷ bs) micros

-- The payload denotes the time: an offset, which is dropped, a year, and each further field only after the one before.
-- The fields are in UTC, and those that are absent stand at their least values.
pub record IsTimestamp (t : ℤ) (payload : List ℕ) : Type 0 where
  pub west : Bool
  pub minutes : ℕ
  pub offset : List ℕ
  pub fields : List ℕ
  pub year : ℕ
  pub month : ℕ
  pub day : ℕ
  pub hour : ℕ
  pub minute : ℕ
  pub second : ℕ
  pub micros : ℕ
  pub parts : payload ≡ offset ++ fields
  pub spells : IsVarInt offset west minutes
  pub within : minutes ≤ 1439
  pub stand : Leads year (MayLead 1 month (MayLead 1 day (ClockLeads hour minute (MayLead 0 second (IsMicros micros))))) fields
  pub past : 1 ≤ year
  pub date : IsDate (pos year) (pos month) (pos day)
  pub hours : hour ≤ 23
  pub minutes_in : minute ≤ 59
  pub seconds : second ≤ 59
  pub at : t ≡ moment year month day hour minute second micros

-- The same by reading from left to right.

-- the number at the front, or the least where nothing is left
unfoldable pub or_least : ℕ → List ℕ → Option (ℕ × List ℕ)
or_least least [] = Some (least, [])
or_least least (b ∷ bs) = var_uint (b ∷ bs)

-- the hour and the minute
unfoldable pub clock : List ℕ → Option (ℕ × ℕ × List ℕ)
clock [] = Some (0, 0, [])
clock (b ∷ bs) = option_and_then (λ h. option_map (λ m. (h.0, m.0, m.1)) (var_uint h.1)) (var_uint (b ∷ bs))

abbrev pub has_clear_sign : List ℕ → Bool
has_clear_sign [] = true
has_clear_sign (b ∷ bs) = nat_lt b 128

-- the microseconds of a coefficient after so many places
unfoldable pub cut : ℕ → List ℕ → Option ℕ
cut places bytes =
    if nat_lt 8 (length bytes) || not (has_clear_sign bytes) || nat_le (10 ^ places) (magnitude bytes) then None
    else Some (magnitude bytes * 1_000_000 / 10 ^ places)

unfoldable pub fraction : List ℕ → Option ℕ
fraction [] = Some 0
fraction (b ∷ bs) =
    option_and_then (λ e. if nat_lt 18 e.1 || (not e.0 && nat_lt 0 e.1) then None else cut e.1 e.2) (var_int (b ∷ bs))

unfoldable pub moment_of : ℕ → ℕ → ℕ → ℕ → ℕ → ℕ → ℕ → Option ℤ
moment_of year month day hour minute second micros =
    if is_real 1 year month day hour minute second then Some (moment year month day hour minute second micros) else None

unfoldable pub timestamp : List ℕ → Option ℤ
timestamp payload =
    option_and_then (λ o. if nat_lt 1439 o.1 then None else
    option_and_then (λ y. option_and_then (λ m. option_and_then (λ d. option_and_then (λ c. option_and_then (λ s.
    option_and_then (λ f. moment_of y.0 m.0 d.0 c.0 c.1 s.0 f) (fraction s.1))
    (or_least 0 c.2)) (clock d.1)) (or_least 1 m.1)) (or_least 1 y.1)) (var_uint o.2)) (var_int payload)
