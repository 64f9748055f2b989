-- How a value is written: one form for each value under a table.
use Rattle.std.specs.Prelude.{ℕ, zero, suc, ◌+◌, ◌*◌, ◌/◌, ◌%◌, ◌^◌, ◌==◌, nat_le, nat_lt, Bool, true, false, ℤ, pos, negsuc, List, [], ◌∷◌, ◌++◌, length, bytes_eq, Option, Some, None, if◌then◌else◌}
use Rattle.time_meaning.specs.Moments.{is_time}
use Rattle.time_meaning.specs.Dates.{year_of, month_of, day_of}
use Rattle.time_meaning.specs.Printed.{day_at, micros_at}
use Rattle.value_meaning.specs.Val.{Val, Vals, Fields, missing, null, truth, int, time, text, list, struct, no_vals, val, no_fields, field}
use Rattle.block_meaning.specs.Tables.{Table}

-- the digits of a number, at most so many, the most significant first, none in front that is 0
unfoldable pub digits : ℕ → ℕ → ℕ → List ℕ
digits base zero n = []
digits base (suc room) n = if n == 0 then [] else digits base room (n / base) ++ (n % base) ∷ []

-- a VarUInt of the fewest bytes, for a number below 2^28
unfoldable pub var_uint_bytes : ℕ → List ℕ
var_uint_bytes n = digits 128 3 (n / 128) ++ (n % 128 + 128) ∷ []

-- type and length: in the low nibble up to 13, else behind it
unfoldable pub head_bytes : ℕ → ℕ → List ℕ
head_bytes t n = if nat_le n 13 then (16 * t + n) ∷ [] else (16 * t + 14) ∷ var_uint_bytes n

unfoldable pub cell_bytes : ℕ → List ℕ → List ℕ
cell_bytes t payload = head_bytes t (length payload) ++ payload

-- the number of a text
abbrev pub number_from : ℕ → Table → List ℕ → Option ℕ
number_from first [] s = None
number_from first (t ∷ ts) s = if bytes_eq t s then Some first else number_from (suc first) ts s

unfoldable pub number_of : Table → List ℕ → Option ℕ
number_of table s = number_from 10 table s

abbrev pub text_bytes : Option ℕ → List ℕ → List ℕ
text_bytes None s = cell_bytes 8 s
text_bytes (Some number) s = cell_bytes 7 (digits 256 4 number)

abbrev pub label_bytes : Option ℕ → List ℕ
label_bytes None = []
label_bytes (Some number) = var_uint_bytes number

-- a coefficient whose first bit is clear
abbrev pub with_clear_sign : List ℕ → List ℕ
with_clear_sign [] = []
with_clear_sign (b ∷ bs) = if nat_le 128 b then 0 ∷ b ∷ bs else b ∷ bs

-- an exponent of -6 and the microseconds, where there are any
unfoldable pub micros_bytes : ℕ → List ℕ
micros_bytes micros = if micros == 0 then [] else 198 ∷ with_clear_sign (digits 256 3 micros)

-- the offset 0, all fields down to the second
unfoldable pub moment_bytes : ℕ → ℕ → ℕ → ℕ → ℕ → ℕ → ℕ → List ℕ
moment_bytes year month day hour minute second micros =
    128 ∷ (var_uint_bytes year ++ (var_uint_bytes month ++ (var_uint_bytes day ++ (var_uint_bytes hour ++ (var_uint_bytes minute
    ++ (var_uint_bytes second ++ micros_bytes micros))))))

unfoldable pub time_bytes : ℤ → List ℕ
time_bytes t =
    let day = day_at t in
    let within = micros_at t in
    moment_bytes (year_of day) (month_of day) (day_of day) (within / 1_000_000 / 3600) (within / 1_000_000 / 60 % 60) (within / 1_000_000 % 60)
    (within % 1_000_000)

-- the bytes, where the value is in range
abbrev pub in_range : Bool → List ℕ → List ℕ
in_range true bytes = bytes
in_range false bytes = []

-- the cell of a number
abbrev pub int_bytes : ℤ → List ℕ
int_bytes (pos n) = in_range (nat_lt n (2 ^ 63)) (cell_bytes 2 (digits 256 8 n))
int_bytes (negsuc n) = in_range (nat_lt n (2 ^ 63)) (cell_bytes 3 (digits 256 8 (suc n)))

-- the cell of a time
unfoldable pub time_cell : ℤ → List ℕ
time_cell t = in_range (is_time t) (cell_bytes 6 (time_bytes t))

-- The cell of a value. MISSING has none, nor has a number or a time out of range.
abbrev mutual
  pub encode : Table → Val → List ℕ
  encode table missing = []
  encode table null = 15 ∷ []
  encode table (truth b) = (if b then 17 else 16) ∷ []
  encode table (int n) = int_bytes n
  encode table (time t) = time_cell t
  encode table (text s) = text_bytes (number_of table s) s
  encode table (list vs) = cell_bytes 11 (encode_items table vs)
  encode table (struct fs) = cell_bytes 13 (encode_pairs table fs)

  pub encode_items : Table → Vals → List ℕ
  encode_items table no_vals = []
  encode_items table (val v vs) = encode table v ++ encode_items table vs

  pub encode_pairs : Table → Fields → List ℕ
  encode_pairs table no_fields = []
  encode_pairs table (field name v fs) = label_bytes (number_of table name) ++ (encode table v ++ encode_pairs table fs)
