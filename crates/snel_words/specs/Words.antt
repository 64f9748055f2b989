-- Which lists of words are accepted, and what they ask.
use Rattle.std.specs.Prelude.{ℕ, Bool, true, false, ◌&&◌, not, ◌==◌, nat_le, if◌then◌else◌, List, [], ◌∷◌, take, length, codes, Option, Some, None}
use Rattle.std.specs.List.{list_all}
use Rattle.std.specs.Option.{option_map}
use Rattle.std.specs.Str.{bytes_eq}
use Rattle.std.specs.Fmt.{decimal}
use Rattle.std.specs.Str.Parse.{digits_value}
use Rattle.snel_words.specs.declared.ask.Settings.{Settings}
use Rattle.snel_words.specs.declared.fronts.Limits.{Limits}

-- the indexed field, the most weight of a block's rows, and whether fractions are dropped
pub record Packing : Type 0 where
  pub time : Option (List ℕ)
  pub block : ℕ
  pub drops : Bool

-- what a list of words asks
pub data Ask : Type 0 where
  nothing : Ask
  query : Settings → List ℕ → List (List ℕ) → Ask
  check : List (List ℕ) → Ask
  pack : Packing → List ℕ → Ask
  explain : List ℕ → Ask
  make : ℕ → ℕ → List ℕ → Ask

-- a query's text or a file's name isn't empty and doesn't begin with `--`
abbrev pub is_operand : List ℕ → Bool
is_operand word = not (length word == 0) && not (bytes_eq (take 2 word) (codes "--"))

-- the names of one to sixty-four files
abbrev pub are_files : List (List ℕ) → Bool
are_files names = nat_le 1 (length names) && nat_le (length names) 64 && list_all is_operand names

-- the word is the decimal form of its value, without a sign and without zeros in front, and the value lies within the limits
abbrev pub is_number_in : Limits → List ℕ → Bool
is_number_in limits word =
    bytes_eq word (decimal (digits_value 10 word)) && nat_le limits.least (digits_value 10 word) && nat_le (digits_value 10 word) limits.most

-- the number that a word writes, within its limits
unfoldable pub number_in : Limits → List ℕ → Option ℕ
number_in limits word = if is_number_in limits word then Some (digits_value 10 word) else None

-- The number behind an option's name, where that stands first, else what it is where none is given; and the words after it.
-- Nothing where what stands behind the name isn't such a number.
unfoldable pub setting : List ℕ → Limits → List (List ℕ) → Option (ℕ × List (List ℕ))
setting name limits (word ∷ value ∷ rest) =
    if bytes_eq word name then option_map (λ n. (n, rest)) (number_in limits value) else Some (limits.usual, word ∷ value ∷ rest)
setting name limits words = Some (limits.usual, words)

-- whether this word stands first, and the words after it
unfoldable pub flag : List ℕ → List (List ℕ) → Bool × List (List ℕ)
flag name (word ∷ rest) = if bytes_eq word name then (true, rest) else (false, word ∷ rest)
flag name [] = (false, [])

-- `SQL FILE ..`
unfoldable pub query_of : Settings → List (List ℕ) → Ask
query_of settings (sql ∷ names) = if is_operand sql && are_files names then query settings sql names else nothing
query_of settings [] = nothing

abbrev pub workers : Limits
workers = record { least = 1; most = 64; usual = 4 }

abbrev pub groups : Limits
groups = record { least = 1; most = 16777216; usual = 1048576 }

-- the settings that end with `--stats`, or without it, and what follows
abbrev pub after_groups : ℕ → Option (ℕ × List (List ℕ)) → Ask
after_groups n None = nothing
after_groups n (Some found) =
    query_of (record { workers = n; groups = found.0; stats = (flag (codes "--stats") found.1).0 }) (flag (codes "--stats") found.1).1

abbrev pub after_workers : Option (ℕ × List (List ℕ)) → Ask
after_workers None = nothing
after_workers (Some found) = after_groups found.0 (setting (codes "--groups") groups found.1)

-- `[--workers N] [--groups N] [--stats] SQL FILE ..`
unfoldable pub asked_query : List (List ℕ) → Ask
asked_query words = after_workers (setting (codes "--workers") workers words)

-- `FILE ..`
unfoldable pub check_of : List (List ℕ) → Ask
check_of names = if are_files names then check names else nothing

-- `SQL`
unfoldable pub explain_of : List (List ℕ) → Ask
explain_of (sql ∷ []) = if is_operand sql then explain sql else nothing
explain_of words = nothing

-- a field's name has 1 to 255 bytes
abbrev pub is_field : List ℕ → Bool
is_field word = nat_le 1 (length word) && nat_le (length word) 255

-- The field behind `--time`, where that stands first, else none; and the words after it.
-- Nothing where what stands behind `--time` is no field's name.
unfoldable pub time_field : List (List ℕ) → Option (Option (List ℕ) × List (List ℕ))
time_field (word ∷ value ∷ rest) =
    if bytes_eq word (codes "--time") then (if is_field value then Some (Some value, rest) else None) else Some (None, word ∷ value ∷ rest)
time_field words = Some (None, words)

abbrev pub block_weights : Limits
block_weights = record { least = 1024; most = 1000000; usual = 1000000 }

-- `OUT`
unfoldable pub pack_of : Packing → List (List ℕ) → Ask
pack_of packing (name ∷ []) = if is_operand name then pack packing name else nothing
pack_of packing words = nothing

-- the settings that end with `--drop-fractions`, or without it, and what follows
abbrev pub after_block : Option (List ℕ) → Option (ℕ × List (List ℕ)) → Ask
after_block time None = nothing
after_block time (Some found) =
    pack_of (record { time = time; block = found.0; drops = (flag (codes "--drop-fractions") found.1).0 }) (flag (codes "--drop-fractions") found.1).1

abbrev pub after_time : Option (Option (List ℕ) × List (List ℕ)) → Ask
after_time None = nothing
after_time (Some found) = after_block found.0 (setting (codes "--block") block_weights found.1)

-- `[--time FIELD] [--block B] [--drop-fractions] OUT`
unfoldable pub asked_pack : List (List ℕ) → Ask
asked_pack words = after_time (time_field words)

-- the number of 64 bits that a log starts from, and the count of its rows
abbrev pub starts : Limits
starts = record { least = 0; most = 18_446_744_073_709_551_615; usual = 0 }

abbrev pub row_counts : Limits
row_counts = record { least = 0; most = 1_000_000; usual = 0 }

abbrev pub make_with : Option ℕ → Option ℕ → List ℕ → Ask
make_with None rows name = nothing
make_with (Some start) None name = nothing
make_with (Some start) (Some rows) name = if is_operand name then make start rows name else nothing

-- `START ROWS OUT`
unfoldable pub make_of : List (List ℕ) → Ask
make_of (start ∷ rows ∷ name ∷ []) = make_with (number_in starts start) (number_in row_counts rows) name
make_of words = nothing

-- a command's name and its words
unfoldable pub asked : List (List ℕ) → Ask
asked (command ∷ words) =
    if bytes_eq command (codes "query") then asked_query words else
    if bytes_eq command (codes "check") then check_of words else
    if bytes_eq command (codes "explain") then explain_of words else
    if bytes_eq command (codes "pack") then asked_pack words else
    if bytes_eq command (codes "make") then make_of words else nothing
asked [] = nothing
