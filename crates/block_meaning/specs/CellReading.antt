-- Cells by reading from left to right: the value at the front, and what follows it.
use Rattle.std.specs.Prelude.{ℕ, zero, suc, ◌-◌, ◌/◌, ◌%◌, ◌^◌, pos, negsuc, Bool, true, false, ◌||◌, List, [], ◌∷◌, length, take, drop, replicate, Option, Some, None, nat_lt, ◌==◌, if◌then◌else◌}
use Rattle.std.specs.Option.{option_map, option_and_then}
use Rattle.std.specs.Str.{is_utf8}
use Rattle.value_meaning.specs.Val.{Val, Vals, Fields, missing, null, truth, int, time, text, list, struct, no_vals, val, no_fields, field}
use Rattle.block_meaning.specs.declared.TheConstants.{MOST_DEPTH}
use Rattle.block_meaning.specs.Numbers.{var_uint, magnitude}
use Rattle.block_meaning.specs.Timestamps.{timestamp}
use Rattle.block_meaning.specs.Tables.{Table, text_of}

-- what a reader of a front answers
abbrev pub Reader : Type 0
Reader = List ℕ → Option (Val × List ℕ)

-- type, length and what follows, where a VarUInt length of at least so much stands at the front and so much follows
unfoldable pub counted : ℕ → ℕ → List ℕ → Option (ℕ × ℕ × List ℕ)
counted t least bytes =
    option_and_then (λ v. if nat_lt v.0 least || nat_lt (length v.1) v.0 then None else Some (t, v.0, v.1)) (var_uint bytes)

-- type, length, and what follows, which is long enough
unfoldable pub head_at : List ℕ → Option (ℕ × ℕ × List ℕ)
head_at [] = None
head_at (h ∷ rest) =
    if h == 209 then counted 13 1 rest
    else (if nat_lt (h % 16) 14 then (if nat_lt (length rest) (h % 16) then None else Some (h / 16, h % 16, rest))
    else (if h % 16 == 14 then counted (h / 16) 0 rest else None))

-- a cell of one byte
abbrev pub is_null_byte : ℕ → Bool
is_null_byte h =
    (h == 15) || (h == 31) || (h == 47) || (h == 63) || (h == 111) || (h == 127) || (h == 143) || (h == 191) || (h == 223)

unfoldable pub one_byte : ℕ → Option Val
one_byte h = if is_null_byte h then Some null else (if h == 16 then Some (truth false) else (if h == 17 then Some (truth true) else None))

abbrev pub whole : List ℕ → Option Val
whole payload =
    if nat_lt 8 (length payload) then None else (if nat_lt (magnitude payload) (2 ^ 63) then Some (int (pos (magnitude payload))) else None)

abbrev pub below_zero : ℕ → Option Val
below_zero zero = None
below_zero (suc n) = if nat_lt n (2 ^ 63) then Some (int (negsuc n)) else None

abbrev pub negative : List ℕ → Option Val
negative payload = if nat_lt 8 (length payload) then None else below_zero (magnitude payload)

abbrev pub symbol : Table → List ℕ → Option Val
symbol table payload = if nat_lt 4 (length payload) then None else option_map text (text_of table (magnitude payload))

-- a payload of a type that holds no cells
unfoldable pub scalar : Table → ℕ → List ℕ → Option Val
scalar table t payload =
    if t == 2 then whole payload
    else (if t == 3 then negative payload
    else (if t == 6 then option_map time (timestamp payload)
    else (if t == 7 then symbol table payload
    else (if t == 8 then (if is_utf8 payload then Some (text payload) else None) else None))))

-- all of the bytes, as cells
abbrev pub cells_by : Reader → ℕ → List ℕ → Option Vals
cells_by f fuel [] = Some no_vals
cells_by f zero (b ∷ bs) = None
cells_by f (suc fuel) (b ∷ bs) = option_and_then (λ x. option_map (val x.0) (cells_by f fuel x.1)) (f (b ∷ bs))

-- all of the bytes, as pairs whose labels rise from low on
abbrev pub pairs_by : Reader → Table → ℕ → ℕ → List ℕ → Option Fields
pairs_by f table low fuel [] = Some no_fields
pairs_by f table low zero (b ∷ bs) = None
pairs_by f table low (suc fuel) (b ∷ bs) =
    option_and_then (λ l. if nat_lt l.0 low then None
    else option_and_then (λ name. option_and_then (λ x. option_map (field name x.0) (pairs_by f table (suc l.0) fuel x.1)) (f l.1)) (text_of table l.0))
    (var_uint (b ∷ bs))

-- a payload of any type, with the cells within by f
unfoldable pub node : Reader → Table → ℕ → List ℕ → Option Val
node f table t payload =
    if t == 11 then option_map list (cells_by f (length payload) payload)
    else (if t == 13 then option_map struct (pairs_by f table 10 (length payload) payload) else scalar table t payload)

-- a cell at the front whose payload is read by p
abbrev pub with_payload : (ℕ → List ℕ → Option Val) → List ℕ → Option (Val × List ℕ)
with_payload p bytes = option_and_then (λ x. option_map (λ v. (v, drop x.1 x.2)) (p x.0 (take x.1 x.2))) (head_at bytes)

abbrev pub or_byte : Option Val → List ℕ → Option (Val × List ℕ) → Option (Val × List ℕ)
or_byte None rest other = other
or_byte (Some v) rest other = Some (v, rest)

-- a cell at the front whose payload, if it isn't one byte alone, is read by p
unfoldable pub cell_by : (ℕ → List ℕ → Option Val) → Reader
cell_by p [] = None
cell_by p (h ∷ rest) = or_byte (one_byte h) rest (with_payload p (h ∷ rest))

-- a cell at the front that holds no cells
unfoldable pub flat_cell : Table → Reader
flat_cell table bytes = cell_by (scalar table) bytes

-- a cell at the front in which lists and structs may stand within one another so many deep
unfoldable pub cell_to : Table → ℕ → Reader
cell_to table zero bytes = flat_cell table bytes
cell_to table (suc room) bytes = cell_by (node (cell_to table room) table) bytes

-- the bytes are one cell and nothing else
abbrev pub ends_there : Option (Val × List ℕ) → Bool
ends_there None = false
ends_there (Some x) = length x.1 == 0

-- the value of the cell at the front, else MISSING
abbrev pub value_read : Option (Val × List ℕ) → Val
value_read None = missing
value_read (Some x) = x.0

-- The bytes are one cell under the table. It stands in no list or struct.
unfoldable pub is_cell : Table → List ℕ → Bool
is_cell table bytes = ends_there (cell_to table MOST_DEPTH bytes)

-- what the cell denotes under the table
unfoldable pub cell_value : Table → List ℕ → Val
cell_value table bytes = value_read (cell_to table MOST_DEPTH bytes)

-- A table with this last number, all of whose texts are empty. Which bytes are a cell depends on a table's last number alone.
abbrev pub blank_table : ℕ → Table
blank_table last = replicate (last - 9) []
