-- What one lane shows, and which value that is under a symbol table.
use Rattle.std.specs.Prelude.{◌≡◌, ℕ, ℤ, Bool, true, false, List, cond}
use Rattle.std.specs.Str.{IsUtf8}
use Rattle.value_meaning.specs.Val.{Val, missing, null, truth, int, time, text, list, struct}
use Rattle.time_meaning.specs.Moments.{IsTime}
use Rattle.block_meaning.specs.Tables.{Table}
use Rattle.block_meaning.specs.CellReading.{is_cell, cell_value}

-- a value without its parts: a text by its bytes, a list or a struct by the bytes of its cell
pub data Shown : Type 0 where
  Missing : Shown
  Null : Shown
  Truth : (b : Bool) → Shown
  Int : (n : ℤ) → Shown
  Time : (t : ℤ) → Shown
  Text : (bytes : List ℕ) → Shown
  Tree : (cell : List ℕ) → Shown

-- the value that it is under the table
abbrev pub value_under : Table → Shown → Val
value_under table Missing = missing
value_under table Null = null
value_under table (Truth b) = truth b
value_under table (Int n) = int n
value_under table (Time t) = time t
value_under table (Text bytes) = text bytes
value_under table (Tree cell) = cell_value table cell

-- a list or a struct
abbrev pub is_nested : Val → Bool
is_nested missing = false
is_nested null = false
is_nested (truth b) = false
is_nested (int n) = false
is_nested (time t) = false
is_nested (text bytes) = false
is_nested (list vs) = true
is_nested (struct fs) = true

-- the bytes are one cell under the table, of a list or a struct that isn't null
pub record IsTree (table : Table) (cell : List ℕ) : Type 0 where
  pub legal : is_cell table cell ≡ true
  pub nested : is_nested (cell_value table cell) ≡ true

-- A text is UTF-8, a time lies in range, and a list or a struct is a cell that is legal under the table.
abbrev pub IsLegal : Table → Shown → Type 0
IsLegal table Missing = Unit {0}
IsLegal table Null = Unit {0}
IsLegal table (Truth b) = Unit {0}
IsLegal table (Int n) = Unit {0}
IsLegal table (Time t) = IsTime t
IsLegal table (Text bytes) = IsUtf8 bytes
IsLegal table (Tree cell) = IsTree table cell

-- What seven tests, a number and a span show, where at most one test holds; where none does, MISSING.
abbrev pub show_as : (is_null is_true is_false is_int is_time is_text is_tree : Bool) → ℤ → List ℕ → Shown
show_as is_null is_true is_false is_int is_time is_text is_tree number span =
    cond is_null Null
    (cond is_true (Truth true)
    (cond is_false (Truth false)
    (cond is_int (Int number)
    (cond is_time (Time number)
    (cond is_text (Text span)
    (cond is_tree (Tree span) Missing))))))
