-- What each lane shows.
use Rattle.std.specs.Prelude.{◌≡◌, ◌<◌, ℕ, ℤ, pos, Bool, true, false, List, [], cond, slice_index_or}
use Rattle.std.specs.Borrow.{Bor}
use Rattle.value_meaning.specs.Val.{Val, missing, null, truth}
use Rattle.block_meaning.specs.Tables.{Table}
use Rattle.lane_base.specs.declared.lanes.Lanes.{Lanes}
use Rattle.lane_base.specs.declared.lanes.Look.{Look}
use Rattle.lane_base.specs.declared.lanes.Look.TheVariants as look
use Rattle.lane_base.specs.Bits.{has}
use Rattle.lane_base.specs.Shown.{Shown, show_as, value_under, IsLegal}
use Rattle.lane_base.specs.Shown as to

-- no bytes
abbrev pub no_span : Bor (List ℕ)
no_span = record { ref_ptr = (0, 0); now = [] }

-- the number of a lane
abbrev pub number_at : List ℤ → ℕ → ℤ
number_at numbers i = slice_index_or numbers i (pos 0)

-- the bytes of a lane's span
abbrev pub span_at : List (Bor (List ℕ)) → ℕ → List ℕ
span_at spans i = (slice_index_or spans i no_span).now

-- what a lane shows
abbrev pub shown : Lanes → ℕ → Shown
shown lanes i =
    show_as (has lanes.null.0 i) (has lanes.yes.0 i) (has lanes.no.0 i) (has lanes.int.0 i) (has lanes.time.0 i) (has lanes.text.0 i)
    (has lanes.tree.0 i) (number_at lanes.nums.lanes i) (span_at lanes.spans.lanes i)

-- what a look shows
abbrev pub seen : Look → Shown
seen look.Missing = to.Missing
seen look.Null = to.Null
seen (look.Bool b) = to.Truth b
seen (look.Int n) = to.Int n
seen (look.Time t) = to.Time t
seen (look.Text bytes) = to.Text bytes.now
seen (look.Tree cell) = to.Tree cell.now

-- the value that a lane shows under a table
abbrev pub value_at : Table → Lanes → ℕ → Val
value_at table lanes i = value_under table (shown lanes i)

-- a value in the lanes of a mask, and MISSING outside
abbrev pub under : Bool → Val → Val
under within v = cond within v missing

-- What every lane shows is legal under the table.
pub record AreLegal (table : Table) (lanes : Lanes) : Type 0 where
  pub lane : (i : ℕ) → i < 16 → IsLegal table (shown lanes i)

-- What each lane of the mask shows is legal under the table.
pub record AreLegalIn (table : Table) (mask : ℕ) (lanes : Lanes) : Type 0 where
  pub lane : (i : ℕ) → i < 16 → has mask i ≡ true → IsLegal table (shown lanes i)

-- what three tests show: NULL, true or false; where none holds, MISSING
abbrev pub truth_as : (is_null is_true is_false : Bool) → Val
truth_as is_null is_true is_false = cond is_null null (cond is_true (truth true) (cond is_false (truth false) missing))

-- what two tests show: NULL, or a value; where none holds, MISSING
abbrev pub one_as : (is_null is_one : Bool) → Val → Val
one_as is_null is_one v = cond is_null null (cond is_one v missing)
