-- Which masks a lane is in, and what its number and its span are, by the value that it shows.
use Rattle.std.proofs.Common.{◌≡◌, ℕ, ℤ, List, Bool, true, false}
use Rattle.value_meaning.specs.Val.{Val, Vals, Fields, missing, null, truth, int, time, text, list, struct}
use Rattle.block_meaning.specs.Tables.{Table}
use Rattle.block_meaning.specs.CellReading.{cell_value}
use Rattle.lane_base.specs.declared.lanes.Lanes.{Lanes}
use Rattle.lane_base.specs.Bits.{has, at_most_one}
use Rattle.lane_base.specs.Shown.{show_as, value_under, is_nested, IsLegal}
use Rattle.lane_base.specs.Registers.{shown, value_at, number_at, span_at}

-- The value, and whether its lane is NULL, true, false, a number, a time, a text, or a list or a struct; with the
-- lane's number and span.
pub data Reads : (v : Val) (is_null is_true is_false is_int is_time is_text is_tree : Bool) (number : ℤ) (span : List ℕ) → Type 0 where
  gone : {z : ℤ} {s : List ℕ} → Reads missing false false false false false false false z s
  unknown : {z : ℤ} {s : List ℕ} → Reads null true false false false false false false z s
  holds : {z : ℤ} {s : List ℕ} → Reads (truth true) false true false false false false false z s
  fails : {z : ℤ} {s : List ℕ} → Reads (truth false) false false true false false false false z s
  number : {z : ℤ} {s : List ℕ} → Reads (int z) false false false true false false false z s
  moment : {z : ℤ} {s : List ℕ} → Reads (time z) false false false false true false false z s
  string : {z : ℤ} {s : List ℕ} → Reads (text s) false false false false false true false z s
  items : (vs : Vals) {z : ℤ} {s : List ℕ} → Reads (list vs) false false false false false false true z s
  fields : (fs : Fields) {z : ℤ} {s : List ℕ} → Reads (struct fs) false false false false false false true z s

nested_reads : (v : Val) (z : ℤ) (s : List ℕ) → is_nested v ≡ true → Reads v false false false false false false true z s
nested_reads (list vs) z s h = items vs
nested_reads (struct fs) z s h = fields fs
nested_reads v z s h = cc

reads_as : (table : Table) (n y f i t x r : Bool) (z : ℤ) (s : List ℕ) → at_most_one n y f i t x r ≡ true
    → IsLegal table (show_as n y f i t x r z s) → Reads (value_under table (show_as n y f i t x r z s)) n y f i t x r z s
reads_as table true false false false false false false z s d h = unknown
reads_as table false true false false false false false z s d h = holds
reads_as table false false true false false false false z s d h = fails
reads_as table false false false true false false false z s d h = number
reads_as table false false false false true false false z s d h = moment
reads_as table false false false false false true false z s d h = string
reads_as table false false false false false false true z s d h = nested_reads (cell_value table s) z s h.nested
reads_as table false false false false false false false z s d h = gone
reads_as table n y f i t x r z s d h = cc

pub reads : (table : Table) (l : Lanes) (i : ℕ) → IsLegal table (shown l i)
    → Reads (value_at table l i) (has l.null.0 i) (has l.yes.0 i) (has l.no.0 i) (has l.int.0 i) (has l.time.0 i) (has l.text.0 i) (has l.tree.0 i) (number_at l.nums.lanes i) (span_at l.spans.lanes i)
reads table l i = reads_as table (has l.null.0 i) (has l.yes.0 i) (has l.no.0 i) (has l.int.0 i) (has l.time.0 i) (has l.text.0 i) (has l.tree.0 i) (number_at l.nums.lanes i) (span_at l.spans.lanes i) (l.disjoint i)
