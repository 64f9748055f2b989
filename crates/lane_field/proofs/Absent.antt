-- A name that the table lacks is in no struct under it.
use Rattle.std.proofs.Common.{◌≡◌, ℕ, ◌<◌, Bool, true, false, cond, List, [], Option, Some, None, refl, sym, ap, subst}
use Rattle.std.specs.Prelude.{unwrap_or}
use Rattle.value_meaning.specs.Val.{Val, missing, null, truth, int, time, text, list, struct}
use Rattle.block_meaning.specs.Tables.{Table, text_of}
use Rattle.block_meaning.specs.Cells.{IsCell}
use Rattle.block_meaning.specs.CellReading.{cell_value}
use Rattle.block_meaning.proofs.NestedReading.{cells_read}
use Rattle.block_meaning.proofs.CellSteps.{is_cell_reads}
use Rattle.tree_meaning.specs.Tree.{name}
use Rattle.eval_meaning.specs.Paths.{step_of}
use Rattle.lane_base.specs.declared.lanes.Lanes.{Lanes}
use Rattle.lane_base.specs.Bits.{has}
use Rattle.lane_base.specs.Shown.{Shown, Missing, Null, Truth, Int, Time, Text, Tree, value_under, IsLegal}
use Rattle.lane_base.specs.Registers.{value_at, under, AreLegalIn}
use Rattle.lane_field.specs.Steps.{IsNumberOf}
use Rattle.ion_cells.proofs.Finding.{none_in}

pub numbered : (table : Table) (n : List ℕ) (s : Option ℕ) (k : ℕ) → s ≡ Some k → IsNumberOf table n s → text_of table k ≡ Some n
numbered table n s k e h = let P : Option ℕ → Type 0 = λ o. IsNumberOf table n o in subst P e h

pub lacks : (table : Table) (n : List ℕ) (s : Option ℕ) → s ≡ None → IsNumberOf table n s → (k : ℕ) → text_of table k ≡ Some n → ⊥
lacks table n s e h = let P : Option ℕ → Type 0 = λ o. IsNumberOf table n o in subst P e h

module _ (table : Table) (n : List ℕ) (absent : (k : ℕ) → text_of table k ≡ Some n → ⊥) where
  absent_in : (v : Val) (bytes : List ℕ) → IsCell table 0 v bytes → missing ≡ step_of (name n) v
  absent_in (struct fs) bytes c =
      let none = none_in table n 1 10 fs c.0 (λ k h e. absent k e) c.3 in
      sym (ap (λ o. unwrap_or o missing) none)
  absent_in missing bytes c = refl
  absent_in null bytes c = refl
  absent_in (truth b) bytes c = refl
  absent_in (int m) bytes c = refl
  absent_in (time t) bytes c = refl
  absent_in (text s) bytes c = refl
  absent_in (list vs) bytes c = refl

  absent_shown : (s : Shown) → IsLegal table s → missing ≡ step_of (name n) (value_under table s)
  absent_shown Missing h = refl
  absent_shown Null h = refl
  absent_shown (Truth b) h = refl
  absent_shown (Int m) h = refl
  absent_shown (Time t) h = refl
  absent_shown (Text s) h = refl
  absent_shown (Tree cell) h =
      let front = (cells_read table 0 (cell_value table cell) cell []).0 (is_cell_reads table cell h.legal) in
      absent_in (cell_value table cell) front.0 front.2

  pub absent_lane : (mask : ℕ) (lanes : Lanes) → AreLegalIn table mask lanes → (i : ℕ) → i < 16 → missing ≡ under (has mask i) (step_of (name n) (value_at table lanes i))
  absent_lane mask lanes h i k = go (has mask i) refl
    where
      go : (b : Bool) → has mask i ≡ b → missing ≡ cond b (step_of (name n) (value_at table lanes i)) missing
      go true e = absent_shown (Rattle.lane_base.specs.Registers.shown lanes i) (h.lane i k e)
      go false e = refl
