-- A cast at one lane.
use Rattle.std.proofs.Common.{◌≡◌, ℕ, refl, ap, ◌∙◌, sym, subst, Bool, true, false, not, ◌&&◌}
use Rattle.value_meaning.specs.Val.{Val, missing, null}
use Rattle.eval_meaning.specs.Logic.{is_null}
use Rattle.eval_meaning.specs.Operands.{of_one}
use Rattle.block_meaning.specs.Tables.{Table}
use Rattle.lane_base.specs.Shown.{Shown, value_under, IsLegal}
use Rattle.lane_base.specs.declared.lanes.Lanes.{Lanes}
use Rattle.lane_base.specs.Bits.{has}
use Rattle.lane_base.specs.Registers.{under, truth_as, AreLegalIn}
use Rattle.lane_compare.proofs.StrictLanes.{strict_as}

-- what a look came to, as what its lane shows comes to
pub read_as : (f : Val → Val) (table : Table) (s t : Shown) (v : Val) → s ≡ t → IsLegal table t → (IsLegal table s → v ≡ f (value_under table s)) → v ≡ f (value_under table t)
read_as f table s t v e legal g = g (subst (IsLegal table) (sym e) legal) ∙ ap (λ u. f (value_under table u)) e

-- In a lane of the mask m that is NULL by n the result is NULL, and in another the value that was made there.
pub strict_one : (rule : Val → Val) (v : Val) (m n : Bool) (made : Val) → rule missing ≡ missing → (m ≡ true → n ≡ is_null v)
    → ((m && not n) ≡ true → made ≡ rule v) → strict_as (m && n) (m && not n) made ≡ under m (of_one rule v)
strict_one rule v false n made r e g = refl
strict_one rule missing true true made r e g = let h = e refl in cc
strict_one rule missing true false made r e g = g refl ∙ r
strict_one rule null true true made r e g = refl
strict_one rule null true false made r e g = let h = e refl in cc
strict_one rule v true true made r e g = let h = e refl in cc
strict_one rule v true false made r e g = g refl

-- as masks of truth values show it
pub truth_as-made : (n both yeses noes : Bool) → truth_as n (both && yeses) ((both && noes) && not (both && yeses)) ≡ strict_as n both (truth_as false yeses noes)
truth_as-made true both yeses noes = refl
truth_as-made false true true noes = refl
truth_as-made false true false true = refl
truth_as-made false true false false = refl
truth_as-made false false yeses noes = refl

-- lanes that are legal in a mask are legal in a part of it
first_holds : (m n : Bool) → (m && n) ≡ true → m ≡ true
first_holds true n h = refl
first_holds false n h = h

pub legal_rest : (table : Table) (m n rest : ℕ) (a : Lanes) → ((i : ℕ) → has rest i ≡ (has m i && not (has n i))) → AreLegalIn table m a → AreLegalIn table rest a
legal_rest table m n rest a parts p = record { lane = λ i low on. p.lane i low (first_holds (has m i) (not (has n i)) (sym (parts i) ∙ on)) }
