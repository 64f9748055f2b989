-- One block: whether it is good, and what scanning it adds.
use Rattle.std.proofs.Common.{◌≡◌, ℕ, Bool, true, false, cond, List, length, Option, Some, None, refl, sym, ap, ◌∙◌, subst}
use Rattle.std.specs.Option.{option_and_then}
use Rattle.value_meaning.specs.Val.{Val}
use Rattle.block_meaning.specs.Blocks.{IsDamaged}
use Rattle.block_lines.specs.GoodBlocks.{IsGoodBlock, HasGoodRows, BreaksRange, SaysOfBlock, StaysIfBad}
use Rattle.block_lines.specs.declared.fault.ScanFault.{ScanFault}
use Rattle.block_lines.specs.declared.fault.ScanFault.TheVariants.{Damaged, OutOfRange}
use Rattle.std.specs.Prelude.{◌+◌, ◌/◌}
use Rattle.snel_device.specs.Causes.{raised}
use Rattle.file_meaning.specs.Files.{Entry}
use Rattle.program_meaning.specs.Jobs.{Job}
use Rattle.block_lines.specs.RowLines.{kept_rows}
use Rattle.worker_merge.specs.Hands.{AddsOf, IsTested}
use Rattle.scan_meaning.specs.Blocks.{Block, stored_rows, is_sound, good_rows}
use Rattle.scan_meaning.proofs.Exact.{rows_exact, damaged_exact, ranges_exact}

module _ (b : Block) where
  tested : (rows : List Val) (t : Bool) → stored_rows b ≡ Some rows → is_sound b.field b.place.entry rows ≡ t → good_rows b ≡ cond t (Some rows) None
  unfolding good_rows
  tested rows t stored sound = ap (λ (o : Option (List Val)). option_and_then (λ r. cond (is_sound b.field b.place.entry r) (Some r) None) o) stored ∙ ap (λ (s : Bool). cond s (Some rows) None) sound

  -- a good block's rows are the rows of its bytes
  pub is_good : (rows : List Val) → IsGoodBlock b.field b.place.entry b.bytes rows → good_rows b ≡ Some rows
  is_good rows g = tested rows true ((rows_exact b rows).1 (g.table, g.block, g.count)) ((ranges_exact b.field b.place.entry rows).1 g.sound)

  pub is_damaged : IsDamaged b.place.entry.rows b.bytes → good_rows b ≡ None
  unfolding good_rows
  is_damaged damaged = ap (λ (o : Option (List Val)). option_and_then (λ r. cond (is_sound b.field b.place.entry r) (Some r) None) o) ((damaged_exact b).1 damaged)

  pub is_out : BreaksRange b.field b.place.entry b.bytes → good_rows b ≡ None
  is_out h = tested h.rows false ((rows_exact b h.rows).1 (h.table, h.block, h.count)) (on (is_sound b.field b.place.entry h.rows) refl)
    where
      on : (t : Bool) → is_sound b.field b.place.entry h.rows ≡ t → t ≡ false
      on true is = absurd (h.unsound ((ranges_exact b.field b.place.entry h.rows).0 is))
      on false is = refl

-- what a scan of the block says
module _ (b : Block) (field bytes : List ℕ) (entry : Entry) (f : field ≡ b.field) (e : entry ≡ b.place.entry) (y : bytes ≡ b.bytes) where
  same_good : (rows : List Val) → IsGoodBlock field entry bytes rows → IsGoodBlock b.field b.place.entry b.bytes rows
  same_good rows g =
      subst (λ (l : List ℕ). IsGoodBlock b.field b.place.entry l rows) y
      (subst (λ (x : Entry). IsGoodBlock b.field x bytes rows) e (subst (λ (l : List ℕ). IsGoodBlock l entry bytes rows) f g))

  pub tested_good : HasGoodRows field entry bytes → IsTested (good_rows b) true
  tested_good h = subst (λ (o : Option (List Val)). IsTested o true) (sym (is_good b h.0 (same_good h.0 h.1))) tt

  pub added_good : {A : Type 0} (grew : A → A → Job → List Val → Type 0) (job : Job) (old new : A) (c d k l : ℕ) → HasGoodRows field entry bytes
      → ((rows : List Val) → IsGoodBlock field entry bytes rows → grew old new job (kept_rows job rows))
      → ((rows : List Val) → IsGoodBlock field entry bytes rows → d ≡ raised c ((length rows + 15) / 16))
      → ((rows : List Val) → IsGoodBlock field entry bytes rows → l ≡ raised k (length (kept_rows job rows)))
      → AddsOf grew job b.place.entry.rows (good_rows b) true old new c d k l
  added_good grew job old new c d k l h grown chunks kept =
      let count : length h.0 ≡ b.place.entry.rows = h.1.count ∙ ap (λ (x : Entry). x.rows) e in
      subst (λ (o : Option (List Val)). AddsOf grew job b.place.entry.rows o true old new c d k l) (sym (is_good b h.0 (same_good h.0 h.1)))
      record {
        grew_by = grown h.0 h.1;
        chunks_are = chunks h.0 h.1 ∙ ap (λ (n : ℕ). raised c ((n + 15) / 16)) count;
        kept_are = kept h.0 h.1;
      }

  pub none_damaged : IsDamaged entry.rows bytes → good_rows b ≡ None
  none_damaged h = is_damaged b (subst (λ (l : List ℕ). IsDamaged b.place.entry.rows l) y (subst (λ (x : Entry). IsDamaged x.rows bytes) e h))

  pub none_out : BreaksRange field entry bytes → good_rows b ≡ None
  none_out h = is_out b
      (subst (λ (l : List ℕ). BreaksRange b.field b.place.entry l) y
      (subst (λ (x : Entry). BreaksRange b.field x bytes) e (subst (λ (l : List ℕ). BreaksRange l entry bytes) f h)))

  pub said_damaged : (fault : ScanFault) → fault ≡ Damaged → SaysOfBlock field entry bytes fault → good_rows b ≡ None
  said_damaged fault is h = none_damaged (subst (λ (x : ScanFault). SaysOfBlock field entry bytes x) is h)

  pub said_out : (fault : ScanFault) → fault ≡ OutOfRange → SaysOfBlock field entry bytes fault → good_rows b ≡ None
  said_out fault is h = none_out (subst (λ (x : ScanFault). SaysOfBlock field entry bytes x) is h)

-- a bad block adds nothing
pub tested_bad : (o : Option (List Val)) → o ≡ None → IsTested o false
tested_bad o is = subst (λ (x : Option (List Val)). IsTested x false) (sym is) tt

pub added_bad : {A : Type 0} (grew : A → A → Job → List Val → Type 0) (job : Job) (n : ℕ) (o : Option (List Val)) (old new : A) (c d k l : ℕ) → o ≡ None → new ≡ old → AddsOf grew job n o false old new c d k l
added_bad grew job n o old new c d k l is same = subst (λ (x : Option (List Val)). AddsOf grew job n x false old new c d k l) (sym is) same

pub stays_damaged : {A : Type 0} (fault : ScanFault) (old new : A) → fault ≡ Damaged → StaysIfBad fault old new → new ≡ old
stays_damaged fault old new is h = subst (λ (x : ScanFault). StaysIfBad x old new) is h

pub stays_out : {A : Type 0} (fault : ScanFault) (old new : A) → fault ≡ OutOfRange → StaysIfBad fault old new → new ≡ old
stays_out fault old new is h = subst (λ (x : ScanFault). StaysIfBad x old new) is h
