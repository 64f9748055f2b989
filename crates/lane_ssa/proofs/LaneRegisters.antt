-- Registers of a frame, in one lane.
use Rattle.std.proofs.Common.{◌≡◌, ℕ, zero, suc, ◌+◌, ◌<◌, ◌≤◌, arith, refl, ap, sym, ◌∙◌, true, false, cond, not, List, [], ◌∷◌, ◌++◌, length, map, take, slice_index_or, Option}
use Rattle.std.proofs.lemmas.List.{length-map, get_or-map, length-take-le, take_all}
use Rattle.std.proofs.lemmas.List.Sums.{fold-append, count_by_more_yes, sum_by-take-le}
use Rattle.block_meaning.specs.Tables.{Table}
use Rattle.lane_base.specs.declared.mask.LaneMask.{LaneMask}
use Rattle.lane_base.specs.declared.lanes.Lanes.{Lanes}
use Rattle.lane_base.specs.Bits.{has}
use Rattle.lane_base.specs.Registers as registers
use Rattle.program_meaning.specs.Instructions.{Instr, makes_mask}
use Rattle.program_meaning.specs.Instructions as instr
use Rattle.program_meaning.specs.Programs.{makes_value, mask_count, value_count, IsInstruction, IsProgram}
use Rattle.program_meaning.specs.Registers.{Lane, State, step, empty, after}
use Rattle.program_meaning.proofs.Programs.{length-masks, length-values, names_at}
use Rattle.lane_ssa.specs.declared.instr.Instr.{Instr as InstrCode}
use Rattle.lane_text.specs.PatternValue.{PatternValue}
use Rattle.lane_ssa.specs.Compiled.{pattern_of, patterns_of}
use Rattle.lane_ssa.specs.Frames.{registers_at}
use Rattle.lane_ssa.specs.Views.{instr_view}

-- so many registers, as after a program
module _ (table : Table) (ms : List LaneMask) (vs : List Lanes) (i : ℕ) where
  pub masks_long : (l : Lane) (xs : List Instr) → registers_at table ms vs i ≡ after l xs → length ms ≡ mask_count xs
  masks_long l xs e = sym (length-map ms (λ (m : LaneMask). has m.0 i)) ∙ ap (λ (s : State). length s.masks) e ∙ length-masks l xs

  pub values_long : (l : Lane) (xs : List Instr) → registers_at table ms vs i ≡ after l xs → length vs ≡ value_count xs
  values_long l xs e = sym (length-map vs (λ l. registers.value_at table l i)) ∙ ap (λ (s : State). length s.values) e ∙ length-values l xs

-- an instruction stands for that at its place
pub viewed_at : (xs : List InstrCode) (k : ℕ) (x : InstrCode) → x ≡ slice_index_or xs k x → k < length xs → slice_index_or (map instr_view xs) k instr.all ≡ instr_view x
viewed_at xs k x e h = get_or-map instr_view xs k x instr.all h ∙ ap instr_view (sym e)

-- its pattern stands there too
pub pattern_at : (xs : List InstrCode) (ps : List (Option PatternValue)) (k : ℕ) (x : InstrCode) (p : Option PatternValue) → ps ≡ patterns_of (map instr_view xs) → x ≡ slice_index_or xs k x → p ≡ slice_index_or ps k p → k < length xs → p ≡ pattern_of (instr_view x)
pattern_at xs ps k x p compiled e is h =
    let within : k < length (map instr_view xs) = omega (arith, length-map xs instr_view) in
    is ∙ ap (λ ys. slice_index_or ys k p) compiled ∙ get_or-map pattern_of (map instr_view xs) k instr.all p within
    ∙ ap pattern_of (viewed_at xs k x e h)

-- what holds before one instruction of a program, where m masks and v values are made
pub record IsNext (ms : List LaneMask) (vs : List Lanes) (m v : ℕ) (x : Instr) : Type 0 where
  pub names : IsInstruction m v x
  pub mask_room : makes_mask x ≡ true → m < length ms
  pub value_room : makes_mask x ≡ false → v < length vs

module _ (table : Table) (ms : List LaneMask) (vs : List Lanes) (m v : ℕ) (program : List Instr) (hm : m ≤ length ms) (hv : v ≤ length vs) (lm : length ms ≡ mask_count program) (lv : length vs ≡ value_count program) where
  made_masks : (i : ℕ) (l : Lane) (xs : List Instr) → registers_at table (take m ms) (take v vs) i ≡ after l xs → m ≡ mask_count xs
  made_masks i l xs e = sym (length-take-le m ms hm) ∙ masks_long table (take m ms) (take v vs) i l xs e

  made_values : (i : ℕ) (l : Lane) (xs : List Instr) → registers_at table (take m ms) (take v vs) i ≡ after l xs → v ≡ value_count xs
  made_values i l xs e = sym (length-take-le v vs hv) ∙ values_long table (take m ms) (take v vs) i l xs e

  pub is_next : (k : ℕ) (x : Instr) (l : Lane) → k < length program → IsProgram program → slice_index_or program k instr.all ≡ x → registers_at table (take m ms) (take v vs) 0 ≡ after l (take k program) → IsNext ms vs m v x
  is_next k x l h p here e =
      let em = made_masks 0 l (take k program) e in
      let ev = made_values 0 l (take k program) e in
      record {
        names = rw (em, ev, sym here) (names_at program k instr.all h p);
        mask_room = λ is. omega (arith, em, lm, count_by_more_yes makes_mask program k instr.all h (ap makes_mask here ∙ is), sum_by-take-le (λ x. cond (makes_mask x) 1 0) program (k + 1));
        value_room = λ is. omega (arith, ev, lv, count_by_more_yes makes_value program k instr.all h (ap makes_value here ∙ ap not is), sum_by-take-le (λ x. cond (makes_value x) 1 0) program (k + 1));
      }

  -- after the whole program every value is made
  pub all_values : (k i : ℕ) (l : Lane) → length program ≤ k → registers_at table (take m ms) (take v vs) i ≡ after l (take k program) → take v vs ≡ vs
  all_values k i l h e = take_all v vs (omega (arith, lv, made_values i l (take k program) e ∙ ap value_count (take_all k program h)))

  pub run_end : (k i : ℕ) (l : Lane) → length program ≤ k → registers_at table (take m ms) (take v vs) i ≡ after l (take k program) → registers_at table ms vs i ≡ after l program
  run_end k i l h e =
      let whole = take_all m ms (omega (arith, lm, made_masks i l (take k program) e ∙ ap mask_count (take_all k program h))) in
      ap (λ xs. registers_at table xs vs i) (sym whole) ∙ ap (λ ys. registers_at table (take m ms) ys i) (sym (all_values k i l h e)) ∙ e ∙ ap (after l) (take_all k program h)

take_next : {X : Type 0} (xs : List X) (k : ℕ) (d : X) → k < length xs → take (k + 1) xs ≡ take k xs ++ slice_index_or xs k d ∷ []
take_next [] k d h = absurd (omega arith)
take_next (x ∷ xs) zero d h = refl
take_next (x ∷ xs) (suc k) d h =
    let e : suc k + 1 ≡ suc (k + 1) = omega arith in
    rw e (ap (λ ys. x ∷ ys) (take_next xs k d (omega arith)))

-- after one instruction more
pub run_next : (l : Lane) (program : List Instr) (k : ℕ) (x : Instr) (s s' : State) → k < length program → slice_index_or program k instr.all ≡ x → s ≡ after l (take k program) → s' ≡ step l s x → s' ≡ after l (take (k + 1) program)
run_next l program k x s s' h here before made =
    made ∙ ap (λ s. step l s x) before ∙ ap (step l (after l (take k program))) (sym here)
    ∙ sym (ap (after l) (take_next program k instr.all h) ∙ fold-append (step l) empty (take k program) (slice_index_or program k instr.all ∷ []))
