-- A program of one instruction more.
use Rattle.std.proofs.Common.{◌≡◌, ℕ, ◌+◌, arith, true, false, List, [], ◌∷◌, ◌++◌, map}
use Rattle.std.proofs.lemmas.List.{map-append}
use Rattle.program_meaning.specs.Instructions.{Instr, makes_mask}
use Rattle.program_meaning.specs.Programs.{mask_count, value_count, IsInstruction}
use Rattle.program_meaning.proofs.Programs.{program_push, mask_count-push, value_count-push}
use Rattle.lane_ssa.specs.Built.{IsBuilt}
use Rattle.lane_ssa.specs.declared.instr.Instr.{Instr as InstrCode}
use Rattle.lane_ssa.specs.Views.{instr_view}

module _ (xs : List Instr) (x : Instr) (m v : ℕ) (b : IsBuilt xs m v) (h : IsInstruction (mask_count xs) (value_count xs) x) where
  built_mask : makes_mask x ≡ true → IsBuilt (xs ++ x ∷ []) (m + 1) v
  built_mask e = record {
    program = program_push xs x b.program h;
    masks_are = rw (mask_count-push xs x, e) (omega (arith, b.masks_are));
    values_are = rw (value_count-push xs x, e) (omega (arith, b.values_are));
  }

  built_value : makes_mask x ≡ false → IsBuilt (xs ++ x ∷ []) m (v + 1)
  built_value e = record {
    program = program_push xs x b.program h;
    masks_are = rw (mask_count-push xs x, e) (omega (arith, b.masks_are));
    values_are = rw (value_count-push xs x, e) (omega (arith, b.values_are));
  }

pub viewed_push : (xs : List InstrCode) (x : InstrCode) → map instr_view (xs ++ x ∷ []) ≡ map instr_view xs ++ instr_view x ∷ []
viewed_push xs x = map-append instr_view xs (x ∷ [])

module _ (xs : List InstrCode) (x : InstrCode) (m v : ℕ) (b : IsBuilt (map instr_view xs) m v) (h : IsInstruction (mask_count (map instr_view xs)) (value_count (map instr_view xs)) (instr_view x)) where
  pub mask_put : makes_mask (instr_view x) ≡ true → IsBuilt (map instr_view (xs ++ x ∷ [])) (m + 1) v
  mask_put e = rw viewed_push (built_mask (map instr_view xs) (instr_view x) m v b h e)

  pub value_put : makes_mask (instr_view x) ≡ false → IsBuilt (map instr_view (xs ++ x ∷ [])) m (v + 1)
  value_put e = rw viewed_push (built_value (map instr_view xs) (instr_view x) m v b h e)
