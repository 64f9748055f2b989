-- Runs of bytes that stand in a string as they are.
use Rattle.std.proofs.Common.{◌≡◌, ℕ, suc, ◌+◌, ◌-◌, ◌<◌, ◌≤◌, List, [], ◌∷◌, ◌++◌, length, get_or, take, drop, refl, sym, ◌∙◌, ap, append_assoc, add-one, arith, length-drop}
use Rattle.std.proofs.Math.Seq.{take-suc}
use Rattle.std.specs.List.{slice_range, flat_map}
use Rattle.std.proofs.lemmas.Grind.{flat_map-append}
use Rattle.std.proofs.lemmas.List.{append-nil, get_or-drop}
use Rattle.json.specs.Print.{escape_byte, escape}

-- one more byte is escaped
escape_more : (xs : List ℕ) (at : ℕ) → at < length xs → escape (take (at + 1) xs) ≡ escape (take at xs) ++ escape_byte (get_or xs at 0)
escape_more xs at h =
    let one : flat_map escape_byte (get_or xs at 0 ∷ []) ≡ escape_byte (get_or xs at 0) = append-nil (escape_byte (get_or xs at 0)) in
    rw (add-one, take-suc xs at 0 h, flat_map-append, one) refl

-- one more byte is in the run
run_more : (xs : List ℕ) (from at : ℕ) → from ≤ at → at < length xs → slice_range xs from (at + 1) ≡ slice_range xs from at ++ get_or xs at 0 ∷ []
run_more xs from at h k =
    let next : at + 1 - from ≡ suc (at - from) = omega arith in
    let back : from + (at - from) ≡ at = omega arith in
    let inside : at - from < length (drop from xs) = omega (arith, length-drop from xs) in
    let here : get_or (drop from xs) (at - from) 0 ≡ get_or xs at 0 = get_or-drop from xs (at - from) 0 ∙ ap (λ i. get_or xs i 0) back in
    ap (λ n. take n (drop from xs)) next ∙ take-suc (drop from xs) (at - from) 0 inside ∙ ap (λ b. take (at - from) (drop from xs) ++ b ∷ []) here

-- What is written and the run behind it are the bytes so far, escaped.
pub record HasRun (old new xs : List ℕ) (from at : ℕ) : Type 0 where
  pub within : from ≤ at
  pub spells : new ++ slice_range xs from at ≡ old ++ escape (take at xs)

-- the run goes on
pub run_goes_on : (old new xs : List ℕ) (from at : ℕ) → HasRun old new xs from at → at < length xs → escape_byte (get_or xs at 0) ≡ get_or xs at 0 ∷ []
    → HasRun old new xs from (at + 1)
run_goes_on old new xs from at r h plain = record {
  within = omega (arith, r.within);
  spells =
      let more : new ++ slice_range xs from (at + 1) ≡ (new ++ slice_range xs from at) ++ get_or xs at 0 ∷ [] =
      ap (λ l. new ++ l) (run_more xs from at r.within h) ∙ sym (append_assoc new _ _) in
      more ∙ ap (λ l. l ++ get_or xs at 0 ∷ []) r.spells ∙ append_assoc old _ _ ∙ ap (λ l. old ++ l) (sym (escape_more xs at h ∙ ap (λ l. escape (take at xs) ++ l) plain));
}

-- the run and an escape are written, and a run begins behind them
pub run_begins : (old new mid next xs : List ℕ) (from at : ℕ) → HasRun old new xs from at → at < length xs → mid ≡ new ++ slice_range xs from at
    → next ≡ mid ++ escape_byte (get_or xs at 0) → HasRun old next xs (at + 1) (at + 1)
run_begins old new mid next xs from at r h e f = record {
  within = omega arith;
  spells =
      let none : slice_range xs (at + 1) (at + 1) ≡ [] = let z : at + 1 - (at + 1) ≡ 0 = omega arith in ap (λ n. take n (drop (at + 1) xs)) z in
      ap (λ l. next ++ l) none ∙ append-nil next ∙ f ∙ ap (λ l. l ++ escape_byte (get_or xs at 0)) (e ∙ r.spells) ∙ append_assoc old _ _ ∙ ap (λ l. old ++ l) (sym (escape_more xs at h));
}
