-- A row that passes a WHERE has a time of the field that lies in the bounds, where there are bounds.
use Rattle.std.proofs.Common.{◌≡◌, ◌≢◌, ◌≤◌, ℕ, zero, ℤ, pos, negsuc, Bool, true, false, cond, List, [], ◌∷◌, Option, Some, None, refl, sym, ap, arith, inl, inr, subst, ⊎_elim}
use Rattle.std.specs.Prelude.{FitsSigned, ◌≤ℤ◌}
use Rattle.std.specs.Int.{w64}
use Rattle.std.specs.Cmp.Lexicographic.{same_text}
use Rattle.std.proofs.lemmas.Int.{ints}
use Rattle.value_meaning.specs.Val.{Val, time}
use Rattle.tree_meaning.specs.declared.BinOp.{BinOp}
use Rattle.tree_meaning.specs.declared.BinOp.TheVariants as op
use Rattle.tree_meaning.specs.Tree.{Ex, Step, name, lit, path, bin, between}
use Rattle.eval_meaning.specs.Logic.{is_true}
use Rattle.eval_meaning.specs.Pair.{alone}
use Rattle.eval_meaning.specs.Paths.{step_of, path_of}
use Rattle.eval_meaning.specs.Evaluation.{eval, binary}
use Rattle.eval_meaning.specs.Comparisons.{between_of}
use Rattle.eval_meaning.specs.Passed.{is_kept}
use Rattle.file_meaning.specs.Files.{Entry}
use Rattle.range_meaning.specs.declared.Bounds.{Bounds}
use Rattle.range_meaning.specs.declared.Bounds.TheVariants.{All}
use Rattle.range_meaning.specs.Binding.{conjuncts, is_name, is_field, moment_of, mirrored, against, within, bounds_of, bounds_of_all, bounds}
use Rattle.range_meaning.specs.Excluded.{LiesWithin, IsExcluded, HoldsWithin}
use Rattle.range_meaning.specs.Laws.{HasTimes}
use Rattle.range_meaning.proofs.MeetLaws.{of_both}
use Rattle.range_meaning.proofs.Holding.{IsTimeIn, IsAllowed, holds_first, holds_second, holds_between, both_true, allowed_by_both}

module _ (field : List ℕ) (row : Val) where
  name_is : (steps : List Step) → is_name field steps ≡ true → path_of steps row ≡ step_of (name field) row
  name_is (name n ∷ []) h = ap (λ (s : List ℕ). step_of (name s) row) (same_text n field (sym h))
  name_is steps h = cc

  field_is : (e : Ex) → is_field field e ≡ true → eval e (alone row) ≡ step_of (name field) row
  field_is (path zero steps) h = name_is steps h
  field_is e h = cc

  moment_is : (e : Ex) (t : ℤ) → moment_of e ≡ Some t → eval e (alone row) ≡ time t
  moment_is (lit (time s)) t h = cc
  moment_is e t h = cc

  true_at : (o : BinOp) (v w x y : Val) → v ≡ x → w ≡ y → is_true (binary o v w) ≡ true → is_true (binary o x y) ≡ true
  true_at o v w x y p q h = subst (λ (z : Val). is_true (binary o x z) ≡ true) q (subst (λ (z : Val). is_true (binary o z w) ≡ true) p h)

  -- a comparison of the field with another expression, and the other way round
  first_side : (o : BinOp) (a b : Ex) (m : Option ℤ) → moment_of b ≡ m → is_field field a ≡ true → is_true (binary o (eval a (alone row)) (eval b (alone row))) ≡ true → IsAllowed (step_of (name field) row) (against o m)
  first_side o a b None is own h = inl refl
  first_side o a b (Some t) is own h =
      holds_first o (step_of (name field) row) t
      (true_at o (eval a (alone row)) (eval b (alone row)) (step_of (name field) row) (time t) (field_is a own) (moment_is b t is) h)

  second_side : (o : BinOp) (a b : Ex) (m : Option ℤ) → moment_of a ≡ m → is_field field b ≡ true → is_true (binary o (eval a (alone row)) (eval b (alone row))) ≡ true → IsAllowed (step_of (name field) row) (against (mirrored o) m)
  second_side o a b None is own h = inl refl
  second_side o a b (Some t) is own h =
      holds_second o (step_of (name field) row) t
      (true_at o (eval a (alone row)) (eval b (alone row)) (time t) (step_of (name field) row) (moment_is a t is) (field_is b own) h)

  compared : (o : BinOp) (a b : Ex) → is_true (binary o (eval a (alone row)) (eval b (alone row))) ≡ true → IsAllowed (step_of (name field) row) (bounds_of field (bin o a b))
  compared o a b h = go (is_field field a) (is_field field b) refl refl
    where
      go : (p q : Bool) → is_field field a ≡ p → is_field field b ≡ q → IsAllowed (step_of (name field) row) (cond p (against o (moment_of b)) (cond q (against (mirrored o) (moment_of a)) All))
      go true q e f = first_side o a b (moment_of b) refl e h
      go false true e f = second_side o a b (moment_of a) refl f h
      go false false e f = inl refl

  between_at : (u v w x y z : Val) → u ≡ x → v ≡ y → w ≡ z → is_true (between_of u v w) ≡ true → is_true (between_of x y z) ≡ true
  between_at u v w x y z p q r h =
      subst (λ (a : Val). is_true (between_of x y a) ≡ true) r
      (subst (λ (a : Val). is_true (between_of x a w) ≡ true) q (subst (λ (a : Val). is_true (between_of a v w) ≡ true) p h))

  between_moments : (e low high : Ex) (l m : Option ℤ) → moment_of low ≡ l → moment_of high ≡ m → is_field field e ≡ true → is_true (between_of (eval e (alone row)) (eval low (alone row)) (eval high (alone row))) ≡ true → IsAllowed (step_of (name field) row) (within l m)
  between_moments e low high (Some s) (Some t) p q own h =
      inr (holds_between (step_of (name field) row) s t
      (between_at (eval e (alone row)) (eval low (alone row)) (eval high (alone row)) (step_of (name field) row) (time s) (time t) (field_is e own) (moment_is low s p) (moment_is high t q) h))
  between_moments e low high None m p q own h = inl refl
  between_moments e low high (Some s) None p q own h = inl refl

  betweens : (e low high : Ex) → is_true (between_of (eval e (alone row)) (eval low (alone row)) (eval high (alone row))) ≡ true → IsAllowed (step_of (name field) row) (bounds_of field (between e low high))
  betweens e low high h = go (is_field field e) refl
    where
      go : (p : Bool) → is_field field e ≡ p → IsAllowed (step_of (name field) row) (cond p (within (moment_of low) (moment_of high)) All)
      go true own = between_moments e low high (moment_of low) (moment_of high) refl refl own h
      go false own = inl refl

  one : (e : Ex) → is_true (eval e (alone row)) ≡ true → IsAllowed (step_of (name field) row) (bounds_of field e)
  one (bin o a b) h = compared o a b h
  one (between e low high) h = betweens e low high h
  one e h = inl refl

  -- all conjuncts of a condition that is true
  pub all_conjuncts : (e : Ex) → is_true (eval e (alone row)) ≡ true → IsAllowed (step_of (name field) row) (bounds_of_all field (conjuncts e))
  all_conjuncts (bin op.And a b) h =
      let both = both_true (eval a (alone row)) (eval b (alone row)) h in
      subst (λ (x : Bounds). IsAllowed (step_of (name field) row) x) (sym (of_both (bounds_of field) (conjuncts a) (conjuncts b)))
      (allowed_by_both (step_of (name field) row) (bounds_of_all field (conjuncts a)) (bounds_of_all field (conjuncts b)) (all_conjuncts a both.0) (all_conjuncts b both.1))
  all_conjuncts e h = one e h

fits_between : (low high t : ℤ) → FitsSigned w64 low → FitsSigned w64 high → low ≤ℤ t → t ≤ℤ high → FitsSigned w64 t
fits_between low (pos m) (pos n) f g p q = record { sfits = let is : n ≤ m = omega (arith, ints) in omega (arith, g.sfits) }
fits_between low (negsuc m) (pos n) f g p q = absurd (omega (arith, ints))
fits_between (pos m) high (negsuc n) f g p q = absurd (omega (arith, ints))
fits_between (negsuc m) high (negsuc n) f g p q = record { sfits = let is : n ≤ m = omega (arith, ints) in omega (arith, f.sfits) }

fits_within : (entry : Entry) (t : ℤ) → HasTimes entry → LiesWithin entry t → FitsSigned w64 t
fits_within entry t times lies = fits_between entry.least entry.greatest t times.least times.greatest lies.not_below lies.not_above

-- a time in bounds, of a row of an excluded block
no_time : (field : List ℕ) (row : Val) (entry : Entry) (b : Bounds) → HasTimes entry → HoldsWithin field entry row → IsExcluded entry b → IsTimeIn (step_of (name field) row) b → ⊥
no_time field row entry b times sound excluded held =
    let lies = sound held.t held.is in
    excluded.apart held.t (held.lies (fits_within entry held.t times lies)) lies

not_true : (b : Bool) → (b ≡ true → ⊥) → b ≡ false
not_true true h = absurd (h refl)
not_true false h = refl

pub passes_not : (field : List ℕ) (filter : Ex) (row : Val) (entry : Entry) → (field ≢ [] → HoldsWithin field entry row) → HasTimes entry → IsExcluded entry (bounds field filter) → is_kept (Some filter) (alone row) ≡ false
passes_not [] filter row entry sound times excluded = absurd (excluded.bound refl)
passes_not (c ∷ cs) filter row entry sound times excluded =
    not_true (is_true (eval filter (alone row)))
    (λ h. ⊎_elim (λ none. excluded.bound none) (λ held. no_time (c ∷ cs) row entry (bounds (c ∷ cs) filter) times (sound (λ e. cc)) excluded held) (all_conjuncts (c ∷ cs) row filter h))
