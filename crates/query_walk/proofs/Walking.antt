-- The parts of an expression, searched and gathered from a place on.
use Rattle.std.proofs.Common.{◌≡◌, ℕ, ◌+◌, ◌≤◌, Bool, true, false, ◌||◌, List, [], ◌∷◌, ◌++◌, length, drop, Some, refl, ◌∙◌, ap, cond}
use Rattle.std.specs.Prelude.{slice_get, filter, fold}
use Rattle.std.specs.List.{list_any, flat_map}
use Rattle.tree_meaning.specs.Tree.{Ex}
use Rattle.check_meaning.specs.Operands.{operands}
use Rattle.check_meaning.specs.Parts.{parts, parts_outside, none}
use Rattle.check_meaning.specs.Aggregates.{with_new, is_aggregate}
use Rattle.check_meaning.proofs.OperandParts.{parts_are}
use Rattle.query_walk.proofs.Searching.{drop_at, drop_end}

any_append : {A : Type 0} (m : A → Bool) (xs ys : List A) → list_any m (xs ++ ys) ≡ (list_any m xs || list_any m ys)
any_append m [] ys = refl
any_append m (x ∷ xs) ys = elim (m x) as (λ v. (v || list_any m (xs ++ ys)) ≡ ((v || list_any m xs) || list_any m ys)) [ true ↦ refl | false ↦ any_append m xs ys ]

module _ (t m : Ex → Bool) (e : Ex) where
  pub stopped : t e ≡ true → false ≡ list_any m (parts_outside t e)
  stopped h = rw (parts_are t e, h) refl

  pub found_first : t e ≡ false → m e ≡ true → true ≡ list_any m (parts_outside t e)
  found_first h g = rw (parts_are t e, h, g) refl

  pub found_later : t e ≡ false → m e ≡ false → list_any m (parts_outside t e) ≡ list_any m (flat_map (parts_outside t) (operands e))
  found_later h g = rw (parts_are t e, h, g) refl

module _ (t m : Ex → Bool) (es : List Ex) (k : ℕ) (w : Bool) where
  pub found_in : (x : Ex) → slice_get es k ≡ Some x → list_any m (parts_outside t x) ≡ true → w ≡ list_any m (flat_map (parts_outside t) (drop k es)) → w ≡ true
  found_in x h g sofar = sofar ∙ (rw (drop_at es k x h, any_append m (parts_outside t x) (flat_map (parts_outside t) (drop (k + 1) es)), g) refl)

  pub not_in : (x : Ex) → slice_get es k ≡ Some x → list_any m (parts_outside t x) ≡ false → w ≡ list_any m (flat_map (parts_outside t) (drop k es)) → w ≡ list_any m (flat_map (parts_outside t) (drop (k + 1) es))
  not_in x h g sofar = sofar ∙ (rw (drop_at es k x h, any_append m (parts_outside t x) (flat_map (parts_outside t) (drop (k + 1) es)), g) refl)

  pub not_found : length es ≤ k → w ≡ list_any m (flat_map (parts_outside t) (drop k es)) → w ≡ false
  not_found h sofar = sofar ∙ (rw (drop_end es k h) refl)

filter_append : {A : Type 0} (p : A → Bool) (xs ys : List A) → filter p (xs ++ ys) ≡ filter p xs ++ filter p ys
filter_append p [] ys = refl
filter_append p (x ∷ xs) ys = elim (p x) as (λ v. cond v (x ∷ filter p (xs ++ ys)) (filter p (xs ++ ys)) ≡ cond v (x ∷ filter p xs) (filter p xs) ++ filter p ys) [ true ↦ ap (λ l. x ∷ l) (filter_append p xs ys) | false ↦ filter_append p xs ys ]

fold_append : {A B : Type 0} (f : B → A → B) (b : B) (xs ys : List A) → fold f b (xs ++ ys) ≡ fold f (fold f b xs) ys
fold_append f b [] ys = refl
fold_append f b (x ∷ xs) ys = fold_append f (f b x) xs ys

-- the aggregates of the parts, added to those that were found
abbrev pub gathered : List Ex → List Ex → List Ex
gathered found es = fold with_new found (filter is_aggregate es)

pub gathered_append : (found xs ys : List Ex) → gathered found (xs ++ ys) ≡ gathered (gathered found xs) ys
gathered_append found xs ys = rw (filter_append is_aggregate xs ys, fold_append with_new found (filter is_aggregate xs) (filter is_aggregate ys)) refl

pub gathered_first : (found : List Ex) (e : Ex) → gathered found (parts e) ≡ gathered (gathered found (e ∷ [])) (flat_map parts (operands e))
gathered_first found e = rw (parts_are none e) (gathered_append found (e ∷ []) (flat_map parts (operands e)))

pub gathered_next : (found : List Ex) (es : List Ex) (k : ℕ) (x : Ex) → slice_get es k ≡ Some x → gathered found (flat_map parts (drop k es)) ≡ gathered (gathered found (parts x)) (flat_map parts (drop (k + 1) es))
gathered_next found es k x h = rw (drop_at es k x h) (gathered_append found (parts x) (flat_map parts (drop (k + 1) es)))

pub gathered_end : (found : List Ex) (es : List Ex) (k : ℕ) → length es ≤ k → gathered found (flat_map parts (drop k es)) ≡ found
gathered_end found es k h = rw (drop_end es k h) refl
