-- The value beside an expression, searched from a place on.
use Rattle.std.proofs.Common.{◌≡◌, ℕ, zero, suc, ◌+◌, ◌≤◌, true, false, cond, List, [], ◌∷◌, length, drop, Some, None, refl, sym, ◌∙◌, ap, add-one}
use Rattle.std.specs.Prelude.{slice_get}
use Rattle.std.specs.Option.{option_or}
use Rattle.value_meaning.specs.Val.{Val}
use Rattle.tree_meaning.specs.Tree.{Ex}
use Rattle.check_meaning.specs.Same.{same_ex}
use Rattle.made_meaning.specs.OverGroups.{value_beside}
use Rattle.eval_row.proofs.Walking.{drop_at, past_all}

get_drop : (vs : List Val) (k : ℕ) → slice_get vs k ≡ slice_get (drop k vs) 0
get_drop [] zero = refl
get_drop [] (suc k) = refl
get_drop (v ∷ vs) zero = refl
get_drop (v ∷ vs) (suc k) = get_drop vs k

drop_one : (vs : List Val) (k : ℕ) → drop (suc k) vs ≡ drop 1 (drop k vs)
drop_one [] zero = refl
drop_one [] (suc k) = refl
drop_one (v ∷ vs) zero = refl
drop_one (v ∷ vs) (suc k) = drop_one vs k

none_beside : (es : List Ex) (e : Ex) → value_beside es [] e ≡ None
none_beside [] e = refl
none_beside (x ∷ es) e = refl

first_beside : (x : Ex) (es : List Ex) (vs : List Val) (e : Ex) → same_ex x e ≡ true → value_beside (x ∷ es) vs e ≡ slice_get vs 0
first_beside x es [] e h = refl
first_beside x es (v ∷ vs) e h = ap (λ b. cond b (Some v) (value_beside es vs e)) h

later_beside : (x : Ex) (es : List Ex) (vs : List Val) (e : Ex) → same_ex x e ≡ false → value_beside (x ∷ es) vs e ≡ value_beside es (drop 1 vs) e
later_beside x es [] e h = sym (none_beside es e)
later_beside x es (v ∷ vs) e h = ap (λ b. cond b (Some v) (value_beside es vs e)) h

module _ (es : List Ex) (vs : List Val) (e : Ex) (k : ℕ) (sofar : value_beside (drop k es) (drop k vs) e ≡ value_beside es vs e) where
  pub beside_here : (x : Ex) → slice_get es k ≡ Some x → same_ex x e ≡ true → slice_get vs k ≡ value_beside es vs e
  beside_here x h same =
      get_drop vs k ∙ sym (first_beside x (drop (k + 1) es) (drop k vs) e same) ∙ ap (λ l. value_beside l (drop k vs) e) (sym (drop_at es k x h)) ∙ sofar

  pub beside_next : (x : Ex) → slice_get es k ≡ Some x → same_ex x e ≡ false → value_beside (drop (k + 1) es) (drop (k + 1) vs) e ≡ value_beside es vs e
  beside_next x h other =
      ap (λ l. value_beside (drop (k + 1) es) l e) (rw add-one (drop_one vs k)) ∙ sym (later_beside x (drop (k + 1) es) (drop k vs) e other)
      ∙ ap (λ l. value_beside l (drop k vs) e) (sym (drop_at es k x h)) ∙ sofar

  pub beside_end : length es ≤ k → None ≡ value_beside es vs e
  beside_end h = ap (λ l. value_beside l (drop k vs) e) (sym (past_all es k h)) ∙ sofar

-- of no expressions no value is known
pub nothing_known : (es fs : List Ex) (vs ws : List Val) → es ≡ [] → fs ≡ [] → (e : Ex) → option_or (value_beside es vs e) (value_beside fs ws e) ≡ None
nothing_known es fs vs ws h k e = λ i. option_or (value_beside (h i) vs e) (value_beside (k i) ws e)
