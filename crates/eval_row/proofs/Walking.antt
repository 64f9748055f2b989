-- Steps of the loops over steps, expressions and arms.
use Rattle.std.proofs.Common.{◌≡◌, ℕ, zero, suc, ◌+◌, ◌<◌, ◌≤◌, Bool, true, false, cond, List, [], ◌∷◌, ◌++◌, length, map, drop, Option, Some, refl, sym, ◌∙◌, ap, add-one, append_assoc, arith}
use Rattle.std.specs.Prelude.{slice_get, unwrap_or}
use Rattle.value_meaning.specs.Val.{Val, missing, list, struct, vals, fields}
use Rattle.value_meaning.specs.Pairs.{value_of}
use Rattle.value_meaning.proofs.Chains.{items-vals, pairs-fields}
use Rattle.tree_meaning.specs.Tree.{Step, name, at, Ex, size, exs, exs_size, arms, arms_size}
use Rattle.eval_meaning.specs.Logic.{choice_of, is_true}
use Rattle.eval_meaning.specs.Pair.{Pair, source_of}
use Rattle.eval_meaning.specs.Paths.{step_of, path_of}
use Rattle.eval_meaning.specs.Evaluation.{eval, evals, choices}
use Rattle.made_meaning.specs.OverGroups.{filled, filled_exs, filled_arms}
use Rattle.eval_row.proofs.Filling.{exs_filled, arms_filled, no_exs_filled, no_arms_filled}

module _ {X : Type 0} where
  at_suc : (xs : List X) (i : ℕ) (x : X) → slice_get xs i ≡ Some x → drop i xs ≡ x ∷ drop (suc i) xs
  at_suc [] i x h = cc
  at_suc (y ∷ ys) zero x h = (let w : y ≡ x = cc in ap (λ z. z ∷ ys) w)
  at_suc (y ∷ ys) (suc i) x h = at_suc ys i x h

  -- what follows the item at a place
  pub drop_at : (xs : List X) (i : ℕ) (x : X) → slice_get xs i ≡ Some x → drop i xs ≡ x ∷ drop (i + 1) xs
  drop_at xs i x h = rw add-one (at_suc xs i x h)

pub name_step : (n : List ℕ) (fs : List (List ℕ × Val)) → step_of (name n) (struct (fields fs)) ≡ unwrap_or (value_of n fs) missing
name_step n fs = ap (λ gs. unwrap_or (value_of n gs) missing) (pairs-fields fs)

pub item_step : (i : ℕ) (vs : List Val) → step_of (at i) (list (vals vs)) ≡ unwrap_or (slice_get vs i) missing
item_step i vs = ap (λ ws. unwrap_or (slice_get ws i) missing) (items-vals vs)

-- no path leads away from MISSING
pub path_of_missing : (ss : List Step) → path_of ss missing ≡ missing
path_of_missing [] = refl
path_of_missing (name n ∷ ss) = path_of_missing ss
path_of_missing (at i ∷ ss) = path_of_missing ss

-- each source but the first is the item
pub other_source : (n : ℕ) (pair : Pair) → (n ≡ 0 → ⊥) → source_of n pair ≡ pair.item
other_source zero pair h = absurd (h refl)
other_source (suc n) pair h = refl

module _ {S : Type 0} (f : S → Step) where
  -- a path goes on with the step at a place
  pub path_goes_on : (ss : List S) (i : ℕ) (s : S) (v : Val) → slice_get ss i ≡ Some s → path_of (map f (drop i ss)) v ≡ path_of (map f (drop (i + 1) ss)) (step_of (f s) v)
  path_goes_on ss i s v h = ap (λ l. path_of (map f l) v) (drop_at ss i s h)

-- the values of expressions up to a place
pub evals_go_on : (t : Ex → Option Val) (es : List Ex) (i : ℕ) (e : Ex) (pair : Pair) (made : List Val) → slice_get es i ≡ Some e
    → evals (filled_exs t (exs es)) pair ≡ made ++ evals (filled_exs t (exs (drop i es))) pair
    → evals (filled_exs t (exs es)) pair ≡ (made ++ eval (filled t e) pair ∷ []) ++ evals (filled_exs t (exs (drop (i + 1) es))) pair
evals_go_on t es i e pair made h all =
    all ∙ ap (λ l. made ++ evals (filled_exs t (exs l)) pair) (drop_at es i e h)
    ∙ ap (λ l. made ++ evals l pair) (exs_filled t e (drop (i + 1) es)) ∙ simp append_assoc

pub ex_is_smaller : (es : List Ex) (i : ℕ) (e : Ex) → slice_get es i ≡ Some e → size e < exs_size (exs es)
ex_is_smaller [] i e h = cc
ex_is_smaller (x ∷ xs) zero e h = (let w : x ≡ e = cc in rw w (omega arith))
ex_is_smaller (x ∷ xs) (suc i) e h = omega (arith, ex_is_smaller xs i e h)

-- the arms from a place on begin with the one there
pub arms_go_on : (t : Ex → Option Val) (xs : List (Ex × Ex)) (i : ℕ) (x : Ex × Ex) (pair : Pair) (other : Val) → slice_get xs i ≡ Some x
    → choices (filled_arms t (arms (drop i xs))) pair other ≡ choice_of (eval (filled t x.0) pair) (eval (filled t x.1) pair) (choices (filled_arms t (arms (drop (i + 1) xs))) pair other)
arms_go_on t xs i x pair other h = ap (λ l. choices (filled_arms t (arms l)) pair other) (drop_at xs i x h) ∙ ap (λ r. choices r pair other) (arms_filled t x (drop (i + 1) xs))

pub test_is_smaller : (xs : List (Ex × Ex)) (i : ℕ) (x : Ex × Ex) → slice_get xs i ≡ Some x → size x.0 + size x.1 < arms_size (arms xs)
test_is_smaller [] i x h = cc
test_is_smaller (y ∷ ys) zero x h = (let w : y ≡ x = cc in rw w (omega arith))
test_is_smaller (y ∷ ys) (suc i) x h = omega (arith, test_is_smaller ys i x h)

chosen : (b : Bool) (v later : Val) → b ≡ true → cond b v later ≡ v
chosen true v later h = refl
chosen false v later h = cc

passed_by : (b : Bool) (v later : Val) → b ≡ false → cond b v later ≡ later
passed_by true v later h = cc
passed_by false v later h = refl

-- an arm whose test is true, behind arms whose tests aren't
pub arm_holds : (t : Ex → Option Val) (xs : List (Ex × Ex)) (i : ℕ) (x : Ex × Ex) (pair : Pair) (other test : Val) → slice_get xs i ≡ Some x → test ≡ eval (filled t x.0) pair → is_true test ≡ true
    → choices (filled_arms t (arms (drop i xs))) pair other ≡ choices (filled_arms t (arms xs)) pair other → choices (filled_arms t (arms xs)) pair other ≡ eval (filled t x.1) pair
arm_holds t xs i x pair other test h e holds all =
    sym all ∙ arms_go_on t xs i x pair other h ∙ chosen (is_true (eval (filled t x.0) pair)) (eval (filled t x.1) pair) (choices (filled_arms t (arms (drop (i + 1) xs))) pair other) (rw (← e) holds)

pub arm_fails : (t : Ex → Option Val) (xs : List (Ex × Ex)) (i : ℕ) (x : Ex × Ex) (pair : Pair) (other test : Val) → slice_get xs i ≡ Some x → test ≡ eval (filled t x.0) pair → is_true test ≡ false
    → choices (filled_arms t (arms (drop i xs))) pair other ≡ choices (filled_arms t (arms xs)) pair other → choices (filled_arms t (arms (drop (i + 1) xs))) pair other ≡ choices (filled_arms t (arms xs)) pair other
arm_fails t xs i x pair other test h e fails all =
    sym (passed_by (is_true (eval (filled t x.0) pair)) (eval (filled t x.1) pair) (choices (filled_arms t (arms (drop (i + 1) xs))) pair other) (rw (← e) fails)) ∙ sym (arms_go_on t xs i x pair other h) ∙ all

-- behind all places nothing is left
pub past_all : {X : Type 0} (xs : List X) (i : ℕ) → length xs ≤ i → drop i xs ≡ []
past_all [] zero h = refl
past_all [] (suc i) h = refl
past_all (x ∷ xs) zero h = absurd (omega (arith, h))
past_all (x ∷ xs) (suc i) h = past_all xs i (omega (arith, h))

-- where no arm's test is true the other value is left
pub no_arm_holds : (t : Ex → Option Val) (xs : List (Ex × Ex)) (i : ℕ) (pair : Pair) (other : Val) → length xs ≤ i
    → choices (filled_arms t (arms (drop i xs))) pair other ≡ choices (filled_arms t (arms xs)) pair other → choices (filled_arms t (arms xs)) pair other ≡ other
no_arm_holds t xs i pair other h all =
    sym all ∙ ap (λ l. choices (filled_arms t (arms l)) pair other) (past_all xs i h) ∙ ap (λ r. choices r pair other) (no_arms_filled t)

ends : (vs : List Val) → vs ++ [] ≡ vs
ends [] = refl
ends (v ∷ vs) = ap (λ l. v ∷ l) (ends vs)

-- behind the last expression the values are all
pub evals_end : (t : Ex → Option Val) (es : List Ex) (i : ℕ) (pair : Pair) (made : List Val) → length es ≤ i
    → evals (filled_exs t (exs es)) pair ≡ made ++ evals (filled_exs t (exs (drop i es))) pair → made ≡ evals (filled_exs t (exs es)) pair
evals_end t es i pair made h all =
    sym (all ∙ ap (λ l. made ++ evals (filled_exs t (exs l)) pair) (past_all es i h) ∙ ap (λ l. made ++ evals l pair) (no_exs_filled t) ∙ ends made)
