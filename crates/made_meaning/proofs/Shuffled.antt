-- What a query makes of rows in another order is a permutation of what it makes of them.
use Rattle.std.proofs.Common.{◌≡◌, List, [], ◌∷◌, map, Bool, true, false, cond, Some, refl, ap, sym, ◌∙◌, subst}
use Rattle.std.specs.List.{filter}
use Rattle.std.specs.Option.{option_or}
use Rattle.std.specs.List.Sorted.{IsPermutation}
use Rattle.std.proofs.lemmas.List.Sorted.{IsPermutation-refl, IsPermutation-map}
use Rattle.value_meaning.specs.Val.{Val, missing}
use Rattle.tree_meaning.specs.Tree.{Ex, agg_of_rows, agg, Query}
use Rattle.agg_meaning.specs.Keys.{same_keys}
use Rattle.agg_meaning.proofs.Partials.{aggregate_shuffled}
use Rattle.agg_meaning.proofs.Filters.{filter-shuffled}
use Rattle.check_meaning.specs.Aggregates.{is_grouped}
use Rattle.eval_meaning.specs.Pair.{Pair, alone}
use Rattle.eval_meaning.specs.Evaluation.{eval}
use Rattle.eval_meaning.specs.Passed.{is_kept, passed}
use Rattle.answer_meaning.specs.Made.{Made}
use Rattle.agg_meaning.specs.Keys.{distinct_keys}
use Rattle.made_meaning.specs.OverGroups.{Group, group_of, groups, values_on, value_beside, aggregate_value, filled, over}
use Rattle.made_meaning.specs.MadeRows.{made, made_row, made_rows, made_group, made_groups, kept_groups, has_true, made_by}
use Rattle.agg_meaning.proofs.DistinctKeys.{distinct_shuffled}

passed_shuffled : (q : Query) (rows others : List Val) → IsPermutation rows others → IsPermutation (passed q rows) (passed q others)
passed_shuffled q rows others h = filter-shuffled (is_kept q.filter) _ _ (IsPermutation-map alone rows others h)

-- groups of the same keys whose rows are permutations of each other have the same values
aggregate_same : (rows others : List Pair) → IsPermutation rows others → (e : Ex) → aggregate_value others e ≡ aggregate_value rows e
aggregate_same rows others h (agg_of_rows n) = ap Some (aggregate_shuffled n _ _ (IsPermutation-map (λ (p : Pair). p.row) rows others h))
aggregate_same rows others h (agg n e) = ap Some (aggregate_shuffled n _ _ (IsPermutation-map (eval e) rows others h))
aggregate_same rows others h e = refl

over_same : (q : Query) (keys : List Val) (rows others : List Pair) → IsPermutation rows others → over q (record { keys = keys; members = others }) ≡ over q (record { keys = keys; members = rows })
unfolding over
over_same q keys rows others h = λ i e. eval (filled (λ x. option_or (value_beside q.keys keys x) (aggregate_same rows others h x i)) e) (alone missing)

-- choosing by a test and making, of what is built
chosen_one : {A B C : Type 0} (b : Bool) (x : A) (y : B) (z : C) (ys : List B) (xs : List A) (make : B → C) (make' : A → C)
    → make y ≡ z → make' x ≡ z → map make ys ≡ map make' xs → map make (cond b (y ∷ ys) ys) ≡ map make' (cond b (x ∷ xs) xs)
chosen_one true x y z ys xs make make' e f h = λ i. (e ∙ sym f) i ∷ h i
chosen_one false x y z ys xs make make' e f h = h

chosen : {A B C : Type 0} (build : A → B) (test : B → Bool) (make : B → C) (xs : List A) → map make (filter test (map build xs)) ≡ map (λ x. make (build x)) (filter (λ x. test (build x)) xs)
chosen build test make [] = refl
chosen build test make (x ∷ xs) =
    chosen_one (test (build x)) x (build x) (make (build x)) (filter test (map build xs)) (filter (λ x. test (build x)) xs) make (λ x. make (build x)) refl refl (chosen build test make xs)

-- the group of a list of keys: whether it is kept, and what is made of it
abbrev of_keys : (q : Query) (es : List Ex) (rows : List Pair) → List Val → Made
of_keys q es rows keys = made_by q (over q (group_of es rows keys)) []

abbrev keeps_keys : (q : Query) (es : List Ex) (rows : List Pair) → List Val → Bool
keeps_keys q es rows keys = has_true q.having (over q (group_of es rows keys))

group_same : (q : Query) (es : List Ex) (rows others : List Pair) (keys : List Val) → IsPermutation rows others → over q (group_of es others keys) ≡ over q (group_of es rows keys)
group_same q es rows others keys h = over_same q keys _ _ (filter-shuffled (λ p. same_keys keys (values_on es p)) rows others h)

abbrev by_keys : (q : Query) (e : Ex) (es : List Ex) (rows : List Pair) → List (List Val) → List Made
by_keys q e es rows all = map (of_keys q (e ∷ es) rows) (filter (keeps_keys q (e ∷ es) rows) all)

same_by_keys : (q : Query) (e : Ex) (es : List Ex) (rows others : List Pair) → IsPermutation rows others → (all : List (List Val)) → by_keys q e es others all ≡ by_keys q e es rows all
same_by_keys q e es rows others h all =
    λ i. map (λ keys. made_by q (group_same q (e ∷ es) rows others keys h i) []) (filter (λ keys. has_true q.having (group_same q (e ∷ es) rows others keys h i)) all)

-- the group of all rows is kept or not, and made of, by the values over it
of_all : (q : Query) (g : Group) → map (made_group q) (filter (λ g. has_true q.having (over q g)) (g ∷ [])) ≡ cond (has_true q.having (over q g)) (made_by q (over q g) [] ∷ []) []
of_all q g = go (has_true q.having (over q g))
  where
    go : (b : Bool) → map (made_group q) (cond b (g ∷ []) []) ≡ cond b (made_by q (over q g) [] ∷ []) []
    go true = refl
    go false = refl

groups_shuffled : (q : Query) (keys : List Ex) → q.keys ≡ keys → (rows others : List Pair) → IsPermutation rows others
    → IsPermutation (map (made_group q) (kept_groups q (groups keys rows))) (map (made_group q) (kept_groups q (groups keys others)))
groups_shuffled q [] k rows others h =
    let same : map (made_group q) (kept_groups q (groups [] others)) ≡ map (made_group q) (kept_groups q (groups [] rows)) =
    of_all q (record { keys = []; members = others })
    ∙ ap (λ (v : Ex → Val). cond (has_true q.having v) (made_by q v [] ∷ []) []) (over_same q [] rows others h)
    ∙ sym (of_all q (record { keys = []; members = rows })) in
    subst (λ l. IsPermutation (map (made_group q) (kept_groups q (groups [] rows))) l) (sym same) (IsPermutation-refl _)
groups_shuffled q (e ∷ es) k rows others h =
    let all = distinct_keys (map (values_on (e ∷ es)) rows) in
    let more = distinct_keys (map (values_on (e ∷ es)) others) in
    let p : IsPermutation all more = distinct_shuffled _ _ (IsPermutation-map (values_on (e ∷ es)) rows others h) in
    let made_of : IsPermutation (by_keys q e es rows all) (by_keys q e es rows more) = IsPermutation-map (of_keys q (e ∷ es) rows) _ _ (filter-shuffled (keeps_keys q (e ∷ es) rows) all more p) in
    let here = chosen (group_of (e ∷ es) rows) (λ g. has_true q.having (over q g)) (made_group q) all in
    let there = chosen (group_of (e ∷ es) others) (λ g. has_true q.having (over q g)) (made_group q) more in
    subst (λ l. IsPermutation l (map (made_group q) (kept_groups q (groups (e ∷ es) others)))) (sym here)
    (subst (λ l. IsPermutation (by_keys q e es rows all) l) (sym there ∙ refl)
    (subst (λ l. IsPermutation (by_keys q e es rows all) l) (sym (same_by_keys q e es rows others h more)) made_of))

pub made_shuffled : (q : Query) (rows others : List Val) → IsPermutation rows others → IsPermutation (made q rows) (made q others)
unfolding made
made_shuffled q rows others h = go (is_grouped q)
  where
    p : IsPermutation (passed q rows) (passed q others)
    p = passed_shuffled q rows others h

    go : (b : Bool) → IsPermutation (cond b (made_groups q (passed q rows)) (made_rows q (passed q rows))) (cond b (made_groups q (passed q others)) (made_rows q (passed q others)))
    go true = groups_shuffled q q.keys refl (passed q rows) (passed q others) p
    go false = IsPermutation-map (made_row q) _ _ p
