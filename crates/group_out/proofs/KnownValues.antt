-- What the row of a group tells of an expression of the query is what the group does.
use Rattle.std.proofs.Common.{◌≡◌, Bool, true, false, cond, ◌||◌, List, [], ◌∷◌, map, Option, Some, None, refl, sym, ◌∙◌, ap}
use Rattle.std.specs.Prelude.{unwrap_or}
use Rattle.std.specs.Option.{option_or}
use Rattle.value_meaning.specs.Val.{Val, missing}
use Rattle.tree_meaning.specs.Tree.{Ex, Query, agg_of_rows, agg}
use Rattle.check_meaning.specs.Same.{same_ex}
use Rattle.check_meaning.proofs.Same.{same_ex-is, same_ex-of}
use Rattle.check_meaning.specs.Aggregates.{is_aggregate, is_among, aggregates}
use Rattle.eval_meaning.specs.Pair.{Pair, alone}
use Rattle.eval_meaning.specs.Evaluation.{eval}
use Rattle.made_meaning.specs.OverGroups.{Group, value_beside, aggregate_value, known, filled}
use Rattle.group_out.specs.Summaries.{Summarizes}
use Rattle.group_out.specs.Values.{known_of_row, value_of_row}

-- an expression is an aggregate where it has a value as one, and has none where it isn't
no_aggregate : (all : List Pair) (e : Ex) → is_aggregate e ≡ false → aggregate_value all e ≡ None
no_aggregate all (agg_of_rows n) h = cc
no_aggregate all (agg n e) h = cc
no_aggregate all e h = refl

same_turned : (a b : Ex) (r : Bool) → same_ex a b ≡ r → same_ex b a ≡ r
same_turned a b true h = same_ex-of b a (sym (same_ex-is a b h))
same_turned a b false h = unequal (same_ex b a) refl
  where
    unequal : (v : Bool) → same_ex b a ≡ v → same_ex b a ≡ false
    unequal true e = let k : false ≡ true = sym h ∙ same_ex-of a b (sym (same_ex-is b a e)) in cc
    unequal false e = e

some_is : {A : Type 0} (x y : A) → Some x ≡ Some y → x ≡ y
some_is x y h = ap (λ o. unwrap_or o x) h

-- the aggregates, each with its value over the members
module _ (all : List Pair) where
  abbrev Valued : List Ex → List Val → Type 0
  Valued es vs = map (aggregate_value all) es ≡ map (λ v. Some v) vs

  abbrev first_or : Option Val → List (Option Val) → Option Val
  first_or d [] = d
  first_or d (o ∷ os) = o

  abbrev rest : List (Option Val) → List (Option Val)
  rest [] = []
  rest (o ∷ os) = os

  module _ (x : Ex) (es : List Ex) (v : Val) (vs : List Val) (e : Ex) where
    here : Valued (x ∷ es) (v ∷ vs) → (is_among es e ≡ true → value_beside es vs e ≡ aggregate_value all e) → (r : Bool) → same_ex e x ≡ r
        → (r || is_among es e) ≡ true → value_beside (x ∷ es) (v ∷ vs) e ≡ aggregate_value all e
    here h later true s m =
        ap (λ b. cond b (Some v) (value_beside es vs e)) (same_turned e x true s)
        ∙ sym (ap (first_or None) h) ∙ ap (aggregate_value all) (sym (same_ex-is e x s))
    here h later false s m = ap (λ b. cond b (Some v) (value_beside es vs e)) (same_turned e x false s) ∙ later m

    not_here : (is_among es e ≡ false → value_beside es vs e ≡ None) → (r : Bool) → same_ex e x ≡ r
        → (r || is_among es e) ≡ false → value_beside (x ∷ es) (v ∷ vs) e ≡ None
    not_here later true s m = cc
    not_here later false s m = ap (λ b. cond b (Some v) (value_beside es vs e)) (same_turned e x false s) ∙ later m

  -- the value beside an aggregate that is among them is its own
  beside_among : (es : List Ex) (vs : List Val) (e : Ex) → Valued es vs → is_among es e ≡ true → value_beside es vs e ≡ aggregate_value all e
  beside_among [] vs e h m = cc
  beside_among (x ∷ es) [] e h m = cc
  beside_among (x ∷ es) (v ∷ vs) e h m = here x es v vs e h (λ k. beside_among es vs e (ap rest h) k) (same_ex e x) refl m

  -- and there is none beside an expression that isn't
  beside_none : (es : List Ex) (vs : List Val) (e : Ex) → is_among es e ≡ false → value_beside es vs e ≡ None
  beside_none [] vs e m = refl
  beside_none (x ∷ es) [] e m = refl
  beside_none (x ∷ es) (v ∷ vs) e m = not_here x es v vs e (λ k. beside_none es vs e k) (same_ex e x) refl m

  -- an aggregate is among them
  abbrev IsListed : List Ex → Ex → Type 0
  IsListed es e = is_aggregate e ≡ true → is_among es e ≡ true

  pub beside_is : (es : List Ex) (vs : List Val) (e : Ex) → Valued es vs → IsListed es e → value_beside es vs e ≡ aggregate_value all e
  beside_is es vs e h listed = go (is_among es e) refl (is_aggregate e) refl
    where
      go : (m : Bool) → is_among es e ≡ m → (a : Bool) → is_aggregate e ≡ a → value_beside es vs e ≡ aggregate_value all e
      go true m a k = beside_among es vs e h m
      go false m true k = let w : false ≡ true = sym m ∙ listed k in cc
      go false m false k = beside_none es vs e m ∙ sym (no_aggregate all e k)

pub known_is : (q : Query) (g : Group) (row : List Val × List Val) (e : Ex) → Summarizes q g row → (is_aggregate e ≡ true → is_among (aggregates q) e ≡ true)
    → known_of_row q row e ≡ known q.keys g e
known_is q g row e s listed =
    λ i. option_or (value_beside q.keys (s.keys i) e) (beside_is g.members (aggregates q) row.1 e s.aggs listed i)

-- the value of an expression by the lists that are the keys and the aggregates of the query
pub as_row : (q : Query) (es fs : List Ex) (row : List Val × List Val) (e : Ex) → es ≡ q.keys → fs ≡ aggregates q
    → eval (filled (λ x. option_or (value_beside es row.0 x) (value_beside fs row.1 x)) e) (alone missing) ≡ value_of_row q row e
unfolding value_of_row
as_row q es fs row e h k = λ i. eval (filled (λ x. option_or (value_beside (h i) row.0 x) (value_beside (k i) row.1 x)) e) (alone missing)
