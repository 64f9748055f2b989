-- The rows that a query makes of groups have a key for each order key, and arranged they are the query's answer.
use Rattle.std.proofs.Common.{◌≡◌, Bool, true, false, cond, List, [], ◌∷◌, map, length, Some, None, sym, ap, ◌∙◌, subst}
use Rattle.std.specs.Prelude.{All, Result, Ok, Err, IfOk}
use Rattle.std.specs.List.Sorted.{IsPermutation}
use Rattle.std.proofs.lemmas.List.{length-map}
use Rattle.std.proofs.lemmas.List.Elements.{All-nil, All-cons, All-append}
use Rattle.std.proofs.lemmas.List.Sorted.{IsPermutation-map}
use Rattle.agg_meaning.proofs.Filters.{filter-shuffled}
use Rattle.value_meaning.specs.Val.{Val}
use Rattle.tree_meaning.specs.Tree.{Query}
use Rattle.check_meaning.specs.Aggregates.{is_grouped}
use Rattle.eval_meaning.specs.Passed.{passed}
use Rattle.made_meaning.specs.OverGroups.{Group, groups, over}
use Rattle.made_meaning.specs.MadeRows.{has_true, made_by, made_group, made_rows, made_groups, made}
use Rattle.scan_meaning.specs.Answers.{falling}
use Rattle.group_out.specs.Rows.{keyed, rows_of_groups}
use Rattle.group_out.specs.Values.{value_of_row, made_of_row, listed, made_of_rows}
use Rattle.order_limit.specs.Arranged.{Row, AreKeyed, IsArranged}
use Rattle.order_limit.specs.Laws.{PrintsAnswer}
use Rattle.order_limit.proofs.Answered.{arranged_answers}

module _ (q : Query) where
  abbrev HasKeys : Row → Type 0
  HasKeys r = length r.0 ≡ length (falling q)

  one_keyed : (row : List Val × List Val) → All HasKeys (listed (made_of_row q row))
  one_keyed row = go (has_true q.having (value_of_row q row))
    where
      made_row : Row
      made_row = keyed (made_by q (value_of_row q row) [])

      go : (b : Bool) → All HasKeys (listed (cond b (Some made_row) None))
      go true = All-cons HasKeys made_row [] (length-map q.order _ ∙ sym (length-map q.order _)) (All-nil HasKeys)
      go false = All-nil HasKeys

  rows_keyed : (rows : List (List Val × List Val)) → All HasKeys (made_of_rows q rows)
  rows_keyed [] = All-nil HasKeys
  rows_keyed (r ∷ rows) = All-append HasKeys (listed (made_of_row q r)) (made_of_rows q rows) (one_keyed r) (rows_keyed rows)

  -- whatever the rows of groups, those that are made of them have a key for each flag
  pub are_keyed : (rows : List (List Val × List Val)) (flags : List Bool) (unsorted : List Row) → unsorted ≡ made_of_rows q rows → flags ≡ falling q → AreKeyed flags unsorted
  are_keyed rows flags unsorted is f =
      subst (λ us. AreKeyed flags us) (sym is) (subst (λ fs. AreKeyed fs (made_of_rows q rows)) (sym f) (rows_keyed rows))

  grouped_makes : (all : List Val) → is_grouped q ≡ true → made_groups q (passed q all) ≡ made q all
  unfolding made
  grouped_makes all h = sym (ap (λ b. cond b (made_groups q (passed q all)) (made_rows q (passed q all))) h)

  free : (all : List Val) (gs : List Group) → is_grouped q ≡ true → IsPermutation (groups q.keys (passed q all)) gs
      → IsPermutation (map keyed (made q all)) (rows_of_groups q gs)
  free all gs h p =
      let kept = filter-shuffled (λ g. has_true q.having (over q g)) (groups q.keys (passed q all)) gs p in
      subst (λ ms. IsPermutation (map keyed ms) (rows_of_groups q gs)) (grouped_makes all h)
      (IsPermutation-map keyed _ _ (IsPermutation-map (made_group q) _ _ kept))

  pub answers : (all : List Val) (gs : List Group) (flags : List Bool) (unsorted out : List Row) → is_grouped q ≡ true
      → IsPermutation (groups q.keys (passed q all)) gs → unsorted ≡ rows_of_groups q gs → flags ≡ falling q
      → IsArranged flags q.skip q.take unsorted out → PrintsAnswer (falling q) q.skip q.take (made q all) out
  answers all gs flags unsorted out h p is f arranged =
      arranged_answers (falling q) q.skip q.take (made q all) (rows_of_groups q gs) out (free all gs h p)
      (subst (λ us. IsArranged (falling q) q.skip q.take us out) is (subst (λ fs. IsArranged fs q.skip q.take unsorted out) f arranged))

  pub answered : {E : Type 0} (all : List Val) (gs : List Group) (flags : List Bool) (unsorted : List Row) (result : Result (List Row) E) → is_grouped q ≡ true
      → IsPermutation (groups q.keys (passed q all)) gs → unsorted ≡ rows_of_groups q gs → flags ≡ falling q
      → IfOk result (IsArranged flags q.skip q.take unsorted) → IfOk result (PrintsAnswer (falling q) q.skip q.take (made q all))
  answered all gs flags unsorted (Ok out) h p is f arranged = answers all gs flags unsorted out h p is f arranged
  answered all gs flags unsorted (Err e) h p is f arranged = tt
