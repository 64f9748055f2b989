-- What a query makes of rows depends on those that pass alone, and not on their order.
use Rattle.std.proofs.Common.{◌≡◌, ℕ, List, [], ◌∷◌, map, Bool, true, false, cond, refl, ap, ◌∙◌, subst}
use Rattle.std.specs.Prelude.{◌&&◌, nat_lt}
use Rattle.std.specs.List.Sorted.{IsPermutation}
use Rattle.std.proofs.lemmas.List.Sorted.{IsPermutation-map, IsPermutation-sym, IsPermutation-trans, length_permutation}
use Rattle.value_meaning.specs.Val.{Val}
use Rattle.tree_meaning.specs.Tree.{Query}
use Rattle.check_meaning.specs.Aggregates.{is_grouped}
use Rattle.eval_meaning.specs.Pair.{Pair, alone}
use Rattle.eval_meaning.specs.Passed.{passed, is_kept}
use Rattle.agg_meaning.proofs.DistinctKeys.{distinct_shuffled}
use Rattle.answer_meaning.specs.Made.{Output, Made}
use Rattle.made_meaning.specs.OverGroups.{values_on}
use Rattle.made_meaning.specs.MadeRows.{made, made_groups, made_rows}
use Rattle.made_meaning.proofs.Shuffled.{made_shuffled}
use Rattle.scan_meaning.specs.Limits.{key_lists, is_over}
use Rattle.scan_meaning.specs.Answers.{AreAnswer}

-- the rows that pass
abbrev kept_rows : Query → List Val → List Val
kept_rows q rows = map (λ (p : Pair). p.row) (passed q rows)

passed_again : (q : Query) (rows : List Val) → passed q (kept_rows q rows) ≡ passed q rows
passed_again q [] = refl
passed_again q (r ∷ rs) = on (passed_again q rs) (is_kept q.filter (alone r)) refl
  where
    on : passed q (kept_rows q rs) ≡ passed q rs → (t : Bool) → is_kept q.filter (alone r) ≡ t
        → passed q (map (λ (p : Pair). p.row) (cond t (alone r ∷ passed q rs) (passed q rs))) ≡ cond t (alone r ∷ passed q rs) (passed q rs)
    on next true e = ap (λ (t : Bool). cond t (alone r ∷ passed q (kept_rows q rs)) (passed q (kept_rows q rs))) e ∙ ap (λ (l : List Pair). alone r ∷ l) next
    on next false e = next

made_of_passed : (q : Query) (rows others : List Val) → passed q rows ≡ passed q others → made q rows ≡ made q others
unfolding made
made_of_passed q rows others e = ap (λ (l : List Pair). cond (is_grouped q) (made_groups q l) (made_rows q l)) e

module _ (q : Query) (rows others : List Val) (h : IsPermutation (passed q rows) (passed q others)) where
  made_moved : IsPermutation (made q rows) (made q others)
  made_moved =
      let p = made_shuffled q (kept_rows q rows) (kept_rows q others) (IsPermutation-map (λ (x : Pair). x.row) (passed q rows) (passed q others) h) in
      subst (λ (l : List Made). IsPermutation l (made q others)) (made_of_passed q (kept_rows q rows) rows (passed_again q rows))
      (subst (λ (l : List Made). IsPermutation (made q (kept_rows q rows)) l) (made_of_passed q (kept_rows q others) others (passed_again q others)) p)

  pub answer_moved : (outputs : List Output) → AreAnswer q rows outputs → AreAnswer q others outputs
  answer_moved outputs a = record {
    arrangement = a.arrangement;
    permutes = IsPermutation-trans (made q others) (made q rows) a.arrangement (IsPermutation-sym (made q rows) (made q others) made_moved) a.permutes;
    sorted = a.sorted;
    cut = a.cut;
  }

  pub over_moved : (limit : ℕ) → is_over q limit others ≡ is_over q limit rows
  unfolding is_over
  over_moved limit =
      ap (λ (n : ℕ). is_grouped q && nat_lt limit n)
      (length_permutation (key_lists q rows) (key_lists q others) (distinct_shuffled _ _ (IsPermutation-map (values_on q.keys) (passed q rows) (passed q others) h)))
