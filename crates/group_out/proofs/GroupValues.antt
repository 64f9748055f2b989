-- What the query makes of a group's row is what it makes of the group.
use Rattle.std.proofs.Common.{◌≡◌, ℕ, ◌+◌, Bool, true, false, cond, List, [], ◌∷◌, ◌++◌, map, Option, Some, None, refl, sym, ◌∙◌, ap}
use Rattle.std.specs.List.{filter, enumerate_from}
use Rattle.value_meaning.specs.Val.{Val, missing}
use Rattle.tree_meaning.specs.Tree.{Ex, Outs, Query, star, named}
use Rattle.check_meaning.specs.Parts.{parts}
use Rattle.check_meaning.specs.Place.{Place}
use Rattle.check_meaning.specs.Place as at
use Rattle.check_meaning.specs.Places.{alone, output_exs, order_ex}
use Rattle.check_meaning.specs.Aggregates.{is_aggregate, is_among, aggregates}
use Rattle.eval_meaning.specs.Logic.{is_true}
use Rattle.eval_meaning.specs.Evaluation.{eval}
use Rattle.eval_meaning.specs.Pair.{alone as one_pair}
use Rattle.made_meaning.specs.OverGroups.{Group, known, over}
use Rattle.made_meaning.specs.MadeRows.{named_value, has_value, output_by, made_group, has_true, kept_groups}
use Rattle.group_out.specs.Summaries.{Summarizes, AreSummaries}
use Rattle.group_out.specs.Rows.{keyed, row_of_group, rows_of_groups}
use Rattle.group_out.specs.Values.{known_of_row, value_of_row, made_of_row, listed, made_of_rows}
use Rattle.group_out.proofs.Each.{Each, for_each}
use Rattle.group_out.proofs.Agreeing.{same_filled}
use Rattle.group_out.proofs.KnownValues.{known_is}
use Rattle.group_out.proofs.Listed.{AreListed, listed as listed_of}

module _ (q : Query) (g : Group) (row : List Val × List Val) (s : Summarizes q g row) where
  -- the value of an expression whose aggregates are the query's
  value_is : (e : Ex) → AreListed q e → value_of_row q row e ≡ over q g e
  unfolding value_of_row over
  value_is e h =
      ap (λ x. eval x (one_pair missing))
      (same_filled (known_of_row q row) (known q.keys g) e
      (for_each (λ p. is_aggregate p ≡ true → is_among (aggregates q) p ≡ true) (λ p. known_of_row q row p ≡ known q.keys g p) (parts e) h (λ p k. known_is q g row p s k)))

  abbrev Same : Ex → Type 0
  Same e = value_of_row q row e ≡ over q g e

  same_of : (es : List Ex) → Each (AreListed q) es → Each Same es
  same_of es h = for_each (AreListed q) Same es h value_is

  same_pairs : (n : ℕ) (items : List (Ex × Option (List ℕ))) → Each Same (map (λ o. o.0) items)
      → map (named_value (value_of_row q row)) (enumerate_from n items) ≡ map (named_value (over q g)) (enumerate_from n items)
  same_pairs n [] h = refl
  same_pairs n (o ∷ items) h = λ i. named_value (λ _. h.0 i) (n, o) ∷ same_pairs (n + 1) items h.1 i

  same_output : (outs : Outs) → Each Same (output_exs outs) → output_by (value_of_row q row) [] outs ≡ output_by (over q g) [] outs
  same_output star h = refl
  same_output (named items) h = ap (filter has_value) (same_pairs 1 items h)

  same_having : (o : Option Ex) → Each (λ (x : Place × Ex). AreListed q x.1) (alone at.having o) → has_true o (value_of_row q row) ≡ has_true o (over q g)
  same_having None h = refl
  same_having (Some e) h = ap is_true (value_is e h.0)

  same_keys : (ks : List (Ex × Bool)) → Each Same (map (λ k. order_ex q.outs k.0) ks)
      → map (λ (k : Ex × Bool). value_of_row q row (order_ex q.outs k.0)) ks ≡ map (λ k. over q g (order_ex q.outs k.0)) ks
  same_keys [] h = refl
  same_keys (k ∷ ks) h = λ i. h.0 i ∷ same_keys ks h.1 i

  pub made_is : made_of_row q row ≡ row_of_group q g
  made_is =
      let l = listed_of q in
      let kept = same_having q.having l.having in
      let keys = same_keys q.order (same_of _ l.order) in
      let output = same_output q.outs (same_of _ l.outputs) in
      λ i. cond (kept i) (Some (keyed (record { keys = keys i; output = output i }))) None

-- the rows of groups, group by group
row_listed : (q : Query) (g : Group) (gs : List Group) → rows_of_groups q (g ∷ gs) ≡ listed (row_of_group q g) ++ rows_of_groups q gs
row_listed q g gs = go (has_true q.having (over q g))
  where
    go : (b : Bool) → map keyed (map (made_group q) (cond b (g ∷ kept_groups q gs) (kept_groups q gs))) ≡ listed (cond b (Some (keyed (made_group q g))) None) ++ rows_of_groups q gs
    go true = refl
    go false = refl

pub all_made : (q : Query) (gs : List Group) (rows : List (List Val × List Val)) → AreSummaries q gs rows → made_of_rows q rows ≡ rows_of_groups q gs
all_made q [] [] h = refl
all_made q [] (r ∷ rows) h = absurd h
all_made q (g ∷ gs) [] h = absurd h
all_made q (g ∷ gs) (r ∷ rows) h = (λ i. listed (made_is q g r h.0 i) ++ all_made q gs rows h.1 i) ∙ sym (row_listed q g gs)
