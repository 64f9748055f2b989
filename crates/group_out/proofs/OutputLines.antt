-- The pairs of a line, output by output, and the rows of groups, row by row.
use Rattle.std.proofs.Common.{◌≡◌, ℕ, zero, suc, ◌+◌, ◌<◌, ◌≤◌, List, [], ◌∷◌, ◌++◌, length, map, take, drop, Option, Some, None, refl, sym, ◌∙◌, ap, subst, append_assoc, arith}
use Rattle.std.specs.Prelude.{slice_get}
use Rattle.std.specs.List.{filter, enumerate_from}
use Rattle.std.proofs.lemmas.List.Elements.{filter-append}
use Rattle.value_meaning.specs.Val.{Val, missing, null, truth, int, time, text, list, struct}
use Rattle.tree_meaning.specs.Tree.{Ex, Outs, Query, named}
use Rattle.tree_meaning.specs.WellFormed.{IsWellFormed, IsOutput, AreOutputs}
use Rattle.check_meaning.specs.Names.{names, output_name}
use Rattle.answer_meaning.specs.Made.{Output}
use Rattle.made_meaning.specs.MadeRows.{named_value, has_value, output_by}
use Rattle.json_out.specs.Begun.{pair_if_any}
use Rattle.query_walk.proofs.Listed.{some_is, some_below, mapped_at, whole}
use Rattle.query_walk.proofs.Smaller.{taken_more}
use Rattle.query_walk.proofs.Searching.{drop_at, drop_end}
use Rattle.query_check.proofs.Numbered.{numbered_at, length_mapped}
use Rattle.group_out.specs.Summaries.{IsPrintable, IsPrintableRow}
use Rattle.group_out.specs.Values.{value_of_row, made_of_row, listed, made_of_rows}
use Rattle.group_out.proofs.Each.{each_of, holds_at}
use Rattle.group_out.proofs.PrintableValues.{row_value}

abbrev pub Item : Type 0
Item = Ex × Option (List ℕ)

-- the pair of a value, and none where it is MISSING
pub one_pair : (n : List ℕ) (v : Val) → filter has_value ((n, v) ∷ []) ≡ pair_if_any n v
one_pair n missing = refl
one_pair n null = refl
one_pair n (truth b) = refl
one_pair n (int k) = refl
one_pair n (time t) = refl
one_pair n (text s) = refl
one_pair n (list vs) = refl
one_pair n (struct fs) = refl

-- the name of an output, by its place
pub name_is : (outs : Outs) (all : List Item) (k : ℕ) (item : Item) (n : List ℕ) → outs ≡ named all → slice_get all k ≡ Some item
    → slice_get (names outs) k ≡ Some n → n ≡ output_name (k + 1) item
unfolding names
name_is outs all k item n is there found =
    let at = mapped_at (λ (o : ℕ × Item). output_name o.0 o.1) (enumerate_from 1 all) k _ (numbered_at all 1 k item there) in
    some_is n (output_name (1 + k) item) (sym found ∙ ap (λ o. slice_get (names o) k) is ∙ at) ∙ ap (λ m. output_name m item) (omega arith)

-- each output has a name
pub named_there : (outs : Outs) (all : List Item) (k : ℕ) → outs ≡ named all → k < length all → None ≡ slice_get (names outs) k → ⊥
unfolding names
named_there outs all k is h e =
    let name : ℕ × Item → List ℕ = λ o. output_name o.0 o.1 in
    some_below (map name (enumerate_from 1 all)) k (omega (arith, h, length_mapped name all)) (sym (e ∙ ap (λ o. slice_get (names o) k) is))

pub there_is : {A : Type 0} (xs : List A) (k : ℕ) → k < length xs → (x : A) × (slice_get xs k ≡ Some x)
there_is [] k h = absurd (omega (arith, h))
there_is (x ∷ xs) zero h = (x, refl)
there_is (x ∷ xs) (suc k) h = there_is xs k (omega (arith, h))

module _ (q : Query) (row : List Val × List Val) where
  abbrev pub value : Ex → Val
  value = value_of_row q row

  -- the pair of an output
  pub pair_is : (k : ℕ) (item : Item) (n : List ℕ) (v : Val) → n ≡ output_name (k + 1) item → v ≡ value item.0
      → pair_if_any n v ≡ filter has_value (named_value value (k + 1, item) ∷ [])
  pair_is k item n v a b = (λ i. pair_if_any (a i) (b i)) ∙ sym (one_pair (output_name (k + 1) item) (value item.0))

  pub output_printable : IsPrintableRow row → IsWellFormed q → (all : List Item) → q.outs ≡ named all → (k : ℕ) (item : Item)
      → slice_get all k ≡ Some item → IsPrintable (value item.0)
  output_printable p w all is k item there =
      let outs = subst AreOutputs is w.outs in row_value q row p item.0 (holds_at IsOutput all k item (each_of IsOutput all outs.1) there).0

  abbrev pub named_values : List Item → Output
  named_values all = map (named_value value) (enumerate_from 1 all)

  value_at : (all : List Item) (k : ℕ) (item : Item) → slice_get all k ≡ Some item → slice_get (named_values all) k ≡ Some (named_value value (k + 1, item))
  value_at all k item there =
      mapped_at (named_value value) (enumerate_from 1 all) k _ (numbered_at all 1 k item there) ∙ ap (λ m. Some (named_value value (m, item))) (omega arith)

  -- the pairs of one more output
  pub one_more : (all : List Item) (k : ℕ) (item : Item) → slice_get all k ≡ Some item
      → filter has_value (take k (named_values all)) ++ filter has_value (named_value value (k + 1, item) ∷ []) ≡ filter has_value (take (k + 1) (named_values all))
  one_more all k item there =
      let before = take k (named_values all) in
      let next = named_value value (k + 1, item) in
      let more : before ++ next ∷ [] ≡ take (k + 1) (named_values all) =
      taken_more before (before ++ next ∷ []) (named_values all) k next next (value_at all k item there) refl refl refl in
      sym (filter-append has_value before (next ∷ [])) ∙ ap (filter has_value) more

  pub all_values : (all : List Item) (k : ℕ) → length all ≤ k → filter has_value (take k (named_values all)) ≡ output_by value [] (named all)
  all_values all k h = ap (filter has_value) (whole (named_values all) k (omega (arith, h, length_mapped (named_value value) all)))

-- rows that are made up to a place
abbrev pub Row : Type 0
Row = List Val × List Val

pub made_more : (q : Query) (rows : List Row) (k : ℕ) (row : Row) (made new : List (List Val × List ℕ)) → slice_get rows k ≡ Some row
    → new ≡ made ++ listed (made_of_row q row) → made ++ made_of_rows q (drop k rows) ≡ made_of_rows q rows
    → new ++ made_of_rows q (drop (k + 1) rows) ≡ made_of_rows q rows
made_more q rows k row made new there is sofar =
    ap (λ l. l ++ made_of_rows q (drop (k + 1) rows)) is ∙ append_assoc made (listed (made_of_row q row)) (made_of_rows q (drop (k + 1) rows))
    ∙ sym (ap (λ l. made ++ made_of_rows q l) (drop_at rows k row there)) ∙ sofar

ends : {A : Type 0} (xs : List A) → xs ++ [] ≡ xs
ends [] = refl
ends (x ∷ xs) = ap (λ l. x ∷ l) (ends xs)

pub all_rows : (q : Query) (rows : List Row) (k : ℕ) (made : List (List Val × List ℕ)) → length rows ≤ k
    → made ++ made_of_rows q (drop k rows) ≡ made_of_rows q rows → made ≡ made_of_rows q rows
all_rows q rows k made h sofar = sym (ends made) ∙ sym (ap (λ l. made ++ made_of_rows q l) (drop_end rows k h)) ∙ sofar
