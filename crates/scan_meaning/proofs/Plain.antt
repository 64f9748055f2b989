-- Answers of a query that neither groups nor sorts, for rows and for more rows.
use Rattle.std.proofs.Common.{◌≡◌, ◌⊎◌, ℕ, zero, suc, ◌+◌, ◌-◌, ◌<◌, ◌≤◌, Bool, true, false, not, List, [], ◌∷◌, ◌++◌, length, take, drop, map, filter, Option, Some, None, refl, sym, ap, ◌∙◌, subst, arith, append_assoc}
use Rattle.std.specs.Prelude.{IsPermutation, IsSortedByKey, ◌&&◌, ◌==◌}
use Rattle.std.specs.Option.{option_map}
use Rattle.std.proofs.Math.Logic.{⊎_elim}
use Rattle.std.proofs.lemmas.Bool.{cases_lt}
use Rattle.std.proofs.lemmas.Bool.Decides.{nat_tests}
use Rattle.std.proofs.lemmas.Grind.{flat_map-append}
use Rattle.std.proofs.lemmas.List.{append-nil, length-map, map-append, length-drop}
use Rattle.std.proofs.lemmas.List.Elements.{filter-append}
use Rattle.std.proofs.lemmas.List.Sorted.{IsPermutation-sym, IsPermutation-trans, IsPermutation-append_left, length_permutation}
use Rattle.value_meaning.specs.Val.{Val}
use Rattle.tree_meaning.specs.Tree.{Ex, Query}
use Rattle.check_meaning.specs.Aggregates.{is_grouped}
use Rattle.eval_meaning.specs.Pair.{alone}
use Rattle.eval_meaning.specs.Passed.{passed, is_kept}
use Rattle.answer_meaning.specs.Made.{Output, Made}
use Rattle.answer_meaning.specs.Answers.{limited, keys_cmp}
use Rattle.answer_meaning.specs.Lines.{print, line_text}
use Rattle.made_meaning.specs.MadeRows.{made, made_row}
use Rattle.made_meaning.proofs.Ungrouped.{made_by_rows}
use Rattle.scan_meaning.specs.Batches.{is_plain, need, IsShort}
use Rattle.scan_meaning.specs.Answers.{falling, AreAnswer, AddsAnswer, AddsWhole}

both : (a b : Bool) → (a && b) ≡ true → (a ≡ true) × (b ≡ true)
both true b h = (refl, h)
both false b h = absurd (cc)

is_empty : {A : Type 0} (xs : List A) → (length xs == 0) ≡ true → xs ≡ []
is_empty [] h = refl
is_empty (x ∷ xs) h = absurd (grind (arith, nat_tests))

not_true : (b : Bool) → not b ≡ true → b ≡ false
not_true true h = absurd (cc)
not_true false h = refl

pub unsorted : (q : Query) → is_plain q ≡ true → q.order ≡ []
unsorted q h = is_empty q.order (both (not (is_grouped q)) (length q.order == 0) h).1

pub ungrouped : (q : Query) → is_plain q ≡ true → is_grouped q ≡ false
ungrouped q h = not_true (is_grouped q) (both (not (is_grouped q)) (length q.order == 0) h).0

-- rows behind rows

pub passed-append : (q : Query) (xs ys : List Val) → passed q (xs ++ ys) ≡ passed q xs ++ passed q ys
passed-append q xs ys = ap (λ l. filter (is_kept q.filter) l) (map-append alone xs ys) ∙ filter-append (is_kept q.filter) (map alone xs) (map alone ys)

pub made_is : (q : Query) → is_plain q ≡ true → (rows : List Val) → made q rows ≡ map (made_row q) (passed q rows)
made_is q plain rows = made_by_rows q rows (ungrouped q plain)

pub made-append : (q : Query) → is_plain q ≡ true → (xs ys : List Val) → made q (xs ++ ys) ≡ made q xs ++ made q ys
made-append q plain xs ys =
    made_is q plain (xs ++ ys) ∙ ap (λ l. map (made_row q) l) (passed-append q xs ys) ∙ map-append (made_row q) (passed q xs) (passed q ys)
    ∙ ap (λ (l : List Made). l ++ map (made_row q) (passed q ys)) (sym (made_is q plain xs)) ∙ ap (λ (l : List Made). made q xs ++ l) (sym (made_is q plain ys))

pub made_count : (q : Query) → is_plain q ≡ true → (rows : List Val) → length (made q rows) ≡ length (passed q rows)
made_count q plain rows = ap (λ (l : List Made). length l) (made_is q plain rows) ∙ length-map (passed q rows) (made_row q)

-- OFFSET and LIMIT, on a list and on what follows it

abbrev pub left_of : Option ℕ → ℕ → Option ℕ
left_of None n = None
left_of (Some most) n = Some (most - n)

abbrev pub cut : {A : Type 0} → ℕ → Option ℕ → List A → List A
cut skip most xs = limited most (drop skip xs)

take_both : {A : Type 0} (n : ℕ) (xs ys : List A) → take n (xs ++ ys) ≡ take n xs ++ take (n - length xs) ys
take_both zero xs ys = let e : 0 - length xs ≡ 0 = omega arith in sym (ap (λ (k : ℕ). take k ys) e)
take_both (suc n) [] ys = let e : suc n - 0 ≡ suc n = omega arith in ap (λ (k : ℕ). take k ys) (sym e)
take_both {A} (suc n) (x ∷ xs) ys = let e : suc n - suc (length xs) ≡ n - length xs = omega arith in ap (λ (l : List A). x ∷ l) (take_both n xs ys ∙ ap (λ (k : ℕ). take n xs ++ take k ys) (sym e))

drop_both : {A : Type 0} (n : ℕ) (xs ys : List A) → drop n (xs ++ ys) ≡ drop n xs ++ drop (n - length xs) ys
drop_both zero xs ys = let e : 0 - length xs ≡ 0 = omega arith in sym (ap (λ (k : ℕ). xs ++ drop k ys) e)
drop_both (suc n) [] ys = let e : suc n - 0 ≡ suc n = omega arith in ap (λ (k : ℕ). drop k ys) (sym e)
drop_both (suc n) (x ∷ xs) ys = let e : suc n - suc (length xs) ≡ n - length xs = omega arith in drop_both n xs ys ∙ ap (λ (k : ℕ). drop n xs ++ drop k ys) (sym e)

limited_both : {A : Type 0} (most : Option ℕ) (xs ys : List A) → limited most (xs ++ ys) ≡ limited most xs ++ limited (left_of most (length xs)) ys
limited_both None xs ys = refl
limited_both (Some n) xs ys = take_both n xs ys

pub cut_both : {A : Type 0} (skip : ℕ) (most : Option ℕ) (xs ys : List A) → cut skip most (xs ++ ys) ≡ cut skip most xs ++ cut (skip - length xs) (left_of most (length xs - skip)) ys
cut_both {A} skip most xs ys =
    ap (λ (l : List A). limited most l) (drop_both skip xs ys) ∙ limited_both most (drop skip xs) (drop (skip - length xs) ys)
    ∙ ap (λ (n : ℕ). limited most (drop skip xs) ++ limited (left_of most n) (drop (skip - length xs) ys)) (length-drop skip xs)

limited_none : {A : Type 0} (most : Option ℕ) (xs : List A) → xs ≡ [] → limited most xs ≡ []
limited_none None xs e = e
limited_none {A} (Some zero) xs e = ap (λ (l : List A). take 0 l) e
limited_none {A} (Some (suc n)) xs e = ap (λ (l : List A). take (suc n) l) e

drop_none : {A : Type 0} (n : ℕ) (xs : List A) → xs ≡ [] → drop n xs ≡ []
drop_none {A} zero xs e = e
drop_none {A} (suc n) xs e = ap (λ (l : List A). drop (suc n) l) e

pub cut_none : {A : Type 0} (skip : ℕ) (most : Option ℕ) (xs : List A) → xs ≡ [] → cut skip most xs ≡ []
cut_none skip most xs e = limited_none most (drop skip xs) (drop_none skip xs e)

-- enough rows passed: nothing of what follows is let through
pub needs : (q : Query) → is_plain q ≡ true → need q ≡ option_map (λ n. q.skip + n) q.take
unfolding need
needs q plain = rw plain refl

full_cut : {A : Type 0} (skip n : ℕ) (most : Option ℕ) (xs : List A) → ¬ IsShort (option_map (λ m. skip + m) most) n → cut (skip - n) (left_of most (n - skip)) xs ≡ []
full_cut skip n None xs full = absurd (full tt)
full_cut {A} skip n (Some m) xs full =
    let enough : skip + m ≤ n = ⊎_elim (λ (l : n < skip + m). absurd (full l)) (λ (g : skip + m ≤ n). g) (cases_lt n (skip + m)) in
    let none : m - (n - skip) ≡ 0 = omega arith in
    ap (λ (k : ℕ). take k (drop (skip - n) xs)) none

pub full_none : {A : Type 0} (q : Query) → is_plain q ≡ true → (n : ℕ) (xs : List A) → ¬ IsShort (need q) n → cut (q.skip - n) (left_of q.take (n - q.skip)) xs ≡ []
full_none q plain n xs full = full_cut q.skip n q.take xs (subst (λ (o : Option ℕ). ¬ IsShort o n) (needs q plain) full)

-- answers

abbrev pub outputs_of : List Made → List Output
outputs_of ms = map (λ (m : Made). m.output) ms

-- made rows in any order are an answer, cut by OFFSET and LIMIT
pub in_any_order : (q : Query) → q.order ≡ [] → (rows : List Val) (ms : List Made) → IsPermutation (made q rows) ms → AreAnswer q rows (cut q.skip q.take (outputs_of ms))
in_any_order q none rows ms perm =
    let falls : falling q ≡ [] = ap (λ (o : List (Ex × Bool)). map (λ k. k.1) o) none in
    record {
      arrangement = ms;
      permutes = perm;
      sorted = subst (λ (fs : List Bool). IsSortedByKey (λ (m : Made). m.keys) (keys_cmp fs) ms) (sym falls) (λ k d low high. refl);
      cut = refl;
    }

module _ (q : Query) (plain : is_plain q ≡ true) (rows all : List Val) (more : List Made) (perm : IsPermutation (made q rows ++ more) (made q all)) where
  abbrev behind : List Output
  behind = cut (q.skip - length (made q rows)) (left_of q.take (length (made q rows) - q.skip)) (outputs_of more)

  pub extended : (outputs : List Output) → AreAnswer q rows outputs → (outs : List Output) × AreAnswer q all outs × (print outs ≡ print outputs ++ print behind)
  extended outputs a =
      let ms = a.arrangement ++ more in
      let moved : IsPermutation (made q all) ms = IsPermutation-trans (made q all) (made q rows ++ more) ms (IsPermutation-sym (made q rows ++ more) (made q all) perm) (IsPermutation-append_left more (made q rows) a.arrangement a.permutes) in
      let long : length (outputs_of a.arrangement) ≡ length (made q rows) = length-map a.arrangement (λ (m : Made). m.output) ∙ length_permutation (made q rows) a.arrangement a.permutes in
      let parts : cut q.skip q.take (outputs_of ms) ≡ outputs ++ behind =
      ap (λ (l : List Output). cut q.skip q.take l) (map-append (λ (m : Made). m.output) a.arrangement more)
      ∙ cut_both q.skip q.take (outputs_of a.arrangement) (outputs_of more)
      ∙ ap (λ (l : List Output). l ++ cut (q.skip - length (outputs_of a.arrangement)) (left_of q.take (length (outputs_of a.arrangement) - q.skip)) (outputs_of more)) (sym a.cut)
      ∙ ap (λ (n : ℕ). outputs ++ cut (q.skip - n) (left_of q.take (n - q.skip)) (outputs_of more)) long in (
        cut q.skip q.take (outputs_of ms),
        in_any_order q (unsorted q plain) all ms moved,
        ap (λ (l : List Output). print l) parts ∙ flat_map-append line_text outputs behind,
      )

  none_behind : (more ≡ []) ⊎ ¬ IsShort (need q) (length (made q rows)) → print behind ≡ []
  none_behind h = ap (λ (l : List Output). print l) (⊎_elim
      (λ (e : more ≡ []). cut_none (q.skip - length (made q rows)) (left_of q.take (length (made q rows) - q.skip)) (outputs_of more) (ap (λ (l : List Made). outputs_of l) e))
      (λ (full : ¬ IsShort (need q) (length (made q rows))). full_none q plain (length (made q rows)) (outputs_of more) full)
      h)

  -- what was written of an answer for the rows was written of one for all
  pub adds_more : (status : ℕ) (old new : Option (List ℕ)) → (status ≡ 0 → (more ≡ []) ⊎ ¬ IsShort (need q) (length (made q rows))) → AddsAnswer q rows status old new → AddsAnswer q all status old new
  adds_more status old new enough h =
      let x = extended h.outputs h.answer in
      record {
        outputs = x.0;
        answer = x.1;
        added = h.added;
        appends = h.appends;
        whole = λ e. h.whole e ∙ sym (x.2 ∙ ap (λ (l : List ℕ). print h.outputs ++ l) (none_behind (enough e)) ∙ append-nil (print h.outputs));
        front = (h.front.0 ++ print behind, x.2 ∙ ap (λ (l : List ℕ). l ++ print behind) h.front.1 ∙ append_assoc h.added h.front.0 (print behind));
      }

pub whole_adds : (q : Query) (rows : List Val) (status : ℕ) (old new : Option (List ℕ)) → AddsWhole q rows old new → AddsAnswer q rows status old new
whole_adds q rows status old new h = record {
  outputs = h.outputs;
  answer = h.answer;
  added = print h.outputs;
  appends = h.appends;
  whole = λ e. refl;
  front = ([], sym (append-nil (print h.outputs)));
}
