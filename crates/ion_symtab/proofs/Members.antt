-- The items of lists and the pairs of structs, taken one by one.
use Rattle.std.proofs.Common.{◌≡◌, ℕ, ◌+◌, ◌-◌, ◌<◌, ◌≤◌, List, [], ◌∷◌, ◌++◌, Some, None, sym, ap, subst, ◌∙◌, arith}
use Rattle.std.proofs.lemmas.List.{append_assoc}
use Rattle.std.specs.Prelude.{unwrap_or}
use Rattle.value_meaning.specs.Val.{Val, size, vals_size, fields_size, vals, fields}
use Rattle.value_meaning.specs.Pairs.{IsBelow, IsAboveLast}
use Rattle.block_meaning.specs.Tables.{Table, TextsRise, text_of}
use Rattle.block_meaning.proofs.Answered.{none_is}
use Rattle.block_meaning.proofs.Symbols.{text_of_some, text_of_range, text_of_is}
use Rattle.ion_cells.specs.Standing.{HasLast}
use Rattle.ion_symtab.proofs.Lookups.{rising}

-- a member is smaller than what holds it

item_in : (done : List Val) (v : Val) (after : List Val) → size v < vals_size (vals (done ++ v ∷ after))
item_in [] v after = omega arith
item_in (w ∷ done) v after = omega (arith, item_in done v after)

pub item_smaller : (done : List Val) (v : Val) (after left whole : List Val) → left ≡ v ∷ after → done ++ left ≡ whole → size v < vals_size (vals whole)
item_smaller done v after left whole e f =
    let P : List Val → Type 0 = λ vs. size v < vals_size (vals vs) in
    subst P (ap (λ (vs : List Val). done ++ vs) (sym e) ∙ f) (item_in done v after)

pair_in : (done : List (List ℕ × Val)) (p : List ℕ × Val) (after : List (List ℕ × Val)) → size p.1 < fields_size (fields (done ++ p ∷ after))
pair_in [] p after = omega arith
pair_in (q ∷ done) p after = omega (arith, pair_in done p after)

pub pair_smaller : (done : List (List ℕ × Val)) (p : List ℕ × Val) (after left whole : List (List ℕ × Val)) → left ≡ p ∷ after → done ++ left ≡ whole → size p.1 < fields_size (fields whole)
pair_smaller done p after left whole e f =
    let P : List (List ℕ × Val) → Type 0 = λ fs. size p.1 < fields_size (fields fs) in
    subst P (ap (λ (fs : List (List ℕ × Val)). done ++ fs) (sym e) ∙ f) (pair_in done p after)

-- one member more

pub one_more : {A : Type 0} (done next : List A) (x y : A) (after left whole : List A) → left ≡ x ∷ after → done ++ left ≡ whole → y ≡ x → next ≡ done ++ y ∷ [] → next ++ after ≡ whole
one_more done next x y after left whole e f same pushed =
    ap (λ ys. ys ++ after) pushed ∙ append_assoc done (y ∷ []) after ∙ ap (λ z. done ++ z ∷ after) same ∙ ap (λ zs. done ++ zs) (sym e) ∙ f

-- labels and their texts

pub has_text : (table : Table) (last n : ℕ) → HasLast table last → 10 ≤ n → n ≤ last → None ≡ text_of table n → ⊥
has_text table last n has low high e =
    let s = text_of_some table n low (omega arith) in
    none_is s.0 (e ∙ s.1)

pub name_is : (table : Table) (n : ℕ) (s : List ℕ) → Some s ≡ text_of table n → s ≡ unwrap_or (text_of table n) []
name_is table n s e = ap (λ o. unwrap_or o []) e

above_end : (done : List (List ℕ × Val)) (name : List ℕ) (v : Val) (s : List ℕ) → IsBelow name s → IsAboveLast s (done ++ (name, v) ∷ [])
above_end [] name v s h = h
above_end (p ∷ []) name v s h = h
above_end (p ∷ q ∷ done) name v s h = above_end (q ∷ done) name v s h

-- a text of a higher number is above the last name
pub above_next : (table : Table) (done next : List (List ℕ × Val)) (name : List ℕ) (v : Val) (label low n : ℕ) (s : List ℕ) → TextsRise table → Some name ≡ text_of table label → low ≡ label + 1 → low ≤ n → text_of table n ≡ Some s → next ≡ done ++ (name, v) ∷ [] → IsAboveLast s next
above_next table done next name v label low n s rise named after high e pushed =
    let a = text_of_is table label name [] (sym named) in
    let b = text_of_is table n s [] e in
    let r = text_of_range table label name (sym named) in
    let below = rising table (label - 10) (n - 10) [] rise (omega arith) b.0 in
    let is : IsBelow name s = rw (a.1, b.1) at below in
    rw pushed (above_end done name v s is)
