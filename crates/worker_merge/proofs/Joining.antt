-- What a sink grows by where another is joined to it.
use Rattle.std.proofs.Common.{◌≡◌, ℕ, List, [], ◌∷◌, ◌++◌, map, reverse, OnOk, Result, Ok, Err, refl, sym, ap, ◌∙◌}
use Rattle.std.proofs.lemmas.List.{map-append, reverse-append}
use Rattle.std.proofs.lemmas.List.Sorted.{IsPermutation-reverse}
use Rattle.value_meaning.specs.Val.{Val}
use Rattle.program_meaning.specs.Jobs.{Job}
use Rattle.scan_meaning.specs.Blocks.{Block}
use Rattle.worker_merge.specs.Growing.{GrewSomehow}
use Rattle.worker_merge.specs.Hands.{HandsInOrder, HandsRows}
use Rattle.worker_merge.proofs.More.{in_some_order}

map_reversed : {A B : Type 0} (f : A → B) (xs : List A) → map f (reverse xs) ≡ reverse (map f xs)
map_reversed f [] = refl
map_reversed {A} {B} f (x ∷ xs) =
    ap (λ (l : List A). map f l) (reverse-append (x ∷ []) xs) ∙ map-append f (reverse xs) (x ∷ [])
    ∙ ap (λ (l : List B). l ++ f x ∷ []) (map_reversed f xs) ∙ sym (reverse-append (f x ∷ []) (map f xs))

-- rows that are added from the last one on
pub added_backwards : {B E : Type 0} (f : Job → Val → B) (r : Result (Unit {0}) E) (old new other empty : List B) (job : Job) (rows : List Val)
    → OnOk r (new ≡ old ++ reverse other) → empty ≡ [] → other ≡ empty ++ map (f job) rows
    → OnOk r (GrewSomehow (λ a b j rs. b ≡ a ++ map (f j) rs) old new job rows)
added_backwards {B} f (Ok u) old new other empty job rows h none grown = record {
  order = reverse rows;
  permutes = IsPermutation-reverse rows;
  grew_by = h ∙ ap (λ (l : List B). old ++ reverse l) (grown ∙ ap (λ (l : List B). l ++ map (f job) rows) none) ∙ ap (λ (l : List B). old ++ l) (sym (map_reversed (f job) rows));
}
added_backwards f (Err e) old new other empty job rows h none grown = tt

-- rows in order are rows in some order
pub ordered_ok : {A E : Type 0} (grew : A → A → Job → List Val → Type 0) (r : Result (Unit {0}) E) (job : Job) (bs : List Block) (old new : A) (a b c d : ℕ)
    → OnOk r (HandsInOrder grew job bs old new a b c d) → OnOk r (HandsRows grew job bs old new a b c d)
ordered_ok grew (Ok u) job bs old new a b c d h = in_some_order grew job bs old new a b c d h
ordered_ok grew (Err e) job bs old new a b c d h = tt
