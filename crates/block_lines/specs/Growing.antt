-- Lists that grow by what is made of rows.
use Rattle.std.proofs.Common.{◌≡◌, List, [], ◌++◌, map, sym, ap, ◌∙◌, append_assoc, append-nil}
use Rattle.std.proofs.lemmas.List.{map-append}

pub grown_by_none : {A B : Type 0} (f : A → B) (l : List B) → l ≡ l ++ map f []
grown_by_none f l = sym (append-nil l)

pub grown_by_both : {A B : Type 0} (f : A → B) (a b c : List B) (xs ys : List A) → b ≡ a ++ map f xs → c ≡ b ++ map f ys → c ≡ a ++ map f (xs ++ ys)
grown_by_both f a b c xs ys h k =
    k
    ∙ ap (λ l. l ++ map f ys) h
    ∙ append_assoc a (map f xs) (map f ys)
    ∙ ap (λ l. a ++ l) (sym (map-append f xs ys))
