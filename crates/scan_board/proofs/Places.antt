-- Values that are put into places, and taken from them.
use Rattle.std.proofs.Common.{◌≡◌, ◌<◌, ◌↔◌, ◌&&◌, Bool, true, false, Option, Some, None, IsSome, List, [], ◌∷◌, ◌++◌, length, option_to_list, MatchOption, is_some, sym, refl, ap, ◌∙◌, arith}
use Rattle.std.specs.List.{list_all}
use Rattle.std.specs.Option.{option_flatten}
use Rattle.std.proofs.lemmas.List.Elements.{filter_map-append}
use Rattle.std.proofs.lemmas.List.Folds.{list_all-append}
use Rattle.scan_board.specs.Places.{present}

and_left : (a b : Bool) → (a && b) ≡ true → a ≡ true
and_left true b e = refl
and_left false b e = e

and_right : (a b : Bool) → (a && b) ≡ true → b ≡ true
and_right true b e = e
and_right false b e = absurd (let no : false ≡ true = e in cc)

module _ {A : Type 0} where
  pub length-present : (xs : List (Option A)) → list_all is_some xs ≡ true → length (present xs) ≡ length xs
  length-present [] h = refl
  length-present (None ∷ xs) h = absurd (let no : false ≡ true = h in cc)
  length-present (Some x ∷ xs) h = omega (arith, length-present xs h)

  pub present-snoc : (xs : List (Option A)) (x : A) → present (xs ++ Some x ∷ []) ≡ present xs ++ x ∷ []
  present-snoc xs x = filter_map-append (λ y. y) xs (Some x ∷ [])

  pub whole-snoc : (xs : List (Option A)) (x : A) → list_all is_some xs ≡ true → list_all is_some (xs ++ Some x ∷ []) ≡ true
  whole-snoc xs x h = list_all-append is_some xs (Some x ∷ []) ∙ ap (λ b. b && true) h

  pub whole-front : (xs ys zs : List (Option A)) → list_all is_some xs ≡ true → xs ≡ ys ++ zs → list_all is_some ys ≡ true
  whole-front xs ys zs h e = and_left _ _ (sym (list_all-append is_some ys zs) ∙ ap (list_all is_some) (sym e) ∙ h)

  -- the last value is taken
  pub taken : (xs ys : List (Option A)) (last : Option (Option A)) → list_all is_some xs ≡ true → xs ≡ ys ++ option_to_list last → (IsSome last ↔ (0 < length xs))
      → MatchOption (option_flatten last) ((present xs ≡ []) × (present ys ≡ [])) (λ x. present xs ≡ present ys ++ x ∷ [])
  taken xs ys None h e variant = none xs ys e (λ some. let has : false ≡ true = variant.1 some in cc)
    where
      none : (xs ys : List (Option A)) → xs ≡ ys ++ [] → (0 < length xs → ⊥) → (present xs ≡ []) × (present ys ≡ [])
      none xs [] e empty = (ap present e, refl)
      none xs (y ∷ ys) e empty = absurd (empty (let count = ap length e in omega arith))
  taken xs ys (Some None) h e variant = absurd (let all = sym (list_all-append is_some ys (None ∷ [])) ∙ ap (list_all is_some) (sym e) ∙ h in let no : false ≡ true = and_left false true (and_right (list_all is_some ys) (false && true) all) in cc)
  taken xs ys (Some (Some x)) h e variant = ap present e ∙ present-snoc ys x
