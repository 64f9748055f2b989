-- What stands at a place of a query.
use Rattle.std.proofs.Common.{◌≡◌, ℕ, zero, suc, ◌+◌, ◌-◌, ◌<◌, ◌≤◌, List, [], ◌∷◌, ◌++◌, length, map, Option, Some, None, refl, sym, ◌∙◌, ap, arith, length-append}
use Rattle.std.specs.Prelude.{slice_get, Bool}
use Rattle.std.specs.List.{enumerate_from}
use Rattle.std.proofs.lemmas.List.{length-map}
use Rattle.tree_meaning.specs.Tree.{Ex, Query}
use Rattle.check_meaning.specs.Place.{Place, output, where_test, group_key, having, order_key}
use Rattle.check_meaning.specs.Places.{counted, alone, output_exs, order_ex, places}
use Rattle.query_check.specs.Placed.{order_places, having_places, key_places, where_places}
use Rattle.query_walk.proofs.Listed.{mapped_at}
use Rattle.query_check.proofs.Numbered.{numbered_at, length_mapped}

module _ {A : Type 0} where
  pub get_left : (xs ys : List A) (k : ℕ) (x : A) → slice_get xs k ≡ Some x → slice_get (xs ++ ys) k ≡ Some x
  get_left [] ys k x h = cc
  get_left (z ∷ xs) ys zero x h = h
  get_left (z ∷ xs) ys (suc k) x h = get_left xs ys k x h

  pub get_right : (xs ys : List A) (k : ℕ) → length xs ≤ k → slice_get (xs ++ ys) k ≡ slice_get ys (k - length xs)
  get_right [] ys k h = ap (slice_get ys) (omega arith)
  get_right (z ∷ xs) ys zero h = absurd (omega (arith, h))
  get_right (z ∷ xs) ys (suc k) h = get_right xs ys k (omega (arith, h)) ∙ ap (slice_get ys) (omega arith)

pub length_counted : (at : ℕ → Place) (es : List Ex) → length (counted at es) ≡ length es
length_counted at es = length_mapped (λ n. (at n.0, n.1)) es

pub counted_at : (at : ℕ → Place) (es : List Ex) (k : ℕ) (x : Ex) → slice_get es k ≡ Some x → slice_get (counted at es) k ≡ Some (at (1 + k), x)
counted_at at es k x h = mapped_at (λ n. (at n.0, n.1)) (enumerate_from 1 es) k (1 + k, x) (numbered_at es 1 k x h)

-- of an expression that may be absent and of what stands behind it
module _ (at : Place) (o : Option Ex) (rest : List (Place × Ex)) where
  pub alone_here : (e : Ex) → o ≡ Some e → slice_get (alone at o ++ rest) 0 ≡ Some (at, e)
  alone_here e h = rw h refl

  pub alone_later : (e : Ex) (k : ℕ) → o ≡ Some e → (k ≡ 0 → ⊥) → slice_get (alone at o ++ rest) k ≡ slice_get rest (k - 1)
  alone_later e k h other = rw h (later k other)
    where
      later : (k : ℕ) → (k ≡ 0 → ⊥) → slice_get ((at, e) ∷ rest) k ≡ slice_get rest (k - 1)
      later zero other = absurd (other refl)
      later (suc k) other = ap (slice_get rest) (omega arith)

  pub alone_room : (e : Ex) (k : ℕ) → o ≡ Some e → (k ≡ 0 → ⊥) → k < length (alone at o ++ rest) → k - 1 < length rest
  alone_room e k h other below = let b = rw h at below in omega (arith, b, other)

  pub alone_none : (k : ℕ) → o ≡ None → slice_get (alone at o ++ rest) k ≡ slice_get rest k
  alone_none k h = rw h refl

  pub alone_none_room : (k : ℕ) → o ≡ None → k < length (alone at o ++ rest) → k < length rest
  alone_none_room k h below = rw h at below

pub order_room : (q : Query) (k : ℕ) → k < length (order_places q) → k < length q.order
unfolding order_places
order_room q k h = omega (arith, h, length_counted order_key (map (λ k. order_ex q.outs k.0) q.order), length-map q.order (λ k. order_ex q.outs k.0))

pub order_at : (q : Query) (k : ℕ) (key : Ex × Bool) → slice_get q.order k ≡ Some key → slice_get (order_places q) k ≡ Some (order_key (1 + k), order_ex q.outs key.0)
unfolding order_places
order_at q k key h = counted_at order_key (map (λ k. order_ex q.outs k.0) q.order) k (order_ex q.outs key.0) (mapped_at (λ k. order_ex q.outs k.0) q.order k key h)

module _ (q : Query) (k : ℕ) where
  pub key_here : (e : Ex) → slice_get q.keys k ≡ Some e → slice_get (key_places q) k ≡ Some (group_key (1 + k), e)
  unfolding key_places
  key_here e h = get_left (counted group_key q.keys) (having_places q) k (group_key (1 + k), e) (counted_at group_key q.keys k e h)

  pub key_later : (n : ℕ) → n ≡ length q.keys → n ≤ k → slice_get (key_places q) k ≡ slice_get (having_places q) (k - n)
  unfolding key_places
  key_later n e h =
      let l = length_counted group_key q.keys in
      get_right (counted group_key q.keys) (having_places q) k (omega (arith, l, e, h)) ∙ ap (λ m. slice_get (having_places q) (k - m)) (l ∙ sym e)

  pub key_room : (n : ℕ) → n ≡ length q.keys → n ≤ k → k < length (key_places q) → k - n < length (having_places q)
  unfolding key_places
  key_room n e h below =
      omega (arith, length_counted group_key q.keys, length-append (counted group_key q.keys) (having_places q), e, h, below)

  pub output_here : (e : Ex) → slice_get (output_exs q.outs) k ≡ Some e → slice_get (places q) k ≡ Some (output (1 + k), e)
  unfolding places where_places key_places having_places order_places
  output_here e h = get_left (counted output (output_exs q.outs)) (where_places q) k (output (1 + k), e) (counted_at output (output_exs q.outs) k e h)

  pub output_later : (n : ℕ) → n ≡ length (output_exs q.outs) → n ≤ k → slice_get (places q) k ≡ slice_get (where_places q) (k - n)
  unfolding places where_places key_places having_places order_places
  output_later n e h =
      let l = length_counted output (output_exs q.outs) in
      get_right (counted output (output_exs q.outs)) (where_places q) k (omega (arith, l, e, h)) ∙ ap (λ m. slice_get (where_places q) (k - m)) (l ∙ sym e)

  pub output_room : (n : ℕ) → n ≡ length (output_exs q.outs) → n ≤ k → k < length (places q) → k - n < length (where_places q)
  unfolding places where_places key_places having_places order_places
  output_room n e h below =
      omega (arith, length_counted output (output_exs q.outs), length-append (counted output (output_exs q.outs)) (where_places q), e, h, below)

pub length_places : (q : Query) → length (places q) ≡ length (output_exs q.outs) + (length (alone where_test q.filter) + (length q.keys + (length (alone having q.having) + length q.order)))
unfolding places
length_places q =
    let order = map (λ k. order_ex q.outs k.0) q.order in
    omega (
      arith,
      length_counted output (output_exs q.outs),
      length_counted group_key q.keys,
      length_counted order_key order,
      length-map q.order (λ k. order_ex q.outs k.0),
      length-append (counted output (output_exs q.outs)) (alone where_test q.filter ++ (counted group_key q.keys ++ (alone having q.having ++ counted order_key order))),
      length-append (alone where_test q.filter) (counted group_key q.keys ++ (alone having q.having ++ counted order_key order)),
      length-append (counted group_key q.keys) (alone having q.having ++ counted order_key order),
      length-append (alone having q.having) (counted order_key order),
    )
