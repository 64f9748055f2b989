-- The aggregates of a query are all that stand in its places.
use Rattle.std.proofs.Common.{◌≡◌, ℕ, ◌+◌, Bool, true, false, cond, ◌||◌, List, [], ◌∷◌, ◌++◌, map, refl, sym, ◌∙◌, ap}
use Rattle.std.specs.Prelude.{fold}
use Rattle.std.specs.List.{filter, list_any, flat_map, enumerate_from}
use Rattle.tree_meaning.specs.Tree.{Ex, Query}
use Rattle.check_meaning.specs.Same.{same_ex}
use Rattle.check_meaning.proofs.Same.{same_ex-refl}
use Rattle.check_meaning.specs.Parts.{parts}
use Rattle.check_meaning.specs.Place.{Place, output, where_test, group_key, having, order_key}
use Rattle.check_meaning.specs.Places.{places, counted, alone, output_exs, order_ex}
use Rattle.check_meaning.specs.Aggregates.{is_aggregate, is_among, with_new, aggregates}
use Rattle.group_out.proofs.Each.{Each, both_hold}

-- an expression that is among some stays among them when more are added
or_none : (b : Bool) → (b || false) ≡ b
or_none true = refl
or_none false = refl

or_later : (b more whole last : Bool) → more ≡ (whole || last) → (b || more) ≡ ((b || whole) || last)
or_later true more whole last h = refl
or_later false more whole last h = h

any_end : (p : Ex → Bool) (es : List Ex) (x : Ex) → list_any p (es ++ x ∷ []) ≡ (list_any p es || p x)
any_end p [] x = or_none (p x)
any_end p (e ∷ es) x = or_later (p e) (list_any p (es ++ x ∷ [])) (list_any p es) (p x) (any_end p es x)

or_left : (a b : Bool) → a ≡ true → (a || b) ≡ true
or_left a b h = ap (λ v. v || b) h

or_right : (a b : Bool) → b ≡ true → (a || b) ≡ true
or_right true b h = refl
or_right false b h = h

stays : (es : List Ex) (x e : Ex) → is_among es e ≡ true → is_among (with_new es x) e ≡ true
stays es x e h = go (is_among es x)
  where
    go : (b : Bool) → is_among (cond b es (es ++ x ∷ [])) e ≡ true
    go true = h
    go false = any_end (same_ex e) es x ∙ or_left (is_among es e) (same_ex e x) h

is_added : (es : List Ex) (e : Ex) → is_among (with_new es e) e ≡ true
is_added es e = go (is_among es e) refl
  where
    go : (b : Bool) → is_among es e ≡ b → is_among (cond b es (es ++ e ∷ [])) e ≡ true
    go true h = h
    go false h = any_end (same_ex e) es e ∙ or_right (is_among es e) (same_ex e e) (same_ex-refl e)

all_stay : (more es : List Ex) (e : Ex) → is_among es e ≡ true → is_among (fold with_new es more) e ≡ true
all_stay [] es e h = h
all_stay (x ∷ more) es e h = all_stay more (with_new es x) e (stays es x e h)

all_added : (more es : List Ex) → Each (λ e. is_among (fold with_new es more) e ≡ true) more
all_added [] es = tt
all_added (x ∷ more) es = (all_stay more (with_new es x) x (is_added es x), all_added more (with_new es x))

-- what holds of those that pass a test holds of each, where it passes
module _ (P : Ex → Type 0) (p : Ex → Bool) where
  first_passed : (e : Ex) (es : List Ex) → (Each P (filter p es) → Each (λ e. p e ≡ true → P e) es) → (b : Bool) → p e ≡ b
      → Each P (cond b (e ∷ filter p es) (filter p es)) → Each (λ e. p e ≡ true → P e) (e ∷ es)
  first_passed e es later true k g = (λ _. g.0, later g.1)
  first_passed e es later false k g = ((λ m. let w : false ≡ true = sym k ∙ m in cc), later g)

  of_passed : (es : List Ex) → Each P (filter p es) → Each (λ e. p e ≡ true → P e) es
  of_passed [] h = tt
  of_passed (e ∷ es) h = first_passed e es (λ g. of_passed es g) (p e) refl h

-- and what holds of all parts of all expressions holds of those of each
of_each : {A : Type 0} (P : Ex → Type 0) (f : A → List Ex) (xs : List A) → Each P (flat_map f xs) → Each (λ x. Each P (f x)) xs
of_each P f [] h = tt
of_each P f (x ∷ xs) h = let s = both_hold P (f x) (flat_map f xs) h in (s.0, of_each P f xs s.1)

abbrev pub AreListed : Query → Ex → Type 0
AreListed q e = Each (λ p. is_aggregate p ≡ true → is_among (aggregates q) p ≡ true) (parts e)

at_places : (q : Query) → Each (λ x. AreListed q x.1) (places q)
unfolding aggregates
at_places q =
    let among : Ex → Type 0 = λ p. is_among (aggregates q) p ≡ true in
    of_each (λ p. is_aggregate p ≡ true → among p) (λ (x : Place × Ex). parts x.1) (places q)
    (of_passed among is_aggregate (flat_map (λ x. parts x.1) (places q)) (all_added (filter is_aggregate (flat_map (λ x. parts x.1) (places q))) []))

module _ (P : Ex → Type 0) where
  of_counted : (at : ℕ → Place) (n : ℕ) (es : List Ex) → Each (λ (x : Place × Ex). P x.1) (map (λ m. (at m.0, m.1)) (enumerate_from n es)) → Each P es
  of_counted at n [] h = tt
  of_counted at n (e ∷ es) h = (h.0, of_counted at (n + 1) es h.1)

-- so it is of each output, of HAVING and of each order key
pub record Listed (q : Query) : Type 0 where
  pub outputs : Each (AreListed q) (output_exs q.outs)
  pub having : Each (λ (x : Place × Ex). AreListed q x.1) (alone having q.having)
  pub order : Each (AreListed q) (map (λ k. order_ex q.outs k.0) q.order)

pub listed : (q : Query) → Listed q
unfolding places
listed q =
    let P : Place × Ex → Type 0 = λ x. AreListed q x.1 in
    let outs = counted output (output_exs q.outs) in
    let filters = alone where_test q.filter in
    let keys = counted group_key q.keys in
    let havings = alone having q.having in
    let orders = counted order_key (map (λ k. order_ex q.outs k.0) q.order) in
    let a = both_hold P outs (filters ++ (keys ++ (havings ++ orders))) (at_places q) in
    let b = both_hold P filters (keys ++ (havings ++ orders)) a.1 in
    let c = both_hold P keys (havings ++ orders) b.1 in
    let d = both_hold P havings orders c.1 in
    record {
      outputs = of_counted (AreListed q) output 1 (output_exs q.outs) a.0;
      having = d.0;
      order = of_counted (AreListed q) order_key 1 (map (λ k. order_ex q.outs k.0) q.order) d.1;
    }
