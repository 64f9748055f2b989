-- The aggregates of a well-formed query are aggregates and well formed, and so is what its order keys stand for.
use Rattle.std.proofs.Common.{◌≡◌, ℕ, zero, suc, ◌+◌, ◌<◌, Bool, true, false, cond, List, [], ◌∷◌, ◌++◌, map, length, Option, None, Some, refl, sym, ap, subst, ◌∙◌, arith}
use Rattle.std.specs.Prelude.{All, IfSome, ℤ, pos, negsuc, slice_get, filter, fold, unwrap_or}
use Rattle.std.specs.Option.{option_and_then, option_or, option_map}
use Rattle.std.proofs.lemmas.Option.{slice_get-map}
use Rattle.std.specs.Str.{bytes_eq}
use Rattle.std.specs.List.{flat_map, enumerate_from, position_from}
use Rattle.std.proofs.lemmas.List.Elements.{All-nil, All-cons, All-head, All-tail, All-append, All-push, All-map, All-filter, All-weaker, filter_passes}
use Rattle.tree_meaning.specs.Tree.{Ex, Exs, Arms, lit, path, neg, no, bin, is, member, between, matching, choice, cast, call, trunc, extract, shift, agg_of_rows, agg, no_exs, ex, no_arms, arm, exs, Outs, star, named, Query}
use Rattle.tree_meaning.specs.WellFormed.{IsFormed, AreFormed, ArmsAreFormed, IsOutput, AreOutputs, IsKey, IsWellFormed}
use Rattle.check_meaning.specs.Names.{names}
use Rattle.check_meaning.specs.Parts.{none, within, exs_within, arms_within, parts_outside, parts}
use Rattle.check_meaning.specs.Place.{Place, output, where_test, group_key, having, order_key}
use Rattle.check_meaning.specs.Places.{output_exs, output_at, output_named, as_number, as_name, order_ex, counted, alone, places}
use Rattle.check_meaning.specs.Aggregates.{is_aggregate, is_among, with_new, distinct, aggregates}
use Rattle.program_meaning.specs.Simulation.{order_exs}
use Rattle.plan_lower.specs.Ends.{IsAggregateForm}
use Rattle.plan_lower.proofs.Items.{all_at}

part_of : (e : Ex) → IsFormed e → All IsFormed (within none e) → All IsFormed (e ∷ within none e)
part_of e f inner = All-cons IsFormed e (within none e) f inner

-- what stands in an expression that is well formed is so
mutual
  unfolding within exs_within arms_within

  formed_within : (e : Ex) → IsFormed e → All IsFormed (within none e)
  formed_within (lit v) f = All-nil IsFormed
  formed_within (path r ss) f = All-nil IsFormed
  formed_within (neg e) f = part_of e f (formed_within e f)
  formed_within (no e) f = part_of e f (formed_within e f)
  formed_within (bin o a b) f = All-append IsFormed (a ∷ within none a) (b ∷ within none b) (part_of a f.0 (formed_within a f.0)) (part_of b f.1 (formed_within b f.1))
  formed_within (is w e) f = part_of e f (formed_within e f)
  formed_within (member e es) f = All-append IsFormed (e ∷ within none e) (exs_within none es) (part_of e f.0 (formed_within e f.0)) (formed_list es f.1)
  formed_within (between e a b) f =
      All-append IsFormed ((e ∷ within none e) ++ (a ∷ within none a)) (b ∷ within none b)
      (All-append IsFormed (e ∷ within none e) (a ∷ within none a) (part_of e f.0 (formed_within e f.0)) (part_of a f.1 (formed_within a f.1)))
      (part_of b f.2 (formed_within b f.2))
  formed_within (matching h e s) f = part_of e f (formed_within e f)
  formed_within (choice r e) f = All-append IsFormed (arms_within none r) (e ∷ within none e) (formed_arms r f.0) (part_of e f.2 (formed_within e f.2))
  formed_within (cast c e) f = part_of e f (formed_within e f)
  formed_within (call g es) f = formed_list es f.0
  formed_within (trunc p e) f = part_of e f.1 (formed_within e f.1)
  formed_within (extract p e) f = part_of e f.1 (formed_within e f.1)
  formed_within (shift p a e) f = All-append IsFormed (a ∷ within none a) (e ∷ within none e) (part_of a f.1 (formed_within a f.1)) (part_of e f.2 (formed_within e f.2))
  formed_within (agg_of_rows n) f = All-nil IsFormed
  formed_within (agg n e) f = part_of e f.1 (formed_within e f.1)

  formed_list : (es : Exs) → AreFormed es → All IsFormed (exs_within none es)
  formed_list no_exs f = All-nil IsFormed
  formed_list (ex e es) f = All-append IsFormed (e ∷ within none e) (exs_within none es) (part_of e f.0 (formed_within e f.0)) (formed_list es f.1)

  formed_arms : (r : Arms) → ArmsAreFormed r → All IsFormed (arms_within none r)
  formed_arms no_arms f = All-nil IsFormed
  formed_arms (arm a b r) f =
      All-append IsFormed ((a ∷ within none a) ++ (b ∷ within none b)) (arms_within none r)
      (All-append IsFormed (a ∷ within none a) (b ∷ within none b) (part_of a f.0 (formed_within a f.0)) (part_of b f.1 (formed_within b f.1)))
      (formed_arms r f.2)

formed_parts : (e : Ex) → IsFormed e → All IsFormed (e ∷ within none e)
formed_parts e f = part_of e f (formed_within e f)

all_parts_formed : (e : Ex) → IsFormed e → All IsFormed (parts e)
unfolding parts_outside
all_parts_formed e f = formed_parts e f

-- the outputs
pub outputs_formed : (outs : Outs) → AreOutputs outs → All IsFormed (output_exs outs)
outputs_formed star h = All-nil IsFormed
outputs_formed (named items) h = All-map IsFormed (λ o. o.0) items (All-weaker IsOutput (λ o. IsFormed o.0) (λ o g. g.0) items h.1)

-- the output that a number or a name finds
sliced_formed : (es : List Ex) → All IsFormed es → (k : ℕ) → IfSome (slice_get es k) IsFormed
sliced_formed [] h k = tt
sliced_formed (e ∷ es) h zero = All-head IsFormed e es h
sliced_formed (e ∷ es) h (suc k) = sliced_formed es (All-tail IsFormed e es h) k

then_formed : {A : Type 0} (f : A → Option Ex) → ((a : A) → IfSome (f a) IsFormed) → (o : Option A) → IfSome (option_and_then f o) IsFormed
then_formed f h None = tt
then_formed f h (Some a) = h a

or_formed : (a b : Option Ex) → IfSome a IsFormed → IfSome b IsFormed → IfSome (option_or a b) IsFormed
or_formed None b f g = g
or_formed (Some e) b f g = f

found_formed : (o : Option Ex) (e : Ex) → IfSome o IsFormed → IsFormed e → IsFormed (unwrap_or o e)
found_formed None e f g = g
found_formed (Some d) e f g = f

module _ (outs : Outs) (h : AreOutputs outs) where
  numbered_formed : (n : ℤ) → IfSome (output_at outs n) IsFormed
  unfolding output_at
  numbered_formed (pos zero) = tt
  numbered_formed (pos (suc k)) = sliced_formed (output_exs outs) (outputs_formed outs h) k
  numbered_formed (negsuc k) = tt

  named_formed : (n : List ℕ) → IfSome (output_named outs n) IsFormed
  unfolding output_named
  named_formed n = then_formed (slice_get (output_exs outs)) (sliced_formed (output_exs outs) (outputs_formed outs h)) (position_from (bytes_eq n) 0 (names outs))

  order_formed : (e : Ex) → IsFormed e → IsFormed (order_ex outs e)
  unfolding order_ex
  order_formed e f =
      found_formed (option_or (option_and_then (output_at outs) (as_number e)) (option_and_then (output_named outs) (as_name e))) e
      (or_formed (option_and_then (output_at outs) (as_number e)) (option_and_then (output_named outs) (as_name e))
      (then_formed (output_at outs) numbered_formed (as_number e)) (then_formed (output_named outs) named_formed (as_name e)))
      f

-- what the order keys stand for
pub orders_formed : (q : Query) → IsWellFormed q → All IsFormed (order_exs q)
orders_formed q h = All-map IsFormed (λ k. order_ex q.outs k.0) q.order (All-weaker IsKey (λ k. IsFormed (order_ex q.outs k.0)) (λ k f. order_formed q.outs h.outs k.0 f) q.order h.order)

-- what stands at the places of a query
abbrev HasFormed : Place × Ex → Type 0
HasFormed x = IsFormed x.1

enumerated : (at : ℕ → Place) (n : ℕ) (es : List Ex) → All IsFormed es → All HasFormed (map (λ (m : ℕ × Ex). (at m.0, m.1)) (enumerate_from n es))
enumerated at n [] h = All-nil HasFormed
enumerated at n (e ∷ es) h = All-cons HasFormed (at n, e) (map (λ (m : ℕ × Ex). (at m.0, m.1)) (enumerate_from (n + 1) es)) (All-head IsFormed e es h) (enumerated at (n + 1) es (All-tail IsFormed e es h))

alone_formed : (at : Place) (o : Option Ex) → IfSome o IsFormed → All HasFormed (alone at o)
alone_formed at None h = All-nil HasFormed
alone_formed at (Some e) h = All-cons HasFormed (at, e) [] h (All-nil HasFormed)

places_formed : (q : Query) → IsWellFormed q → All HasFormed (places q)
unfolding places
places_formed q h =
    let outs = counted output (output_exs q.outs) in
    let test = alone where_test q.filter in
    let keys = counted group_key q.keys in
    let kept = alone having q.having in
    let order = counted order_key (order_exs q) in
    All-append HasFormed outs (test ++ (keys ++ (kept ++ order))) (enumerated output 1 (output_exs q.outs) (outputs_formed q.outs h.outs))
    (All-append HasFormed test (keys ++ (kept ++ order)) (alone_formed where_test q.filter h.filter)
    (All-append HasFormed keys (kept ++ order) (enumerated group_key 1 q.keys h.keys)
    (All-append HasFormed kept order (alone_formed having q.having h.having) (enumerated order_key 1 (order_exs q) (orders_formed q h)))))

parts_of_formed : (xs : List (Place × Ex)) → All HasFormed xs → All IsFormed (flat_map (λ x. parts x.1) xs)
parts_of_formed [] h = All-nil IsFormed
parts_of_formed (x ∷ xs) h = All-append IsFormed (parts x.1) (flat_map (λ x. parts x.1) xs) (all_parts_formed x.1 (All-head HasFormed x xs h)) (parts_of_formed xs (All-tail HasFormed x xs h))

-- each of them an aggregate, without repeats
new_ones : (P : Ex → Type 0) (es : List Ex) (e : Ex) → All P es → P e → (b : Bool) → All P (cond b es (es ++ e ∷ []))
new_ones P es e h f true = h
new_ones P es e h f false = All-push P es e h f

distinct_ones : (P : Ex → Type 0) (es ds : List Ex) → All P ds → All P es → All P (fold with_new ds es)
distinct_ones P [] ds h f = h
distinct_ones P (e ∷ es) ds h f = distinct_ones P es (with_new ds e) (new_ones P ds e h (All-head P e es f) (is_among ds e)) (All-tail P e es f)

both_hold : (P Q : Ex → Type 0) (es : List Ex) → All P es → All Q es → All (λ e. P e × Q e) es
both_hold P Q es f g k d there = (f k d there, g k d there)

pub aggregates_formed : (q : Query) → IsWellFormed q → All IsAggregateForm (aggregates q)
unfolding aggregates
aggregates_formed q h =
    let all = flat_map (λ x. parts x.1) (places q) in
    let found = filter is_aggregate all in
    distinct_ones IsAggregateForm found [] (All-nil IsAggregateForm)
    (both_hold IsFormed (λ e. is_aggregate e ≡ true) found (All-filter is_aggregate IsFormed all (parts_of_formed (places q) (places_formed q h))) (filter_passes is_aggregate all))

-- the expression that the order key at a place stands for
pub sort_at : (q : Query) (k : ℕ) (x : Ex × Bool) → slice_get q.order k ≡ Some x → slice_get (order_exs q) k ≡ Some (order_ex q.outs x.0)
sort_at q k x h = slice_get-map (λ (y : Ex × Bool). order_ex q.outs y.0) q.order k ∙ ap (option_map (λ (y : Ex × Bool). order_ex q.outs y.0)) h

-- a list of expressions, as one tree
pub list_formed : (es : List Ex) → All IsFormed es → AreFormed (exs es)
list_formed [] h = tt
list_formed (e ∷ es) h = (All-head IsFormed e es h, list_formed es (All-tail IsFormed e es h))
