-- Which limit is passed, and whether a query is grouped.
use Rattle.std.proofs.Common.{◌≡◌, ℕ, zero, suc, ◌<◌, ◌≤◌, Bool, true, false, List, [], ◌∷◌, length, take, Option, Some, None, refl, sym, ◌∙◌, ap, arith}
use Rattle.std.specs.Prelude.{slice_get, nat_lt, is_some}
use Rattle.std.specs.Option.{option_map}
use Rattle.std.specs.Str.{bytes_eq}
use Rattle.std.specs.List.{list_any}
use Rattle.std.proofs.lemmas.Bool.Decides.{nat_tests}
use Rattle.tree_meaning.specs.Tree.{Query}
use Rattle.check_meaning.specs.Limit as limit
use Rattle.check_meaning.specs.Places.{output_exs}
use Rattle.check_meaning.specs.Tests.{has_long_path}
use Rattle.check_meaning.specs.Aggregates.{is_grouped, asks_a_group, aggregates}
use Rattle.check_meaning.specs.Verdict.{passed_limit, first_place}
use Rattle.query_check.specs.Placed.{IsWithin}
use Rattle.query_walk.proofs.Listed.{some_is}
use Rattle.query_check.proofs.AllPlaces.{any_place, some_mapped}

past : (m n k : ℕ) → k ≡ n → m < k → nat_lt m n ≡ true
past m n k e h = grind (arith, nat_tests)

within : (m n : ℕ) → n ≤ m → nat_lt m n ≡ false
within m n h = grind (arith, nat_tests)

module _ (q : Query) where
  pub many_outputs : (n : ℕ) → n ≡ length (output_exs q.outs) → 256 < n → passed_limit q ≡ Some limit.outputs
  unfolding passed_limit
  many_outputs n e h = rw (past 256 (length (output_exs q.outs)) n e h) refl

  pub many_keys : (n m : ℕ) → n ≡ length (output_exs q.outs) → n ≤ 256 → m ≡ length q.keys → 16 < m → passed_limit q ≡ Some limit.group_keys
  unfolding passed_limit
  many_keys n m e h f g = rw (within 256 (length (output_exs q.outs)) (omega (arith, e, h)), past 16 (length q.keys) m f g) refl

  pub many_orders : (n m k : ℕ) → n ≡ length (output_exs q.outs) → n ≤ 256 → m ≡ length q.keys → m ≤ 16 → k ≡ length q.order → 16 < k → passed_limit q ≡ Some limit.order_keys
  unfolding passed_limit
  many_orders n m k e h f g d b = rw (within 256 (length (output_exs q.outs)) (omega (arith, e, h)), within 16 (length q.keys) (omega (arith, f, g)), past 16 (length q.order) k d b) refl

  module _ (w : IsWithin q) where
    pub long_path : is_some (first_place has_long_path q) ≡ true → passed_limit q ≡ Some limit.steps
    unfolding passed_limit
    long_path h = rw (within 256 (length (output_exs q.outs)) w.outputs, within 16 (length q.keys) w.keys, within 16 (length q.order) w.order, h) refl

    pub many_aggregates : (n : ℕ) → is_some (first_place has_long_path q) ≡ false → n ≡ length (aggregates q) → 64 < n → passed_limit q ≡ Some limit.aggregates
    unfolding passed_limit
    many_aggregates n h e g = rw (within 256 (length (output_exs q.outs)) w.outputs, within 16 (length q.keys) w.keys, within 16 (length q.order) w.order, h, past 64 (length (aggregates q)) n e g) refl

    pub none_passed : (n : ℕ) → is_some (first_place has_long_path q) ≡ false → n ≡ length (aggregates q) → n ≤ 64 → passed_limit q ≡ None
    unfolding passed_limit
    none_passed n h e g = rw (within 256 (length (output_exs q.outs)) w.outputs, within 16 (length q.keys) w.keys, within 16 (length q.order) w.order, h, within 64 (length (aggregates q)) (omega (arith, e, g))) refl

  pub grouped_by_keys : (n : ℕ) → n ≡ length q.keys → 0 < n → true ≡ is_grouped q
  unfolding is_grouped
  grouped_by_keys n e h = rw (past 0 (length q.keys) n e h) refl

  pub grouped_by_having : (n : ℕ) → n ≡ length q.keys → n ≤ 0 → is_some q.having ≡ true → true ≡ is_grouped q
  unfolding is_grouped
  grouped_by_having n e h t = rw (within 0 (length q.keys) (omega (arith, e, h)), t) refl

  pub grouped_by_aggregate : (n : ℕ) → n ≡ length q.keys → n ≤ 0 → is_some q.having ≡ false → is_some (first_place asks_a_group q) ≡ is_grouped q
  unfolding is_grouped
  grouped_by_aggregate n e h t = rw (within 0 (length q.keys) (omega (arith, e, h)), t) (sym (any_place asks_a_group q))

pub get_taken : {A : Type 0} (xs : List A) (n k : ℕ) (x : A) → k < n → slice_get xs k ≡ Some x → slice_get (take n xs) k ≡ Some x
get_taken xs zero k x h e = absurd (omega (arith, h))
get_taken [] (suc n) k x h e = cc
get_taken (y ∷ xs) (suc n) zero x h e = e
get_taken (y ∷ xs) (suc n) (suc k) x h e = get_taken xs n k x (omega (arith, h)) e

pub length_taken : {A : Type 0} (xs : List A) (n : ℕ) → length (take n xs) ≤ n
length_taken xs zero = omega arith
length_taken [] (suc n) = omega arith
length_taken (x ∷ xs) (suc n) = omega (arith, length_taken xs n)

-- the name at a place is this one
pub named_as : (names : List (List ℕ)) (at : ℕ) (a name : List ℕ) (w : Bool) → slice_get names at ≡ Some a → slice_get names at ≡ Some name → w ≡ list_any (bytes_eq a) (take at names) → w ≡ list_any (bytes_eq name) (take at names)
named_as names at a name w h g e = e ∙ ap (λ n. list_any (bytes_eq n) (take at names)) (some_is a name (sym h ∙ g))

pub is_some_of : {A B : Type 0} (f : A → B) (o : Option A) (r : Option B) (b : Bool) → b ≡ is_some o → option_map f o ≡ r → is_some r ≡ b
is_some_of f o r b e g = ap is_some (sym g) ∙ some_mapped f o ∙ sym e
