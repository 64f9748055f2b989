-- The first place that is so, and the aggregates of all places.
use Rattle.std.proofs.Common.{◌≡◌, ℕ, ◌+◌, ◌≤◌, Bool, true, false, ◌||◌, List, [], ◌∷◌, length, drop, Option, Some, None, refl, sym, ◌∙◌, ap, cond}
use Rattle.std.specs.Prelude.{slice_get, find, is_some}
use Rattle.std.specs.List.{list_any, flat_map}
use Rattle.std.specs.Option.{option_map}
use Rattle.tree_meaning.specs.Tree.{Ex, Query}
use Rattle.check_meaning.specs.Place.{Place}
use Rattle.check_meaning.specs.Places.{places}
use Rattle.check_meaning.specs.Parts.{parts}
use Rattle.check_meaning.specs.Aggregates.{aggregates}
use Rattle.check_meaning.specs.Verdict.{first_place}
use Rattle.query_walk.proofs.Searching.{drop_at, drop_end, find_here, find_next, find_end}
use Rattle.query_walk.proofs.Walking.{gathered, gathered_append}

any_found : {A : Type 0} (p : A → Bool) (xs : List A) → list_any p xs ≡ is_some (find p xs)
any_found p [] = refl
any_found p (x ∷ xs) = elim (p x) as (λ v. (v || list_any p xs) ≡ is_some (cond v (Some x) (find p xs))) [ true ↦ refl | false ↦ any_found p xs ]

pub some_mapped : {A B : Type 0} (f : A → B) (o : Option A) → is_some (option_map f o) ≡ is_some o
some_mapped f None = refl
some_mapped f (Some x) = refl

pub any_place : (p : Place × Ex → Bool) (q : Query) → list_any p (places q) ≡ is_some (first_place p q)
unfolding first_place
any_place p q = any_found p (places q) ∙ sym (some_mapped (λ x. x.0) (find p (places q)))

module _ (p : Place × Ex → Bool) (q : Query) (k : ℕ) (at : Place) (e : Ex) (here : slice_get (places q) k ≡ Some (at, e)) (sofar : find p (places q) ≡ find p (drop k (places q))) where
  pub place_here : p (at, e) ≡ true → Some at ≡ first_place p q
  unfolding first_place
  place_here t = sym (ap (option_map (λ x. x.0)) (find_here p (places q) k (find p (places q)) (at, e) here t sofar))

  pub place_next : p (at, e) ≡ false → find p (places q) ≡ find p (drop (k + 1) (places q))
  place_next t = find_next p (places q) k (find p (places q)) (at, e) here t sofar

pub place_end : (p : Place × Ex → Bool) (q : Query) (k : ℕ) → length (places q) ≤ k → find p (places q) ≡ find p (drop k (places q)) → None ≡ first_place p q
unfolding first_place
place_end p q k h sofar = sym (ap (option_map (λ x. x.0)) (find_end p (places q) k (find p (places q)) h sofar))

-- the parts of what stands at places
abbrev pub all_parts : List (Place × Ex) → List Ex
all_parts ps = flat_map (λ x. parts x.1) ps

pub gathered_place : (found : List Ex) (ps : List (Place × Ex)) (k : ℕ) (at : Place) (e : Ex) → slice_get ps k ≡ Some (at, e) → gathered found (all_parts (drop k ps)) ≡ gathered (gathered found (parts e)) (all_parts (drop (k + 1) ps))
gathered_place found ps k at e h = rw (drop_at ps k (at, e) h) (gathered_append found (parts e) (all_parts (drop (k + 1) ps)))

pub gathered_done : (found : List Ex) (ps : List (Place × Ex)) (k : ℕ) → length ps ≤ k → gathered found (all_parts (drop k ps)) ≡ found
gathered_done found ps k h = rw (drop_end ps k h) refl

pub aggregates_are : (q : Query) → aggregates q ≡ gathered [] (all_parts (places q))
unfolding aggregates
aggregates_are q = refl
