-- The bounds that a WHERE leaves, and the blocks that they exclude.
use Rattle.std.proofs.Common.{◌≡◌, ℕ, Bool, true, false, not, List, filter, Option, refl, sym, ap, ◌∙◌, subst}
use Rattle.std.specs.Prelude.{◌↔◌, IsTrue, count_by, ◌++◌, Result, Ok, Err, OnOk, IfOk}
use Rattle.file_meaning.specs.Files.{Entry}
use Rattle.tree_meaning.specs.Tree.{Query}
use Rattle.range_meaning.specs.declared.Bounds.{Bounds}
use Rattle.range_meaning.specs.Excluded.{IsExcluded}
use Rattle.scan_meaning.specs.Blocks.{Place, places_from}
use Rattle.scan_meaning.specs.Wanted.{bounds_by, are_apart, is_wanted}
use Rattle.scan_meaning.proofs.Exact.{apart_exact}

same_test : (P : Type 0) (a b : Bool) → (IsTrue a ↔ P) → ((b ≡ true) ↔ P) → a ≡ b
same_test P true true x y = refl
same_test P true false x y = sym (y.1 (x.0 refl))
same_test P false true x y = let no : false ≡ true = x.1 (y.0 refl) in no
same_test P false false x y = refl

-- the test by the times of an entry
pub test_is : (e : Entry) (limits : Bounds) (t : Bool) → (IsTrue t ↔ IsExcluded e limits) → not t ≡ not (are_apart e limits)
test_is e limits t h = ap not (same_test (IsExcluded e limits) t (are_apart e limits) h (apart_exact e limits))

-- what the bounds don't exclude is wanted
wants_is : (q : Query) (field : List ℕ) (limits : Bounds) → limits ≡ bounds_by field q.filter → (e : Entry) → not (are_apart e limits) ≡ is_wanted q field e
unfolding is_wanted
wants_is q field limits same e = ap (λ (b : Bounds). not (are_apart e b)) same

pub added_is : (q : Query) (field : List ℕ) (limits : Bounds) (old now ps : List Place) → limits ≡ bounds_by field q.filter → now ≡ old ++ filter (λ p. not (are_apart p.entry limits)) ps → now ≡ old ++ filter (λ p. is_wanted q field p.entry) ps
unfolding is_wanted
added_is q field limits old now ps same h = subst (λ (b : Bounds). now ≡ old ++ filter (λ p. not (are_apart p.entry b)) ps) same h

pub count_is : (q : Query) (field : List ℕ) (limits : Bounds) (n : ℕ) (ps : List Place) → limits ≡ bounds_by field q.filter → n ≡ count_by (λ p. not (not (are_apart p.entry limits))) ps → n ≡ count_by (λ p. not (is_wanted q field p.entry)) ps
unfolding is_wanted
count_is q field limits n ps same h = subst (λ (b : Bounds). n ≡ count_by (λ p. not (not (are_apart p.entry b))) ps) same h

-- the same after a call that may fail
module _ (q : Query) (field seen : List ℕ) (limits : Bounds) (is : limits ≡ bounds_by seen q.filter) (same : seen ≡ field) (file : ℕ) (es lent : List Entry) (lent_is : lent ≡ es) where
  limits_are : limits ≡ bounds_by field q.filter
  limits_are = is ∙ ap (λ (f : List ℕ). bounds_by f q.filter) same

  pub added_on : {A E : Type 0} (r : Result A E) (old now : List Place) → OnOk r (now ≡ old ++ filter (λ p. not (are_apart p.entry limits)) (places_from file 0 lent)) → OnOk r (now ≡ old ++ filter (λ p. is_wanted q field p.entry) (places_from file 0 es))
  added_on (Ok a) old now h = added_is q field limits old now (places_from file 0 es) limits_are (subst (λ (l : List Entry). now ≡ old ++ filter (λ p. not (are_apart p.entry limits)) (places_from file 0 l)) lent_is h)
  added_on (Err e) old now h = h

  pub count_on : {E : Type 0} (r : Result ℕ E) → IfOk r (λ n. n ≡ count_by (λ p. not (not (are_apart p.entry limits))) (places_from file 0 lent)) → IfOk r (λ n. n ≡ count_by (λ p. not (is_wanted q field p.entry)) (places_from file 0 es))
  count_on (Ok n) h = count_is q field limits n (places_from file 0 es) limits_are (subst (λ (l : List Entry). n ≡ count_by (λ p. not (not (are_apart p.entry limits))) (places_from file 0 l)) lent_is h)
  count_on (Err e) h = h
