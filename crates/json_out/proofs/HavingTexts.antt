-- Values with texts, item by item and pair by pair.
use Rattle.std.proofs.Common.{◌≡◌, ℕ, List, ◌∷◌, sym, subst}
use Rattle.value_meaning.specs.Val.{Val, vals, fields}
use Rattle.block_meaning.specs.Stored.{HasTimesInRange, HaveTimesInRange, PairsHaveTimesInRange}
use Rattle.json_out.specs.NoMissing.{HasNoMissing, HaveNoMissing, PairsHaveNoMissing}

-- the value has a text
abbrev pub HasText : Val → Type 0
HasText v = HasTimesInRange v × HasNoMissing v

-- all items have texts exactly where those that are left have
pub record ItemsRest (all left : List Val) : Type 0 where
  pub forth : HaveTimesInRange (vals all) × HaveNoMissing (vals all) → HaveTimesInRange (vals left) × HaveNoMissing (vals left)
  pub back : HaveTimesInRange (vals left) × HaveNoMissing (vals left) → HaveTimesInRange (vals all) × HaveNoMissing (vals all)

-- the same of the values of pairs
pub record PairsRest (all left : List (List ℕ × Val)) : Type 0 where
  pub forth : PairsHaveTimesInRange (fields all) × PairsHaveNoMissing (fields all) → PairsHaveTimesInRange (fields left) × PairsHaveNoMissing (fields left)
  pub back : PairsHaveTimesInRange (fields left) × PairsHaveNoMissing (fields left) → PairsHaveTimesInRange (fields all) × PairsHaveNoMissing (fields all)

module _ (all left rest : List Val) (v : Val) (h : ItemsRest all left) (e : left ≡ v ∷ rest) where
  at_front : HaveTimesInRange (vals all) × HaveNoMissing (vals all) → HaveTimesInRange (vals (v ∷ rest)) × HaveNoMissing (vals (v ∷ rest))
  at_front k = subst (λ (l : List Val). HaveTimesInRange (vals l) × HaveNoMissing (vals l)) e (h.forth k)

  pub first_has : HaveTimesInRange (vals all) × HaveNoMissing (vals all) → HasText v
  first_has k = let f = at_front k in (f.0.0, f.1.0)

  pub others_have : HasText v → ItemsRest all rest
  others_have t = record {
    forth = λ k. let f = at_front k in (f.0.1, f.1.1);
    back = λ k. h.back (subst (λ (l : List Val). HaveTimesInRange (vals l) × HaveNoMissing (vals l)) (sym e) ((t.0, k.0), (t.1, k.1)));
  }

module _ (all left rest : List (List ℕ × Val)) (name : List ℕ) (v : Val) (h : PairsRest all left) (e : left ≡ (name, v) ∷ rest) where
  pairs_at_front : PairsHaveTimesInRange (fields all) × PairsHaveNoMissing (fields all)
      → PairsHaveTimesInRange (fields ((name, v) ∷ rest)) × PairsHaveNoMissing (fields ((name, v) ∷ rest))
  pairs_at_front k = subst (λ (l : List (List ℕ × Val)). PairsHaveTimesInRange (fields l) × PairsHaveNoMissing (fields l)) e (h.forth k)

  pub first_pair_has : PairsHaveTimesInRange (fields all) × PairsHaveNoMissing (fields all) → HasText v
  first_pair_has k = let f = pairs_at_front k in (f.0.0, f.1.0)

  pub other_pairs_have : HasText v → PairsRest all rest
  other_pairs_have t = record {
    forth = λ k. let f = pairs_at_front k in (f.0.1, f.1.1);
    back = λ k. h.back (subst (λ (l : List (List ℕ × Val)). PairsHaveTimesInRange (fields l) × PairsHaveNoMissing (fields l)) (sym e) ((t.0, k.0), (t.1, k.1)));
  }
