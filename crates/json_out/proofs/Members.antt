-- Going through the items of a list and the pairs of a struct that stand in memory.
use Rattle.std.proofs.Common.{◌≡◌, ℕ, zero, suc, ◌+◌, ◌<◌, ◌≤◌, Bool, true, false, List, [], ◌∷◌, ◌++◌, drop, Some, slice_get, sym, ◌∙◌, ap, subst, append_assoc, add-one, arith}
use Rattle.std.specs.Option.{option_map}
use Rattle.json.specs.Print.{quoted}
use Rattle.value_meaning.specs.Val.{Val, vals, fields, size, vals_size, fields_size}
use Rattle.block_meaning.specs.Stored.{HasTimesInRange, HaveTimesInRange, PairsHaveTimesInRange}
use Rattle.answer_meaning.specs.Lines.{comma_if, value_text, items_text, fields_text}
use Rattle.json_out.specs.NoMissing.{HasNoMissing, HaveNoMissing, PairsHaveNoMissing}

-- a value with a text, of less than this size
pub record IsWithin (v : Val) (room : ℕ) : Type 0 where
  pub times : HasTimesInRange v
  pub no_missing : HasNoMissing v
  pub below : size v < room

-- What is written and the text of the items that are left are the text of all items.
pub record ItemsStand (old new : List ℕ) (later : Bool) (all left : List Val) : Type 0 where
  pub times : HaveTimesInRange (vals left)
  pub no_missing : HaveNoMissing (vals left)
  pub spells : new ++ items_text later (vals left) ≡ old ++ items_text false (vals all)
  pub smaller : vals_size (vals left) ≤ vals_size (vals all)

-- What is written and the text of the pairs that are left are the text of all pairs.
pub record PairsStand (old new : List ℕ) (later : Bool) (all left : List (List ℕ × Val)) : Type 0 where
  pub times : PairsHaveTimesInRange (fields left)
  pub no_missing : PairsHaveNoMissing (fields left)
  pub spells : new ++ fields_text later (fields left) ≡ old ++ fields_text false (fields all)
  pub smaller : fields_size (fields left) ≤ fields_size (fields all)

regroup : (new comma text rest : List ℕ) → ((new ++ comma) ++ text) ++ rest ≡ new ++ (comma ++ (text ++ rest))
regroup new comma text rest = simp append_assoc

module _ (old new : List ℕ) (later : Bool) (all left rest : List Val) (v : Val) (h : ItemsStand old new later all left) (e : left ≡ v ∷ rest) where
  pub item_within : IsWithin v (vals_size (vals all))
  item_within =
      let small : vals_size (vals (v ∷ rest)) ≤ vals_size (vals all) = subst (λ (l : List Val). vals_size (vals l) ≤ vals_size (vals all)) e h.smaller in
      record {
        times = (subst (λ (l : List Val). HaveTimesInRange (vals l)) e h.times).0;
        no_missing = (subst (λ (l : List Val). HaveNoMissing (vals l)) e h.no_missing).0;
        below = omega arith;
      }

  pub items_go_on : (next : List ℕ) → next ≡ (new ++ comma_if later) ++ value_text v → ItemsStand old next true all rest
  items_go_on next f =
      let small : vals_size (vals (v ∷ rest)) ≤ vals_size (vals all) = subst (λ (l : List Val). vals_size (vals l) ≤ vals_size (vals all)) e h.smaller in
      record {
        times = (subst (λ (l : List Val). HaveTimesInRange (vals l)) e h.times).1;
        no_missing = (subst (λ (l : List Val). HaveNoMissing (vals l)) e h.no_missing).1;
        spells =
            ap (λ l. l ++ items_text true (vals rest)) f ∙ regroup new (comma_if later) (value_text v) (items_text true (vals rest))
            ∙ ap (λ (l : List Val). new ++ items_text later (vals l)) (sym e) ∙ h.spells;
        smaller = omega arith;
      }

regroup_pair : (new comma name text rest : List ℕ) → ((((new ++ comma) ++ name) ++ 58 ∷ []) ++ text) ++ rest ≡ new ++ (comma ++ (name ++ 58 ∷ (text ++ rest)))
regroup_pair new comma name text rest = simp append_assoc

module _ (old new : List ℕ) (later : Bool) (all left rest : List (List ℕ × Val)) (name : List ℕ) (v : Val) (h : PairsStand old new later all left) (e : left ≡ (name, v) ∷ rest) where
  pub pair_within : IsWithin v (fields_size (fields all))
  pair_within =
      let small : fields_size (fields ((name, v) ∷ rest)) ≤ fields_size (fields all) = subst (λ (l : List (List ℕ × Val)). fields_size (fields l) ≤ fields_size (fields all)) e h.smaller in
      record {
        times = (subst (λ (l : List (List ℕ × Val)). PairsHaveTimesInRange (fields l)) e h.times).0;
        no_missing = (subst (λ (l : List (List ℕ × Val)). PairsHaveNoMissing (fields l)) e h.no_missing).0;
        below = omega arith;
      }

  pub pairs_go_on : (next : List ℕ) → next ≡ (((new ++ comma_if later) ++ quoted name) ++ 58 ∷ []) ++ value_text v → PairsStand old next true all rest
  pairs_go_on next f =
      let small : fields_size (fields ((name, v) ∷ rest)) ≤ fields_size (fields all) = subst (λ (l : List (List ℕ × Val)). fields_size (fields l) ≤ fields_size (fields all)) e h.smaller in
      record {
        times = (subst (λ (l : List (List ℕ × Val)). PairsHaveTimesInRange (fields l)) e h.times).1;
        no_missing = (subst (λ (l : List (List ℕ × Val)). PairsHaveNoMissing (fields l)) e h.no_missing).1;
        spells =
            ap (λ l. l ++ fields_text true (fields rest)) f ∙ regroup_pair new (comma_if later) (quoted name) (value_text v) (fields_text true (fields rest))
            ∙ ap (λ (l : List (List ℕ × Val)). new ++ fields_text later (fields l)) (sym e) ∙ h.spells;
        smaller = omega arith;
      }

pair_first : (fs : List (List ℕ × Val)) (at : ℕ) (name : List ℕ) (v : Val) → Some name ≡ option_map (λ f. f.0) (slice_get fs at) → Some v ≡ option_map (λ f. f.1) (slice_get fs at)
    → drop at fs ≡ (name, v) ∷ drop (suc at) fs
pair_first [] at name v e f = cc
pair_first (g ∷ fs) zero name v e f =
    let n : g.0 ≡ name = cc in
    let w : g.1 ≡ v = cc in
    λ i. (n i, w i) ∷ fs
pair_first (g ∷ fs) (suc at) name v e f = pair_first fs at name v e f

-- the pair at a place stands at the front of those from there on
pub pair_there : (fs : List (List ℕ × Val)) (at : ℕ) (name : List ℕ) (v : Val) → Some name ≡ option_map (λ f. f.0) (slice_get fs at) → Some v ≡ option_map (λ f. f.1) (slice_get fs at)
    → drop at fs ≡ (name, v) ∷ drop (at + 1) fs
pair_there fs at name v e f = rw add-one (pair_first fs at name v e f)
