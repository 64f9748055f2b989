-- The first fault among the kinds of faults, in their order.
use Rattle.std.proofs.Common.{◌≡◌, ℕ, ◌≤◌, Bool, true, List, [], ◌∷◌, length, Option, Some, None, refl, sym, ◌∙◌, ap, arith}
use Rattle.std.proofs.lemmas.List.{length-map}
use Rattle.tree_meaning.specs.Tree.{Ex, Outs, star, named, Query}
use Rattle.std.specs.Option.{option_map}
use Rattle.check_meaning.specs.Limit.{Limit}
use Rattle.check_meaning.specs.Place.{Place, output}
use Rattle.check_meaning.specs.Fault.{Fault, too_many, nested, not_grouped, over_groups, same_name, no_such_order}
use Rattle.check_meaning.specs.Names.{names, items_of, output_name}
use Rattle.check_meaning.specs.Aggregates.{is_grouped}
use Rattle.check_meaning.specs.Tests.{is_nested, is_not_grouped, is_over_groups}
use Rattle.check_meaning.specs.Verdict.{first_of, fault_of, passed_limit, first_place, first_not_grouped, in_groups, first_same_name, first_no_output, first_number}
use Rattle.query_check.specs.Placed.{IsWithin}
use Rattle.query_check.proofs.Numbered.{length_mapped}
use Rattle.query_check.proofs.FirstNumber.{is_repeat}

abbrev pub chain : Option Limit → Option Place → Option Place → Option Place → Option ℕ → Option ℕ → Option Fault
chain l n g o s i = first_of (option_map too_many l ∷ option_map nested n ∷ option_map not_grouped g ∷ option_map over_groups o ∷ option_map same_name s ∷ option_map no_such_order i ∷ [])

module _ (l : Option Limit) (n g o : Option Place) (s i : Option ℕ) where
  pub by_limit : (x : Limit) → l ≡ Some x → chain l n g o s i ≡ Some (too_many x)
  by_limit x a = rw a refl

  pub by_nested : (x : Place) → l ≡ None → n ≡ Some x → chain l n g o s i ≡ Some (nested x)
  by_nested x a b = rw (a, b) refl

  pub by_not_grouped : (x : Place) → l ≡ None → n ≡ None → g ≡ Some x → chain l n g o s i ≡ Some (not_grouped x)
  by_not_grouped x a b c = rw (a, b, c) refl

  pub by_over_groups : (x : Place) → l ≡ None → n ≡ None → g ≡ None → o ≡ Some x → chain l n g o s i ≡ Some (over_groups x)
  by_over_groups x a b c d = rw (a, b, c, d) refl

  pub by_same_name : (x : ℕ) → l ≡ None → n ≡ None → g ≡ None → o ≡ None → s ≡ Some x → chain l n g o s i ≡ Some (same_name x)
  by_same_name x a b c d e = rw (a, b, c, d, e) refl

  pub by_no_such_order : (x : ℕ) → l ≡ None → n ≡ None → g ≡ None → o ≡ None → s ≡ None → i ≡ Some x → chain l n g o s i ≡ Some (no_such_order x)
  by_no_such_order x a b c d e f = rw (a, b, c, d, e, f) refl

  pub by_none : l ≡ None → n ≡ None → g ≡ None → o ≡ None → s ≡ None → i ≡ None → chain l n g o s i ≡ None
  by_none a b c d e f = rw (a, b, c, d, e, f) refl

module _ (q : Query) where
  pub first_is_limit : (x : Limit) → passed_limit q ≡ Some x → fault_of q ≡ Some (too_many x)
  first_is_limit x a = by_limit (passed_limit q) (first_place is_nested q) (in_groups q (first_not_grouped q q.outs)) (in_groups q (first_place (is_over_groups q.keys) q)) (first_same_name q.outs) (first_no_output q) x a

  pub first_is_nested : (x : Place) → passed_limit q ≡ None → first_place is_nested q ≡ Some x → fault_of q ≡ Some (nested x)
  first_is_nested x a b = by_nested (passed_limit q) (first_place is_nested q) (in_groups q (first_not_grouped q q.outs)) (in_groups q (first_place (is_over_groups q.keys) q)) (first_same_name q.outs) (first_no_output q) x a b

  pub first_is_not_grouped : (x : Place) → passed_limit q ≡ None → first_place is_nested q ≡ None → in_groups q (first_not_grouped q q.outs) ≡ Some x → fault_of q ≡ Some (not_grouped x)
  first_is_not_grouped x a b c = by_not_grouped (passed_limit q) (first_place is_nested q) (in_groups q (first_not_grouped q q.outs)) (in_groups q (first_place (is_over_groups q.keys) q)) (first_same_name q.outs) (first_no_output q) x a b c

  pub first_is_over_groups : (x : Place) → passed_limit q ≡ None → first_place is_nested q ≡ None → in_groups q (first_not_grouped q q.outs) ≡ None → in_groups q (first_place (is_over_groups q.keys) q) ≡ Some x → fault_of q ≡ Some (over_groups x)
  first_is_over_groups x a b c d = by_over_groups (passed_limit q) (first_place is_nested q) (in_groups q (first_not_grouped q q.outs)) (in_groups q (first_place (is_over_groups q.keys) q)) (first_same_name q.outs) (first_no_output q) x a b c d

  pub first_is_same_name : (x : ℕ) → passed_limit q ≡ None → first_place is_nested q ≡ None → in_groups q (first_not_grouped q q.outs) ≡ None → in_groups q (first_place (is_over_groups q.keys) q) ≡ None → first_same_name q.outs ≡ Some x → fault_of q ≡ Some (same_name x)
  first_is_same_name x a b c d e = by_same_name (passed_limit q) (first_place is_nested q) (in_groups q (first_not_grouped q q.outs)) (in_groups q (first_place (is_over_groups q.keys) q)) (first_same_name q.outs) (first_no_output q) x a b c d e

  pub first_is_no_such_order : (x : ℕ) → passed_limit q ≡ None → first_place is_nested q ≡ None → in_groups q (first_not_grouped q q.outs) ≡ None → in_groups q (first_place (is_over_groups q.keys) q) ≡ None → first_same_name q.outs ≡ None → first_no_output q ≡ Some x → fault_of q ≡ Some (no_such_order x)
  first_is_no_such_order x a b c d e f = by_no_such_order (passed_limit q) (first_place is_nested q) (in_groups q (first_not_grouped q q.outs)) (in_groups q (first_place (is_over_groups q.keys) q)) (first_same_name q.outs) (first_no_output q) x a b c d e f

  pub no_fault : passed_limit q ≡ None → first_place is_nested q ≡ None → in_groups q (first_not_grouped q q.outs) ≡ None → in_groups q (first_place (is_over_groups q.keys) q) ≡ None → first_same_name q.outs ≡ None → first_no_output q ≡ None → fault_of q ≡ None
  no_fault a b c d e f = by_none (passed_limit q) (first_place is_nested q) (in_groups q (first_not_grouped q q.outs)) (in_groups q (first_place (is_over_groups q.keys) q)) (first_same_name q.outs) (first_no_output q) a b c d e f

grouped_true : (q : Query) (b : Bool) → b ≡ is_grouped q → b ≡ true → is_grouped q ≡ true
grouped_true q b e h = sym e ∙ h

pub whole_rows : (q : Query) (o : Outs) (b : Bool) → b ≡ is_grouped q → b ≡ true → o ≡ star → Some (output 1) ≡ in_groups q (first_not_grouped q o)
unfolding first_not_grouped
whole_rows q o b e h is = rw (is, grouped_true q b e h) refl

pub by_outputs : (q : Query) (o : Outs) (items : List (Ex × Option (List ℕ))) (b : Bool) → b ≡ is_grouped q → b ≡ true → o ≡ named items → first_place (is_not_grouped q.keys) q ≡ in_groups q (first_not_grouped q o)
unfolding first_not_grouped
by_outputs q o items b e h is = rw (is, grouped_true q b e h) refl

pub few_names : (q : Query) (ns : List (List ℕ)) → ns ≡ names q.outs → IsWithin q → length ns ≤ 256
unfolding names
few_names q ns e w =
    let named_all = length_mapped (λ (o : ℕ × (Ex × Option (List ℕ))). output_name o.0 o.1) (items_of q.outs) in
    let all = length-map (items_of q.outs) (λ (o : Ex × Option (List ℕ)). o.0) in
    omega (arith, ap length e, named_all, all, w.outputs)

pub same_name_is : (outs : Outs) (ns : List (List ℕ)) (r : Option ℕ) → ns ≡ names outs → r ≡ first_number (is_repeat ns) ns → first_same_name outs ≡ r
unfolding first_same_name
same_name_is outs ns r e h = sym (h ∙ ap (λ (l : List (List ℕ)). first_number (is_repeat l) l) e)
