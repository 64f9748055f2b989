use Rattle.std.proofs.Common.{◌≡◌, List, get_or, set, true, false, not, refl, sym, subst, ◌∙◌, arith}
use Rattle.std.specs.List.Sorted.{IsPermutation}
use Rattle.snel_values.specs.declared.made.MadeRow.{MadeRow}
use Rattle.order_limit.specs.Heaps.{row_before, drops}
use Rattle.order_limit.proofs.Heaps.{below_none, replaced, length_replaced, turned_off, turned_on}
use Rattle.order_limit.proofs.Standing.{made_ranked}
use Rattle.order_limit.proofs.heap.replace_row.Goals as goal

pub returns-then-is_last-clause-adds : goal.returns-then-is_last-clause-adds
returns-then-is_last-clause-adds c =
    let f = c.args.falling.now in
    let lt = row_before f in
    let xs = c.args.rows.now.items in
    let x = c.args.row in
    let first : (d : MadeRow) → lt x (get_or xs 0 d) ≡ false =
    λ d. turned_off _ (subst (λ (l : List MadeRow). not (lt x (get_or l 0 d)) ≡ true) c.as_slice.ensures.value (sym (c.is_last.ensures d) ∙ c.if-is_last.true)) in
    drops c.requires.full (below_none lt (made_ranked f) xs x c.requires.heap first) refl

pub returns-clause-kept : goal.returns-clause-kept
returns-clause-kept c =
    let xs = c.args.rows.now.items in
    let x = c.args.row in
    let new = c.sink_first.new.rows.items in
    let p : IsPermutation (set xs 0 x) new = c.sink_first.ensures.permutation in
    record {
      few = omega (arith, length_replaced xs new x p, c.requires.full);
      heap = λ e. c.sink_first.ensures.heap;
    }

pub returns-clause-adds : goal.returns-clause-adds
returns-clause-adds c =
    let f = c.args.falling.now in
    let lt = row_before f in
    let xs = c.args.rows.now.items in
    let x = c.args.row in
    let new = c.sink_first.new.rows.items in
    let p : IsPermutation (set xs 0 x) new = c.sink_first.ensures.permutation in
    let first : (d : MadeRow) → lt x (get_or xs 0 d) ≡ true =
    λ d. turned_on _ (subst (λ (l : List MadeRow). not (lt x (get_or l 0 d)) ≡ false) c.as_slice.ensures.value (sym (c.is_last.ensures d) ∙ c.if-is_last.false)) in
    replaced lt (made_ranked f) c.args.most xs new x c.requires.full c.requires.some c.requires.heap first p
