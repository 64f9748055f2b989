use Rattle.std.proofs.Common.{◌≡◌, List, get_or, length, true, false, sym, subst, ap, ◌∙◌, arith}
use Rattle.std.proofs.lemmas.List.Edits.{length-swap}
use Rattle.std.proofs.lemmas.List.Sorted.{IsPermutation-trans, IsPermutation-swap}
use Rattle.snel_values.specs.declared.made.MadeRow.{MadeRow}
use Rattle.order_limit.specs.Heaps.{row_before, IsLastChild}
use Rattle.order_limit.proofs.Heaps.{sunk_above, sinks}
use Rattle.order_limit.proofs.Standing.{made_ranked}
use Rattle.order_limit.proofs.heap.sink_first.Goals as goal

pub returns-then-not-is_before-clause-heap : goal.returns-then-not-is_before-clause-heap
returns-then-not-is_before-clause-heap c =
    let lt = row_before c.args.falling.now in
    let xs = c.loop-at.rows.items in
    let at = c.loop-at.at in
    let child = c.last_child-child.result in
    let last = subst (λ (l : List MadeRow). IsLastChild lt l at child) c.as_slice.ensures.value c.last_child-child.ensures in
    let above : (d : MadeRow) → lt (get_or xs at d) (get_or xs child d) ≡ false =
    λ d. subst (λ (l : List MadeRow). lt (get_or l at d) (get_or l child d) ≡ false) c.as_slice-in-loop-at.ensures.value (sym (c.is_before.ensures d) ∙ c.if-not-is_before.true) in
    sunk_above lt (made_ranked c.args.falling.now) xs at child c.loop-at.invariant.heap last above

pub loop-at-preserved : goal.loop-at-preserved
loop-at-preserved c =
    let lt = row_before c.args.falling.now in
    let xs = c.loop-at.rows.items in
    let ys = c.swap.new.self.items in
    let at = c.loop-at.at in
    let child = c.last_child-child.result in
    let last = subst (λ (l : List MadeRow). IsLastChild lt l at child) c.as_slice.ensures.value c.last_child-child.ensures in
    let below : (d : MadeRow) → lt (get_or xs at d) (get_or xs child d) ≡ true =
    λ d. subst (λ (l : List MadeRow). lt (get_or l at d) (get_or l child d) ≡ true) c.as_slice-in-loop-at.ensures.value (sym (c.is_before.ensures d) ∙ c.if-not-is_before.false) in
    let same = ap length c.swap.ensures.items ∙ length-swap xs at child in
    record {
      heap = sinks lt (made_ranked c.args.falling.now) xs ys at child c.loop-at.invariant.heap last below same c.swap.ensures.by_index;
      moved = IsPermutation-trans c.args.rows.now.items xs ys c.loop-at.invariant.moved (IsPermutation-swap xs ys at child (omega (arith, last.low, last.there)) last.there c.swap.ensures.items);
    }
