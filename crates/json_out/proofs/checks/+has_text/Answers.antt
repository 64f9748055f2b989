-- The item at a place is the first of those from there on.
use Rattle.std.proofs.Common.{◌≤◌, ◌+◌, List, ◌∷◌, drop, refl, sym, ap, subst, arith}
use Rattle.value_meaning.specs.Val.{Val, vals, vals_size}
use Rattle.block_meaning.specs.Stored.{HaveTimesInRange}
use Rattle.snel_values.specs.View.{view, views}
use Rattle.snel_values.proofs.Comparing.{drop_map}
use Rattle.json_out.specs.NoMissing.{HaveNoMissing}
use Rattle.json_out.proofs.HavingTexts.{first_has, others_have}
use Rattle.json_out.proofs.checks.+has_text.Goals as goal

pub all_have_texts-has_text-requires : goal.all_have_texts-has_text-requires
all_have_texts-has_text-requires t c =
    let xs = c.as_slice-item-items.result.now in
    let e = drop_map view xs c.loop-item.item-index c.item-item.result c.loop-item-test.true c.item-item.is in
    let rest = drop (c.loop-item.item-index + 1) (views xs) in
    let small : vals_size (vals (view c.item-item.result ∷ rest)) ≤ vals_size (vals (views xs)) = subst (λ (l : List Val). vals_size (vals l) ≤ vals_size (vals (views xs))) e c.loop-item.invariant.1 in
    let same = ap (λ (l : List Val). vals_size (vals l)) c.as_slice-item-items.ensures in
    (omega (arith, small, same, c.decreases), tt)

pub all_have_texts-returns-then-not-has_text : goal.all_have_texts-returns-then-not-has_text
all_have_texts-returns-then-not-has_text t c =
    let xs = c.as_slice-item-items.result.now in
    let e = drop_map view xs c.loop-item.item-index c.item-item.result c.loop-item-test.true c.item-item.is in
    let all = sym c.as_slice-item-items.ensures in (
      λ f. cc,
      λ k. c.if-not-has_text.ensures.1 (first_has _ _ _ _ c.loop-item.invariant.0 e (subst (λ (l : List Val). HaveTimesInRange (vals l) × HaveNoMissing (vals l)) all k)),
    )

pub all_have_texts-loop-item-preserved : goal.all_have_texts-loop-item-preserved
all_have_texts-loop-item-preserved t c =
    let xs = c.as_slice-item-items.result.now in
    let e = drop_map view xs c.loop-item.item-index c.item-item.result c.loop-item-test.true c.item-item.is in
    let rest = drop (c.loop-item.item-index + 1) (views xs) in
    let small : vals_size (vals (view c.item-item.result ∷ rest)) ≤ vals_size (vals (views xs)) = subst (λ (l : List Val). vals_size (vals l) ≤ vals_size (vals (views xs))) e c.loop-item.invariant.1 in
    (others_have _ _ _ _ c.loop-item.invariant.0 e (c.if-not-has_text.ensures.0 refl), omega (arith, small))
