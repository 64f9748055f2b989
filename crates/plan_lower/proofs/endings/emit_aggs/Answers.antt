use Rattle.std.proofs.Common.{◌≡◌, Some, sym, subst, ap, ◌∙◌, arith, length, List}
use Rattle.std.specs.Prelude.{slice_get}
use Rattle.tree_meaning.specs.Tree.{Ex}
use Rattle.check_meaning.specs.Aggregates.{aggregates}
use Rattle.query_tree.specs.View.{view}
use Rattle.lane_ssa.specs.EndParts.{agg_end_view}
use Rattle.plan_lower.specs.Ends.{IsAggregateForm, EmitsAggs}
use Rattle.plan_lower.proofs.Items.{all_at, whole}
use Rattle.plan_lower.proofs.AggregateForms.{aggregates_formed}
use Rattle.plan_lower.proofs.EndRegisters.{listed_aggregates_more}
use Rattle.plan_lower.proofs.Showing.{stays_begun}
use Rattle.plan_lower.proofs.endings.emit_aggs.Goals as goal

pub emit_agg-requires-clause-begun : goal.emit_agg-requires-clause-begun
emit_agg-requires-clause-begun c = stays_begun c.args.builder.now c.loop-at.builder c.args.mask c.requires c.loop-at.invariant.extends

pub emit_agg-requires-clause-aggregate : goal.emit_agg-requires-clause-aggregate
emit_agg-requires-clause-aggregate c =
    let q = c.args.checked.now in
    let there : slice_get (aggregates q) c.loop-at.at ≡ Some c.in-Some.agg.now = ap (λ (es : List Ex). slice_get es c.loop-at.at) (sym c.aggs-list.ensures) ∙ sym c.in-Some.ensures in
    subst IsAggregateForm (sym c.get-in-loop-at.ensures) (all_at IsAggregateForm (aggregates q) c.loop-at.at c.in-Some.agg.now there (aggregates_formed q c.know.ensures.formed))

pub loop-at-preserved : goal.loop-at-preserved
loop-at-preserved c =
    let q = c.args.checked.now in
    let there : slice_get (aggregates q) c.loop-at.at ≡ Some c.in-Some.agg.now = ap (λ (es : List Ex). slice_get es c.loop-at.at) (sym c.aggs-list.ensures) ∙ sym c.in-Some.ensures in
    listed_aggregates_more c.args.builder.now c.loop-at.builder c.emit_agg.new.builder (aggregates q) c.loop-at.at c.args.mask c.in-Some.agg.now (view c.get-in-loop-at.result.now) c.loop-at.aggs c.push.new.self (agg_end_view c.in_ok-emit_agg.field-0)
    c.requires.mask there c.get-in-loop-at.ensures c.in_ok-push.ensures.ok c.loop-at.invariant c.in_ok-emit_agg.ensures

pub returns : goal.returns
returns c =
    let q = c.args.checked.now in
    let same = ap (λ (es : List Ex). length es) c.aggs-list.ensures in
    subst (λ es. EmitsAggs c.args.builder.now c.loop-at.builder es c.args.mask c.loop-at.aggs)
    (whole (aggregates q) c.loop-at.at (omega (arith, same, c.loop-at-test.false, c.len-at-end.ensures))) c.loop-at.invariant
