use Rattle.std.proofs.Common.{◌∙◌, refl, sym, subst, Bool}
use Rattle.program_meaning.specs.Jobs.{Job}
use Rattle.scan_meaning.specs.Blocks.{good_rows}
use Rattle.scan_files.specs.Places.{block_held}
use Rattle.worker_merge.specs.Hands.{AddsOf, IsTested}
use Rattle.worker_merge.proofs.More.{at_is, starts, good_next, bad_here, hands_next}
use Rattle.worker_merge.proofs.each.scan_each.Goals as goal

pub loop-number-init : goal.loop-number-init
loop-number-init g c = record {
  job = c.in-Ok.ensures.job;
  good = refl;
  hands = starts g.S.RowSink.grew c.args.job.now c.args.sink.now (g.met.S.RowSink.grew_by_none c.args.sink.now c.args.job.now) _ _ c.in-Ok.ensures.chunks c.in-Ok.ensures.kept;
}

pub scan_one-requires-clause-takes : goal.scan_one-requires-clause-takes
scan_one-requires-clause-takes g c =
    let h = c.loop-number.invariant in
    subst (g.S.RowSink.takes c.loop-number.sink) (sym h.job) (g.met.S.RowSink.takes_more c.args.sink.now c.loop-number.sink c.args.job.now _ c.requires.takes h.hands.grew_by)

pub returns-in-Ok-false-clause-bad : goal.returns-in-Ok-false-clause-bad
returns-in-Ok-false-clause-bad g c =
    let h = c.index-blocks-number.result in
    let at = at_is c.args.blocks.now c.loop-number.number _ h c.loop-number-test.true c.index-blocks-number.is in
    let tested = subst (λ (t : Bool). IsTested (good_rows (block_held c.args.fields.now h)) t) c.in-Ok-false.field-0-test c.in-Ok-false.ensures.tested in
    bad_here c.args.fields.now c.args.blocks.now c.loop-number.number h at c.loop-number.invariant.good tested

pub loop-number-preserved : goal.loop-number-preserved
loop-number-preserved g c =
    let h = c.index-blocks-number.result in
    let at = at_is c.args.blocks.now c.loop-number.number _ h c.loop-number-test.true c.index-blocks-number.is in
    let tested = subst (λ (t : Bool). IsTested (good_rows (block_held c.args.fields.now h)) t) c.in-Ok-true.field-0-test c.in-Ok-true.ensures.tested in
    let test = subst (λ (t : Bool). AddsOf g.S.RowSink.grew c.loop-number.frame.job h.place.entry.rows (good_rows (block_held c.args.fields.now h)) t c.loop-number.sink c.scan_one.new.sink c.loop-number.frame.chunks c.scan_one.new.frame.chunks c.loop-number.frame.kept c.scan_one.new.frame.kept)
    c.in-Ok-true.field-0-test c.in-Ok-true.ensures.added in
    let added = subst (λ (j : Job). AddsOf g.S.RowSink.grew j h.place.entry.rows (good_rows (block_held c.args.fields.now h)) _ c.loop-number.sink c.scan_one.new.sink c.loop-number.frame.chunks c.scan_one.new.frame.chunks c.loop-number.frame.kept c.scan_one.new.frame.kept)
    c.loop-number.invariant.job test in
    record {
      job = c.scan_one.ensures.job ∙ c.loop-number.invariant.job;
      good = good_next c.args.fields.now c.args.blocks.now c.loop-number.number h at c.loop-number.invariant.good tested;
      hands = hands_next c.args.fields.now c.args.blocks.now c.loop-number.number h at c.loop-number.invariant.good g.S.RowSink.grew g.met.S.RowSink.grew_by_both c.args.job.now c.args.sink.now _ _ _ _ _ _ c.loop-number.invariant.hands added;
    }
