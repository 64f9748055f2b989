use Rattle.std.proofs.Common.{◌≡◌, ◌++◌, ℕ, List, Bool, sym, subst, refl}
use Rattle.value_meaning.specs.Val.{Val}
use Rattle.program_meaning.specs.Jobs.{Job}
use Rattle.block_lines.specs.RowLines.{lines_of}
use Rattle.block_lines.specs.Growing.{grown_by_none, grown_by_both}
use Rattle.block_lines.specs.RowLines.{line_of}
use Rattle.scan_meaning.specs.Blocks.{good_rows}
use Rattle.scan_files.specs.Places.{block_held}
use Rattle.worker_merge.specs.Hands.{AddsOf, IsTested}
use Rattle.worker_merge.proofs.More.{at_is, good_next, bad_here, hands_next}
use Rattle.worker_merge.proofs.in_order.put_in_order.Goals as goal

pub add_block-requires-clause-own : goal.add_block-requires-clause-own
add_block-requires-clause-own c =
    let h = c.index-blocks-number.result in
    let at = at_is c.args.blocks.now c.loop-number.number _ h c.loop-number-test.true c.index-blocks-number.is in
    (c.take_from-found.ensures c.args.job.now c.args.fields.now c.args.blocks.now c.loop-number.invariant.own).0 h at

pub returns-in-Ok-false-clause-bad : goal.returns-in-Ok-false-clause-bad
returns-in-Ok-false-clause-bad c =
    let h = c.index-blocks-number.result in
    let at = at_is c.args.blocks.now c.loop-number.number _ h c.loop-number-test.true c.index-blocks-number.is in
    let tested = subst (λ (t : Bool). IsTested (good_rows (block_held c.args.fields.now h)) t) c.in-Ok-false.field-0-test c.in-Ok-false.ensures.tested in
    bad_here c.args.fields.now c.args.blocks.now c.loop-number.number h at c.loop-number.invariant.good tested

pub loop-number-preserved : goal.loop-number-preserved
loop-number-preserved c =
    let h = c.index-blocks-number.result in
    let at = at_is c.args.blocks.now c.loop-number.number _ h c.loop-number-test.true c.index-blocks-number.is in
    let tested = subst (λ (t : Bool). IsTested (good_rows (block_held c.args.fields.now h)) t) c.in-Ok-true.field-0-test c.in-Ok-true.ensures.tested in
    let added = subst (λ (t : Bool). AddsOf (λ x y j rows. y ≡ x ++ lines_of j rows) c.args.job.now h.place.entry.rows (good_rows (block_held c.args.fields.now h)) t c.loop-number.lines c.add_block.new.lines c.loop-number.all.chunks c.add_block.new.all.chunks c.loop-number.all.kept c.add_block.new.all.kept)
    c.in-Ok-true.field-0-test c.in-Ok-true.ensures.added in
    record {
      own = (c.take_from-found.ensures c.args.job.now c.args.fields.now c.args.blocks.now c.loop-number.invariant.own).1;
      good = good_next c.args.fields.now c.args.blocks.now c.loop-number.number h at c.loop-number.invariant.good tested;
      hands = hands_next c.args.fields.now c.args.blocks.now c.loop-number.number h at c.loop-number.invariant.good (λ x y j rows. y ≡ x ++ lines_of j rows) (λ a b d job xs ys p q. grown_by_both (line_of job) a b d xs ys p q) c.args.job.now c.args.lines.now _ _ _ _ _ _ c.loop-number.invariant.hands added;
    }
