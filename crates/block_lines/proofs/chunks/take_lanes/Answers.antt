use Rattle.std.proofs.Common.{◌≡◌, true, false, sym, ap, subst, take, List, ◌∙◌, add-one, arith}
use Rattle.std.specs.Prelude.{slice_get}
use Rattle.value_meaning.specs.Val.{Val}
use Rattle.lane_ssa.specs.ChunksOf.{rows_from}
use Rattle.block_lines.specs.RowLines.{kept_rows}
use Rattle.block_lines.proofs.RowAt.{place_in, chunk_short}
use Rattle.block_lines.proofs.Kept.{passed_is}
use Rattle.block_lines.proofs.LaneByLane.{keeps_at, kept_is_there}
use Rattle.block_lines.proofs.KeptRows.{kept_here, none_here, row_here, all_taken}
use Rattle.block_lines.proofs.chunks.take_lanes.Goals as goal
use Rattle.block_lines.proofs.chunks.take_lanes.Goals.{then-has+in_ok-take, else-has}

pub loop-lane-init : goal.loop-lane-init
loop-lane-init g c = g.met.S.RowSink.grew_by_none c.args.sink.now c.args.frame.now.job

pub take-requires-clause-takes : goal.take-requires-clause-takes
take-requires-clause-takes g c = g.met.S.RowSink.takes_more c.args.sink.now c.loop-lane.sink c.args.frame.now.job _ c.requires.takes c.loop-lane.invariant

pub take-requires-clause-within : goal.take-requires-clause-within
take-requires-clause-within g c =
    let rows = rows_from c.args.first c.args.block.now.1 in
    let keeps : keeps_at c.args.frame.now.job (slice_get rows c.loop-lane.lane) ≡ true =
    sym (passed_is c.args.block.now.0 rows c.args.frame.now c.requires.ran c.kept-kept.result.0 c.kept-kept.ensures c.loop-lane.lane c.loop-lane-test.true) ∙ (sym c.has.ensures ∙ c.if-has.true) in
    place_in c.args.block.now.1 c.args.first c.loop-lane.lane (kept_is_there c.args.frame.now.job rows c.loop-lane.lane keeps)

pub loop-lane-preserved : goal.loop-lane-preserved
loop-lane-preserved g c =
    let job = c.args.frame.now.job in
    let rows = rows_from c.args.first c.args.block.now.1 in
    let passed = passed_is c.args.block.now.0 rows c.args.frame.now c.requires.ran c.kept-kept.result.0 c.kept-kept.ensures c.loop-lane.lane c.loop-lane-test.true in
    elim c.if-has.branch [
      | then-has+in_ok-take w ↦
          let keeps : keeps_at job (slice_get rows c.loop-lane.lane) ≡ true = sym passed ∙ (sym c.has.ensures ∙ w.if-has.true) in
          let here = row_here job rows c.loop-lane.lane keeps in
          let grown = g.met.S.RowSink.grew_by_both c.args.sink.now c.loop-lane.sink w.take.new.self job _ _ c.loop-lane.invariant (w.in_ok-take.ensures here.0 here.1) in
          rw (add-one, w.sink-is) (subst (g.S.RowSink.grew c.args.sink.now w.take.new.self job) (sym (kept_here job rows c.loop-lane.lane here.0 here.1 keeps)) grown)
      | else-has w ↦
          let fails : keeps_at job (slice_get rows c.loop-lane.lane) ≡ false = sym passed ∙ (sym c.has.ensures ∙ w.if-has.false) in
          rw (add-one, w.sink-is) (subst (g.S.RowSink.grew c.args.sink.now c.loop-lane.sink job) (sym (none_here job rows c.loop-lane.lane fails)) c.loop-lane.invariant)
    ]

pub returns : goal.returns
returns g c =
    let job = c.args.frame.now.job in
    let rows = rows_from c.args.first c.args.block.now.1 in
    let all = all_taken rows c.loop-lane.lane (omega (arith, c.loop-lane-test.false, chunk_short c.args.block.now.1 c.args.first)) in
    subst (λ (l : List Val). g.S.RowSink.grew c.args.sink.now c.loop-lane.sink job (kept_rows job l)) all c.loop-lane.invariant
