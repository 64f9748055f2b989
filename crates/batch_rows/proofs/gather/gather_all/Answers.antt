use Rattle.std.proofs.Common.{◌+◌, ◌*◌, ◌<◌, length, refl, sym, ◌∙◌, arith}
use Rattle.query_tree.specs.Queries.{query_view}
use Rattle.scan_meaning.specs.Blocks.{Place}
use Rattle.scan_files.specs.Places.{IsPlaced}
use Rattle.scan_files.proofs.Parts.{All_part, room_more}
use Rattle.scan_batches.proofs.Gathering.{starts, ends, stopped, came_to, more, part_few, room_within}
use Rattle.batch_rows.specs.Grown.{GrewByRows}
use Rattle.batch_rows.proofs.Handing.{grown_by_none}
use Rattle.batch_rows.proofs.gather.gather_all.Goals as goal

pub loop-number-init : goal.loop-number-init
loop-number-init g c = record {
  told = refl;
  same_misses = refl;
  same_write_faults = refl;
  faults = omega arith;
  later = omega arith;
  most = omega arith;
  takes = c.requires.takes;
  gathering = starts _ (query_view c.args.query.now) c.args.names.now c.args.fields.now c.args.places.now (GrewByRows g.S.RowSink.grew c.args.sink.now c.args.sink.now c.args.job.now) _ _
      (grown_by_none g.S.RowSink.grew c.args.job.now c.args.sink.now ((g.met.S.RowSink g.world.𝓛 g.world.𝓜 g.world.𝓡 ((λ s x. x), (λ x. x), (λ x. x), λ x. x)).grew_by_none c.args.sink.now c.args.job.now)) c.requires.no_chunks c.requires.no_rows;
}

pub gather_batch-requires-clause-named : goal.gather_batch-requires-clause-named
gather_batch-requires-clause-named g c =
    λ lifetimes lives. All_part (λ (p : Place). p.file < length c.args.names.now) 64 (64 * c.loop-number.number) c.args.places.now c.batch_of-batch.result.now c.batch_of-batch.ensures c.requires.named

pub gather_batch-requires-clause-placed : goal.gather_batch-requires-clause-placed
gather_batch-requires-clause-placed g c =
    λ lifetimes lives files is. All_part (λ (p : Place). IsPlaced files c.args.names.now p) 64 (64 * c.loop-number.number) c.args.places.now c.batch_of-batch.result.now c.batch_of-batch.ensures (c.requires.placed files (sym c.loop-number.invariant.told ∙ is))

pub returns-in-Err-clause-bad : goal.returns-in-Err-clause-bad
returns-in-Err-clause-bad g c =
    stopped _ (query_view c.args.query.now) c.args.names.now c.args.fields.now c.args.places.now c.loop-number.number _ _ _ c.loop-number.invariant.gathering
    c.batch_of-batch.result.now c.batch_of-batch.ensures _ c.loop-number.invariant.told c.in-Err.fault c.in-Err.ensures.bad

pub returns-in-Err-clause-most : goal.returns-in-Err-clause-most
returns-in-Err-clause-most g c =
    let next = room_more c.loop-number.number c.args.places.now c.batch_of-batch.result.now c.batch_of-batch.ensures in
    let all = room_within (c.loop-number.number + 1) c.args.places.now in
    omega (arith, c.loop-number.invariant.most, c.gather_batch.ensures.most, next, all)

pub loop-number-preserved : goal.loop-number-preserved
loop-number-preserved g c =
    let got = c.in-Ok.ensures.gathered in
    let next = room_more c.loop-number.number c.args.places.now c.batch_of-batch.result.now c.batch_of-batch.ensures in
    record {
      told = c.gather_batch.ensures.told ∙ c.loop-number.invariant.told;
      same_misses = c.gather_batch.ensures.same_misses ∙ c.loop-number.invariant.same_misses;
      same_write_faults = c.gather_batch.ensures.same_write_faults ∙ c.loop-number.invariant.same_write_faults;
      faults = omega (arith, c.loop-number.invariant.faults, c.gather_batch.ensures.fault.later);
      later = omega (arith, c.loop-number.invariant.later, c.gather_batch.ensures.later);
      most = omega (arith, c.loop-number.invariant.most, c.gather_batch.ensures.most, next);
      takes = c.in-Ok.ensures.takes;
      gathering = more _ (query_view c.args.query.now) c.args.names.now c.args.fields.now c.args.places.now c.loop-number.number (GrewByRows g.S.RowSink.grew c.args.sink.now c.loop-number.sink c.args.job.now) _ _ c.loop-number.invariant.gathering
          c.batch_of-batch.result.now c.batch_of-batch.ensures _ c.loop-number.invariant.told _ refl (GrewByRows g.S.RowSink.grew c.args.sink.now c.gather_batch.new.sink c.args.job.now) _ _
          (got.0, got.1, got.2, λ rows h. got.3 rows c.args.sink.now h)
          (part_few c.loop-number.number c.args.places.now c.batch_of-batch.result.now c.batch_of-batch.ensures) (omega arith);
    }

pub returns-clause-gathered : goal.returns-clause-gathered
returns-clause-gathered g c =
    ends _ (query_view c.args.query.now) c.args.names.now c.args.fields.now c.args.places.now c.loop-number.number _ _ _ c.loop-number.invariant.gathering (omega arith) (omega arith)

pub returns-in-Err-clause-stopped : goal.returns-in-Err-clause-stopped
returns-in-Err-clause-stopped g c =
    came_to _ (query_view c.args.query.now) c.args.names.now c.args.fields.now c.args.places.now c.loop-number.number _ _ _ c.loop-number.invariant.gathering
    c.batch_of-batch.result.now c.batch_of-batch.ensures c.in-Err.fault _ _ _ c.loop-number.invariant.most c.gather_batch.ensures.most
