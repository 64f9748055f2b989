use Rattle.std.proofs.Common.{◌-◌, ◌*◌, ap, ◌<◌, ℕ, length, refl, sym, ◌∙◌, arith}
use Rattle.scan_batches.specs.Lines.{left_of}
use Rattle.scan_meaning.specs.Blocks.{Place}
use Rattle.query_tree.specs.Queries.{query_view}
use Rattle.scan_files.specs.Places.{IsPlaced}
use Rattle.scan_files.proofs.Parts.{All_part, room_more}
use Rattle.scan_batches.proofs.Rounds.{starts, ends_full, ends_all, cost_at, cost_more, stopped, put_more, put_part, put_some}
use Rattle.batch_lines.proofs.scan.scan_all.Goals as goal

pub loop-number-init : goal.loop-number-init
loop-number-init g c = record {
  told = refl;
  same_misses = refl;
  same_write_faults = refl;
  faults = omega arith;
  later = omega arith;
  put_faults = omega arith;
  most = omega arith;
  underway = starts _ (query_view c.args.query.now) c.args.names.now c.args.fields.now c.args.places.now _ _ _ _ _ c.requires.plain c.requires.skip c.requires.take c.requires.no_chunks c.requires.no_rows;
}

pub returns-then-is_full-clause-outcome : goal.returns-then-is_full-clause-outcome
returns-then-is_full-clause-outcome g c =
    ends_full _ (query_view c.args.query.now) c.requires.plain c.args.names.now c.args.fields.now c.args.places.now c.loop-number.number _ _ _ _ _ _ _ c.loop-number.invariant.underway
    c.requires.few (c.is_full.ensures.dropped c.if-is_full.true) (c.is_full.ensures.taken c.if-is_full.true) (64 * c.loop-number.number) refl (omega arith)

pub returns-then-is_full-clause-cost : goal.returns-then-is_full-clause-cost
returns-then-is_full-clause-cost g c =
    cost_at _ (query_view c.args.query.now) c.requires.plain c.args.names.now c.args.fields.now c.args.places.now c.loop-number.number _ _ _ _ _ _ _ c.loop-number.invariant.underway
    (omega arith) _ _ c.loop-number.invariant.most

pub next_batch-requires-clause-named : goal.next_batch-requires-clause-named
next_batch-requires-clause-named g c κs within =
    All_part (λ (p : Place). p.file < length c.args.names.now) 64 (64 * c.loop-number.number) c.args.places.now c.batch_of-batch.result.now c.batch_of-batch.ensures c.requires.named

pub next_batch-requires-clause-placed : goal.next_batch-requires-clause-placed
next_batch-requires-clause-placed g c κs within =
    λ files is. All_part (λ (p : Place). IsPlaced files c.args.names.now p) 64 (64 * c.loop-number.number) c.args.places.now c.batch_of-batch.result.now c.batch_of-batch.ensures (c.requires.placed files (sym c.loop-number.invariant.told ∙ is))

pub returns-in-Err-clause-outcome : goal.returns-in-Err-clause-outcome
returns-in-Err-clause-outcome g c =
    stopped _ (query_view c.args.query.now) c.requires.plain c.args.names.now c.args.fields.now c.args.places.now c.loop-number.number _ _ _ _ _ _ _ c.loop-number.invariant.underway
    c.batch_of-batch.result.now c.batch_of-batch.ensures (c.is_full.ensures.open c.if-is_full.false)
    c.in-Err.fault _ _ _ _ _ _ c.loop-number.invariant.told c.in-Err.ensures.reading c.in-Err.ensures.bad c.loop-number.invariant.most c.next_batch.ensures.most

pub returns-in-Err-clause-cost : goal.returns-in-Err-clause-cost
returns-in-Err-clause-cost g c =
    cost_more _ (query_view c.args.query.now) c.requires.plain c.args.names.now c.args.fields.now c.args.places.now c.loop-number.number _ _ _ _ _ _ _ c.loop-number.invariant.underway
    c.batch_of-batch.result.now c.batch_of-batch.ensures (c.is_full.ensures.open c.if-is_full.false)
    (omega arith) _ _ _ c.loop-number.invariant.most c.next_batch.ensures.most

pub returns-in-Err-put_lines-clause-outcome : goal.returns-in-Err-put_lines-clause-outcome
returns-in-Err-put_lines-clause-outcome g c =
    put_part _ (query_view c.args.query.now) c.requires.plain c.args.names.now c.args.fields.now c.args.places.now c.loop-number.number _ _ _ _ _ _ _ c.loop-number.invariant.underway
    c.batch_of-batch.result.now c.batch_of-batch.ensures (c.is_full.ensures.open c.if-is_full.false)
    _ _ _ _ c.loop-number.invariant.told c.in-Ok.ensures.scanned _ c.in-Err-put_lines.ensures.part

pub returns-in-Err-put_lines-clause-some : goal.returns-in-Err-put_lines-clause-some
returns-in-Err-put_lines-clause-some g c =
    put_some _ (query_view c.args.query.now) c.requires.plain c.args.names.now c.args.fields.now c.args.places.now c.loop-number.number _ _ _ _ _ _ _ c.loop-number.invariant.underway
    c.batch_of-batch.result.now c.batch_of-batch.ensures (c.is_full.ensures.open c.if-is_full.false)
    _ _ _ _ c.loop-number.invariant.told c.in-Ok.ensures.scanned _ c.in-Err-put_lines.ensures.part

pub returns-in-Err-put_lines-clause-cost : goal.returns-in-Err-put_lines-clause-cost
returns-in-Err-put_lines-clause-cost g c =
    cost_more _ (query_view c.args.query.now) c.requires.plain c.args.names.now c.args.fields.now c.args.places.now c.loop-number.number _ _ _ _ _ _ _ c.loop-number.invariant.underway
    c.batch_of-batch.result.now c.batch_of-batch.ensures (c.is_full.ensures.open c.if-is_full.false)
    (omega arith) _ _ _ c.loop-number.invariant.most c.next_batch.ensures.most

pub loop-number-preserved : goal.loop-number-preserved
loop-number-preserved g c =
    let more = room_more c.loop-number.number c.args.places.now c.batch_of-batch.result.now c.batch_of-batch.ensures in
    record {
      told = c.next_batch.ensures.told ∙ c.loop-number.invariant.told;
      same_misses = c.next_batch.ensures.same_misses ∙ c.loop-number.invariant.same_misses;
      same_write_faults = c.next_batch.ensures.same_write_faults ∙ c.loop-number.invariant.same_write_faults;
      faults = omega (arith, c.loop-number.invariant.faults, c.next_batch.ensures.fault.later);
      later = omega (arith, c.loop-number.invariant.later, c.next_batch.ensures.later);
      put_faults = omega (arith, c.loop-number.invariant.put_faults, c.put_lines.ensures.fault.later);
      most = omega (arith, c.loop-number.invariant.most, c.next_batch.ensures.most, more);
      underway = put_more _ (query_view c.args.query.now) c.requires.plain c.args.names.now c.args.fields.now c.args.places.now c.loop-number.number _ _ _ _ _ _ _ c.loop-number.invariant.underway
          c.batch_of-batch.result.now c.batch_of-batch.ensures (c.is_full.ensures.open c.if-is_full.false)
          c.next_batch.new.lines _ _ _ c.loop-number.invariant.told c.in-Ok.ensures.scanned
          _ c.in-Ok-put_lines.count _ _ _ c.in-Ok-put_lines.ensures.put c.in-Ok-put_lines.ensures.count c.saturating_add-put.ensures (c.rest_of-left.ensures.skip ∙ ap (λ (n : ℕ). c.loop-number.left.skip - n) c.len.ensures) (c.rest_of-left.ensures.take ∙ ap (λ (n : ℕ). left_of c.loop-number.left.take (n - c.loop-number.left.skip)) c.len.ensures);
    }

pub returns-clause-outcome : goal.returns-clause-outcome
returns-clause-outcome g c =
    ends_all _ (query_view c.args.query.now) c.requires.plain c.args.names.now c.args.fields.now c.args.places.now c.loop-number.number _ _ _ _ _ _ _ c.loop-number.invariant.underway
    c.requires.few (length c.args.places.now) refl (omega arith)

pub returns-clause-cost : goal.returns-clause-cost
returns-clause-cost g c =
    cost_at _ (query_view c.args.query.now) c.requires.plain c.args.names.now c.args.fields.now c.args.places.now c.loop-number.number _ _ _ _ _ _ _ c.loop-number.invariant.underway
    (omega arith) _ _ c.loop-number.invariant.most
