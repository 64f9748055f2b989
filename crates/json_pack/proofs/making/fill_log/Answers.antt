use Rattle.std.proofs.Common.{refl, ap, arith, ◌∙◌, ◌+◌, ℕ}
use Rattle.json_pack.proofs.Fronts.{extends_none}
use Rattle.json_pack.proofs.Logs.{log_starts, making_goes, made_front, making_breaks, log_file, log_holds, log_sum, log_front}
use Rattle.json_pack.proofs.making.fill_log.Goals as goal

pub loop-made-init : goal.loop-made-init
loop-made-init g c = record {
  log = c.new-log.ensures;
  low = omega arith;
  making = log_starts c.args.start _ _ _ c.new.ensures refl (extends_none _ _);
  later = omega arith;
  misses = refl;
  read_faults = refl;
  taken = refl;
}

pub loop-made-preserved : goal.loop-made-preserved
loop-made-preserved g c =
    let m = c.loop-made.invariant in
    record {
      log = c.in-Ok.ensures.log ∙ ap (λ (l : ℕ × ℕ). (l.0, l.1 + 1)) m.log;
      low = omega (arith, c.loop-made-test.true);
      making = making_goes c.args.start c.loop-made.made (c.loop-made.made + 1) c.loop-made.log _ _ _ c.args.name.now c.in-Ok.closed _ c.loop-made.packed c.add_row.new.packed m.log m.making c.in-Ok.ensures.row c.add_row.ensures.dropped
          c.as_slice.ensures c.in-Ok-put_piece.ensures.grown refl;
      later = omega (arith, m.later, c.in-Ok-put_piece.ensures.fault.later);
      misses = c.in-Ok-put_piece.ensures.same_misses ∙ m.misses;
      read_faults = c.in-Ok-put_piece.ensures.same_read_faults ∙ m.read_faults;
      taken = c.in-Ok-put_piece.ensures.same_taken ∙ m.taken;
    }

pub returns-in-Err-clause-front : goal.returns-in-Err-clause-front
returns-in-Err-clause-front g c = made_front c.args.start c.loop-made.made c.args.rows _ _ c.args.name.now c.loop-made.packed c.loop-made.invariant.making c.loop-made.invariant.low

pub returns-in-Err-put_piece-clause-front : goal.returns-in-Err-put_piece-clause-front
returns-in-Err-put_piece-clause-front g c =
    making_breaks c.args.start c.loop-made.made c.args.rows c.loop-made.log _ _ _ c.args.name.now c.in-Ok.closed _ c.loop-made.packed c.add_row.new.packed c.loop-made.invariant.log c.loop-made.invariant.making c.in-Ok.ensures.row
    c.loop-made-test.true c.as_slice.ensures c.in-Err-put_piece.ensures.cut

pub returns-clause-file : goal.returns-clause-file
returns-clause-file g c =
    log_file c.args.start c.loop-made.made c.args.rows _ _ _ c.args.name.now c.loop-made.packed c.loop-made.invariant.making (omega (arith, c.loop-made-test.false, c.loop-made.invariant.low)) c.end_file.result c.end_file.ensures.file

pub returns-clause-holds : goal.returns-clause-holds
returns-clause-holds g c =
    log_holds c.args.start c.loop-made.made c.args.rows _ _ (g.F.Files.told c.loop-made.files) c.args.name.now c.loop-made.packed c.loop-made.invariant.making (omega (arith, c.loop-made-test.false, c.loop-made.invariant.low)) c.end_file.result

pub returns-clause-sum : goal.returns-clause-sum
returns-clause-sum g c =
    log_sum c.args.start c.loop-made.made c.args.rows _ _ (g.F.Files.told c.loop-made.files) c.args.name.now c.loop-made.packed c.loop-made.invariant.making (omega (arith, c.loop-made-test.false, c.loop-made.invariant.low)) c.end_file.result c.end_file.ensures.sum

pub returns-clause-front : goal.returns-clause-front
returns-clause-front g c =
    log_front c.args.start c.loop-made.made c.args.rows _ _ _ c.args.name.now c.loop-made.packed c.loop-made.invariant.making (omega (arith, c.loop-made-test.false, c.loop-made.invariant.low)) c.end_file.result c.end_file.ensures.broken
