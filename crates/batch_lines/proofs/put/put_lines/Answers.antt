use Rattle.std.proofs.Common.{sym, arith}
use Rattle.scan_batches.proofs.Puts.{put_one, put_cut}
use Rattle.batch_lines.proofs.put.put_lines.Goals as goal

pub returns-in-Err-clause-part : goal.returns-in-Err-clause-part
returns-in-Err-clause-part g c =
    let bound = c.range_of-from.ensures.bound in
    put_cut _ _ _ c.range_of-from.result.0 c.loop-at.at c.args.lines.now c.in-Some.line.now (omega arith) (sym c.in-Some.ensures) c.loop-at.invariant.put
    c.range_of-from.result.1 c.in-Err.ensures.cut.0 _ (omega arith) (c.range_of-from.ensures.cut c.args.lines.now (sym c.len.ensures)) c.in-Err.ensures.cut.1

pub loop-at-preserved : goal.loop-at-preserved
loop-at-preserved g c = record {
  put = put_one _ _ _ c.range_of-from.result.0 c.loop-at.at c.args.lines.now c.in-Some.line.now (omega arith) (sym c.in-Some.ensures) c.loop-at.invariant.put c.in-Ok.ensures.added;
  later = omega (arith, c.loop-at.invariant.later, c.put.ensures.fault.later);
}
