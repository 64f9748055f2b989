use Rattle.std.proofs.Common.{Some, ap, sym, ◌∙◌, arith, length, List, ℕ}
use Rattle.scan_batches.specs.Gathers.{lines_of}
use Rattle.scan_batches.proofs.Puts.{put_one, put_cut, line_at, all_between, lines_long}
use Rattle.scan_batches.proofs.put.put_rows.Goals as goal

pub returns-in-Err-clause-part : goal.returns-in-Err-clause-part
returns-in-Err-clause-part g c =
    let cut = c.in-Err.ensures.cut in
    put_cut _ _ _ 0 c.loop-at.at (lines_of c.args.rows.now) c.as_slice.result.now (omega arith)
    (line_at c.args.rows.now c.loop-at.at c.in-Some.row.now.keys c.as_slice.result.now (ap (λ (l : List ℕ). Some (c.in-Some.row.now.keys, l)) c.as_slice.ensures ∙ c.in-Some.ensures))
    c.loop-at.invariant.put (length c.args.rows.now) cut.0 (lines_of c.args.rows.now) (omega arith)
    (all_between (lines_of c.args.rows.now) (length c.args.rows.now) (sym (lines_long c.args.rows.now))) cut.1

pub loop-at-preserved : goal.loop-at-preserved
loop-at-preserved g c = record {
  put = put_one _ _ _ 0 c.loop-at.at (lines_of c.args.rows.now) c.as_slice.result.now (omega arith)
      (line_at c.args.rows.now c.loop-at.at c.in-Some.row.now.keys c.as_slice.result.now (ap (λ (l : List ℕ). Some (c.in-Some.row.now.keys, l)) c.as_slice.ensures ∙ c.in-Some.ensures))
      c.loop-at.invariant.put c.in-Ok.ensures.added;
  later = omega (arith, c.loop-at.invariant.later, c.put.ensures.fault.later);
}
