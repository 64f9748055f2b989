use Rattle.std.proofs.Common.{arith}
use Rattle.check_blocks.proofs.Finding.{at_is, rows_more}
use Rattle.check_blocks.proofs.line.count_rows.Goals as goal

pub loop-number-preserved : goal.loop-number-preserved
loop-number-preserved c =
    let e = c.index-entries-number.result in
    let at = at_is c.args.entries.now c.loop-number.number _ e c.loop-number-test.true c.index-entries-number.is in
    let more = rows_more c.args.entries.now c.loop-number.number e at in
    let before = c.loop-number.invariant.counted in
    let own = c.rows_in-rows.ensures.rows in
    let few = c.rows_in-rows.ensures.few in
    let most = c.loop-number.invariant.few in
    record { counted = omega arith; few = omega arith }
