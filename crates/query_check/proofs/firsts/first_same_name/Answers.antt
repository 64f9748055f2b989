use Rattle.std.proofs.Common.{arith}
use Rattle.query_check.proofs.FirstNumber.{is_repeat, repeat_here, repeat_next, number_end}
use Rattle.query_check.proofs.firsts.first_same_name.Goals as goal

pub returns-then-stands_before : goal.returns-then-stands_before
returns-then-stands_before c = repeat_here c.args.names.now c.loop-at.at c.stands_before.result (omega (arith, c.loop-at-test.true, c.len-at-end.ensures)) c.stands_before.ensures c.loop-at.invariant c.number.result c.number.ensures c.if-stands_before.true

pub loop-at-preserved : goal.loop-at-preserved
loop-at-preserved c = repeat_next c.args.names.now c.loop-at.at c.stands_before.result (omega (arith, c.loop-at-test.true, c.len-at-end.ensures)) c.stands_before.ensures c.loop-at.invariant c.if-stands_before.false

pub returns : goal.returns
returns c = number_end (is_repeat c.args.names.now) c.args.names.now c.loop-at.at c.loop-at.invariant (omega (arith, c.loop-at-test.false, c.len-at-end.ensures))
