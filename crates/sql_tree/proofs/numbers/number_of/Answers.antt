use Rattle.std.proofs.Common.{◌+◌, ◌-◌, ◌*◌, drop, arith, get_or}
use Rattle.sql_tree.proofs.LexSteps.{too_large, small_enough}
use Rattle.tree_meaning.proofs.Decimals.{decimal_at, decimal_grows, past_end}
use Rattle.sql_tree.proofs.numbers.number_of.Goals as goal

pub returns-then-number-gt922337203685477580 : goal.returns-then-number-gt922337203685477580
returns-then-number-gt922337203685477580 c =
    let ds = c.args.digits.now in
    let i = c.loop-digit.digit-index in
    let next = decimal_at ds i c.loop-digit.number c.loop-digit-test.true in
    let grows = decimal_grows (drop (i + 1) ds) (c.loop-digit.number * 10 + (get_or ds i 0 - 48)) in
    too_large ds (c.loop-digit.number * 10) (omega arith) (omega (arith, c.loop-digit.invariant.1))

pub returns-then-number-gt9223372036854775807 : goal.returns-then-number-gt9223372036854775807
returns-then-number-gt9223372036854775807 c =
    let ds = c.args.digits.now in
    let i = c.loop-digit.digit-index in
    let next = decimal_at ds i c.loop-digit.number c.loop-digit-test.true in
    let grows = decimal_grows (drop (i + 1) ds) (c.loop-digit.number * 10 + (get_or ds i 0 - 48)) in
    too_large ds (c.loop-digit.number * 10 + (get_or ds i 0 - 48)) (omega arith) (omega (arith, c.loop-digit.invariant.1))

pub returns : goal.returns
returns c =
    let ds = c.args.digits.now in
    small_enough ds c.loop-digit.number c.loop-digit.invariant.0 (past_end ds c.loop-digit.digit-index c.loop-digit.number (omega arith) c.loop-digit.invariant.1)
