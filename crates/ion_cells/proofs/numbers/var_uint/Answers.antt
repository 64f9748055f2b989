use Rattle.std.proofs.Common.{refl, arith}
use Rattle.ion_cells.proofs.Bounds.{below_128, uint_ends, uint_long, uint_lasts, uint_goes_on}
use Rattle.ion_cells.proofs.numbers.var_uint.Goals as goal

pub returns-then-place-bytes-clause-number : goal.returns-then-place-bytes-clause-number
returns-then-place-bytes-clause-number c = uint_ends c.args.bytes.now c.args.at _ _ c.loop-i.invariant.1 (omega arith)

pub overflow_mul-result : goal.overflow_mul-result
overflow_mul-result c = omega (arith, (below_128 c.loop-i.number 0 c.loop-i.i (omega arith) c.loop-i.invariant.0 (omega arith)).1)

pub overflow_add-result : goal.overflow_add-result
overflow_add-result c = omega (arith, (below_128 c.loop-i.number c.from.result c.loop-i.i (omega arith) c.loop-i.invariant.0 (omega arith)).1)

pub returns-then-byte-ge128-clause-number : goal.returns-then-byte-ge128-clause-number
returns-then-byte-ge128-clause-number c = rw c.from.ensures (uint_lasts c.args.bytes.now c.args.at _ _ c.loop-i.invariant.1 _ c.loop-i-test.true c.if-place-bytes.false refl c.if-byte-ge128.true)

pub returns-then-byte-ge128-clause-within : goal.returns-then-byte-ge128-clause-within
returns-then-byte-ge128-clause-within c =
    (omega arith, omega arith, omega (arith, (below_128 c.loop-i.number c.from.result c.loop-i.i (omega arith) c.loop-i.invariant.0 (omega arith)).1), omega arith)

pub overflow_mul-number : goal.overflow_mul-number
overflow_mul-number c = omega (arith, (below_128 c.loop-i.number 0 c.loop-i.i (omega arith) c.loop-i.invariant.0 (omega arith)).1)

pub overflow_add-number : goal.overflow_add-number
overflow_add-number c = omega (arith, (below_128 c.loop-i.number c.from-in-loop-i.result c.loop-i.i (omega arith) c.loop-i.invariant.0 (omega arith)).1)

pub loop-i-preserved : goal.loop-i-preserved
loop-i-preserved c =
    ((below_128 c.loop-i.number c.from-in-loop-i.result c.loop-i.i (omega arith) c.loop-i.invariant.0 (omega arith)).0, rw c.from-in-loop-i.ensures (uint_goes_on c.args.bytes.now c.args.at _ _ c.loop-i.invariant.1 _ c.loop-i-test.true c.if-place-bytes.false refl c.if-byte-ge128.false))

pub returns-clause-number : goal.returns-clause-number
returns-clause-number c = uint_long c.args.bytes.now c.args.at _ _ c.loop-i.invariant.1 (omega arith)
