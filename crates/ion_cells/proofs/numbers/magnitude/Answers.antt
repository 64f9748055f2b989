use Rattle.std.proofs.Common.{arith, sym, ◌∙◌, refl}
use Rattle.std.proofs.Math.ListN.{drop_of_length-le}
use Rattle.block_meaning.specs.Numbers.{magnitude}
use Rattle.ion_cells.proofs.Bounds.{below_256, magnitude_next}
use Rattle.ion_cells.proofs.numbers.magnitude.Goals as goal

pub overflow_mul-number : goal.overflow_mul-number
overflow_mul-number c =
    let b = below_256 c.loop-byte.number 0 c.loop-byte.byte-index (omega arith) c.loop-byte.invariant.0 (omega arith) in
    omega (arith, b.1)

pub overflow_add-number : goal.overflow_add-number
overflow_add-number c =
    let b = below_256 c.loop-byte.number c.from.result c.loop-byte.byte-index (omega arith) c.loop-byte.invariant.0 (omega (arith, c.type_inv.bytes c.loop-byte.byte-index)) in
    omega (arith, b.1)

pub loop-byte-preserved : goal.loop-byte-preserved
loop-byte-preserved c =
    ((below_256 c.loop-byte.number c.from.result c.loop-byte.byte-index (omega arith) c.loop-byte.invariant.0 (omega (arith, c.type_inv.bytes c.loop-byte.byte-index))).0, magnitude_next _ _ _ _ _ c.loop-byte-test.true c.from.ensures c.loop-byte.invariant.1)

pub returns : goal.returns
unfolding magnitude
returns c = sym (c.loop-byte.invariant.1 ∙ (rw (drop_of_length-le c.args.bytes.now c.loop-byte-test.false) refl))
