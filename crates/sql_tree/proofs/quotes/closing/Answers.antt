use Rattle.std.proofs.Common.{◌∙◌, arith}
use Rattle.sql_tree.proofs.LexSteps.{at_other, at_double}
use Rattle.sql_tree.proofs.quotes.closing.Goals as goal

pub places-preserved-then-bytes-place : goal.places-preserved-then-bytes-place
places-preserved-then-bytes-place c =
    (omega arith, c.places.invariant.1, c.places.invariant.2 ∙ at_other c.args.quote c.args.bytes.now c.places.place c.places.candidate c.places-test.true c.if-bytes-place.true)

pub places-preserved : goal.places-preserved
places-preserved c =
    (omega arith, omega arith, c.places.invariant.2 ∙ at_double c.args.quote c.args.bytes.now c.places.place c.places.candidate c.if-place-bytes.true c.if-bytes-place.false c.if-bytes-place-2.true)
