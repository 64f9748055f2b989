use Rattle.std.proofs.Common.{arith}
use Rattle.time_text.proofs.ManyDigits.{too_many}
use Rattle.time_text.proofs.+digits_at.Goals as goal

pub returns-then-count-eq9-clause-value : goal.returns-then-count-eq9-clause-value
returns-then-count-eq9-clause-value t c =
    rw c.if-count-eq9.true (too_many c.args.bytes.now c.args.so_far (grind arith) c.if-byte-lt48.false c.if-byte-gt57.false)
