use Rattle.std.proofs.Common.{pos, length, ◌∙◌}
use Rattle.std.specs.Str.{chars}
use Rattle.lane_base.specs.Bits.{has}
use Rattle.lane_base.specs.Registers.{number_at}
use Rattle.lane_text.proofs.TextLanes.{span_utf8, number_value, number_apart}
use Rattle.lane_text.proofs.kernels.length16.Goals as goal

pub ints-requires : goal.ints-requires
ints-requires c k = rw (c.and.ensures, c.and-texts.ensures) (number_apart c.args.a.now k (has c.args.m.0 k))

pub returns-clause-value : goal.returns-clause-value
returns-clause-value c table p i h =
    c.ints.ensures.value table i h
    ∙ rw (c.and.ensures, c.and-texts.ensures)
    (number_value table c.args.a.now i (has c.args.m.0 i) (number_at c.lengths.result.lanes i) (λ s. pos (length (chars s))) (p.lane i h)
    (λ t. c.lengths.ensures i h (rw c.and-texts.ensures t) (span_utf8 table c.args.a.now i (has c.args.m.0 i) (p.lane i h) t)))
