use Rattle.std.proofs.Common.{◌∙◌}
use Rattle.value_meaning.specs.Val.{int}
use Rattle.lane_base.specs.Bits.{has}
use Rattle.lane_base.specs.Registers.{number_at}
use Rattle.lane_time.proofs.TimeLanes.{null_or_time}
use Rattle.lane_time.proofs.UnixLanes.{unix_lane}
use Rattle.lane_time.proofs.unix.unix16.Goals as goal

pub ints-requires : goal.ints-requires
ints-requires c k = rw (c.and-null.ensures, c.and-number.ensures) (null_or_time c.args.a.now k (has c.args.m.0 k))

pub returns-clause-value : goal.returns-clause-value
returns-clause-value c table p i h =
    c.ints.ensures.value table i h
    ∙ rw (c.and-null.ensures, c.and-number.ensures)
    (unix_lane c.args.name c.requires table c.args.a.now i (has c.args.m.0 i) (int (number_at c.unix_nums.result.lanes i)) (p.lane i h) (c.unix_nums.ensures i h))
