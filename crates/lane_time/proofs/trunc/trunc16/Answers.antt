use Rattle.std.proofs.Common.{◌∙◌, ap, sym, subst}
use Rattle.value_meaning.specs.Val.{time}
use Rattle.time_meaning.specs.Moments.{IsTime}
use Rattle.eval_meaning.specs.Times.{trunc}
use Rattle.lane_base.specs.Bits.{has}
use Rattle.lane_base.specs.Registers.{number_at}
use Rattle.lane_time.proofs.StartRange.{start_in_range}
use Rattle.lane_time.proofs.TimeLanes.{null_or_time, date_lane, time_in_range, both_hold}
use Rattle.lane_time.proofs.trunc.trunc16.Goals as goal

pub times-requires : goal.times-requires
times-requires c k = rw (c.and-null.ensures, c.and-moment.ensures) (null_or_time c.args.a.now k (has c.args.m.0 k))

pub returns-clause-value : goal.returns-clause-value
returns-clause-value c table p i h =
    c.times.ensures.value table i h
    ∙ rw (c.and-null.ensures, c.and-moment.ensures)
    (date_lane table c.args.a.now i (has c.args.m.0 i) (λ t. time (trunc c.args.part t)) (time (number_at c.trunc_nums.result.lanes i)) (p.lane i h) (λ t. ap time (c.trunc_nums.ensures i h t)))

pub returns-clause-legal : goal.returns-clause-legal
returns-clause-legal c table p =
    c.times.ensures.legal table
    (λ i h e.
    let both = both_hold (has c.args.m.0 i) (has c.args.a.now.time.0 i) (sym (c.and-moment.ensures i) ∙ e) in
    let t = time_in_range table c.args.a.now i both.1 (p.lane i h both.0) in
    subst IsTime (sym (c.trunc_nums.ensures i h t)) (start_in_range c.args.part (number_at c.args.a.now.nums.lanes i) t))
