use Rattle.std.proofs.Common.{◌∙◌, ap, sym, subst, ℕ}
use Rattle.std.specs.Prelude.{Option}
use Rattle.time_meaning.specs.Moments.{IsTime}
use Rattle.eval_meaning.specs.Operands.{of_two}
use Rattle.eval_meaning.specs.Times.{on_count_and_time, moved}
use Rattle.lane_base.specs.Bits.{has}
use Rattle.lane_base.specs.Registers.{under, number_at, value_at}
use Rattle.lane_time.proofs.TimeLanes.{both_hold, is_time-holds}
use Rattle.lane_time.proofs.ShiftLanes.{shift_lane, null_or_moved}
use Rattle.lane_time.proofs.shift.shift16.Goals as goal

pub times-requires : goal.times-requires
times-requires c k =
    rw (c.and-null.ensures, c.or.ensures, c.and.ensures, c.and-2.ensures, c.and-moment.ensures, c.and-4.ensures, c.and-3.ensures)
    (null_or_moved c.args.n.now c.args.a.now k (has c.args.m.0 k) (has c.present-2.result.0 k) (has c.present.result.0 k) (has c.moved_nums-moved.result.within.0 k))

pub returns-clause-value : goal.returns-clause-value
returns-clause-value c table p q i h =
    c.times.ensures.value table i h
    ∙ rw (c.and-null.ensures, c.or.ensures, c.and.ensures, c.and-2.ensures, c.and-moment.ensures, c.and-4.ensures, c.and-3.ensures)
    (shift_lane table c.args.n.now c.args.a.now i c.length_of.result (has c.args.m.0 i) (has c.present-2.result.0 i) (has c.present.result.0 i) (has c.moved_nums-moved.result.within.0 i) (number_at c.moved_nums-moved.result.nums.lanes i)
    (p.lane i h) (q.lane i h) (λ t. c.present-2.ensures table i h (p.lane i h t)) (λ t. c.present.ensures table i h (q.lane i h t))
    (c.moved_nums-moved.ensures.within i h) (c.moved_nums-moved.ensures.nums i h))
    ∙ ap (λ (length : Option ℕ). under (has c.args.m.0 i) (of_two (on_count_and_time (moved length)) (value_at table c.args.n.now i) (value_at table c.args.a.now i))) (sym c.length_of.ensures.value)

pub returns-clause-legal : goal.returns-clause-legal
returns-clause-legal c table p q =
    c.times.ensures.legal table
    (λ i h e.
    let here = both_hold (has c.args.m.0 i) _ (sym (c.and-moment.ensures i) ∙ e) in
    let moved = both_hold _ (has c.moved_nums-moved.result.within.0 i) (sym (c.and-4.ensures i) ∙ here.1) in
    let sum = c.moved_nums-moved.ensures.nums i h moved.1 in
    subst IsTime (sym sum) (is_time-holds _ (sym (c.moved_nums-moved.ensures.within i h) ∙ moved.1)))
