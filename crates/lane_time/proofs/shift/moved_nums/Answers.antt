use Rattle.std.proofs.Common.{◌<◌, pos, arith, length, length-set, ◌∙◌, ap, FitsSigned, w64, to_z-of_z, rules}
use Rattle.std.specs.Prelude.{◌&&◌, ◌||◌, nat_eq}
use Rattle.time_meaning.specs.Moments.{is_time}
use Rattle.lane_base.specs.Bits.{has}
use Rattle.lane_base.specs.Registers.{number_at}
use Rattle.lane_time.specs.Moving.{moved_at, IsMoved}
use Rattle.lane_base.proofs.Filled.{Filled-set}
use Rattle.lane_base.proofs.Steps.{next_lane}
use Rattle.lane_time.proofs.shift.moved_nums.Goals as goal

pub loop-i-preserved : goal.loop-i-preserved
loop-i-preserved c =
    let time_fits : FitsSigned w64 (number_at c.args.times.now.lanes c.loop-i.i) = search rules in
    let count_fits : FitsSigned w64 (number_at c.args.counts.now.lanes c.loop-i.i) = search rules in
    let moved_fits : FitsSigned w64 c.moved_by-moved.result.time = search rules in
    let within = simp to_z-of_z at c.moved_by-moved.ensures.within in
    let moved = simp to_z-of_z at c.moved_by-moved.ensures.time in
    let room : c.loop-i.i < length c.loop-i.lanes = omega (arith, c.loop-i.invariant.long) in
    rw to_z-of_z (record {
      long = simp length-set c.loop-i.invariant.long;
      within = λ k.
          next_lane (λ k. is_time (moved_at c.args.length c.args.counts.now.lanes c.args.times.now.lanes k)) k c.loop-i.i _ _
          (c.with_lane-within.ensures k ∙ ap (λ b. (nat_eq k c.loop-i.i && b) || has c.loop-i.within.0 k) within) (c.loop-i.invariant.within k);
      moved =
          Filled-set (IsMoved c.args.length c.args.counts.now.lanes c.args.times.now.lanes) (pos 0) c.loop-i.lanes c.loop-i.i c.moved_by-moved.result.time room
          c.loop-i.invariant.moved (λ passes. moved (within ∙ passes));
    })
