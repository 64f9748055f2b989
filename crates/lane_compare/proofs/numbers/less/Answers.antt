use Rattle.std.proofs.Common.{arith}
use Rattle.std.specs.Prelude.{◌<ℤ◌, ◌≤ℤ◌}
use Rattle.std.specs.Ordering.{int_cmp, is_lt}
use Rattle.std.proofs.lemmas.Int.{ints}
use Rattle.lane_base.specs.Registers.{number_at}
use Rattle.lane_compare.proofs.Marks.{Marks-none, Marks-set, Marks-skip}
use Rattle.lane_compare.proofs.Tested.{less_true, less_false}
use Rattle.lane_compare.proofs.numbers.less.Goals as goal
use Rattle.lane_compare.proofs.numbers.less.Goals.{then-a-i, else-a-i}

pub loop-i-init : goal.loop-i-init
loop-i-init c = Marks-none (λ k. is_lt (int_cmp (number_at c.args.a.now.lanes k) (number_at c.args.b.now.lanes k)))

pub loop-i-preserved : goal.loop-i-preserved
loop-i-preserved c =
    let x = number_at c.args.a.now.lanes c.loop-i.i in
    let y = number_at c.args.b.now.lanes c.loop-i.i in
    elim c.if-a-i.branch [
      | then-a-i w ↦
          let below : x <ℤ y = omega (arith, ints) in
          rw w.mask-is (Marks-set c.loop-i.mask c.loop-i.i _ (omega arith) c.loop-i.invariant (less_true x y below))
      | else-a-i w ↦
          let above : y ≤ℤ x = omega (arith, ints) in
          rw w.mask-is (Marks-skip c.loop-i.mask c.loop-i.i _ c.loop-i.invariant (less_false x y above))
    ]
