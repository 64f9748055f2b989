use Rattle.std.proofs.Common.{rules, ◌≡◌, ap, arith, of_z, w64, FitsSigned}
use Rattle.std.specs.Ordering.{int_cmp, is_eq}
use Rattle.std.proofs.lemmas.Int.{ints}
use Rattle.lane_base.specs.Registers.{number_at}
use Rattle.lane_compare.proofs.Marks.{Marks-none, Marks-set, Marks-skip}
use Rattle.lane_compare.proofs.Tested.{equal_true, equal_false}
use Rattle.lane_compare.proofs.numbers.equal.Goals as goal
use Rattle.lane_compare.proofs.numbers.equal.Goals.{then-a-i, else-a-i}

pub loop-i-init : goal.loop-i-init
loop-i-init c = Marks-none (λ k. is_eq (int_cmp (number_at c.args.a.now.lanes k) (number_at c.args.b.now.lanes k)))

pub loop-i-preserved : goal.loop-i-preserved
loop-i-preserved c =
    let x = number_at c.args.a.now.lanes c.loop-i.i in
    let y = number_at c.args.b.now.lanes c.loop-i.i in
    elim c.if-a-i.branch [
      | then-a-i w ↦
          let fits_x : FitsSigned w64 x = search rules in
          let fits_y : FitsSigned w64 y = search rules in
          let same : x ≡ y = omega (arith, ints) in
          rw w.mask-is (Marks-set c.loop-i.mask c.loop-i.i _ (omega arith) c.loop-i.invariant (equal_true x y same))
      | else-a-i w ↦ rw w.mask-is (Marks-skip c.loop-i.mask c.loop-i.i _ c.loop-i.invariant (equal_false x y (λ e. w.if-a-i.false (ap (of_z w64) e))))
    ]
