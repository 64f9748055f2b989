use Rattle.std.proofs.Common.{rules, refl, ap, sym, ◌∙◌, ◌<◌, arith, length, length-set, FitsSigned, w64, to_z-of_z}
use Rattle.eval_meaning.specs.Numbers as spec
use Rattle.lane_base.specs.Registers.{number_at}
use Rattle.lane_cast.specs.Made.{number_if}
use Rattle.lane_cast.proofs.Shows.{Shows-start, Shows-made, Shows-none_made}
use Rattle.lane_cast.proofs.numbers.each_lane.Goals as goal
use Rattle.lane_cast.proofs.numbers.each_lane.Goals.{then-is_made, else-is_made}

pub loop-i-init : goal.loop-i-init
loop-i-init c = record { long = refl; shows = λ k. Shows-start (λ j. spec.computed c.args.op (number_at c.args.a.now.lanes j) (number_at c.args.b.now.lanes j)) k _ }

pub loop-i-preserved : goal.loop-i-preserved
loop-i-preserved c =
    let x = number_at c.args.a.now.lanes c.loop-i.i in
    let y = number_at c.args.b.now.lanes c.loop-i.i in
    let z = c.one-number.result.0 in
    let fits_x : FitsSigned w64 x = search rules in
    let fits_y : FitsSigned w64 y = search rules in
    let fits_z : FitsSigned w64 z = search rules in
    let says = simp to_z-of_z at c.one-number.ensures in
    let within : c.loop-i.i < length c.loop-i.nums = omega (arith, c.loop-i.invariant.long) in
    rw (to_z-of_z {w = w64} fits_z) (record {
      long = simp length-set c.loop-i.invariant.long;
      shows =
          elim c.if-is_made.branch [
            | then-is_made w ↦
                rw w.ok-is (Shows-made c.loop-i.ok c.loop-i.nums c.loop-i.i _ z (omega arith) within c.loop-i.invariant.shows (sym (ap (λ b. number_if b z) w.if-is_made.true) ∙ says))
            | else-is_made w ↦
                rw w.ok-is (Shows-none_made c.loop-i.ok c.loop-i.nums c.loop-i.i _ z within c.loop-i.invariant.shows (sym (ap (λ b. number_if b z) w.if-is_made.false) ∙ says))
          ];
    })
