use Rattle.std.proofs.Common.{rules, refl, ap, sym, ◌∙◌, ◌≡◌, ◌<◌, arith, true, false, cond, length, length-set, FitsSigned, w64, to_z-of_z}
use Rattle.value_meaning.specs.Val.{missing}
use Rattle.eval_meaning.specs.Numbers as spec
use Rattle.lane_base.specs.Bits.{has}
use Rattle.lane_base.specs.Registers.{number_at}
use Rattle.lane_cast.specs.Made.{number_if}
use Rattle.lane_cast.proofs.Shows.{Shows-start, Shows-made, Shows-none_made, Shows-skip, Shows-all}
use Rattle.lane_cast.proofs.numbers.each_lane_of.Goals as goal
use Rattle.lane_cast.proofs.numbers.each_lane_of.Goals.{then-has+then-is_made, then-has+else-is_made, else-has}

pub loop-i-init : goal.loop-i-init
loop-i-init c = record {
  long = refl;
  shows = λ k. Shows-start (λ j. cond (has c.args.m.0 j) (spec.computed c.args.op (number_at c.args.a.now.lanes j) (number_at c.args.b.now.lanes j)) missing) k _;
}

pub loop-i-preserved : goal.loop-i-preserved
loop-i-preserved c =
    let i = c.loop-i.i in
    let x = number_at c.args.a.now.lanes i in
    let y = number_at c.args.b.now.lanes i in
    let v = spec.computed c.args.op x y in
    let within : i < length c.loop-i.nums = omega (arith, c.loop-i.invariant.long) in
    elim c.if-has.branch [
      | then-has+then-is_made w ↦
          let z = w.one-number.result.0 in
          let fits_x : FitsSigned w64 x = search rules in
          let fits_y : FitsSigned w64 y = search rules in
          let fits_z : FitsSigned w64 z = search rules in
          let says = simp to_z-of_z at w.one-number.ensures in
          let on : has c.args.m.0 i ≡ true = sym c.has.ensures ∙ w.if-has.true in
          rw (w.ok-is, w.nums-is, to_z-of_z {w = w64} fits_z) (record {
            long = simp length-set c.loop-i.invariant.long;
            shows = Shows-made c.loop-i.ok c.loop-i.nums i _ z (omega arith) within c.loop-i.invariant.shows (sym (ap (λ b. number_if b z) w.if-is_made.true) ∙ says ∙ sym (ap (λ b. cond b v missing) on));
          })
      | then-has+else-is_made w ↦
          let z = w.one-number.result.0 in
          let fits_x : FitsSigned w64 x = search rules in
          let fits_y : FitsSigned w64 y = search rules in
          let fits_z : FitsSigned w64 z = search rules in
          let says = simp to_z-of_z at w.one-number.ensures in
          let on : has c.args.m.0 i ≡ true = sym c.has.ensures ∙ w.if-has.true in
          rw (w.ok-is, w.nums-is, to_z-of_z {w = w64} fits_z) (record {
            long = simp length-set c.loop-i.invariant.long;
            shows = Shows-none_made c.loop-i.ok c.loop-i.nums i _ z within c.loop-i.invariant.shows (sym (ap (λ b. number_if b z) w.if-is_made.false) ∙ says ∙ sym (ap (λ b. cond b v missing) on));
          })
      | else-has w ↦
          let off : has c.args.m.0 i ≡ false = sym c.has.ensures ∙ w.if-has.false in
          rw (w.ok-is, w.nums-is) (record {
            long = c.loop-i.invariant.long;
            shows = Shows-skip c.loop-i.ok c.loop-i.nums i _ c.loop-i.invariant.shows (sym (ap (λ b. cond b v missing) off));
          })
    ]

pub returns : goal.returns
returns c k h on =
    Shows-all c.loop-i.ok c.loop-i.nums c.loop-i.i (λ j. cond (has c.args.m.0 j) (spec.computed c.args.op (number_at c.args.a.now.lanes j) (number_at c.args.b.now.lanes j)) missing) c.loop-i.invariant.shows k (omega arith)
    ∙ ap (λ b. cond b (spec.computed c.args.op (number_at c.args.a.now.lanes k) (number_at c.args.b.now.lanes k)) missing) on
