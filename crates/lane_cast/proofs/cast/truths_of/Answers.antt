use Rattle.std.proofs.Common.{ap, sym, ◌∙◌, ◌≡◌, arith, true, false, cond, Some}
use Rattle.value_meaning.specs.Val.{missing}
use Rattle.eval_meaning.specs.Casts.{to_boolean}
use Rattle.lane_base.specs.Bits.{has}
use Rattle.lane_base.specs.Registers.{value_at, shown, seen}
use Rattle.lane_cast.specs.Spelled.{truth_or_missing}
use Rattle.lane_cast.proofs.Casting.{read_as}
use Rattle.lane_cast.proofs.TruthsShow.{TruthsShow-start, TruthsShow-true, TruthsShow-false, TruthsShow-skip, TruthsShow-all}
use Rattle.lane_cast.proofs.cast.truths_of.Goals as goal
use Rattle.lane_cast.proofs.cast.truths_of.Goals.{then-has+in-Some-true, then-has+in-Some-false, then-has+in-None, else-has}

pub loop-i-init : goal.loop-i-init
loop-i-init c table legal = TruthsShow-start (λ j. cond (has c.args.m.0 j) (to_boolean (value_at table c.args.a.now j)) missing)

pub loop-i-preserved : goal.loop-i-preserved
loop-i-preserved c table legal =
    let i = c.loop-i.i in
    let shows = c.loop-i.invariant table legal in
    let v = to_boolean (value_at table c.args.a.now i) in
    elim c.if-has.branch [
      | then-has+in-Some-true w ↦
          let on : has c.args.m.0 i ≡ true = sym c.has.ensures ∙ w.if-has.true in
          rw (w.yes-is, w.no-is) (TruthsShow-true c.loop-i.yes c.loop-i.no i (λ j. cond (has c.args.m.0 j) (to_boolean (value_at table c.args.a.now j)) missing) c.loop-i-test.true shows
          (sym (ap truth_or_missing (w.in-Some-true.is ∙ ap Some w.in-Some-true.field-0-test))
          ∙ read_as to_boolean table (seen w.look.result) (shown c.args.a.now i) (truth_or_missing w.truth_of.result) w.look.ensures (legal.lane i c.loop-i-test.true on) (w.truth_of.ensures table)
          ∙ sym (ap (λ b. cond b v missing) on)))
      | then-has+in-Some-false w ↦
          let on : has c.args.m.0 i ≡ true = sym c.has.ensures ∙ w.if-has.true in
          rw (w.yes-is, w.no-is) (TruthsShow-false c.loop-i.yes c.loop-i.no i (λ j. cond (has c.args.m.0 j) (to_boolean (value_at table c.args.a.now j)) missing) c.loop-i-test.true shows
          (sym (ap truth_or_missing (w.in-Some-false.is ∙ ap Some w.in-Some-false.field-0-test))
          ∙ read_as to_boolean table (seen w.look.result) (shown c.args.a.now i) (truth_or_missing w.truth_of.result) w.look.ensures (legal.lane i c.loop-i-test.true on) (w.truth_of.ensures table)
          ∙ sym (ap (λ b. cond b v missing) on)))
      | then-has+in-None w ↦
          let on : has c.args.m.0 i ≡ true = sym c.has.ensures ∙ w.if-has.true in
          rw (w.yes-is, w.no-is) (TruthsShow-skip c.loop-i.yes c.loop-i.no i (λ j. cond (has c.args.m.0 j) (to_boolean (value_at table c.args.a.now j)) missing) shows
          (sym (ap truth_or_missing w.in-None.is)
          ∙ read_as to_boolean table (seen w.look.result) (shown c.args.a.now i) (truth_or_missing w.truth_of.result) w.look.ensures (legal.lane i c.loop-i-test.true on) (w.truth_of.ensures table)
          ∙ sym (ap (λ b. cond b v missing) on)))
      | else-has w ↦
          let off : has c.args.m.0 i ≡ false = sym c.has.ensures ∙ w.if-has.false in
          rw (w.yes-is, w.no-is) (TruthsShow-skip c.loop-i.yes c.loop-i.no i (λ j. cond (has c.args.m.0 j) (to_boolean (value_at table c.args.a.now j)) missing) shows
          (sym (ap (λ b. cond b v missing) off)))
    ]

pub returns : goal.returns
returns c table legal k h on =
    TruthsShow-all c.loop-i.yes c.loop-i.no c.loop-i.i (λ j. cond (has c.args.m.0 j) (to_boolean (value_at table c.args.a.now j)) missing) (c.loop-i.invariant table legal) k (omega arith)
    ∙ ap (λ b. cond b (to_boolean (value_at table c.args.a.now k)) missing) on
