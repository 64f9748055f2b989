use Rattle.std.proofs.Common.{rules, refl, ap, sym, ◌∙◌, ◌≡◌, ◌<◌, arith, true, false, cond, length, length-set, FitsSigned, w64, to_z-of_z}
use Rattle.value_meaning.specs.Val.{missing}
use Rattle.eval_meaning.specs.Casts.{to_integer}
use Rattle.lane_base.specs.Bits.{has}
use Rattle.lane_base.specs.Registers.{value_at, shown, seen}
use Rattle.lane_cast.specs.Spelled.{integer_or_missing}
use Rattle.lane_cast.proofs.Casting.{read_as}
use Rattle.lane_cast.proofs.Shows.{Shows-start, Shows-made, Shows-skip, Shows-all}
use Rattle.lane_cast.proofs.cast.integers_of.Goals as goal
use Rattle.lane_cast.proofs.cast.integers_of.Goals.{then-has+in-Some, then-has+in_default, else-has}

pub loop-i-init : goal.loop-i-init
loop-i-init c = record { long = refl; shows = λ table legal k. Shows-start (λ j. cond (has c.args.m.0 j) (to_integer (value_at table c.args.a.now j)) missing) k _ }

pub loop-i-preserved : goal.loop-i-preserved
loop-i-preserved c =
    let i = c.loop-i.i in
    let within : i < length c.loop-i.nums = omega (arith, c.loop-i.invariant.long) in
    elim c.if-has.branch [
      | then-has+in-Some w ↦
          let on : has c.args.m.0 i ≡ true = sym c.has.ensures ∙ w.if-has.true in
          let fits : FitsSigned w64 w.in-Some.number = search rules in
          rw (w.ok-is, w.nums-is, to_z-of_z {w = w64} fits) (record {
            long = simp length-set c.loop-i.invariant.long;
            shows = λ table legal.
                Shows-made c.loop-i.ok c.loop-i.nums i (λ j. cond (has c.args.m.0 j) (to_integer (value_at table c.args.a.now j)) missing) w.in-Some.number (omega arith) within (c.loop-i.invariant.shows table legal)
                (sym (ap integer_or_missing w.in-Some.is)
                ∙ read_as to_integer table (seen w.look.result) (shown c.args.a.now i) (integer_or_missing w.integer_of.result) w.look.ensures (legal.lane i c.loop-i-test.true on) (w.integer_of.ensures table)
                ∙ sym (ap (λ b. cond b (to_integer (value_at table c.args.a.now i)) missing) on));
          })
      | then-has+in_default w ↦
          let on : has c.args.m.0 i ≡ true = sym c.has.ensures ∙ w.if-has.true in
          rw (w.ok-is, w.nums-is) (record {
            long = c.loop-i.invariant.long;
            shows = λ table legal.
                Shows-skip c.loop-i.ok c.loop-i.nums i (λ j. cond (has c.args.m.0 j) (to_integer (value_at table c.args.a.now j)) missing) (c.loop-i.invariant.shows table legal)
                (sym (ap integer_or_missing w.in_default.is)
                ∙ read_as to_integer table (seen w.look.result) (shown c.args.a.now i) (integer_or_missing w.integer_of.result) w.look.ensures (legal.lane i c.loop-i-test.true on) (w.integer_of.ensures table)
                ∙ sym (ap (λ b. cond b (to_integer (value_at table c.args.a.now i)) missing) on));
          })
      | else-has w ↦
          let off : has c.args.m.0 i ≡ false = sym c.has.ensures ∙ w.if-has.false in
          rw (w.ok-is, w.nums-is) (record {
            long = c.loop-i.invariant.long;
            shows = λ table legal.
                Shows-skip c.loop-i.ok c.loop-i.nums i (λ j. cond (has c.args.m.0 j) (to_integer (value_at table c.args.a.now j)) missing) (c.loop-i.invariant.shows table legal)
                (sym (ap (λ b. cond b (to_integer (value_at table c.args.a.now i)) missing) off));
          })
    ]

pub returns : goal.returns
returns c table legal k h on =
    Shows-all c.loop-i.ok c.loop-i.nums c.loop-i.i (λ j. cond (has c.args.m.0 j) (to_integer (value_at table c.args.a.now j)) missing) (c.loop-i.invariant.shows table legal) k (omega arith)
    ∙ ap (λ b. cond b (to_integer (value_at table c.args.a.now k)) missing) on
