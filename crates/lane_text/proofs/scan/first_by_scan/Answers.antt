use Rattle.std.proofs.Common.{IsUtf8, drop, sym, subst, ◌∙◌, arith}
use Rattle.std.specs.Str.{chars}
use Rattle.lane_text.specs.Bytewise.{folded, IsRest}
use Rattle.lane_text.proofs.Advance.{advance}
use Rattle.lane_text.proofs.CharSteps.{first_here, first_later, first_end, chars_end}
use Rattle.lane_text.proofs.Folding.{folded_length}
use Rattle.lane_text.proofs.scan.first_by_scan.Goals as goal

pub returns-in-Some-clause-rest : goal.returns-in-Some-clause-rest
returns-in-Some-clause-rest c u =
    let found = c.in-Some.ensures.rest (c.loop-at.invariant.utf8 u) in
    (c.loop-at.invariant.same u ∙ first_here (chars c.args.piece.now) (chars (drop c.loop-at.at (folded c.args.fold c.args.text.now))) _ found.0, found.1, found.2)

pub loop-at-init : goal.loop-at-init
loop-at-init c = record {
  within = c.next_place-at.ensures.within;
  utf8 = λ u. (c.next_place-at.ensures.rest u).utf8;
  same = λ u. (c.next_place-at.ensures.rest u).first;
}

pub loop-at-preserved : goal.loop-at-preserved
loop-at-preserved c =
    let step = λ (u : IsUtf8 (folded c.args.fold c.args.text.now)). advance c.args.fold c.args.text.now c.loop-at.at c.folded_byte.result c.width.result c.min-next.result
    c.loop-at-test.true c.folded_byte.ensures c.width.ensures c.min-next.ensures (c.loop-at.invariant.utf8 u) in
    record {
      within = c.next_place-at-in-loop-at.ensures.within;
      utf8 = λ u. (c.next_place-at-in-loop-at.ensures.rest (step u).utf8).utf8;
      same = λ u. c.loop-at.invariant.same u
          ∙ first_later (chars c.args.piece.now) (chars (drop c.loop-at.at (folded c.args.fold c.args.text.now)))
          (chars (drop c.min-next.result (folded c.args.fold c.args.text.now))) (step u).c (step u).is (c.in_default.ensures.rest (c.loop-at.invariant.utf8 u))
          ∙ (c.next_place-at-in-loop-at.ensures.rest (step u).utf8).first;
    }

pub returns-clause-rest : goal.returns-clause-rest
returns-clause-rest c u =
    let long = folded_length c.args.fold c.args.text.now in
    let past = c.loop-at-test.false in
    let none = chars_end (folded c.args.fold c.args.text.now) c.loop-at.at (omega arith) in
    subst (λ o. IsRest (folded c.args.fold c.args.text.now) o c.after_piece_at-2.result)
    (sym (first_end (chars c.args.piece.now) (chars (drop c.loop-at.at (folded c.args.fold c.args.text.now))) none) ∙ sym (c.loop-at.invariant.same u))
    (c.after_piece_at-2.ensures.rest (c.loop-at.invariant.utf8 u))
