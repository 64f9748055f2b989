use Rattle.std.proofs.Common.{IsUtf8, drop, sym, ◌∙◌, arith}
use Rattle.std.specs.Str.{chars}
use Rattle.lane_text.specs.Bytewise.{folded}
use Rattle.lane_text.proofs.Advance.{advance}
use Rattle.lane_text.proofs.CharSteps.{ends_here, ends_later, ends_end, chars_end}
use Rattle.lane_text.proofs.Folding.{folded_length}
use Rattle.lane_text.proofs.scan.ends_by_scan.Goals as goal

pub returns-then-is_whole_at : goal.returns-then-is_whole_at
returns-then-is_whole_at c u =
    sym (c.loop-at.invariant.same u
    ∙ ends_here (chars c.args.piece.now) (chars (drop c.loop-at.at (folded c.args.fold c.args.text.now))) (sym (c.is_whole_at.ensures (c.loop-at.invariant.utf8 u)) ∙ c.if-is_whole_at.true))

pub loop-at-init : goal.loop-at-init
loop-at-init c = record {
  within = c.next_place-at.ensures.within;
  utf8 = λ u. (c.next_place-at.ensures.rest u).utf8;
  same = λ u. (c.next_place-at.ensures.rest u).ends;
}

pub loop-at-preserved : goal.loop-at-preserved
loop-at-preserved c =
    let step = λ (u : IsUtf8 (folded c.args.fold c.args.text.now)). advance c.args.fold c.args.text.now c.loop-at.at c.folded_byte.result c.width.result c.min-next.result
    c.loop-at-test.true c.folded_byte.ensures c.width.ensures c.min-next.ensures (c.loop-at.invariant.utf8 u) in
    record {
      within = c.next_place-at-in-loop-at.ensures.within;
      utf8 = λ u. (c.next_place-at-in-loop-at.ensures.rest (step u).utf8).utf8;
      same = λ u. c.loop-at.invariant.same u
          ∙ ends_later (chars c.args.piece.now) (chars (drop c.loop-at.at (folded c.args.fold c.args.text.now)))
          (chars (drop c.min-next.result (folded c.args.fold c.args.text.now))) (step u).c (step u).is
          (sym (c.is_whole_at.ensures (c.loop-at.invariant.utf8 u)) ∙ c.if-is_whole_at.false)
          ∙ (c.next_place-at-in-loop-at.ensures.rest (step u).utf8).ends;
    }

pub returns : goal.returns
returns c u =
    let long = folded_length c.args.fold c.args.text.now in
    let past = c.loop-at-test.false in
    let none = chars_end (folded c.args.fold c.args.text.now) c.loop-at.at (omega arith) in
    c.is_whole_at-2.ensures (c.loop-at.invariant.utf8 u)
    ∙ sym (ends_end (chars c.args.piece.now) (chars (drop c.loop-at.at (folded c.args.fold c.args.text.now))) none) ∙ sym (c.loop-at.invariant.same u)
