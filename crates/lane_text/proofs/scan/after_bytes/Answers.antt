use Rattle.std.proofs.Common.{◌+◌, drop, sym, ap, ◌∙◌, arith}
use Rattle.lane_text.specs.Bytewise.{folded, after_bytes}
use Rattle.lane_text.proofs.Folding.{folded_length}
use Rattle.lane_text.proofs.Steps.{step_one, step_same, step_other, step_none, step_end}
use Rattle.lane_text.proofs.scan.after_bytes.Goals as goal
use Rattle.lane_text.proofs.scan.after_bytes.Goals.{then-sign-eq95, else-sign-eq95+then-sign-byte}

pub returns-then-at-text : goal.returns-then-at-text
returns-then-at-text c =
    c.loop-sign.invariant.same ∙ step_none c.args.fold c.args.piece.now c.args.text.now c.loop-sign.sign-index c.loop-sign.at c.loop-sign-test.true c.if-at-text.true

pub returns-else-sign-byte : goal.returns-else-sign-byte
returns-else-sign-byte c =
    c.loop-sign.invariant.same
    ∙ step_other c.args.fold c.args.piece.now c.args.text.now c.loop-sign.sign-index c.loop-sign.at c.folded_byte-byte.result c.loop-sign-test.true c.if-at-text.false
    c.folded_byte-byte.ensures c.if-sign-eq95.false c.if-sign-byte.false

pub loop-sign-preserved : goal.loop-sign-preserved
loop-sign-preserved c = elim c.if-sign-eq95.branch [
  | then-sign-eq95 w ↦ record {
    within = omega arith;
    same = c.loop-sign.invariant.same
        ∙ step_one c.args.fold c.args.piece.now c.args.text.now c.loop-sign.sign-index c.loop-sign.at c.folded_byte-byte.result c.if-sign-eq95.at
        c.loop-sign-test.true c.if-at-text.false c.folded_byte-byte.ensures w.if-sign-eq95.true (cc);
  }
  | else-sign-eq95+then-sign-byte w ↦ record {
    within = omega arith;
    same = c.loop-sign.invariant.same
        ∙ step_same c.args.fold c.args.piece.now c.args.text.now c.loop-sign.sign-index c.loop-sign.at c.folded_byte-byte.result
        c.loop-sign-test.true c.if-at-text.false c.folded_byte-byte.ensures w.if-sign-eq95.false w.if-sign-byte.true
        ∙ ap (λ n. after_bytes (drop (c.loop-sign.sign-index + 1) c.args.piece.now) (drop n (folded c.args.fold c.args.text.now))) (sym w.at-is);
  }
]

pub returns : goal.returns
returns c =
    let long = folded_length c.args.fold c.args.text.now in
    (c.loop-sign.invariant.same ∙ step_end c.args.piece.now (drop c.loop-sign.at (folded c.args.fold c.args.text.now)) c.loop-sign.sign-index c.loop-sign-test.false, omega arith)
