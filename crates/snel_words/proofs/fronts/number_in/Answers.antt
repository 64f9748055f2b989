use Rattle.std.proofs.Common.{◌≡◌, true, sym, ◌∙◌, arith}
use Rattle.std.specs.Str.{bytes_eq}
use Rattle.std.proofs.lemmas.Slice.Eq.{bytes_eq-Decides}
use Rattle.snel_words.proofs.Numbers.{number_some, unread_none, other_none, not_true, not_false, both}
use Rattle.snel_words.proofs.fronts.number_in.Goals as goal

pub returns-in_default : goal.returns-in_default
returns-in_default c =
    unread_none 32 c.args.limits c.args.word.now c.parse.result (omega arith) (λ n h. omega arith) c.parse.ensures.value.0 (λ n e. cc)

pub returns-then-ne : goal.returns-then-ne
returns-then-ne c =
    let other = not_true c.ne.result (bytes_eq c.format.result.now c.args.word.now) c.ne.ensures c.if-ne.true in
    let text = c.format.ensures.text in
    other_none 32 c.args.limits c.args.word.now c.in-Ok.number c.parse.result (omega arith) (λ n h. omega arith) c.parse.ensures.value.0 c.in-Ok.is
    (λ e low high. let same : bytes_eq c.format.result.now c.args.word.now ≡ true = (bytes_eq-Decides c.format.result.now c.args.word.now).1 (text ∙ e) in both other same)

pub returns-then-number-limits : goal.returns-then-number-limits
returns-then-number-limits c =
    other_none 32 c.args.limits c.args.word.now c.in-Ok.number c.parse.result (omega arith) (λ n h. omega arith) c.parse.ensures.value.0 c.in-Ok.is
    (λ e low high. absurd (omega (arith, c.if-number-limits.true)))

pub returns-then-limits-number : goal.returns-then-limits-number
returns-then-limits-number c =
    other_none 32 c.args.limits c.args.word.now c.in-Ok.number c.parse.result (omega arith) (λ n h. omega arith) c.parse.ensures.value.0 c.in-Ok.is
    (λ e low high. absurd (omega (arith, c.if-limits-number.true)))

pub returns : goal.returns
returns c =
    let same = not_false c.ne.result (bytes_eq c.format.result.now c.args.word.now) c.ne.ensures c.if-ne.false in
    number_some c.args.limits c.in-Ok.number c.args.word.now (omega arith) (sym ((bytes_eq-Decides c.format.result.now c.args.word.now).0 same) ∙ c.format.ensures.text)
    (omega (arith, c.if-number-limits.false)) (omega (arith, c.if-limits-number.false))
