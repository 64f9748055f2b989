use Rattle.std.proofs.Common.{◌≡◌, true, sym, ◌∙◌, arith}
use Rattle.std.specs.Str.{bytes_eq}
use Rattle.std.proofs.lemmas.Slice.Eq.{bytes_eq-Decides}
use Rattle.snel_words.specs.Words.{starts}
use Rattle.snel_words.proofs.Numbers.{number_some, unread_none, other_none, both}
use Rattle.snel_words.proofs.fronts.start_in.Goals as goal

pub returns-in_default : goal.returns-in_default
returns-in_default c =
    unread_none 64 starts c.args.word.now c.parse.result (omega arith) (λ n h. omega arith) c.parse.ensures.value.0 (λ n e. cc)

pub returns-then-eq : goal.returns-then-eq
returns-then-eq c =
    number_some starts c.in-Ok.number c.args.word.now (omega arith)
    (sym ((bytes_eq-Decides c.format.result.now c.args.word.now).0 (sym c.eq.ensures ∙ c.if-eq.true)) ∙ c.format.ensures.text) (omega arith) (omega arith)

pub returns-else-eq : goal.returns-else-eq
returns-else-eq c =
    other_none 64 starts c.args.word.now c.in-Ok.number c.parse.result (omega arith) (λ n h. omega arith) c.parse.ensures.value.0 c.in-Ok.is
    (λ e low high. let same : bytes_eq c.format.result.now c.args.word.now ≡ true = (bytes_eq-Decides c.format.result.now c.args.word.now).1 (c.format.ensures.text ∙ e) in both (sym c.eq.ensures ∙ c.if-eq.false) same)
