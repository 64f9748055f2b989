use Rattle.std.proofs.Common.{◌∷◌, ◌+◌, sym, ap, ◌∙◌, drop, arith}
use Rattle.std.specs.Prelude.{option_copied}
use Rattle.snel_words.specs.Asked.{packing_view}
use Rattle.snel_words.proofs.Places.{drop_at, drop_past, drop_end}
use Rattle.snel_words.proofs.PackWords.{no_name, more_names, packed, unpacked, some_left}
use Rattle.snel_words.proofs.reading.read_name.Goals as goal

pub returns-in_default : goal.returns-in_default
returns-in_default c =
    no_name (packing_view c.args.packing) (drop c.args.at c.args.words.now) (drop_past c.args.words.now c.args.at (sym c.get.ensures ∙ ap option_copied c.in_default.is))

pub returns-then-at-len : goal.returns-then-at-len
returns-then-at-len c =
    let more = some_left c.args.words.now (c.args.at + 1) (omega (arith, c.len.ensures, c.if-at-len.true)) in
    more_names (packing_view c.args.packing) (drop c.args.at c.args.words.now) c.in-Some.name.now more.0 _
    (drop_at c.args.words.now c.args.at c.in-Some.name.now (sym c.get.ensures ∙ ap option_copied c.in-Some.is) ∙ ap (λ l. c.in-Some.name.now ∷ l) more.1)

pub returns-then-is_operand : goal.returns-then-is_operand
returns-then-is_operand c =
    packed (packing_view c.args.packing) (drop c.args.at c.args.words.now) c.in-Some.name.now
    (drop_at c.args.words.now c.args.at c.in-Some.name.now (sym c.get.ensures ∙ ap option_copied c.in-Some.is) ∙ ap (λ l. c.in-Some.name.now ∷ l) (drop_end c.args.words.now (c.args.at + 1) (omega (arith, c.len.ensures, c.if-at-len.false))))
    (sym c.is_operand.ensures ∙ c.if-is_operand.true)

pub returns-else-is_operand : goal.returns-else-is_operand
returns-else-is_operand c =
    unpacked (packing_view c.args.packing) (drop c.args.at c.args.words.now) c.in-Some.name.now
    (drop_at c.args.words.now c.args.at c.in-Some.name.now (sym c.get.ensures ∙ ap option_copied c.in-Some.is) ∙ ap (λ l. c.in-Some.name.now ∷ l) (drop_end c.args.words.now (c.args.at + 1) (omega (arith, c.len.ensures, c.if-at-len.false))))
    (sym c.is_operand.ensures ∙ c.if-is_operand.false)
