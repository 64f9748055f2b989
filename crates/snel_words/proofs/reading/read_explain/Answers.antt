use Rattle.std.proofs.Common.{◌∷◌, sym, ap, ◌∙◌, drop, arith}
use Rattle.std.specs.Prelude.{option_copied}
use Rattle.snel_words.proofs.Places.{drop_at, drop_past, drop_end, other_count}
use Rattle.snel_words.proofs.Options.{explained, unexplained, none_explained, not_explained}
use Rattle.snel_words.proofs.reading.read_explain.Goals as goal

pub returns-then-len-ne2 : goal.returns-then-len-ne2
returns-then-len-ne2 c = not_explained (drop 1 c.args.words.now) (λ e. other_count c.len.result c.args.words.now c.len.ensures (omega (arith, c.if-len-ne2.true)) e)

pub returns-in_default : goal.returns-in_default
returns-in_default c = none_explained (drop 1 c.args.words.now) (drop_past c.args.words.now 1 (sym c.get.ensures ∙ ap option_copied c.in_default.is))

pub returns-then-is_operand : goal.returns-then-is_operand
returns-then-is_operand c =
    explained c.in-Some.sql.now (drop 1 c.args.words.now)
    (drop_at c.args.words.now 1 c.in-Some.sql.now (sym c.get.ensures ∙ ap option_copied c.in-Some.is) ∙ ap (λ l. c.in-Some.sql.now ∷ l) (drop_end c.args.words.now 2 (omega (arith, c.len.ensures, c.if-len-ne2.false))))
    (sym c.is_operand.ensures ∙ c.if-is_operand.true)

pub returns-else-is_operand : goal.returns-else-is_operand
returns-else-is_operand c =
    unexplained c.in-Some.sql.now (drop 1 c.args.words.now)
    (drop_at c.args.words.now 1 c.in-Some.sql.now (sym c.get.ensures ∙ ap option_copied c.in-Some.is) ∙ ap (λ l. c.in-Some.sql.now ∷ l) (drop_end c.args.words.now 2 (omega (arith, c.len.ensures, c.if-len-ne2.false))))
    (sym c.is_operand.ensures ∙ c.if-is_operand.false)
