use Rattle.std.proofs.Common.{◌∷◌, ◌+◌, sym, ap, ◌∙◌, drop, arith}
use Rattle.std.specs.Prelude.{option_copied}
use Rattle.snel_words.proofs.Places.{drop_at, drop_end, ended, four_items}
use Rattle.snel_words.proofs.MakeWords.{of_three, of_others}
use Rattle.snel_words.proofs.reading.read_make.Goals as goal

pub returns-then-len-ne4 : goal.returns-then-len-ne4
returns-then-len-ne4 c = of_others (drop 1 c.args.words.now) (λ e. absurd (omega (arith, c.len.ensures, c.if-len-ne4.true, four_items c.args.words.now e)))

pub returns-in_default : goal.returns-in_default
returns-in_default c = absurd (omega (arith, c.len.ensures, c.if-len-ne4.false, ended c.args.words.now 1 (sym c.get.ensures ∙ ap option_copied c.in_default.is)))

pub returns-in_default-get : goal.returns-in_default-get
returns-in_default-get c =
    absurd (omega (arith, c.len.ensures, c.if-len-ne4.false, ended c.args.words.now 2 (sym c.get-2.ensures ∙ ap option_copied c.in_default-get.is)))

pub returns-in_default-get-2 : goal.returns-in_default-get-2
returns-in_default-get-2 c =
    absurd (omega (arith, c.len.ensures, c.if-len-ne4.false, ended c.args.words.now 3 (sym c.get-3.ensures ∙ ap option_copied c.in_default-get-2.is)))

pub returns : goal.returns
returns c =
    let words = c.args.words.now in
    let start = c.in-Some.start.now in
    let rows = c.in-Some-get.rows.now in
    let name = c.in-Some-get-2.name.now in
    c.read_log.ensures ∙ of_three start rows name (drop 1 words)
    (drop_at words 1 start (sym c.get.ensures ∙ ap option_copied c.in-Some.is)
    ∙ ap (λ l. start ∷ l) (drop_at words 2 rows (sym c.get-2.ensures ∙ ap option_copied c.in-Some-get.is)
    ∙ ap (λ l. rows ∷ l) (drop_at words 3 name (sym c.get-3.ensures ∙ ap option_copied c.in-Some-get-2.is)
    ∙ ap (λ l. name ∷ l) (drop_end words 4 (omega (arith, c.len.ensures, c.if-len-ne4.false))))))
