use Rattle.std.proofs.Common.{◌+◌, sym, ap, ◌∙◌, drop}
use Rattle.std.specs.Prelude.{option_copied}
use Rattle.snel_words.proofs.Places.{drop_at, drop_past}
use Rattle.snel_words.proofs.Options.{flag_none, flag_given, flag_other}
use Rattle.snel_words.proofs.fronts.flag.Goals as goal

pub returns-in_default-clause-value : goal.returns-in_default-clause-value
returns-in_default-clause-value c =
    flag_none c.args.name.now (drop c.args.at c.args.words.now) (drop_past c.args.words.now c.args.at (sym c.get.ensures ∙ ap option_copied c.in_default.is))

pub returns-then-eq-clause-value : goal.returns-then-eq-clause-value
returns-then-eq-clause-value c =
    flag_given c.args.name.now c.in-Some.word.now (drop c.args.at c.args.words.now) (drop (c.args.at + 1) c.args.words.now)
    (drop_at c.args.words.now c.args.at c.in-Some.word.now (sym c.get.ensures ∙ ap option_copied c.in-Some.is)) (sym c.eq.ensures ∙ c.if-eq.true)

pub returns-else-eq-clause-value : goal.returns-else-eq-clause-value
returns-else-eq-clause-value c =
    flag_other c.args.name.now c.in-Some.word.now (drop c.args.at c.args.words.now) (drop (c.args.at + 1) c.args.words.now)
    (drop_at c.args.words.now c.args.at c.in-Some.word.now (sym c.get.ensures ∙ ap option_copied c.in-Some.is)) (sym c.eq.ensures ∙ c.if-eq.false)
