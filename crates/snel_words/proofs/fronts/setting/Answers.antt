use Rattle.std.proofs.Common.{◌+◌, sym, ap, ◌∙◌, drop, Some, None}
use Rattle.std.specs.Prelude.{option_copied}
use Rattle.std.specs.Str.{bytes_eq}
use Rattle.snel_words.proofs.Places.{drop_one, drop_two, drop_past}
use Rattle.snel_words.proofs.Options.{setting_none, setting_one, setting_other, setting_given}
use Rattle.snel_words.proofs.Numbers.{not_true, not_false}
use Rattle.snel_words.proofs.fronts.setting.Goals as goal

pub returns-in_default-clause-value : goal.returns-in_default-clause-value
returns-in_default-clause-value c =
    setting_none c.args.name.now c.args.limits (drop c.args.at c.args.words.now) (drop_past c.args.words.now c.args.at (sym c.get.ensures ∙ ap option_copied c.in_default.is))

pub returns-in_default-get-clause-value : goal.returns-in_default-get-clause-value
returns-in_default-get-clause-value c =
    setting_one c.args.name.now c.in-Some.word.now c.args.limits (drop c.args.at c.args.words.now)
    (drop_one c.args.words.now c.args.at c.in-Some.word.now (sym c.get.ensures ∙ ap option_copied c.in-Some.is) (sym c.get-2.ensures ∙ ap option_copied c.in_default-get.is))

pub returns-then-ne-clause-value : goal.returns-then-ne-clause-value
returns-then-ne-clause-value c =
    let other = not_true c.ne.result (bytes_eq c.in-Some.word.now c.args.name.now) c.ne.ensures c.if-ne.true in
    setting_other c.args.name.now c.in-Some.word.now c.in-Some-get.value.now c.args.limits (drop c.args.at c.args.words.now) (drop (c.args.at + 2) c.args.words.now)
    (drop_two c.args.words.now c.args.at c.in-Some.word.now c.in-Some-get.value.now (sym c.get.ensures ∙ ap option_copied c.in-Some.is) (sym c.get-2.ensures ∙ ap option_copied c.in-Some-get.is)) other

pub returns-in-Some-number_in-clause-value : goal.returns-in-Some-number_in-clause-value
returns-in-Some-number_in-clause-value c =
    let same = not_false c.ne.result (bytes_eq c.in-Some.word.now c.args.name.now) c.ne.ensures c.if-ne.false in
    setting_given c.args.name.now c.in-Some.word.now c.in-Some-get.value.now c.args.limits (drop c.args.at c.args.words.now) (drop (c.args.at + 2) c.args.words.now)
    (Some c.in-Some-number_in.number)
    (drop_two c.args.words.now c.args.at c.in-Some.word.now c.in-Some-get.value.now (sym c.get.ensures ∙ ap option_copied c.in-Some.is) (sym c.get-2.ensures ∙ ap option_copied c.in-Some-get.is)) same
    (sym c.in-Some-number_in.is ∙ c.number_in.ensures)

pub returns-in-None-clause-value : goal.returns-in-None-clause-value
returns-in-None-clause-value c =
    let same = not_false c.ne.result (bytes_eq c.in-Some.word.now c.args.name.now) c.ne.ensures c.if-ne.false in
    setting_given c.args.name.now c.in-Some.word.now c.in-Some-get.value.now c.args.limits (drop c.args.at c.args.words.now) (drop (c.args.at + 2) c.args.words.now)
    None
    (drop_two c.args.words.now c.args.at c.in-Some.word.now c.in-Some-get.value.now (sym c.get.ensures ∙ ap option_copied c.in-Some.is) (sym c.get-2.ensures ∙ ap option_copied c.in-Some-get.is)) same
    (sym c.in-None.is ∙ c.number_in.ensures)
