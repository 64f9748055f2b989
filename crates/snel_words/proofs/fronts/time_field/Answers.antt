use Rattle.std.proofs.Common.{◌+◌, sym, ap, ◌∙◌, drop}
use Rattle.std.specs.Prelude.{option_copied, codes}
use Rattle.std.specs.Str.{bytes_eq}
use Rattle.snel_words.proofs.Places.{drop_one, drop_two, drop_past}
use Rattle.snel_words.proofs.PackWords.{time_none, time_one, time_other, time_given, time_bad}
use Rattle.snel_words.proofs.Numbers.{not_true, not_false}
use Rattle.snel_words.proofs.fronts.time_field.Goals as goal

pub returns-in_default-clause-value : goal.returns-in_default-clause-value
returns-in_default-clause-value c =
    time_none (drop c.args.at c.args.words.now) (drop_past c.args.words.now c.args.at (sym c.get.ensures ∙ ap option_copied c.in_default.is))

pub returns-in_default-get-clause-value : goal.returns-in_default-get-clause-value
returns-in_default-get-clause-value c =
    time_one (drop c.args.at c.args.words.now) c.in-Some.word.now
    (drop_one c.args.words.now c.args.at c.in-Some.word.now (sym c.get.ensures ∙ ap option_copied c.in-Some.is) (sym c.get-2.ensures ∙ ap option_copied c.in_default-get.is))

pub returns-then-ne-clause-value : goal.returns-then-ne-clause-value
returns-then-ne-clause-value c =
    let other = not_true c.ne.result (bytes_eq c.in-Some.word.now (codes "--time")) c.ne.ensures c.if-ne.true in
    time_other (drop c.args.at c.args.words.now) c.in-Some.word.now c.in-Some-get.value.now (drop (c.args.at + 2) c.args.words.now)
    (drop_two c.args.words.now c.args.at c.in-Some.word.now c.in-Some-get.value.now (sym c.get.ensures ∙ ap option_copied c.in-Some.is) (sym c.get-2.ensures ∙ ap option_copied c.in-Some-get.is)) other

pub returns-then-is_field-clause-value : goal.returns-then-is_field-clause-value
returns-then-is_field-clause-value c =
    let same = not_false c.ne.result (bytes_eq c.in-Some.word.now (codes "--time")) c.ne.ensures c.if-ne.false in
    time_given (drop c.args.at c.args.words.now) c.in-Some.word.now c.in-Some-get.value.now (drop (c.args.at + 2) c.args.words.now)
    (drop_two c.args.words.now c.args.at c.in-Some.word.now c.in-Some-get.value.now (sym c.get.ensures ∙ ap option_copied c.in-Some.is) (sym c.get-2.ensures ∙ ap option_copied c.in-Some-get.is)) same
    (sym c.is_field.ensures ∙ c.if-is_field.true)

pub returns-else-is_field-clause-value : goal.returns-else-is_field-clause-value
returns-else-is_field-clause-value c =
    let same = not_false c.ne.result (bytes_eq c.in-Some.word.now (codes "--time")) c.ne.ensures c.if-ne.false in
    time_bad (drop c.args.at c.args.words.now) c.in-Some.word.now c.in-Some-get.value.now (drop (c.args.at + 2) c.args.words.now)
    (drop_two c.args.words.now c.args.at c.in-Some.word.now c.in-Some-get.value.now (sym c.get.ensures ∙ ap option_copied c.in-Some.is) (sym c.get-2.ensures ∙ ap option_copied c.in-Some-get.is)) same
    (sym c.is_field.ensures ∙ c.if-is_field.false)
