use Rattle.std.proofs.Common.{drop, sym, ap, ◌∙◌}
use Rattle.std.specs.Option.{option_map}
use Rattle.snel_words.proofs.PackWords.{no_time, no_block, all_settings}
use Rattle.snel_words.proofs.reading.read_pack.Goals as goal

pub returns-in_default : goal.returns-in_default
returns-in_default c =
    let words = c.args.words.now in
    no_time (drop 1 words) (sym (ap (option_map (λ p. (option_map (λ t. t.now) p.0, drop p.1 words))) c.in_default.is) ∙ c.time_field.ensures.value)

pub returns-in_default-setting : goal.returns-in_default-setting
returns-in_default-setting c =
    let words = c.args.words.now in
    no_block (drop 1 words) (drop c.in-Some.at words) (option_map (λ t. t.now) c.in-Some.time)
    (sym (ap (option_map (λ p. (option_map (λ t. t.now) p.0, drop p.1 words))) c.in-Some.is) ∙ c.time_field.ensures.value)
    (sym (ap (option_map (λ p. (p.0, drop p.1 words))) c.in_default-setting.is) ∙ c.setting.ensures.value)

pub returns : goal.returns
returns c =
    let words = c.args.words.now in
    c.read_name.ensures ∙ all_settings (drop 1 words) (drop c.in-Some.at words) (drop c.in-Some-setting.at words) (drop c.flag-drop_fractions.result.1 words)
    (option_map (λ t. t.now) c.in-Some.time) c.in-Some-setting.block c.flag-drop_fractions.result.0
    (sym (ap (option_map (λ p. (option_map (λ t. t.now) p.0, drop p.1 words))) c.in-Some.is) ∙ c.time_field.ensures.value)
    (sym (ap (option_map (λ p. (p.0, drop p.1 words))) c.in-Some-setting.is) ∙ c.setting.ensures.value)
    c.flag-drop_fractions.ensures.value
