use Rattle.std.proofs.Common.{◌≡◌, drop, sym, ap, subst, ◌∙◌}
use Rattle.std.specs.Prelude.{IfOk}
use Rattle.std.specs.Option.{option_map}
use Rattle.snel_words.specs.Words.{Ask}
use Rattle.snel_words.specs.Asked.{ask_view}
use Rattle.snel_words.proofs.Commands.{no_workers, no_groups, all_settings}
use Rattle.snel_words.proofs.reading.read_query.Goals as goal

pub returns-in_default : goal.returns-in_default
returns-in_default c =
    let words = c.args.words.now in
    no_workers (drop 1 words) (sym (ap (option_map (λ p. (p.0, drop p.1 words))) c.in_default.is) ∙ c.setting.ensures.value)

pub returns-in_default-setting : goal.returns-in_default-setting
returns-in_default-setting c =
    let words = c.args.words.now in
    no_groups (drop 1 words) (drop c.in-Some.at words) c.in-Some.workers
    (sym (ap (option_map (λ p. (p.0, drop p.1 words))) c.in-Some.is) ∙ c.setting.ensures.value)
    (sym (ap (option_map (λ p. (p.0, drop p.1 words))) c.in_default-setting.is) ∙ c.setting-2.ensures.value)

pub returns : goal.returns
returns c =
    let words = c.args.words.now in
    subst (λ (a : Ask). IfOk c.read_operands.result (λ ask. ask_view ask ≡ a))
    (all_settings (drop 1 words) (drop c.in-Some.at words) (drop c.in-Some-setting.at words) (drop c.flag-stats.result.1 words)
    c.in-Some.workers c.in-Some-setting.groups c.flag-stats.result.0
    (sym (ap (option_map (λ p. (p.0, drop p.1 words))) c.in-Some.is) ∙ c.setting.ensures.value)
    (sym (ap (option_map (λ p. (p.0, drop p.1 words))) c.in-Some-setting.is) ∙ c.setting-2.ensures.value)
    c.flag-stats.ensures.value) c.read_operands.ensures
