use Rattle.std.proofs.Common.{◌+◌, ◌++◌, List, ℕ, drop, sym, ap, ◌∙◌}
use Rattle.std.specs.Prelude.{option_copied}
use Rattle.snel_words.proofs.Places.{copied_next}
use Rattle.snel_words.proofs.names.copy_from.Goals as goal

pub loop-i-preserved : goal.loop-i-preserved
loop-i-preserved c =
    c.loop-i.invariant ∙ copied_next c.loop-i.copy c.args.words.now c.loop-i.i c.in-Some.word.now (sym c.get.ensures ∙ ap option_copied c.in-Some.is)
    ∙ ap (λ (l : List (List ℕ)). l ++ drop (c.loop-i.i + 1) c.args.words.now) (sym c.in-Ok.ensures.ok)
