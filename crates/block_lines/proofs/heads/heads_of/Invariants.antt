use Rattle.std.proofs.Common.{◌≡◌, ◌++◌, drop}
use Rattle.block_lines.specs.HeadTexts.{head_texts}
use Rattle.block_lines.proofs.heads.heads_of.Given as goal

-- the texts of the outputs before this one were made
abbrev pub invariant-loop-at : goal.invariant-loop-at
invariant-loop-at l =
    l.heads ++ head_texts l.fn.mark (drop l.at l.fn.outs) ≡ head_texts l.fn.mark l.fn.outs
