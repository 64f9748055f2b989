use Rattle.std.proofs.Common.{◌≡◌, ℕ, List, ◌++◌, ◌∷◌, [], Some, sym, ap, ◌∙◌, add-one}
use Rattle.std.specs.Prelude.{slice_get}
use Rattle.block_lines.specs.HeadTexts.{head_text}
use Rattle.block_lines.proofs.PairByPair.{head_made}
use Rattle.block_lines.proofs.heads.heads_of.Goals as goal

pub loop-at-preserved : goal.loop-at-preserved
loop-at-preserved c =
    let here : slice_get c.args.outs.now c.loop-at.at ≡ Some (c.in-Some.out.now.name, c.in-Some.out.now.register) = sym c.in-Some.ensures in
    let text = c.in_ok-push.ensures.ok ∙ ap (λ (h : List ℕ). c.loop-at.heads ++ h ∷ []) (c.in_ok-head.ensures ∙ ap (head_text c.args.mark.now) c.as_str.ensures) in
    rw add-one (head_made c.args.mark.now c.args.outs.now c.loop-at.at c.in-Some.out.now.name c.in-Some.out.now.register here c.loop-at.heads c.push.new.self text c.loop-at.invariant)
