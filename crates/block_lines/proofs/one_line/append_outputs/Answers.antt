use Rattle.std.proofs.Common.{◌≡◌, ℕ, List, Some, sym, ap, ◌∙◌, add-one}
use Rattle.std.specs.Prelude.{slice_get}
use Rattle.program_meaning.specs.Jobs.{Ends, Job}
use Rattle.lane_base.specs.Shown.{value_under}
use Rattle.lane_base.specs.Registers.{seen}
use Rattle.lane_ssa.specs.Frames.{state_at}
use Rattle.block_lines.specs.HeadTexts.{head_text}
use Rattle.block_lines.proofs.PairByPair.{mark_of, same_head, head_found, output_made}
use Rattle.block_lines.proofs.one_line.append_outputs.Goals as goal

pub loop-at-preserved : goal.loop-at-preserved
loop-at-preserved c =
    let outs : c.ends.result.now.outs ≡ c.args.frame.now.job.ends.outs = ap (λ (e : Ends). e.outs) c.ends.ensures.value ∙ ap (λ (j : Job). j.ends.outs) c.job.ensures in
    let here : slice_get c.args.frame.now.job.ends.outs c.loop-at.at ≡ Some (c.in-Some.out.now.name, c.in-Some.out.now.register) = ap (λ (l : List (List ℕ × ℕ)). slice_get l c.loop-at.at) (sym outs) ∙ sym c.in-Some.ensures in
    let found = head_found c.args.frame.now.job.ends.outs c.args.heads.now c.requires.heads c.loop-at.at c.in-Some.out.now.name c.in-Some.out.now.register here c.loop-at.later in
    let head : c.in-Some-get.head.now ≡ head_text (mark_of c.loop-at.later) c.in-Some.out.now.name = same_head _ _ _ c.in-Some-get.ensures found in
    rw add-one (output_made (state_at c.args.table.now c.args.frame.now c.args.lane) c.args.frame.now.job.ends.outs c.loop-at.at c.in-Some.out.now.name
    (value_under c.args.table.now (seen c.lane-look.result)) c.in-Some.out.now.register here (c.lane-look.ensures.value c.args.table.now)
    _ c.loop-at.into c.append_output.new.into c.in-Some-get.head.now c.loop-at.later c.in_ok-later.later head c.in_ok-later.ensures.text c.in_ok-later.ensures.later c.loop-at.invariant)
