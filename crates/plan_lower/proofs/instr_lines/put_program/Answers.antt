use Rattle.std.proofs.Common.{◌≡◌, ◌+◌, ◌++◌, ◌<◌, map, length, ap, ◌∙◌, cond, arith}
use Rattle.std.proofs.lemmas.List.{length-map}
use Rattle.program_meaning.specs.Instructions.{makes_mask}
use Rattle.lane_ssa.specs.Views.{instr_view}
use Rattle.plan_lower.proofs.Lines.{program_more, mask_more, mask_within, program_done}
use Rattle.plan_lower.proofs.HeldConstants.{constant_at}
use Rattle.plan_lower.proofs.instr_lines.put_program.Goals as goal

pub put_line-requires : goal.put_line-requires
put_line-requires c = constant_at (map instr_view c.args.instrs.now) c.loop-at.at (instr_view c.instr_at-instr.result.now) c.instr_at-instr.ensures c.requires

pub loop-at-preserved : goal.loop-at-preserved
loop-at-preserved c =
    let xs = map instr_view c.args.instrs.now in
    let x = instr_view c.instr_at-instr.result.now in
    let at = c.loop-at.at in
    let masks = c.loop-at.masks in
    let inside : at < length xs = omega (arith, c.loop-at-test.true, length-map c.args.instrs.now instr_view) in
    let flag : c.masks_of-masks.result ≡ cond (makes_mask x) 1 0 = c.masks_of-masks.ensures in (
      ap (λ n. masks + n) flag ∙ mask_more xs at x c.instr_at-instr.ensures masks c.loop-at.invariant.0,
      rw flag (mask_within xs at x c.instr_at-instr.ensures masks c.loop-at.invariant.0 inside),
      program_more xs at x c.instr_at-instr.ensures masks c.loop-at.invariant.0 c.args.text.now c.loop-at.text c.put_line.new.text inside c.loop-at.invariant.2 c.in_ok-put_line.ensures,
    )

pub returns : goal.returns
returns c =
    c.loop-at.invariant.2
    ∙ ap (λ l. c.args.text.now ++ l) (program_done (map instr_view c.args.instrs.now) c.loop-at.at (omega (arith, c.loop-at-test.false, length-map c.args.instrs.now instr_view)))
