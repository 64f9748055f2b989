use Rattle.std.proofs.Common.{◌≡◌, false, length, sym, ap, subst, take, ◌∙◌, arith}
use Rattle.std.specs.Prelude.{All}
use Rattle.std.proofs.lemmas.List.{take_all}
use Rattle.program_meaning.specs.Registers.{value_at}
use Rattle.lane_base.specs.Shown.{is_nested}
use Rattle.lane_ssa.specs.Frames.{state_at}
use Rattle.batch_groups.specs.Flat.{IsFlat}
use Rattle.batch_groups.proofs.KeyByKey.{all_more}
use Rattle.batch_groups.proofs.lane_keys.are_flat.Goals as goal

pub loop-at-preserved : goal.loop-at-preserved
loop-at-preserved c table legal =
    let flat : is_nested (value_at (state_at table c.args.frame.now c.args.lane) c.in-Some.register) ≡ false =
    sym (ap is_nested (c.lane.ensures.value table)) ∙ (sym (c.is_tree.ensures table (c.lane.ensures.legal table legal)) ∙ c.if-is_tree.false) in
    all_more (IsFlat table c.args.frame.now c.args.lane) c.args.registers.now c.loop-at.at c.in-Some.register c.in-Some.ensures flat (c.loop-at.invariant table legal)

pub returns : goal.returns
returns c holds table legal =
    subst (All (IsFlat table c.args.frame.now c.args.lane)) (take_all c.loop-at.at c.args.registers.now (omega arith)) (c.loop-at.invariant table legal)
