use Rattle.std.proofs.Common.{sym, ◌∙◌}
use Rattle.lane_ssa.proofs.Building.{mask_put, value_put}
use Rattle.lane_ssa.proofs.job.Builder.put.Goals as goal

pub invariant_of-self-then-is_mask : goal.invariant_of-self-then-is_mask
invariant_of-self-then-is_mask c =
    rw c.in_ok-push.ensures.items
    (mask_put _ c.args.instr _ _ c.self.invariant (rw c.self.view_is c.requires.names) (sym c.makes_mask-is_mask.ensures ∙ c.if-is_mask.true))

pub invariant_of-self-else-is_mask : goal.invariant_of-self-else-is_mask
invariant_of-self-else-is_mask c =
    rw c.in_ok-push.ensures.items
    (value_put _ c.args.instr _ _ c.self.invariant (rw c.self.view_is c.requires.names) (sym c.makes_mask-is_mask.ensures ∙ c.if-is_mask.false))
