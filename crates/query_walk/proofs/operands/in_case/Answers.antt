use Rattle.std.proofs.Common.{sym, arith, [], ◌∷◌}
use Rattle.query_walk.proofs.Chains.{behind_arms, in_arm, no_arm, past_case}
use Rattle.query_walk.proofs.operands.in_case.Goals as goal

pub returns-then-at-count : goal.returns-then-at-count
returns-then-at-count c = sym (behind_arms c.args.list.now (c.args.other.now ∷ []) c.args.at 0 (omega (arith, c.if-at-count.true, c.len-count.ensures)))

pub returns-then-at-count-2 : goal.returns-then-at-count-2
returns-then-at-count-2 c = past_case c.args.list.now c.args.other.now c.args.at (omega (arith, c.if-at-count-2.true, c.len-count.ensures))

pub returns-in-Some : goal.returns-in-Some
returns-in-Some c =
    let found = rw c.in-Some.is at c.get.ensures in
    in_arm c.args.list.now (c.args.other.now ∷ []) c.args.at _ _ (sym found) c.side.ensures.even c.side.ensures.odd

pub returns-in-None : goal.returns-in-None
returns-in-None c =
    let missed = rw c.in-None.is at c.get.ensures in
    absurd (no_arm c.args.list.now c.args.at (omega (arith, c.if-at-count-2.false, c.len-count.ensures)) (λ e. c.if-at-count.false (omega (arith, e, c.len-count.ensures))) (sym missed))
