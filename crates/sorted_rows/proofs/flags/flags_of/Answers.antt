use Rattle.query_tree.specs.Parts.{key_view}
use Rattle.sorted_rows.proofs.EachFlag.{next_flag}
use Rattle.sorted_rows.proofs.flags.flags_of.Goals as goal

pub loop-at-preserved : goal.loop-at-preserved
loop-at-preserved c =
    next_flag c.args.order.now c.loop-at.at (key_view c.in-Some.key.now) c.in-Some.ensures c.loop-at.flags.items c.push.new.self.items c.in_ok-push.ensures.items c.loop-at.invariant
