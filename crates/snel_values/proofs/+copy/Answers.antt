use Rattle.std.proofs.Common.{arith}
use Rattle.snel_values.specs.View.{view, pair_view}
use Rattle.snel_values.proofs.Growing.{copied}
use Rattle.snel_values.proofs.+copy.Goals as goal

pub items::Items::copy-loop-item-preserved : goal.items::Items::copy-loop-item-preserved
items::Items::copy-loop-item-preserved t c = copied view _ _ _ _ c.item-item.result _ (omega arith) c.item-item.is c.in_ok-copy.ensures c.in_ok-push.ensures.items c.loop-item.invariant

pub pairs::Pairs::copy-loop-pair-preserved : goal.pairs::Pairs::copy-loop-pair-preserved
pairs::Pairs::copy-loop-pair-preserved t c = copied pair_view _ _ _ _ c.pair-item.result _ (omega arith) c.pair-item.is (λ i. (c.in_ok-name.ensures i, c.in_ok-value.ensures i)) c.in_ok-push.ensures.items c.loop-pair.invariant
