use Rattle.std.proofs.lemmas.List.Filters.{dedup_is}
use Rattle.ion_write.proofs.InOrder.{in_order}
use Rattle.ion_write.proofs.choosing.put_in_order.Goals as goal

pub returns : goal.returns
returns c = in_order _ _ _ c.sort_unstable.ensures.permutation c.sort_unstable.ensures.sorted (dedup_is _ _ _ c.dedup.ensures.filtered)
