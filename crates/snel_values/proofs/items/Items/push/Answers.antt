use Rattle.std.proofs.lemmas.List.{map-append}
use Rattle.snel_values.proofs.Growing.{AreSound-push}
use Rattle.snel_values.proofs.items.Items.push.Goals as goal

pub invariant_of-self-2 : goal.invariant_of-self-2
invariant_of-self-2 c = rw (c.in_ok-push.ensures.items, map-append) (AreSound-push _ _ c.self.invariant c.know.ensures)
