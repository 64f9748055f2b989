use Rattle.std.proofs.lemmas.List.{map-append}
use Rattle.snel_values.proofs.Growing.{HasSoundFields-push}
use Rattle.snel_values.proofs.pairs.Pairs.push.Goals as goal

pub invariant_of-self-2 : goal.invariant_of-self-2
invariant_of-self-2 c = rw (c.in_ok-push.ensures.items, map-append) (HasSoundFields-push _ _ c.self.invariant (rw c.self.view_is c.requires) c.know.ensures c.know-2.ensures)
