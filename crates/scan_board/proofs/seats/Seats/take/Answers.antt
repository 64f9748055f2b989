use Rattle.scan_board.proofs.Places.{taken}
use Rattle.scan_board.proofs.seats.Seats.take.Goals as goal

pub returns : goal.returns
returns c =
    rw (c.flatten.ensures, ← c.self.view_is) (taken c.self.inside.all.items c.pop.new.self.items c.pop.result c.self.invariant.whole c.pop.ensures.items c.pop.ensures.variant)
