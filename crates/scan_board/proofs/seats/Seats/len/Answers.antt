use Rattle.std.proofs.Common.{◌∙◌, ap, sym, length}
use Rattle.scan_board.proofs.Places.{length-present}
use Rattle.scan_board.proofs.seats.Seats.len.Goals as goal

pub returns-clause-count : goal.returns-clause-count
returns-clause-count c = c.len.ensures.value ∙ sym (length-present c.self.inside.all.items c.self.invariant.whole) ∙ ap length c.self.view_is
