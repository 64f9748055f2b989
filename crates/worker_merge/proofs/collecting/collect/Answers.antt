use Rattle.scan_board.specs.Seats.{view_of}
use Rattle.worker_merge.proofs.Apart.{has_claimed}
use Rattle.worker_merge.proofs.collecting.collect.Goals as goal

pub report_damage-requires-clause-claimed : goal.report_damage-requires-clause-claimed
report_damage-requires-clause-claimed g c = has_claimed (view_of c.loop-number.worker.seat) (view_of c.draw.new.seat) c.in-Some.number c.in-Some.ensures.drawn
