use denote.Param.Send.{sendable}
use Rattle.std.proofs.Crossing.{crosses}
use Rattle.scan_board.proofs.board.Board.TheSendSync as board
use Rattle.worker_merge.proofs.Crossing.{Job-sync}
use Rattle.worker_merge.proofs.collecting.collect_all.Goals as goal

pub for_each_mut-requires-sync-F : goal.for_each_mut-requires-sync-F
for_each_mut-requires-sync-F g c κs within = let j = Job-sync in let y = c.type_bounds.sync-G in let b = board.the_sync in search (sendable, crosses) depth 40 fits 20000
