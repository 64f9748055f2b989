use Rattle.std.proofs.Common.{◌≡◌, replicate}
use Rattle.scan_core.specs.Board.{empty_view}
use Rattle.scan_core.proofs.state.empty_views.Given as goal

abbrev pub invariant-loop : goal.invariant-loop
invariant-loop l = l.views ≡ replicate l.counter empty_view
