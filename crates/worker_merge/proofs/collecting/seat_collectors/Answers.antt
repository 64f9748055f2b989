use Rattle.std.proofs.Common.{◌≡◌, sym, subst, All}
use Rattle.std.proofs.lemmas.List.Elements.{All-push}
use Rattle.scan_core.specs.Board.{empty_view}
use Rattle.scan_board.specs.declared.seat.BoardSeat.{BoardSeat}
use Rattle.scan_board.specs.Seats.{BelongsTo, view_of}
use Rattle.worker_merge.specs.Pieces.{IsIdle}
use Rattle.worker_merge.proofs.Places.{all_front, all_last}
use Rattle.worker_merge.proofs.collecting.seat_collectors.Goals as goal

pub loop-seat-preserved : goal.loop-seat-preserved
loop-seat-preserved c = λ b all.
    let left = c.take.new.self in
    let seat = c.in-Some.seat in
    let inv = c.loop-seat.invariant b all in
    let seats = subst (All (λ s. BelongsTo b s × (view_of s ≡ empty_view))) c.in-Some.ensures inv.0 in
    let own = all_last (λ (s : BoardSeat). BelongsTo b s × (view_of s ≡ empty_view)) left seat seats in (
      all_front (λ (s : BoardSeat). BelongsTo b s × (view_of s ≡ empty_view)) left seat seats,
      subst (All (IsIdle b)) (sym c.in_ok-push.ensures.items) (All-push (IsIdle b) _ _ inv.1 (record { belongs = own.0; idle = own.1; none = c.new.ensures.items })),
    )
