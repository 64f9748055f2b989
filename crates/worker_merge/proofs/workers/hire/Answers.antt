use Rattle.std.proofs.Common.{arith, ◌≡◌, sym, ap, subst, All}
use Rattle.std.proofs.lemmas.List.Elements.{All-push}
use Rattle.lane_ssa.specs.Counts.{Counts}
use Rattle.scan_core.specs.Board.{empty_view}
use Rattle.scan_board.specs.declared.seat.BoardSeat.{BoardSeat}
use Rattle.scan_board.specs.Seats.{BelongsTo, view_of}
use Rattle.worker_merge.specs.Draws.{IsFresh}
use Rattle.worker_merge.proofs.Places.{pushed_length, all_front, all_last}
use Rattle.worker_merge.proofs.workers.hire.Goals as goal

pub loop-seat-preserved : goal.loop-seat-preserved
loop-seat-preserved g c =
    let was = c.in-Some.ensures in
    let left = c.take.new.self in
    let seat = c.in-Some.seat in
    let now = c.in_ok-push.ensures.items in
    record {
      fresh = λ b all.
          let inv = c.loop-seat.invariant.fresh b all in
          let seats = subst (All (λ s. BelongsTo b s × (view_of s ≡ empty_view))) was inv.0 in
          let own = all_last (λ (s : BoardSeat). BelongsTo b s × (view_of s ≡ empty_view)) left seat seats in (
            all_front (λ (s : BoardSeat). BelongsTo b s × (view_of s ≡ empty_view)) left seat seats,
            subst (All (IsFresh g.S.SharedSink.begins c.args.root.now b)) (sym now) (All-push (IsFresh g.S.SharedSink.begins c.args.root.now b) _ _ inv.1
                (record {
                  ready = record { belongs = own.0; idle = own.1; no_chunks = ap (λ (n : Counts). n.chunks) c.none.ensures; no_rows = ap (λ (n : Counts). n.kept) c.none.ensures };
                  begins_so = c.in_ok-fresh.ensures;
                })),
          );
      count = let inv = c.loop-seat.invariant.count in let a = pushed_length _ _ _ was in let b = pushed_length _ _ _ now in omega arith;
    }
