use Rattle.std.proofs.Common.{arith, ◌≡◌, ℕ, List, false, sym, subst, All}
use Rattle.std.proofs.lemmas.List.Elements.{All-push}
use Rattle.block_lines.specs.RowLines.{kept_rows}
use Rattle.scan_board.specs.declared.seat.BoardSeat.{BoardSeat}
use Rattle.scan_board.specs.Seats.{BelongsTo, view_of}
use Rattle.scan_meaning.specs.Batches.{rows_of}
use Rattle.scan_files.specs.Places.{blocks_held}
use Rattle.worker_merge.specs.Hands.{HandsRows}
use Rattle.worker_merge.specs.Draws.{drawn, taken, IsSettled, IsDone}
use Rattle.worker_merge.proofs.Places.{pushed_length, all_front, all_last}
use Rattle.worker_merge.proofs.Drawn.{joined_more}
use Rattle.worker_merge.proofs.Coming.{taken_ended, taken_going}
use Rattle.worker_merge.proofs.settle.dismiss.Goals as goal

pub join-requires : goal.join-requires
join-requires g c =
    let inv = c.loop-worker.invariant in
    let job = c.args.job.now in
    let w = c.in-Some.worker in
    let Done = IsDone g.S.RowSink.grew job c.args.fields.now c.args.blocks.now g.S.SharedSink.begins c.args.sink.now c.args.board.now in
    let done = all_last Done c.pop.new.self.items w (subst (All Done) c.in-Some.ensures.items inv.done) in
    let own = (done.tells c.if-lacked.false).hands (sym c.if-not-ended.ensures) in
    let hands = inv.joined in (
      job,
      done.empty,
      kept_rows job (rows_of (blocks_held c.args.fields.now (drawn c.args.blocks.now (view_of w.seat).claims))),
      (g.met.S.RowSink g.world.𝓛 g.world.𝓜 g.world.𝓡 ((λ s x. x), (λ x. x), (λ x. x), λ x. x)).takes_more c.args.sink.now c.loop-worker.sink job hands.rows c.requires.takes hands.grew_by,
      (g.met.S.SharedSink g.world.𝓛 g.world.𝓜 g.world.𝓡 ((λ s x. x), (λ x. x), (λ x. x), λ x. x)).begins_still c.args.sink.now c.loop-worker.sink done.empty job hands.rows hands.grew_by done.begins_so,
      own.grew_by,
    )

pub loop-worker-preserved-then-not-ended : goal.loop-worker-preserved-then-not-ended
loop-worker-preserved-then-not-ended g c =
    let inv = c.loop-worker.invariant in
    let job = c.args.job.now in
    let w = c.in-Some.worker in
    let Done = IsDone g.S.RowSink.grew job c.args.fields.now c.args.blocks.now g.S.SharedSink.begins c.args.sink.now c.args.board.now in
    let all = subst (All Done) c.in-Some.ensures.items inv.done in
    let done = all_last Done c.pop.new.self.items w all in
    let is = c.put.ensures in
    let going : (view_of w.seat).ended ≡ false = sym c.if-not-ended.ensures in
    record {
      done = all_front Done c.pop.new.self.items w all;
      count = let k = inv.count in let a = pushed_length _ _ _ c.in-Some.ensures.items in let b = pushed_length _ _ _ is in omega arith;
      settled = subst (All (λ (s : BoardSeat). BelongsTo c.args.board.now s × IsSettled c.args.fields.now c.args.blocks.now (view_of s))) (sym is)
          (All-push (λ (s : BoardSeat). BelongsTo c.args.board.now s × IsSettled c.args.fields.now c.args.blocks.now (view_of s)) c.loop-worker.seats w.seat inv.settled (done.belongs, (done.tells c.if-lacked.false).settled));
      joined = subst (λ (cs : List ℕ). HandsRows g.S.RowSink.grew job (blocks_held c.args.fields.now (drawn c.args.blocks.now cs)) c.args.sink.now c.loop-worker.sink 0 c.loop-worker.all.chunks 0 c.loop-worker.all.kept)
          (sym (taken_going c.loop-worker.seats c.put.new.self w.seat is going)) inv.joined;
    }

pub loop-worker-preserved : goal.loop-worker-preserved
loop-worker-preserved g c =
    let inv = c.loop-worker.invariant in
    let job = c.args.job.now in
    let w = c.in-Some.worker in
    let claims = (view_of w.seat).claims in
    let rows = kept_rows job (rows_of (blocks_held c.args.fields.now (drawn c.args.blocks.now claims))) in
    let Done = IsDone g.S.RowSink.grew job c.args.fields.now c.args.blocks.now g.S.SharedSink.begins c.args.sink.now c.args.board.now in
    let all = subst (All Done) c.in-Some.ensures.items inv.done in
    let done = all_last Done c.pop.new.self.items w all in
    let tells = done.tells c.if-lacked.false in
    let own = tells.hands (sym c.if-not-ended.ensures) in
    let hands = inv.joined in
    let is = c.put-in-Some.ensures in
    let grown = c.in_ok-join.ensures job done.empty rows
    ((g.met.S.RowSink g.world.𝓛 g.world.𝓜 g.world.𝓡 ((λ s x. x), (λ x. x), (λ x. x), λ x. x)).takes_more c.args.sink.now c.loop-worker.sink job hands.rows c.requires.takes hands.grew_by)
    ((g.met.S.SharedSink g.world.𝓛 g.world.𝓜 g.world.𝓡 ((λ s x. x), (λ x. x), (λ x. x), λ x. x)).begins_still c.args.sink.now c.loop-worker.sink done.empty job hands.rows hands.grew_by done.begins_so) own.grew_by in
    record {
      done = all_front Done c.pop.new.self.items w all;
      count = let k = inv.count in let a = pushed_length _ _ _ c.in-Some.ensures.items in let b = pushed_length _ _ _ is in omega arith;
      settled = subst (All (λ (s : BoardSeat). BelongsTo c.args.board.now s × IsSettled c.args.fields.now c.args.blocks.now (view_of s))) (sym is)
          (All-push (λ (s : BoardSeat). BelongsTo c.args.board.now s × IsSettled c.args.fields.now c.args.blocks.now (view_of s)) c.loop-worker.seats w.seat inv.settled (done.belongs, tells.settled));
      joined = subst (λ (cs : List ℕ). HandsRows g.S.RowSink.grew job (blocks_held c.args.fields.now (drawn c.args.blocks.now cs)) c.args.sink.now c.join.new.self 0 c.join-in-Some.new.self.chunks 0 c.join-in-Some.new.self.kept)
          (sym (taken_ended c.loop-worker.seats c.put-in-Some.new.self w.seat is c.if-not-ended.ensures))
          (joined_more c.args.fields.now c.args.blocks.now g.S.RowSink.grew ((g.met.S.RowSink g.world.𝓛 g.world.𝓜 g.world.𝓡 ((λ s x. x), (λ x. x), (λ x. x), λ x. x)).grew_by_both) job
          (taken c.loop-worker.seats) claims c.args.sink.now c.loop-worker.sink c.join.new.self done.empty w.sink _ _ _ _ _ _ hands own grown c.join-in-Some.ensures.chunks c.join-in-Some.ensures.kept);
    }
