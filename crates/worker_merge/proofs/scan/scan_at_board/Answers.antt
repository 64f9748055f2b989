use Rattle.std.proofs.Common.{rules, ◌≡◌, ◌∙◌, sym, ap, subst, length, All, List}
use Rattle.worker_merge.specs.declared.workers.Worker.{Worker}
use Rattle.worker_merge.specs.Draws.{IsReady, IsDone}
use Rattle.worker_merge.proofs.Places.{written_back}
use Rattle.worker_merge.proofs.Hired.{all_ready, all_take, all_done}
use Rattle.worker_merge.proofs.scan.scan_at_board.Goals as goal

pub scan_all-requires-clause-ready : goal.scan_all-requires-clause-ready
scan_all-requires-clause-ready g c κs within =
    subst (All (IsReady c.in-Ok.board)) (sym c.as_mut_slice-at_work.ensures.value) (all_ready g.S.SharedSink.begins c.args.sink.now c.in-Ok.board c.in-Ok-hire.hired.items (c.in-Ok-hire.ensures.fresh c.in-Ok.board c.in-Ok.ensures.all))

pub scan_all-requires-clause-takes : goal.scan_all-requires-clause-takes
scan_all-requires-clause-takes g c κs within =
    subst (All (λ (w : Worker g.row.S.Denot). g.S.RowSink.takes w.sink c.args.job.now)) (sym c.as_mut_slice-at_work.ensures.value)
    (all_take g.S.SharedSink.begins (λ s. g.S.RowSink.takes s c.args.job.now) c.args.sink.now
    (λ empty b. (g.met.S.SharedSink g.world.𝓛 g.world.𝓜 g.world.𝓡 ((λ s x. x), (λ x. x), (λ x. x), λ x. x)).fresh_takes c.args.sink.now empty c.args.job.now c.requires.takes b)
    c.in-Ok.board c.in-Ok-hire.hired.items (c.in-Ok-hire.ensures.fresh c.in-Ok.board c.in-Ok.ensures.all))

pub settle-requires-clause-done : goal.settle-requires-clause-done
settle-requires-clause-done g c κs within =
    let old = c.in-Ok-hire.hired.items in
    let new = c.scan_all.new.workers in
    let value = c.as_mut_slice-at_work.ensures.value in
    let count = c.scan_all.ensures.count ∙ ap (λ (l : List (Worker g.row.S.Denot)). length l) value in
    let len : c.in-Ok-hire.hired.len ≡ length old = search rules in
    subst (All (IsDone g.S.RowSink.grew c.args.job.now c.args.fields.now c.args.blocks.now g.S.SharedSink.begins c.args.sink.now c.in-Ok.board)) (sym (written_back new old c.in-Ok-hire.hired.len len count))
    (all_done g.S.SharedSink.begins g.S.RowSink.grew c.args.sink.now c.args.job.now c.args.fields.now c.args.blocks.now c.in-Ok.board old c.as_mut_slice-at_work.result.now new value count
    (c.in-Ok-hire.ensures.fresh c.in-Ok.board c.in-Ok.ensures.all) c.scan_all.ensures.scanned)
