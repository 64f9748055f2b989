use Rattle.std.proofs.Common.{arith, Bool, ◌<◌, ◌∙◌, sym, subst, length, List, ℕ}
use Rattle.program_meaning.specs.Jobs.{Job}
use Rattle.scan_board.specs.Seats.{view_of}
use Rattle.scan_meaning.specs.Blocks.{good_rows}
use Rattle.scan_files.specs.Places.{block_held, blocks_held}
use Rattle.worker_merge.specs.Hands.{HandsInOrder, AddsOf, IsTested}
use Rattle.worker_merge.specs.Draws.{drawn}
use Rattle.worker_merge.proofs.More.{at_is}
use Rattle.worker_merge.proofs.Drawn.{drawn_good, hands_drawn}
use Rattle.worker_merge.proofs.Settling.{mine, still_clean, claims_more, stopped_at, settled_last, claims_last, harmed_going}
use Rattle.worker_merge.proofs.drawing.scan_drawn.Goals as goal

pub loop-number-preserved : goal.loop-number-preserved
loop-number-preserved g c =
    let inv = c.loop-number.invariant in
    let u = view_of c.loop-number.worker.seat in
    let v = view_of c.draw.new.seat in
    let n = c.in-Some.number in
    let drew = c.in-Some.ensures.drawn in
    let is = c.report_rows.ensures.reported in
    let h = c.index-blocks-number.result in
    let lt : n < length c.args.blocks.now = let there = c.in-Some.ensures.there in let all = c.requires.blocks in omega arith in
    let at = at_is c.args.blocks.now n _ h lt c.index-blocks-number.is in
    let test = subst (λ (t : Bool). AddsOf g.S.RowSink.grew c.loop-number.frame.job h.place.entry.rows (good_rows (block_held c.args.fields.now h)) t c.loop-number.worker.sink c.scan_one.new.sink c.loop-number.frame.chunks c.scan_one.new.frame.chunks c.loop-number.frame.kept c.scan_one.new.frame.kept)
    c.in-Ok-true.field-0-test c.in-Ok-true.ensures.added in
    let added = subst (λ (j : Job). AddsOf g.S.RowSink.grew j h.place.entry.rows (good_rows (block_held c.args.fields.now h)) _ c.loop-number.worker.sink c.scan_one.new.sink c.loop-number.frame.chunks c.scan_one.new.frame.chunks c.loop-number.frame.kept c.scan_one.new.frame.kept)
    inv.job test in
    record {
      belongs = c.report_rows.ensures.board;
      job = c.scan_one.ensures.job ∙ inv.job;
      clean = still_clean u v n inv.clean drew (view_of c.report_rows.new.seat) is;
      hands = subst (λ (cs : List ℕ). HandsInOrder g.S.RowSink.grew c.args.job.now (blocks_held c.args.fields.now (drawn c.args.blocks.now cs)) c.args.worker.now.sink c.scan_one.new.sink 0 c.scan_one.new.frame.chunks 0 c.scan_one.new.frame.kept)
          (sym (claims_more u v n inv.clean drew (view_of c.report_rows.new.seat) is))
          (hands_drawn c.args.fields.now c.args.blocks.now g.S.RowSink.grew
          ((g.met.S.RowSink g.world.𝓛 g.world.𝓜 g.world.𝓡 ((λ s x. x), (λ x. x), (λ x. x), λ x. x)).grew_by_both) c.args.job.now u.claims n h at c.args.worker.now.sink c.loop-number.worker.sink c.scan_one.new.sink _ _ _ _ inv.hands added);
    }

pub report_damage-requires-clause-claimed : goal.report_damage-requires-clause-claimed
report_damage-requires-clause-claimed g c = mine (view_of c.loop-number.worker.seat) (view_of c.draw.new.seat) c.in-Some.number c.loop-number.invariant.clean c.in-Some.ensures.drawn

pub returns-in-Ok-false : goal.returns-in-Ok-false
returns-in-Ok-false g c =
    let inv = c.loop-number.invariant in
    let u = view_of c.loop-number.worker.seat in
    let v = view_of c.draw.new.seat in
    let w = view_of c.report_damage.new.seat in
    let n = c.in-Some.number in
    let drew = c.in-Some.ensures.drawn in
    let is = c.report_damage.ensures.harmed in
    let h = c.index-blocks-number.result in
    let lt : n < length c.args.blocks.now = let there = c.in-Some.ensures.there in let all = c.requires.blocks in omega arith in
    let at = at_is c.args.blocks.now n _ h lt c.index-blocks-number.is in
    let tested = subst (λ (t : Bool). IsTested (good_rows (block_held c.args.fields.now h)) t) c.in-Ok-false.field-0-test c.in-Ok-false.ensures.tested in
    record {
      belongs = c.report_damage.ensures.board;
      tells = λ _. record {
        settled = stopped_at u v n inv.clean drew c.args.fields.now c.args.blocks.now (drawn_good c.args.fields.now c.args.blocks.now u.claims inv.hands.good) w is (h, at, tested);
        hands = λ ended. absurd (harmed_going u v w n inv.clean drew is ended);
      };
    }

pub returns : goal.returns
returns g c =
    let inv = c.loop-number.invariant in
    let u = view_of c.loop-number.worker.seat in
    let w = view_of c.draw.new.seat in
    let last = c.in_default-draw.ensures.last in
    record {
      belongs = c.draw.ensures.belongs;
      tells = λ _. record {
        settled = settled_last u w c.args.fields.now c.args.blocks.now inv.clean (drawn_good c.args.fields.now c.args.blocks.now u.claims inv.hands.good) last;
        hands = λ ended.
            subst (λ (cs : List ℕ). HandsInOrder g.S.RowSink.grew c.args.job.now (blocks_held c.args.fields.now (drawn c.args.blocks.now cs)) c.args.worker.now.sink c.loop-number.worker.sink 0 c.into_tally-worker.result.chunks 0 c.into_tally-worker.result.kept)
            (sym (claims_last u w inv.clean last ended))
            (subst (λ (k : ℕ). HandsInOrder g.S.RowSink.grew c.args.job.now (blocks_held c.args.fields.now (drawn c.args.blocks.now u.claims)) c.args.worker.now.sink c.loop-number.worker.sink 0 k 0 c.into_tally-worker.result.kept)
            (sym c.into_tally-worker.ensures.chunks)
            (subst (λ (k : ℕ). HandsInOrder g.S.RowSink.grew c.args.job.now (blocks_held c.args.fields.now (drawn c.args.blocks.now u.claims)) c.args.worker.now.sink c.loop-number.worker.sink 0 c.loop-number.frame.chunks 0 k)
            (sym c.into_tally-worker.ensures.kept) inv.hands));
      };
    }
