use Rattle.std.proofs.Common.{arith, ◌≡◌, ◌<◌, ◌≤◌, ◌∙◌, sym, ap, length, ℕ, None}
use Rattle.scan_core.specs.Times.{times}
use Rattle.scan_core.specs.Board.{once_below}
use Rattle.scan_board.specs.Seats.{blocks_of, views_of}
use Rattle.scan_files.specs.Places.{blocks_held}
use Rattle.worker_merge.specs.Draws.{drawn, taken}
use Rattle.worker_merge.proofs.Drawn.{all_handed, all_good, bad_named, counts_after}
use Rattle.worker_merge.proofs.Coming.{come, first_named, each_good, each_once, count_views}
use Rattle.worker_merge.proofs.settle.settle.Goals as goal

pub returns-in-Some-clause-bad : goal.returns-in-Some-clause-bad
returns-in-Some-clause-bad g c =
    let e = c.gather.ensures in
    let s = c.dismiss.new.seats in
    let d = c.gather.result.damage in
    let told = come c.args.board c.args.fields.now c.args.blocks.now s (blocks_of c.args.board) c.gather.result.next c.gather.result.rows d c.in-Ok.ensures.settled e.claims e.damage e.ended e.seen in
    let named = first_named c.args.fields.now c.args.blocks.now (views_of s) (blocks_of c.args.board) c.gather.result.next c.gather.result.rows d told c.in-Some.number (sym c.damage.ensures ∙ c.in-Some.is) in
    let le : c.in-Some.number ≤ length c.args.blocks.now = let a = named.0 in let b = e.bounded in let m = e.made_with.0 in let all = c.requires.blocks in omega arith in
    bad_named c.args.fields.now c.args.blocks.now c.in-Some.number le named.1 named.2

pub returns-in-None-clause-handed : goal.returns-in-None-clause-handed
returns-in-None-clause-handed g c =
    let e = c.gather.ensures in
    let s = c.dismiss.new.seats in
    let d = c.gather.result.damage in
    let none : d ≡ None = sym c.damage.ensures ∙ c.in-None.is in
    let some_views : 0 < length (views_of s) = count_views s (let a = c.in-Ok.ensures.count in let b = c.requires.count in let k = c.args.board.some_seats.0 in omega arith) in
    let told = come c.args.board c.args.fields.now c.args.blocks.now s (blocks_of c.args.board) c.gather.result.next c.gather.result.rows d c.in-Ok.ensures.settled e.claims e.damage e.ended e.seen in
    let good = all_good c.args.fields.now c.args.blocks.now
    (λ b lt. each_good c.args.fields.now c.args.blocks.now (views_of s) (blocks_of c.args.board) c.gather.result.next c.gather.result.rows d told none some_views b (let all = c.requires.blocks in omega arith)) in
    let once : (x : ℕ) → times x (taken s) ≡ once_below x (length c.args.blocks.now) =
    λ x. each_once c.args.board c.args.fields.now c.args.blocks.now s (blocks_of c.args.board) c.gather.result.next c.gather.result.rows d c.in-Ok.ensures.settled e.claims e.damage e.ended e.seen none some_views x
    ∙ ap (λ (n : ℕ). once_below x n) c.requires.blocks in
    all_handed c.args.job.now c.args.fields.now c.args.blocks.now (taken s) once g.S.RowSink.grew c.args.sink.now c.dismiss.new.sink _ _ _ _ good
    (counts_after g.S.RowSink.grew c.args.job.now (blocks_held c.args.fields.now (drawn c.args.blocks.now (taken s))) c.args.sink.now c.dismiss.new.sink _ _ _ _ _ _ c.in-Ok.ensures.joined c.join.ensures.chunks c.join.ensures.kept)
