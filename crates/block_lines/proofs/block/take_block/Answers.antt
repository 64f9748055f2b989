use Rattle.std.proofs.Common.{◌≡◌, ℕ, List, ◌+◌, ◌/◌, ◌<◌, ◌≤◌, ◌++◌, ◌^◌, length, take, refl, sym, ap, subst, ◌∙◌, arith, length-append}
use Rattle.value_meaning.specs.Val.{Val}
use Rattle.block_meaning.specs.Tables.{Table}
use Rattle.program_meaning.specs.Jobs.{Job}
use Rattle.lane_ssa.specs.Bound.{IsBound}
use Rattle.lane_ssa.specs.ChunksOf.{rows_from}
use Rattle.lane_ssa.specs.Counts.{counted}
use Rattle.block_lines.specs.RowLines.{kept_rows}
use Rattle.block_lines.proofs.ChunkByChunk.{counted_more, counted_most, counted_whole, still_bound}
use Rattle.block_lines.proofs.KeptRows.{kept_split, all_taken}
use Rattle.block_lines.proofs.block.take_block.Goals as goal

pub loop-first-init : goal.loop-first-init
loop-first-init g c =
    let e = c.bind.ensures in
    record {
      bound = subst (λ (t : Table). IsBound t c.bind.new.self.job.program c.bind.new.self.symbols) c.table.ensures e.bound;
      job = e.job;
      whole = refl;
      near = omega arith;
      rows = g.met.S.RowSink.grew_by_none c.args.sink.now c.args.frame.now.job;
      chunks = ap (λ (n : ℕ). counted n 0) e.chunks;
      kept = ap (λ (n : ℕ). counted n 0) e.kept;
      chunks_most = λ h. absurd (omega (arith, h));
      kept_most = λ h. absurd (omega (arith, h));
    }

pub take_chunk-requires-clause-takes : goal.take_chunk-requires-clause-takes
take_chunk-requires-clause-takes g c =
    let h = c.loop-first.invariant in
    subst (g.S.RowSink.takes c.loop-first.sink) (sym h.job) (g.met.S.RowSink.takes_more c.args.sink.now c.loop-first.sink c.args.frame.now.job _ c.requires.takes h.rows)

pub loop-first-preserved : goal.loop-first-preserved
loop-first-preserved g c =
    let first = c.loop-first.first in
    let rows = c.args.block.now.1 in
    let job = c.args.frame.now.job in
    let h = c.loop-first.invariant in
    let e = c.take_chunk.ensures in
    let here : length (kept_rows job (take first rows)) + length (kept_rows job (rows_from first rows)) ≡ length (kept_rows job (take (first + 16) rows)) =
    sym (length-append (kept_rows job (take first rows)) (kept_rows job (rows_from first rows))) ∙ ap (λ (l : List Val). length l) (kept_split job first rows) in
    let grown = subst (λ (j : Job). g.S.RowSink.grew c.loop-first.sink c.take_chunk.new.sink j (kept_rows j (rows_from first rows))) h.job c.in_ok-take_chunk.ensures.rows in
    let both = g.met.S.RowSink.grew_by_both c.args.sink.now c.loop-first.sink c.take_chunk.new.sink job _ _ h.rows grown in
    let kept : c.take_chunk.new.frame.kept ≡ counted c.loop-first.frame.kept (length (kept_rows job (rows_from first rows))) =
    e.kept ∙ ap (λ (j : Job). counted c.loop-first.frame.kept (length (kept_rows j (rows_from first rows)))) h.job in
    let next : first / 16 + 1 ≡ (first + 16) / 16 = omega arith in
    record {
      bound = still_bound c.args.block.now.0 c.loop-first.frame.job c.take_chunk.new.frame.job c.loop-first.frame.symbols c.take_chunk.new.frame.symbols e.job e.symbols h.bound;
      job = e.job ∙ h.job;
      whole = omega (arith, h.whole);
      near = omega (arith, c.rows.ensures, c.loop-first-test.true);
      rows = subst (g.S.RowSink.grew c.args.sink.now c.take_chunk.new.sink job) (kept_split job first rows) both;
      chunks = ap (λ (n : ℕ). counted n 0) e.chunks ∙ counted_more c.loop-first.frame.chunks c.args.frame.now.chunks (first / 16) 1 h.chunks ∙ ap (counted c.args.frame.now.chunks) next;
      kept = ap (λ (n : ℕ). counted n 0) kept ∙ counted_more c.loop-first.frame.kept c.args.frame.now.kept (length (kept_rows job (take first rows))) (length (kept_rows job (rows_from first rows))) h.kept ∙ ap (counted c.args.frame.now.kept) here;
      chunks_most = λ _. subst (λ (n : ℕ). n < 18446744073709551616) (sym e.chunks) (counted_most c.loop-first.frame.chunks 1);
      kept_most = λ _. subst (λ (n : ℕ). n < 18446744073709551616) (sym kept) (counted_most c.loop-first.frame.kept (length (kept_rows job (rows_from first rows))));
    }

pub returns-clause-rows : goal.returns-clause-rows
returns-clause-rows g c =
    let end : length c.args.block.now.1 ≤ c.loop-first.first = omega (arith, c.rows.ensures, c.loop-first-test.false) in
    let job = c.args.frame.now.job in
    subst (λ (l : List Val). g.S.RowSink.grew c.args.sink.now c.loop-first.sink job (kept_rows job l)) (all_taken c.args.block.now.1 c.loop-first.first end) c.loop-first.invariant.rows

pub returns-clause-kept : goal.returns-clause-kept
returns-clause-kept g c =
    let end : length c.args.block.now.1 ≤ c.loop-first.first = omega (arith, c.rows.ensures, c.loop-first-test.false) in
    let most = c.loop-first.invariant.kept_most (omega (arith, end, c.know.ensures.some)) in
    counted_whole c.loop-first.frame.kept c.args.frame.now.kept _ most c.loop-first.invariant.kept
    ∙ ap (λ (l : List Val). counted c.args.frame.now.kept (length (kept_rows c.args.frame.now.job l))) (all_taken c.args.block.now.1 c.loop-first.first end)

pub returns-clause-chunks : goal.returns-clause-chunks
returns-clause-chunks g c =
    let end : length c.args.block.now.1 ≤ c.loop-first.first = omega (arith, c.rows.ensures, c.loop-first-test.false) in
    let most = c.loop-first.invariant.chunks_most (omega (arith, end, c.know.ensures.some)) in
    let chunks : c.loop-first.first / 16 ≡ (length c.args.block.now.1 + 15) / 16 = omega (arith, end, c.loop-first.invariant.near, c.loop-first.invariant.whole) in
    counted_whole c.loop-first.frame.chunks c.args.frame.now.chunks (c.loop-first.first / 16) most c.loop-first.invariant.chunks ∙ ap (counted c.args.frame.now.chunks) chunks
