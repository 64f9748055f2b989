use Rattle.std.proofs.Common.{◌≡◌, List}
use Rattle.std.specs.Prelude.{length}
use Rattle.value_meaning.specs.Val.{Val}
use Rattle.lane_ssa.specs.Counts.{counted}
use Rattle.block_lines.specs.RowLines.{kept_rows}
use Rattle.block_lines.proofs.Opened.{of_any}
use Rattle.block_lines.proofs.scanning.scan_rows.Goals as goal

pub returns-in-Ok-take_block-clause-rows : goal.returns-in-Ok-take_block-clause-rows
returns-in-Ok-take_block-clause-rows g c =
    let job = c.args.frame.now.job in
    of_any c.args.field.now c.args.bytes.now c.args.entry.now c.in-Ok.block.1 (λ (l : List Val). g.S.RowSink.grew c.args.sink.now c.take_block.new.sink job (kept_rows job l)) c.in-Ok.ensures.good c.in-Ok-take_block.ensures.rows

pub returns-in-Ok-take_block-clause-kept : goal.returns-in-Ok-take_block-clause-kept
returns-in-Ok-take_block-clause-kept g c =
    let frame = c.args.frame.now in
    of_any c.args.field.now c.args.bytes.now c.args.entry.now c.in-Ok.block.1 (λ (l : List Val). c.take_block.new.frame.kept ≡ counted frame.kept (length (kept_rows frame.job l))) c.in-Ok.ensures.good c.in-Ok-take_block.ensures.kept
