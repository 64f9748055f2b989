use Rattle.std.proofs.Common.{arith}
use Rattle.ion_cells.specs.Shown.{shown}
use Rattle.range_meaning.specs.Excluded.{HoldsWithin}
use Rattle.time_index.proofs.Rows.{one_more, fails_at, holds_in_all, from_true}
use Rattle.time_index.proofs.soundness.are_within.Goals as goal

pub returns-then-not-is_within : goal.returns-then-not-is_within
returns-then-not-is_within c = λ name is.
    let block = c.args.block.now in
    fails_at (HoldsWithin name c.args.entry.now) block.1 c.loop-at.at (shown block.0 c.row.result) c.is_within.result c.row.ensures.row
    (c.is_within.ensures block.0 name c.row.ensures.fits is) c.if-not-is_within.true

pub loop-at-preserved : goal.loop-at-preserved
loop-at-preserved c = λ name is.
    let block = c.args.block.now in
    one_more (HoldsWithin name c.args.entry.now) block.1 c.loop-at.at (shown block.0 c.row.result) c.row.ensures.row
    (c.loop-at.invariant name is)
    ((c.is_within.ensures block.0 name c.row.ensures.fits is).0 (from_true c.is_within.result c.if-not-is_within.false))

pub returns : goal.returns
returns c = λ name is.
    holds_in_all (HoldsWithin name c.args.entry.now) c.args.block.now.1 c.loop-at.at (omega (arith, c.loop-at-test.false, c.rows-at-end.ensures)) (c.loop-at.invariant name is)
