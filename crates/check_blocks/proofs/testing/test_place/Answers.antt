use Rattle.std.proofs.Common.{ap, ◌∙◌}
use Rattle.scan_meaning.specs.Blocks.{Block}
use Rattle.scan_meaning.specs.Batches as batches
use Rattle.check_blocks.proofs.BadBlocks.{is_block_at}
use Rattle.check_blocks.proofs.testing.test_place.Goals as goal

pub returns-in-Ok-is_bad-clause-tested : goal.returns-in-Ok-is_bad-clause-tested
returns-in-Ok-is_bad-clause-tested g c = λ files is bytes at.
    c.in-Ok-is_bad.ensures ∙ ap (λ (b : Block). batches.is_bad b) (is_block_at files c.args.names.now c.args.place.now c.in-Ok.block bytes c.args.field.now (c.in-Ok.ensures.block files is) at)
