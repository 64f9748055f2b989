use Rattle.std.proofs.Common.{◌≡◌, ℕ, ap, subst, ◌∙◌}
use Rattle.block_meaning.specs.Blocks.{IsDamaged}
use Rattle.file_meaning.specs.Files.{Entry}
use Rattle.block_lines.proofs.scanning.open_good.Goals as goal

pub returns-in-Err-Damaged-clause-cause : goal.returns-in-Err-Damaged-clause-cause
returns-in-Err-Damaged-clause-cause c =
    subst (λ (n : ℕ). IsDamaged n c.args.bytes.now) (ap (λ (e : Entry). e.rows) c.entry.view_is) (c.open_block.ensures.damaged (cc (c.in-Err-Damaged.is, c.in-Err-Damaged.field-0-is)))

pub returns-then-in_range-clause-good : goal.returns-then-in_range-clause-good
returns-then-in_range-clause-good c = record {
  table = c.in-Ok.block.0;
  block = c.in-Ok.ensures.rows.0;
  count = c.in-Ok.ensures.rows.1 ∙ ap (λ (e : Entry). e.rows) c.entry.view_is;
  sound = c.in_range.ensures.0 c.if-in_range.true;
}
