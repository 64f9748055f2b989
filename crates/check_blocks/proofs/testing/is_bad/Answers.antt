use Rattle.std.proofs.Common.{ℕ, List, ap, subst, ◌∙◌}
use Rattle.std.specs.Prelude.{◌↔◌, IsTrue}
use Rattle.block_meaning.specs.Blocks.{IsBlock, IsDamaged}
use Rattle.file_meaning.specs.Files.{Entry}
use Rattle.range_meaning.specs.Excluded.{IsSoundEntry}
use Rattle.scan_meaning.specs.Blocks.{Place}
use Rattle.scan_files.specs.Places.{Held}
use Rattle.check_blocks.specs.Tested.{block_in}
use Rattle.check_blocks.proofs.BadBlocks.{bad_by_range, bad_by_damage}
use Rattle.check_blocks.proofs.testing.is_bad.Goals as goal

pub returns-in-Ok : goal.returns-in-Ok
returns-in-Ok c =
    let b = block_in c.args.field.now c.args.block.now in
    let entry = ap (λ (p : Place). p.entry) c.place.view_is ∙ ap (λ (h : Held). h.place.entry) c.block.view_is in
    let bytes = c.deref.ensures.value ∙ ap (λ (h : Held). h.bytes) c.block.view_is in
    let block = subst (λ (l : List ℕ). IsBlock c.in-Ok.opened.0 c.in-Ok.opened.1 l) bytes c.in-Ok.ensures.rows.0 in
    let count = c.in-Ok.ensures.rows.1 ∙ ap (λ (e : Entry). e.rows) c.entry.view_is ∙ ap (λ (e : Entry). e.rows) entry in
    let both = subst (λ (e : Entry). IsTrue c.in_range.result ↔ IsSoundEntry c.args.field.now e c.in-Ok.opened.1) entry c.in_range.ensures in
    bad_by_range b c.in-Ok.opened.0 c.in-Ok.opened.1 c.in_range.result block count both

pub returns-in-Err-Damaged : goal.returns-in-Err-Damaged
returns-in-Err-Damaged c =
    let b = block_in c.args.field.now c.args.block.now in
    let entry = ap (λ (p : Place). p.entry) c.place.view_is ∙ ap (λ (h : Held). h.place.entry) c.block.view_is in
    let bytes = c.deref.ensures.value ∙ ap (λ (h : Held). h.bytes) c.block.view_is in
    let rows = ap (λ (e : Entry). e.rows) c.entry.view_is ∙ ap (λ (e : Entry). e.rows) entry in
    let damaged = c.open_block.ensures.damaged (cc (c.in-Err-Damaged.is, c.in-Err-Damaged.field-0-is)) in
    bad_by_damage b (subst (λ (n : ℕ). IsDamaged n c.args.block.now.bytes) rows (subst (λ (l : List ℕ). IsDamaged c.entry.inside.rows l) bytes damaged))
