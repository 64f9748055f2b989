use Rattle.std.proofs.Common.{ap, ◌∙◌, ℕ}
use Rattle.scan_meaning.specs.Blocks.{Place, good_rows}
use Rattle.scan_files.specs.Places.{Held, block_held, field_at}
use Rattle.worker_merge.proofs.One.{tested_good, added_good, said_damaged, said_out, tested_bad, added_bad, stays_damaged, stays_out}
use Rattle.worker_merge.proofs.each.scan_one.Goals as goal

pub returns-in-Ok-clause-added : goal.returns-in-Ok-clause-added
returns-in-Ok-clause-added g c =
    let b = block_held c.args.fields.now c.args.block.now in
    let file = ap (λ (p : Place). p.file) c.place.view_is ∙ ap (λ (h : Held). h.place.file) c.block.view_is in
    let entry = ap (λ (p : Place). p.entry) c.place.view_is ∙ ap (λ (h : Held). h.place.entry) c.block.view_is in
    let bytes = c.deref.ensures.value ∙ ap (λ (h : Held). h.bytes) c.block.view_is in
    let field = c.field_of-field.ensures ∙ ap (λ (n : ℕ). field_at c.args.fields.now n) file in
    added_good b _ _ _ field entry bytes g.S.RowSink.grew c.args.frame.now.job _ _ _ _ _ _ c.in-Ok.ensures.good c.in-Ok.ensures.rows c.in-Ok.ensures.chunks c.in-Ok.ensures.kept

pub returns-in-Ok-clause-tested : goal.returns-in-Ok-clause-tested
returns-in-Ok-clause-tested g c =
    let b = block_held c.args.fields.now c.args.block.now in
    let file = ap (λ (p : Place). p.file) c.place.view_is ∙ ap (λ (h : Held). h.place.file) c.block.view_is in
    let entry = ap (λ (p : Place). p.entry) c.place.view_is ∙ ap (λ (h : Held). h.place.entry) c.block.view_is in
    let bytes = c.deref.ensures.value ∙ ap (λ (h : Held). h.bytes) c.block.view_is in
    let field = c.field_of-field.ensures ∙ ap (λ (n : ℕ). field_at c.args.fields.now n) file in
    tested_good b _ _ _ field entry bytes c.in-Ok.ensures.good

pub returns-in-Err-Damaged-clause-added : goal.returns-in-Err-Damaged-clause-added
returns-in-Err-Damaged-clause-added g c =
    let b = block_held c.args.fields.now c.args.block.now in
    let file = ap (λ (p : Place). p.file) c.place.view_is ∙ ap (λ (h : Held). h.place.file) c.block.view_is in
    let entry = ap (λ (p : Place). p.entry) c.place.view_is ∙ ap (λ (h : Held). h.place.entry) c.block.view_is in
    let bytes = c.deref.ensures.value ∙ ap (λ (h : Held). h.bytes) c.block.view_is in
    let field = c.field_of-field.ensures ∙ ap (λ (n : ℕ). field_at c.args.fields.now n) file in
    added_bad g.S.RowSink.grew c.args.frame.now.job c.args.block.now.place.entry.rows (good_rows b) _ _ _ _ _ _ (said_damaged b _ _ _ field entry bytes c.in-Err-Damaged.field-0 c.in-Err-Damaged.field-0-is c.in-Err-Damaged.ensures.cause)
    (stays_damaged c.in-Err-Damaged.field-0 _ _ c.in-Err-Damaged.field-0-is c.in-Err-Damaged.ensures.same)

pub returns-in-Err-Damaged-clause-tested : goal.returns-in-Err-Damaged-clause-tested
returns-in-Err-Damaged-clause-tested g c =
    let b = block_held c.args.fields.now c.args.block.now in
    let file = ap (λ (p : Place). p.file) c.place.view_is ∙ ap (λ (h : Held). h.place.file) c.block.view_is in
    let entry = ap (λ (p : Place). p.entry) c.place.view_is ∙ ap (λ (h : Held). h.place.entry) c.block.view_is in
    let bytes = c.deref.ensures.value ∙ ap (λ (h : Held). h.bytes) c.block.view_is in
    let field = c.field_of-field.ensures ∙ ap (λ (n : ℕ). field_at c.args.fields.now n) file in
    tested_bad (good_rows b) (said_damaged b _ _ _ field entry bytes c.in-Err-Damaged.field-0 c.in-Err-Damaged.field-0-is c.in-Err-Damaged.ensures.cause)

pub returns-in-Err-OutOfRange-clause-added : goal.returns-in-Err-OutOfRange-clause-added
returns-in-Err-OutOfRange-clause-added g c =
    let b = block_held c.args.fields.now c.args.block.now in
    let file = ap (λ (p : Place). p.file) c.place.view_is ∙ ap (λ (h : Held). h.place.file) c.block.view_is in
    let entry = ap (λ (p : Place). p.entry) c.place.view_is ∙ ap (λ (h : Held). h.place.entry) c.block.view_is in
    let bytes = c.deref.ensures.value ∙ ap (λ (h : Held). h.bytes) c.block.view_is in
    let field = c.field_of-field.ensures ∙ ap (λ (n : ℕ). field_at c.args.fields.now n) file in
    added_bad g.S.RowSink.grew c.args.frame.now.job c.args.block.now.place.entry.rows (good_rows b) _ _ _ _ _ _ (said_out b _ _ _ field entry bytes c.in-Err-OutOfRange.field-0 c.in-Err-OutOfRange.field-0-is c.in-Err-OutOfRange.ensures.cause)
    (stays_out c.in-Err-OutOfRange.field-0 _ _ c.in-Err-OutOfRange.field-0-is c.in-Err-OutOfRange.ensures.same)

pub returns-in-Err-OutOfRange-clause-tested : goal.returns-in-Err-OutOfRange-clause-tested
returns-in-Err-OutOfRange-clause-tested g c =
    let b = block_held c.args.fields.now c.args.block.now in
    let file = ap (λ (p : Place). p.file) c.place.view_is ∙ ap (λ (h : Held). h.place.file) c.block.view_is in
    let entry = ap (λ (p : Place). p.entry) c.place.view_is ∙ ap (λ (h : Held). h.place.entry) c.block.view_is in
    let bytes = c.deref.ensures.value ∙ ap (λ (h : Held). h.bytes) c.block.view_is in
    let field = c.field_of-field.ensures ∙ ap (λ (n : ℕ). field_at c.args.fields.now n) file in
    tested_bad (good_rows b) (said_out b _ _ _ field entry bytes c.in-Err-OutOfRange.field-0 c.in-Err-OutOfRange.field-0-is c.in-Err-OutOfRange.ensures.cause)
