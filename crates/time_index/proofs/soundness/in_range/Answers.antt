use Rattle.std.proofs.Common.{subst}
use Rattle.block_meaning.specs.Tables.{Table}
use Rattle.ion_cells.specs.Finding.{IsLabelOf}
use Rattle.time_index.proofs.Conjuncts.{not_empty}
use Rattle.time_index.proofs.soundness.in_range.Goals as goal

pub returns-else-is_empty : goal.returns-else-is_empty
returns-else-is_empty c =
    let field = c.args.field.now in
    let is = subst (λ (t : Table). IsLabelOf t field c.label_of.result) c.table.ensures c.label_of.ensures in
    let exact = c.are_within.ensures field is in
    (λ t named. exact.0 t, λ sound. exact.1 (sound (not_empty field c.is_empty.result c.is_empty.ensures c.if-is_empty.false)))
