use Rattle.std.proofs.Common.{refl, ap, Err}
use Rattle.snel_values.specs.View.{view}
use Rattle.json_pack.specs.declared.packer.PackedRows.{PackedRows}
use Rattle.json_pack.proofs.Logs.{can_take_row, never_full, row_made}
use Rattle.json_pack.proofs.making.add_row.Goals as goal

pub add-requires : goal.add-requires
add-requires c =
    can_take_row c.args.log.now.0 c.args.log.now.1 (view c.in-Ok.row) c.args.packed.now c.requires.rows c.rows_may_be_written.ensures c.rows_are_light.ensures c.requires.few c.in-Ok.ensures.row

pub unreachable-requires : goal.unreachable-requires
unreachable-requires c =
    never_full c.args.log.now.0 c.args.log.now.1 (view c.in-Ok.row) c.args.packed.now c.requires.rows c.requires.few (c.in-Err-Full.ensures.full (ap (λ f. Err f) c.in-Err-Full.field-0-is))

pub returns-in-Ok-add-clause-row : goal.returns-in-Ok-add-clause-row
returns-in-Ok-add-clause-row c =
    let now : PackedRows = record { writer = c.add.new.self; dropped = c.args.packed.now.dropped } in
    row_made c.args.log.now.0 c.args.log.now.1 (view c.in-Ok.row) c.args.packed.now now c.add.new.self c.in-Ok-add.closed c.in-Ok-add.ensures.added c.in-Ok.ensures.row refl
