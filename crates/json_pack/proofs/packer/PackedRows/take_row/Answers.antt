use Rattle.std.proofs.Common.{refl, ap, Err}
use Rattle.json_rows.specs.LineViews.{settings_view}
use Rattle.snel_values.specs.View.{view}
use Rattle.json_pack.proofs.Lines.{can_take, row_added, row_full}
use Rattle.json_pack.proofs.packer.PackedRows.take_row.Goals as goal

pub add-requires : goal.add-requires
add-requires c = can_take (settings_view c.args.settings.now) (view c.args.row) c.args.self.now c.requires.rows c.requires.writable c.requires.light

pub returns-in-Ok-clause-ok : goal.returns-in-Ok-clause-ok
returns-in-Ok-clause-ok c = row_added (settings_view c.args.settings.now) (view c.args.row) c.args.dropped c.args.self.now _ c.add.new.self c.in-Ok.closed c.in-Ok.ensures.added refl c.saturating_add-self.ensures

pub returns-in-Err-Full-clause-err : goal.returns-in-Err-Full-clause-err
returns-in-Err-Full-clause-err c = row_full (settings_view c.args.settings.now) (view c.args.row) c.args.dropped c.args.self.now (c.in-Err-Full.ensures.full (ap (λ f. Err f) c.in-Err-Full.field-0-is))
