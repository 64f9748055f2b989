use Rattle.std.proofs.Common.{ap, ◌∙◌}
use Rattle.json_rows.specs.LineViews.{settings_view, line_view}
use Rattle.snel_values.specs.View.{view}
use Rattle.json_pack.proofs.Lines.{light_row, blank_added, short_blank, short_row, row_line, row_refused}
use Rattle.json_pack.proofs.packer.PackedRows.take_line.Goals as goal

pub take_row-requires-clause-light : goal.take_row-requires-clause-light
take_row-requires-clause-light c = light_row (settings_view c.args.settings.now) c.args.text.now _ _ (c.in-Ok-Row.ensures.ok ∙ ap line_view c.in-Ok-Row.field-0-is)

pub returns-in-Ok-Blank-clause-ok : goal.returns-in-Ok-Blank-clause-ok
returns-in-Ok-Blank-clause-ok c = blank_added (settings_view c.args.settings.now) c.args.text.now _ _ (c.in-Ok-Blank.ensures.ok ∙ ap line_view c.in-Ok-Blank.field-0-is) c.new.ensures

pub returns-in-Ok-Blank-clause-short : goal.returns-in-Ok-Blank-clause-short
returns-in-Ok-Blank-clause-short c = short_blank (settings_view c.args.settings.now) c.args.text.now (c.in-Ok-Blank.ensures.ok ∙ ap line_view c.in-Ok-Blank.field-0-is)

pub returns-in-Ok-clause-ok : goal.returns-in-Ok-clause-ok
returns-in-Ok-clause-ok c =
    row_line (settings_view c.args.settings.now) c.args.text.now (view c.in-Ok-Row.row) c.in-Ok-Row.dropped c.args.self.now c.take_row.new.self c.in-Ok.closed (c.in-Ok-Row.ensures.ok ∙ ap line_view c.in-Ok-Row.field-0-is) c.in-Ok.ensures.ok

pub returns-in-Err-take_row-clause-err : goal.returns-in-Err-take_row-clause-err
returns-in-Err-take_row-clause-err c =
    row_refused (settings_view c.args.settings.now) c.args.text.now (view c.in-Ok-Row.row) c.in-Ok-Row.dropped c.args.self.now _ (c.in-Ok-Row.ensures.ok ∙ ap line_view c.in-Ok-Row.field-0-is) c.in-Err-take_row.ensures.err

pub returns-in-Ok-clause-short : goal.returns-in-Ok-clause-short
returns-in-Ok-clause-short c = short_row (settings_view c.args.settings.now) c.args.text.now _ _ (c.in-Ok-Row.ensures.ok ∙ ap line_view c.in-Ok-Row.field-0-is)
