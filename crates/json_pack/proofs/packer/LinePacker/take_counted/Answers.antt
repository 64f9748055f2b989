use Rattle.std.proofs.Common.{arith}
use Rattle.json_rows.specs.LineViews.{settings_view}
use Rattle.json_pack.proofs.Lines.{line_too_much, line_refused}
use Rattle.json_pack.proofs.packer.LinePacker.take_counted.Goals as goal

pub returns-then-end-gt-MOST_INPUT_BYTES-clause-err : goal.returns-then-end-gt-MOST_INPUT_BYTES-clause-err
returns-then-end-gt-MOST_INPUT_BYTES-clause-err c =
    line_too_much (settings_view c.args.settings.now) c.args.text.now c.args.bytes c.saturating_add-end.result c.args.self.now (omega (arith, c.saturating_add-end.ensures, c.min-count.ensures)) c.if-end-gt-MOST_INPUT_BYTES.true

pub returns-in-Err-clause-err : goal.returns-in-Err-clause-err
returns-in-Err-clause-err c =
    line_refused (settings_view c.args.settings.now) c.args.text.now c.args.bytes c.saturating_add-end.result c.args.self.now _ (omega (arith, c.saturating_add-end.ensures, c.min-count.ensures)) c.if-end-gt-MOST_INPUT_BYTES.false c.in-Err.ensures.err
