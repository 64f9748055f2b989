use Rattle.std.proofs.Common.{subst}
use Rattle.std.specs.Prelude.{IfSome}
use Rattle.json_rows.specs.LineViews.{settings_view, reason_of as why_of}
use Rattle.json_pack.specs.Packing.{TakesLine, RefusesLine}
use Rattle.json_pack.proofs.Lines.{line_goes_some, line_stops_some}
use Rattle.json_pack.proofs.packer.LinePacker.pack_line.Goals as goal

pub returns-in-Ok-clause-goes : goal.returns-in-Ok-clause-goes
returns-in-Ok-clause-goes g c =
    line_goes_some (settings_view c.args.settings.now) _ _ c.next_line.new.self.line.items c.in-Ok-Some.field-0 c.in-Ok-Some.bytes c.args.self.now c.take_counted.new.self c.in-Ok.closed c.in-Ok-Some.field-0-is
    c.in-Ok-Some.ensures.line c.in-Ok-Some.ensures.bare c.in-Ok-Some.ensures.some
    (subst (λ t. TakesLine (settings_view c.args.settings.now) t c.in-Ok-Some.bytes c.args.self.now c.take_counted.new.self c.in-Ok.closed) c.as_slice.ensures.value c.in-Ok.ensures.ok)

pub returns-in-Err-clause-refused : goal.returns-in-Err-clause-refused
returns-in-Err-clause-refused g c =
    line_stops_some (settings_view c.args.settings.now) _ _ c.next_line.new.self.line.items c.in-Ok-Some.field-0 c.in-Ok-Some.bytes c.saturating_add.result c.args.self.now (why_of c.in-Err.fault) _ c.in-Ok-Some.field-0-is
    c.in-Ok-Some.ensures.line
    (subst (λ t. IfSome (why_of c.in-Err.fault) (λ why. RefusesLine (settings_view c.args.settings.now) t c.in-Ok-Some.bytes c.args.self.now why)) c.as_slice.ensures.value c.in-Err.ensures.err)
    c.saturating_add.ensures c.at_line.ensures.refusal
