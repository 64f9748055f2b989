-- What the code's settings, lines and faults stand for.
use Rattle.std.specs.Prelude.{◌^◌, ◌-◌, min, Option, Some, None, option_map}
use Rattle.json_rows.specs.declared.settings.PackSettings.{PackSettings}
use Rattle.json_rows.specs.declared.lines.LineRead.{LineRead}
use Rattle.json_rows.specs.declared.lines.LineRead.TheVariants.{Blank, Row}
use Rattle.json_rows.specs.declared.lines.LineFault.{LineFault}
use Rattle.json_rows.specs.declared.lines.LineFault.TheVariants.{Refused, OutOfMemory}
use Rattle.snel_values.specs.View.{view}
use Rattle.write_meaning.specs.Standing.{IsWritableRow}
use Rattle.pack_meaning.specs.declared.LineWhy.{LineWhy}
use Rattle.pack_meaning.specs.Lines.{Settings, Line, blank, refused, row}

abbrev pub settings_view : PackSettings → Settings
settings_view s = record { time_field = option_map (λ t. t.now) s.time; most = s.block; drops = s.drop_fractions }

abbrev pub line_view : LineRead → Line
line_view Blank = blank
line_view (Row v dropped) = row (view v) dropped

-- the line with a count of dropped fractions that stands still at its type's end
abbrev pub counted : Line → Line
counted blank = blank
counted (refused why) = refused why
counted (row v dropped) = row v (min dropped (2 ^ 64 - 1))

-- why the line is refused; None is want of memory
abbrev pub reason_of : LineFault → Option LineWhy
reason_of (Refused why) = Some why
reason_of OutOfMemory = None

-- the row, if there is one, may stand in a block
abbrev pub MayStand : Line → Type 0
MayStand blank = Unit {0}
MayStand (refused why) = Unit {0}
MayStand (row v dropped) = IsWritableRow v
