use Rattle.std.proofs.Common.{◌≡◌, take}
use Rattle.std.specs.List.{filter}
use Rattle.made_meaning.specs.MadeRows.{has_value}
use Rattle.json_out.specs.Begun.{begun}
use Rattle.hash_agg.specs.Finished.{row_view}
use Rattle.group_out.proofs.OutputLines.{named_values}
use Rattle.group_out.proofs.lines.named_line.Given as goal

abbrev pub invariant-loop-at : goal.invariant-loop-at
invariant-loop-at l = l.line ≡ begun (filter has_value (take l.at (named_values l.checked (row_view l.row) l.items)))
