use Rattle.block_lines.specs.RowLines.{keyed_line}
use Rattle.worker_merge.proofs.Joining.{added_backwards}
use Rattle.worker_merge.proofs.shared.MadeRowsSharedSink.join.Goals as goal

pub returns : goal.returns
returns c = λ job empty rows _ none grown. added_backwards keyed_line c.append_rows.result c.args.self.now c.append_rows.new.into c.args.other empty job rows c.append_rows.ensures none grown
