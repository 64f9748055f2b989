use Rattle.std.proofs.Common.{◌≡◌, ◌++◌, List, ℕ, ap, subst, ◌∙◌}
use Rattle.std.specs.Prelude.{OnOk, length}
use Rattle.value_meaning.specs.Val.{Val}
use Rattle.lane_ssa.specs.Counts.{counted}
use Rattle.block_lines.specs.RowLines.{made_keyed}
use Rattle.block_lines.proofs.Simulated.{keyed_are, kept_many}
use Rattle.block_lines.proofs.keyed.scan_keyed.Goals as goal

pub returns-clause-rows : goal.returns-clause-rows
returns-clause-rows c rows q good simulates single =
    subst (λ (l : List (List Val × List ℕ)). OnOk c.scan_rows.result (c.scan_rows.new.sink ≡ c.args.into.now ++ l)) (keyed_are c.args.frame.now.job q simulates single rows) (c.scan_rows.ensures.rows rows good)

pub returns-clause-kept : goal.returns-clause-kept
returns-clause-kept c rows q good simulates =
    subst (λ (n : ℕ). OnOk c.scan_rows.result (c.scan_rows.new.frame.kept ≡ counted c.args.frame.now.kept n)) (kept_many c.args.frame.now.job q simulates rows) (c.scan_rows.ensures.kept rows good)
