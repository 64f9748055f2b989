-- What running an accepted query owes.
use Rattle.std.specs.Prelude.{ℕ, ◌≤◌, List, Option, Result, IfOk}
use Rattle.snel_device.specs.Contents.{Contents}
use Rattle.tree_meaning.specs.Tree.{Query}
use Rattle.scan_meaning.specs.Verdicts.{Verdict, Finds}
use Rattle.scan_meaning.specs.Answers.{EndsAs}
use Rattle.scan_meaning.specs.Causes.{StaysWithin}
use Rattle.query_run.specs.Statuses.{status_after}
use Rattle.query_run.specs.Faults.{SaysOfQuery, IsQuiet, StopsSo}
use Rattle.query_run.specs.Sums.{SumsUp}
use Rattle.query_run.specs.declared.sum.QuerySum.{QuerySum}
use Rattle.query_run.specs.declared.query_fault.QueryFault.{QueryFault}

-- It ends as each verdict allows, with a cause, and leaves what its end leaves in the sink. No more bytes are read than the verdict costs, and
-- at Ok the sum is that of the blocks.
pub record RunsTo (q : Query) (limit : ℕ) (names : List (List ℕ)) (told : Option Contents) (result : Result QuerySum QueryFault) (before now : ℕ) (old new : Option (List ℕ)) : Type 0 where
  pub ends : (v : Verdict) → Finds q names told v → EndsAs q limit v (status_after result) old new
  pub cause : SaysOfQuery q limit names told result
  pub quiet : IsQuiet result old new
  pub stopped : StopsSo q names told result before now old new
  pub later : before ≤ now
  pub taken : StaysWithin q names told before now
  pub sum : IfOk result (λ s. SumsUp q names told s)
