-- What a plain query makes of blocks whose lines were added in order.
use Rattle.std.proofs.Common.{◌≡◌, ℕ, true, List, [], OnOk, Result, Ok, Err}
use Rattle.tree_meaning.specs.Tree.{Query}
use Rattle.program_meaning.specs.Jobs.{Job}
use Rattle.program_meaning.specs.Simulation.{Simulates}
use Rattle.scan_meaning.specs.Blocks.{Block}
use Rattle.scan_meaning.specs.Batches.{is_plain}
use Rattle.scan_batches.specs.Scans.{Scans}
use Rattle.worker_merge.specs.Pieces.{HandsLines}
use Rattle.worker_merge.proofs.More.{lines_scanned}

pub scanned_ok : {E : Type 0} (r : Result (Unit {0}) E) (job : Job) (q : Query) → Simulates job q → is_plain q ≡ true → (bs : List Block) (old new : List (List ℕ)) (a b c d : ℕ) → old ≡ []
    → OnOk r (HandsLines job bs old new a b c d) → OnOk r (Scans q bs new a b c d)
scanned_ok (Ok u) job q simulates plain bs old new a b c d empty h = lines_scanned job q simulates plain bs old new a b c d empty h
scanned_ok (Err e) job q simulates plain bs old new a b c d empty h = tt
