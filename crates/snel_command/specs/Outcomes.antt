-- The status with which a call ends, by how it came out.
use Rattle.std.specs.Prelude.{ℕ, Bool, true, false, Result, Ok, Err}
use Rattle.query_run.specs.Statuses as of_query
use Rattle.json_pack.specs.declared.sums.PackFault.{PackFault}
use Rattle.json_pack.specs.declared.sums.PackFault.TheVariants.{Exists, Line, ReadFault, WriteFault, OutOfMemory}
use Rattle.snel_command.specs.declared.outcome.Refusal.{Refusal}
use Rattle.snel_command.specs.declared.outcome.Refusal.TheVariants.{Words, Query, Pack}
use Rattle.snel_command.specs.declared.outcome.Done.{Done}
use Rattle.snel_command.specs.declared.outcome.Done.TheVariants.{All, Counted}

abbrev pub status_of_pack : PackFault → ℕ
status_of_pack Exists = 12
status_of_pack (Line n why) = 11
status_of_pack ReadFault = 8
status_of_pack WriteFault = 9
status_of_pack OutOfMemory = 10

abbrev pub status_of : Refusal → ℕ
status_of Words = 2
status_of (Query f) = of_query.status_of f
status_of (Pack f) = status_of_pack f

-- 0 where nothing was refused
abbrev pub status_after : Result Done Refusal → ℕ
status_after (Ok d) = 0
status_after (Err r) = status_of r

-- whether counts of blocks are told
abbrev pub is_counted : Done → Bool
is_counted All = false
is_counted (Counted r s) = true

-- what a query did that read so many blocks and left so many out
abbrev pub done_of : Bool → ℕ → ℕ → Done
done_of false r s = All
done_of true r s = Counted r s
