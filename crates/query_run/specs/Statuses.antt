-- The status that a command ends with by each fault.
use Rattle.std.specs.Prelude.{ℕ, ⊤, Result, Ok, Err}
use Rattle.query_run.specs.declared.query_fault.QueryFault.{QueryFault}
use Rattle.query_run.specs.declared.query_fault.QueryFault.TheVariants.{Text, Absent, NotAFile, Damaged, Groups, ReadFault, WriteFault, OutOfMemory}

abbrev pub status_of : QueryFault → ℕ
status_of (Text f) = 3
status_of (Absent k) = 4
status_of (NotAFile k) = 5
status_of (Damaged file block) = 6
status_of Groups = 7
status_of ReadFault = 8
status_of WriteFault = 9
status_of OutOfMemory = 10

-- 0 where there is none
abbrev pub status_after : {A : Type 0} → Result A QueryFault → ℕ
status_after (Ok a) = 0
status_after (Err f) = status_of f

-- the answer is that a file is absent
abbrev pub IsAbsent : {A : Type 0} → Result A QueryFault → Type 0
IsAbsent (Err (Absent k)) = ⊤
IsAbsent result = ⊥
