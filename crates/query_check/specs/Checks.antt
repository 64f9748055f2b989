-- What a check answers.
use Rattle.std.specs.Prelude.{◌≡◌, Result, Ok, Err, None}
use Rattle.tree_meaning.specs.Tree.{Query}
use Rattle.check_meaning.specs.Verdict.{fault_of}
use Rattle.query_check.specs.declared.verdict.Checked.{Checked}
use Rattle.query_check.specs.declared.findings.Findings.{Findings}
use Rattle.query_check.specs.declared.fault.CheckFault.{CheckFault}
use Rattle.query_check.specs.Accepted.{AreFindings}
use Rattle.query_check.specs.Faults.{IsFirst}

-- the query, which then has no fault, or its first fault
abbrev pub Checks : Query → Result Checked CheckFault → Type 0
Checks q (Ok c) = (fault_of q ≡ None) × (c ≡ q)
Checks q (Err e) = IsFirst (fault_of q) e

-- what is found out about a query, which then has no fault, or its first fault
abbrev pub Examines : Query → Result Findings CheckFault → Type 0
Examines q (Ok f) = (fault_of q ≡ None) × AreFindings q f
Examines q (Err e) = IsFirst (fault_of q) e
