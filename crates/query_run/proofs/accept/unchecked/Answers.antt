use Rattle.std.proofs.Common.{subst}
use Rattle.check_meaning.specs.Verdict.{fault_of}
use Rattle.query_check.specs.Faults.{IsFirst}
use Rattle.query_run.specs.Queries.{by_checking}
use Rattle.query_run.proofs.accept.unchecked.Goals as goal

pub returns-in-TooMany : goal.returns-in-TooMany
returns-in-TooMany c = λ sql q comes first. by_checking comes (subst (IsFirst (fault_of q)) c.in-TooMany.is first)

pub returns-in-Nested : goal.returns-in-Nested
returns-in-Nested c = λ sql q comes first. by_checking comes (subst (IsFirst (fault_of q)) c.in-Nested.is first)

pub returns-in-NotGrouped : goal.returns-in-NotGrouped
returns-in-NotGrouped c = λ sql q comes first. by_checking comes (subst (IsFirst (fault_of q)) c.in-NotGrouped.is first)

pub returns-in-OverGroups : goal.returns-in-OverGroups
returns-in-OverGroups c = λ sql q comes first. by_checking comes (subst (IsFirst (fault_of q)) c.in-OverGroups.is first)

pub returns-in-SameName : goal.returns-in-SameName
returns-in-SameName c = λ sql q comes first. by_checking comes (subst (IsFirst (fault_of q)) c.in-SameName.is first)

pub returns-in-NoSuchOrder : goal.returns-in-NoSuchOrder
returns-in-NoSuchOrder c = λ sql q comes first. by_checking comes (subst (IsFirst (fault_of q)) c.in-NoSuchOrder.is first)
