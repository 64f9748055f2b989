-- An accepted query, and what is found out about it: the names of its outputs, its aggregates, and whether it is grouped.
use Rattle.std.specs.Prelude.{◌≡◌, None}
use Rattle.tree_meaning.specs.Tree.{Query}
use Rattle.tree_meaning.specs.WellFormed.{IsWellFormed}
use Rattle.check_meaning.specs.Names.{names}
use Rattle.check_meaning.specs.Aggregates.{aggregates, is_grouped}
use Rattle.check_meaning.specs.Verdict.{fault_of}
use Rattle.query_check.specs.declared.findings.Findings.{Findings}

pub record AreFindings (q : Query) (f : Findings) : Type 0 where
  pub names : f.names ≡ names q.outs
  pub aggregates : f.aggregates ≡ aggregates q
  pub grouped : f.grouped ≡ is_grouped q

pub record IsAccepted (q : Query) (f : Findings) : Type 0 where
  pub formed : IsWellFormed q
  pub no_fault : fault_of q ≡ None
  pub findings : AreFindings q f
