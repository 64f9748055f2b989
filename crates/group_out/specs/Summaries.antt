-- The rows of finished groups: the values of a group's keys, and of the query's aggregates over it.
use Rattle.std.specs.Prelude.{◌≡◌, List, Some, map, All}
use Rattle.std.specs.List.{AllZip}
use Rattle.value_meaning.specs.Val.{Val}
use Rattle.tree_meaning.specs.Tree.{Query}
use Rattle.check_meaning.specs.Aggregates.{aggregates}
use Rattle.block_meaning.specs.Stored.{HasTimesInRange}
use Rattle.json_out.specs.NoMissing.{IsMissingAtMostAtTop}
use Rattle.made_meaning.specs.OverGroups.{Group, aggregate_value}

-- the row has the group's keys, and the value over its members of each distinct aggregate of the query, in order
pub record Summarizes (q : Query) (g : Group) (row : List Val × List Val) : Type 0 where
  pub keys : row.0 ≡ g.keys
  pub aggs : map (aggregate_value g.members) (aggregates q) ≡ map (λ v. Some v) row.1

-- each row has the values of its group, group by group
abbrev pub AreSummaries : Query → List Group → List (List Val × List Val) → Type 0
AreSummaries q gs rows = AllZip (Summarizes q) gs rows

-- a line can show the value: its times lie in range, and MISSING stands in it at most at its top
pub record IsPrintable (v : Val) : Type 0 where
  pub times : HasTimesInRange v
  pub missing : IsMissingAtMostAtTop v

-- a line can show each value of the row
pub record IsPrintableRow (row : List Val × List Val) : Type 0 where
  pub keys : All IsPrintable row.0
  pub aggs : All IsPrintable row.1
