-- Groups, as contracts see them.
use Rattle.std.specs.Prelude.{ℕ, List}
use Rattle.tree_meaning.specs.declared.AggName.{AggName}
use Rattle.hash_agg.specs.Groups.{Entry}

-- the aggregates, the greatest number of groups, and each group's key list with its partials
pub record Held : Type 0 where
  pub names : List AggName
  pub limit : ℕ
  pub entries : List Entry
