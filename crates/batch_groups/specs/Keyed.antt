-- What a job makes of a row for its groups: the values of the group keys, and those of the aggregates' operands.
use Rattle.std.specs.Prelude.{ℕ, List, map, Option, None, Some}
use Rattle.value_meaning.specs.Val.{Val, missing}
use Rattle.tree_meaning.specs.declared.AggName.{AggName}
use Rattle.agg_meaning.specs.Keys.{distinct_keys}
use Rattle.hash_agg.specs.Groups.{Keyed}
use Rattle.program_meaning.specs.Registers.{State, value_at}
use Rattle.program_meaning.specs.Jobs.{Ends, Job}
use Rattle.block_lines.specs.RowLines.{registers_on}
use Rattle.std.specs.Prelude.{length}

-- the value of an aggregate's operand; COUNT(*) has none, and looks at no value
abbrev pub operand_at : State → AggName × Option ℕ → Val
operand_at s (name, None) = missing
operand_at s (name, Some r) = value_at s r

abbrev pub keyed_at : Ends → State → Keyed
keyed_at ends s = (map (value_at s) ends.groups, map (operand_at s) ends.aggs)

abbrev pub keyed_row : Job → Val → Keyed
keyed_row job row = keyed_at job.ends (registers_on job row)

-- how many distinct lists of keys the rows have
abbrev pub count_keys : List Keyed → ℕ
count_keys rows = length (distinct_keys (map (λ r. r.0) rows))
