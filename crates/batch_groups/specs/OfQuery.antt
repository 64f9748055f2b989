-- What the groups of a query are made from.
use Rattle.std.specs.Prelude.{◌≡◌, ℕ, ◌<◌, ◌≤◌, List, [], ◌∷◌, map, length, Option, None, Some}
use Rattle.std.specs.List.Sorted.{IsPermutation}
use Rattle.value_meaning.specs.Val.{Val, missing}
use Rattle.tree_meaning.specs.declared.AggName.{AggName}
use Rattle.tree_meaning.specs.Tree.{Ex, Query}
use Rattle.check_meaning.specs.Aggregates.{aggregates}
use Rattle.eval_meaning.specs.Pair.{Pair}
use Rattle.eval_meaning.specs.Passed.{passed}
use Rattle.agg_meaning.specs.Keys.{distinct_keys}
use Rattle.made_meaning.specs.OverGroups.{Group, groups, values_on}
use Rattle.group_out.specs.Summaries.{AreSummaries}
use Rattle.program_meaning.specs.Simulation.{operand_on}
use Rattle.hash_agg.specs.Groups.{Keyed, group_of, aggregates_of}
use Rattle.batch_groups.specs.Keyed.{count_keys}

-- the value of an operand, where there is one
abbrev pub operand_or_missing : Option (AggName × Option Val) → Val
operand_or_missing None = missing
operand_or_missing (Some (name, None)) = missing
operand_or_missing (Some (name, Some v)) = v

-- the value of an aggregate's operand on a pair; COUNT(*) has none
abbrev pub operand_value : Pair → Ex → Val
operand_value p e = operand_or_missing (operand_on p e)

-- the values of the group keys on a pair, and those of the aggregates' operands
abbrev pub keyed_pair : Query → Pair → Keyed
keyed_pair q p = (values_on q.keys p, map (operand_value p) (aggregates q))

-- of each pair of rows that WHERE keeps
abbrev pub keyed_pairs : Query → List Val → List Keyed
keyed_pairs q rows = map (keyed_pair q) (passed q rows)

-- the row of the group of these keys
abbrev pub row_of_keys : List AggName → List Keyed → List Val → List Val × List Val
row_of_keys names rows keys = (keys, aggregates_of names (group_of keys rows))

-- a row for each distinct list of keys: the keys, and the value of each aggregate over the rows that have them
pub record AreGroupRows (names : List AggName) (rows : List Keyed) (made : List (List Val × List Val)) : Type 0 where
  pub keys : List (List Val)
  pub permutes : IsPermutation (distinct_keys (map (λ r. r.0) rows)) keys
  pub is : made ≡ map (row_of_keys names rows) keys

-- there are no more lists of keys than the limit, and these are the groups' rows
pub record IsWithin (limit : ℕ) (names : List AggName) (rows : List Keyed) (made : List (List Val × List Val)) : Type 0 where
  pub few : count_keys rows ≤ limit
  pub made_of : AreGroupRows names rows made

-- the rows of the groups, and nothing where there are more lists of keys than the limit
abbrev pub FinishesAs : ℕ → List AggName → List Keyed → Option (List (List Val × List Val)) → Type 0
FinishesAs limit names rows None = limit < count_keys rows
FinishesAs limit names rows (Some made) = IsWithin limit names rows made

-- how many distinct lists of keys the pairs that pass have
abbrev pub count_groups : Query → List Val → ℕ
count_groups q rows = length (distinct_keys (map (values_on q.keys) (passed q rows)))

-- a row for each group of the pairs that pass, in some order, where these have no more lists of keys than the limit
pub record AreAllGroups (q : Query) (limit : ℕ) (rows : List Val) (made : List (List Val × List Val)) : Type 0 where
  pub few : count_groups q rows ≤ limit
  pub members : List Group
  pub permutes : IsPermutation (groups q.keys (passed q rows)) members
  pub each : AreSummaries q members made

-- the rows of the groups, and nothing where there are more lists of keys than the limit
abbrev pub MakesGroups : Query → ℕ → List Val → Option (List (List Val × List Val)) → Type 0
MakesGroups q limit rows None = limit < count_groups q rows
MakesGroups q limit rows (Some made) = AreAllGroups q limit rows made

-- without keys there is a group also where no row passed
abbrev pub with_empty_row : List ℕ → List AggName → List (List Val × List Val) → List (List Val × List Val)
with_empty_row [] names [] = ([], aggregates_of names []) ∷ []
with_empty_row [] names (row ∷ rows) = row ∷ rows
with_empty_row (register ∷ registers) names rows = rows
