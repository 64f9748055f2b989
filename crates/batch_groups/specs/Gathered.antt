-- The groups of rows that are gathered.
use Rattle.std.specs.Prelude.{◌≡◌, ℕ, ◌<◌, ◌≤◌, Bool, true, false, List, [], ◌++◌, length, map, All}
use Rattle.value_meaning.specs.Val.{Val}
use Rattle.program_meaning.specs.Jobs.{Job}
use Rattle.hash_agg.specs.Groups.{Keyed, GroupsStandFor}
use Rattle.hash_agg.specs.Held.{Held}
use Rattle.group_out.specs.Summaries.{IsPrintable}
use Rattle.batch_groups.specs.Keyed.{keyed_row, count_keys}

-- the groups, and whether there were more lists of keys than their limit; then they are those of before
pub record Gathered : Type 0 where
  pub groups : Held
  pub over : Bool

-- groups stand for the rows; or the rows have more lists of keys than the limit
abbrev pub StandFor : Held → Bool → List Keyed → Type 0
StandFor groups false rows = GroupsStandFor groups.names groups.entries rows
StandFor groups true rows = groups.limit < count_keys rows

-- lines can show the values of a row's keys and operands
pub record IsPrintableKeyed (row : Keyed) : Type 0 where
  pub keys : All IsPrintable row.0
  pub operands : All IsPrintable row.1

-- the groups stand for no more than so many rows, and a partial aggregate has room for these
pub record AreOf (groups : Held) (count : ℕ) : Type 0 where
  pub few : count ≤ 35_184_372_088_832
  pub rows : List Keyed
  pub short : length rows ≤ count
  pub stand : GroupsStandFor groups.names groups.entries rows
  pub printable : All IsPrintableKeyed rows

-- the aggregates are those of the job
abbrev pub Takes : Gathered → Job → Type 0
Takes g job = g.groups.names ≡ map (λ a. a.0) job.ends.aggs

-- what the job makes of the rows was added behind
pub record Grew (old new : Gathered) (job : Job) (rows : List Val) : Type 0 where
  pub names : new.groups.names ≡ old.groups.names
  pub limit : new.groups.limit ≡ old.groups.limit
  pub stand :
      (xs : List Keyed) → StandFor old.groups old.over xs
      → StandFor new.groups new.over (xs ++ map (keyed_row job) rows)

-- the second holds nothing, and is otherwise as the first
pub record Begins (g empty : Gathered) : Type 0 where
  pub names : empty.groups.names ≡ g.groups.names
  pub limit : empty.groups.limit ≡ g.groups.limit
  pub none : empty.groups.entries ≡ []
  pub within : empty.over ≡ false

-- no groups of the job's aggregates
pub record IsEmptyFor (job : Job) (g : Gathered) : Type 0 where
  pub takes : Takes g job
  pub none : g.groups.entries ≡ []
  pub within : g.over ≡ false
