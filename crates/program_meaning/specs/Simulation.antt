-- A job simulates a query: in each lane it keeps the pairs on which WHERE is true, and there its registers show the values
-- of the query's expressions.
use Rattle.std.specs.Prelude.{◌≡◌, ℕ, ◌+◌, ◌<◌, Bool, true, false, ◌&&◌, List, [], map, length, take, drop, Option, None, Some, is_some, slice_get, if◌then◌else◌}
use Rattle.std.specs.Option.{option_map}
use Rattle.value_meaning.specs.Val.{Val}
use Rattle.tree_meaning.specs.declared.AggName.{AggName}
use Rattle.tree_meaning.specs.Tree.{Ex, Outs, star, named, Query, agg_of_rows, agg}
use Rattle.check_meaning.specs.Names.{names}
use Rattle.check_meaning.specs.Places.{output_exs, order_ex}
use Rattle.check_meaning.specs.Aggregates.{aggregates, is_grouped}
use Rattle.eval_meaning.specs.Pair.{Pair, alone}
use Rattle.eval_meaning.specs.Evaluation.{eval}
use Rattle.eval_meaning.specs.Passed.{is_kept}
use Rattle.program_meaning.specs.Registers.{Lane, live_lane, lane_of, State, mask_at, value_at, after, HasRun}
use Rattle.program_meaning.specs.Jobs.{Ends, Job, IsJob}

abbrev pub is_star : Outs → Bool
is_star star = true
is_star (named items) = false

-- whether a lane passes: it is live, and WHERE keeps its pair
abbrev pub passes : Query → Lane → Bool
passes q l = l.live && is_kept q.filter l.pair

-- what stands in a query that isn't grouped, and what stands in one that is
abbrev pub if_ungrouped : {A : Type 0} → Query → List A → List A
if_ungrouped q xs = if is_grouped q then [] else xs

abbrev pub if_grouped : {A : Type 0} → Query → List A → List A
if_grouped q xs = if is_grouped q then xs else []

-- what the order keys stand for
abbrev pub order_exs : Query → List Ex
order_exs q = map (λ k. order_ex q.outs k.0) q.order

-- the aggregate and the value of its operand on a pair, if it has one
abbrev pub operand_on : Pair → Ex → Option (AggName × Option Val)
operand_on p (agg_of_rows n) = Some (n, None)
operand_on p (agg n e) = Some (n, Some (eval e p))
operand_on p e = None

-- the aggregate, and whether it has an operand
abbrev pub aggregate_form : Ex → Option (AggName × Bool)
aggregate_form (agg_of_rows n) = Some (n, false)
aggregate_form (agg n e) = Some (n, true)
aggregate_form e = None

-- the registers that the ends name show the named expressions on the pair, one for each, in order
pub record ShowsNamed (ends : Ends) (q : Query) (s : State) (p : Pair) : Type 0 where
  pub outs : map (λ o. value_at s o.1) ends.outs ≡ map (λ e. eval e p) (if_ungrouped q (output_exs q.outs))
  pub sorts : map (λ r. value_at s r) ends.sorts ≡ map (λ e. eval e p) (if_ungrouped q (order_exs q))
  pub groups : map (λ r. value_at s r) ends.groups ≡ map (λ e. eval e p) (if_grouped q q.keys)
  pub aggs :
      map (λ a. Some (a.0, option_map (value_at s) a.1)) ends.aggs
      ≡ map (operand_on p) (if_grouped q (aggregates q))

-- The job simulates the query: its ends are the query's, and in each lane that it is given, it keeps the lane exactly where
-- that is live and WHERE is true on its pair, and shows there the values of the query's expressions on that pair.
pub record Simulates (job : Job) (q : Query) : Type 0 where
  pub is_job : IsJob job
  pub star : job.ends.star ≡ is_star q.outs
  pub grouped : job.ends.grouped ≡ is_grouped q
  pub names : map (λ o. o.0) job.ends.outs ≡ if_ungrouped q (names q.outs)
  pub sorts : length job.ends.sorts ≡ length (if_ungrouped q (order_exs q))
  pub groups : length job.ends.groups ≡ length (if_grouped q q.keys)
  pub aggs : map (λ a. Some (a.0, is_some a.1)) job.ends.aggs ≡ map aggregate_form (if_grouped q (aggregates q))
  pub kept : (l : Lane) → mask_at (after l job.program) job.ends.keep ≡ passes q l
  pub shows :
      (p : Pair) → is_kept q.filter p ≡ true
      → ShowsNamed job.ends q (after (live_lane p) job.program) p

-- the lanes of a chunk's rows, the first in lane 0; a lane without a row is dead
abbrev pub lanes_of : List Val → ℕ → Lane
lanes_of rows i = lane_of (slice_get rows i)

-- the job simulates the query chunk by chunk: it keeps just the rows on which WHERE is true, and shows their values
pub record SimulatesChunks (job : Job) (q : Query) : Type 0 where
  pub kept :
      (rows : List Val) (first : ℕ) (lanes : ℕ → State) → HasRun job.program (lanes_of (take 16 (drop first rows))) lanes
      → (i : ℕ) → i < 16 → mask_at (lanes i) job.ends.keep ≡ passes q (lane_of (slice_get rows (first + i)))
  pub shows :
      (rows : List Val) (first : ℕ) (lanes : ℕ → State) → HasRun job.program (lanes_of (take 16 (drop first rows))) lanes
      → (i : ℕ) → i < 16 → (row : Val) → slice_get rows (first + i) ≡ Some row → is_kept q.filter (alone row) ≡ true
      → ShowsNamed job.ends q (lanes i) (alone row)
