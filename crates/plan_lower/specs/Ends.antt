-- What programs show in the registers that the ends of jobs name.
use Rattle.std.specs.Prelude.{◌≡◌, ℕ, Bool, true, false, List, [], map, All, Option, Some, is_some}
use Rattle.std.specs.Option.{option_map}
use Rattle.tree_meaning.specs.declared.AggName.{AggName}
use Rattle.tree_meaning.specs.Tree.{Ex, Query}
use Rattle.tree_meaning.specs.WellFormed.{IsFormed}
use Rattle.check_meaning.specs.Names.{names}
use Rattle.check_meaning.specs.Places.{output_exs}
use Rattle.check_meaning.specs.Aggregates.{is_aggregate, aggregates, is_grouped}
use Rattle.program_meaning.specs.Instructions.{Instr}
use Rattle.program_meaning.specs.Programs.{value_count, Extends}
use Rattle.program_meaning.specs.Registers.{Lane, mask_at, value_at, after}
use Rattle.program_meaning.specs.Jobs.{Ends, IsAggregate}
use Rattle.program_meaning.specs.Simulation.{is_star, if_ungrouped, if_grouped, order_exs, operand_on, aggregate_form}
use Rattle.plan_lower.specs.Emitting.{EmitsAll}

-- the expressions of outputs, and the names and the registers of the ends' outputs
abbrev pub exs_of : List (Ex × Option (List ℕ)) → List Ex
exs_of items = map (λ o. o.0) items

abbrev pub names_of : List (List ℕ × ℕ) → List (List ℕ)
names_of outs = map (λ o. o.0) outs

abbrev pub registers_of : List (List ℕ × ℕ) → List ℕ
registers_of outs = map (λ o. o.1) outs

-- a well-formed aggregate
abbrev pub IsAggregateForm : Ex → Type 0
IsAggregateForm e = IsFormed e × (is_aggregate e ≡ true)

-- the second program goes on from the first, and shows the operand of an aggregate in the register of one of the ends'
pub record EmitsAgg (old new : List Instr) (e : Ex) (m : ℕ) (a : AggName × Option ℕ) : Type 0 where
  pub extends : Extends old new
  pub form : Some (a.0, is_some a.1) ≡ aggregate_form e
  pub made : IsAggregate (value_count new) a
  pub value :
      (l : Lane) → mask_at (after l old) m ≡ true
      → Some (a.0, option_map (value_at (after l new)) a.1) ≡ operand_on l.pair e

-- so it does of aggregates
pub record EmitsAggs (old new : List Instr) (es : List Ex) (m : ℕ) (aggs : List (AggName × Option ℕ)) : Type 0 where
  pub extends : Extends old new
  pub forms : map (λ a. Some (a.0, is_some a.1)) aggs ≡ map aggregate_form es
  pub made : All (IsAggregate (value_count new)) aggs
  pub values :
      (l : Lane) → mask_at (after l old) m ≡ true
      → map (λ a. Some (a.0, option_map (value_at (after l new)) a.1)) aggs ≡ map (operand_on l.pair) es

-- The second program goes on from the first, and in each lane of mask m it shows in the registers that the ends name what the
-- query asks for: outputs and sort keys where it isn't grouped, and else group keys and operands of aggregates.
pub record EmitsEnds (old new : List Instr) (q : Query) (m : ℕ) (e : Ends) : Type 0 where
  pub extends : Extends old new
  pub keep : e.keep ≡ m
  pub star : e.star ≡ is_star q.outs
  pub grouped : e.grouped ≡ is_grouped q
  pub names : names_of e.outs ≡ if_ungrouped q (names q.outs)
  pub outs : EmitsAll old new (if_ungrouped q (output_exs q.outs)) m (registers_of e.outs)
  pub sorts : EmitsAll old new (if_ungrouped q (order_exs q)) m e.sorts
  pub groups : EmitsAll old new (if_grouped q q.keys) m e.groups
  pub aggs : EmitsAggs old new (if_grouped q (aggregates q)) m e.aggs

-- the ends of a job of rows, and of one of groups
abbrev pub row_ends : ℕ → Bool → List (List ℕ × ℕ) → List ℕ → Ends
row_ends keep whole outs sorts = record { keep = keep; star = whole; grouped = false; outs = outs; sorts = sorts; groups = []; aggs = [] }

abbrev pub group_ends : ℕ → Bool → List ℕ → List (AggName × Option ℕ) → Ends
group_ends keep whole groups aggs = record { keep = keep; star = whole; grouped = true; outs = []; sorts = []; groups = groups; aggs = aggs }
