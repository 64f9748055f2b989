-- Jobs: a program and its ends, which say which registers a query's answer is made from.
use Rattle.std.specs.Prelude.{◌≡◌, ℕ, ◌<◌, Bool, true, List, [], All, Option, None, Some}
use Rattle.tree_meaning.specs.declared.AggName.{AggName}
use Rattle.tree_meaning.specs.declared.AggName.TheVariants as aggs
use Rattle.program_meaning.specs.Instructions.{Instr}
use Rattle.program_meaning.specs.Programs.{mask_count, value_count, IsProgram}

pub record Ends : Type 0 where
  -- the mask register of the rows that pass
  pub keep : ℕ
  -- the output is the whole row
  pub star : Bool
  pub grouped : Bool
  -- the name and the value register of each output
  pub outs : List (List ℕ × ℕ)
  -- the value registers of the sort keys, and of the group keys
  pub sorts : List ℕ
  pub groups : List ℕ
  -- each aggregate, with the value register of its operand; COUNT(*) has none
  pub aggs : List (AggName × Option ℕ)

pub record Job : Type 0 where
  pub program : List Instr
  pub ends : Ends

-- an aggregate names a value among the first v; COUNT(*), and it alone, names none
abbrev pub IsAggregate : ℕ → AggName × Option ℕ → Type 0
IsAggregate v (name, None) = name ≡ aggs.CountAll
IsAggregate v (name, Some r) = (name ≡ aggs.CountAll → ⊥) × (r < v)

-- the ends name registers, each of its class, among the first m masks and v values
pub record AreEnds (m v : ℕ) (e : Ends) : Type 0 where
  pub keep : e.keep < m
  pub outs : All (λ (o : List ℕ × ℕ). o.1 < v) e.outs
  pub sorts : All (λ (r : ℕ). r < v) e.sorts
  pub groups : All (λ (r : ℕ). r < v) e.groups
  pub aggs : All (IsAggregate v) e.aggs
  pub no_outs : e.grouped ≡ true → e.outs ≡ []
  pub no_sorts : e.grouped ≡ true → e.sorts ≡ []

pub record IsJob (j : Job) : Type 0 where
  pub program : IsProgram j.program
  pub ends : AreEnds (mask_count j.program) (value_count j.program) j.ends
