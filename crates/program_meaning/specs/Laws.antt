-- Laws of programs.
use Rattle.std.specs.Prelude.{◌≡◌, ℕ, ◌<◌, List, length}
use Rattle.program_meaning.specs.Instructions.{Instr}
use Rattle.program_meaning.specs.Programs.{mask_count, value_count, Extends}
use Rattle.tree_meaning.specs.Tree.{Query}
use Rattle.program_meaning.specs.Registers.{Lane, mask_at, value_at, after}
use Rattle.program_meaning.specs.Jobs.{Job}
use Rattle.program_meaning.specs.Simulation.{Simulates, SimulatesChunks}

-- a program makes as many registers as it has instructions of their class
pub record MakesItsRegisters (l : Lane) (xs : List Instr) : Type 0 where
  pub masks : length (after l xs).masks ≡ mask_count xs
  pub values : length (after l xs).values ≡ value_count xs

abbrev pub ProgramsMakeTheirRegisters : Type 0
ProgramsMakeTheirRegisters = (l : Lane) (xs : List Instr) → MakesItsRegisters l xs

-- the registers of a program stay as they are when it goes on
pub record KeepsRegisters (l : Lane) (old new : List Instr) : Type 0 where
  pub masks : (m : ℕ) → m < mask_count old → mask_at (after l new) m ≡ mask_at (after l old) m
  pub values : (r : ℕ) → r < value_count old → value_at (after l new) r ≡ value_at (after l old) r

abbrev pub RegistersStay : Type 0
RegistersStay = (l : Lane) (old new : List Instr) → Extends old new → KeepsRegisters l old new

-- what holds of each lane holds of each chunk of rows
abbrev pub ChunksAreSimulated : Type 0
ChunksAreSimulated = (job : Job) (q : Query) → Simulates job q → SimulatesChunks job q
