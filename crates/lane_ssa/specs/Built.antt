-- What a builder keeps.
use Rattle.std.specs.Prelude.{◌≡◌, ℕ, List}
use Rattle.program_meaning.specs.Instructions.{Instr}
use Rattle.program_meaning.specs.Programs.{mask_count, value_count, IsProgram}

pub record IsBuilt (xs : List Instr) (masks values : ℕ) : Type 0 where
  pub program : IsProgram xs
  pub masks_are : masks ≡ mask_count xs
  pub values_are : values ≡ value_count xs
