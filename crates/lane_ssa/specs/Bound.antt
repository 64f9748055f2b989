-- When a job is bound to a symbol table: the number of each name that it asks for is known.
use Rattle.std.specs.Prelude.{◌≡◌, ℕ, ◌<◌, List, length, Option, None, slice_index_or}
use Rattle.block_meaning.specs.Tables.{Table}
use Rattle.program_meaning.specs.Instructions.{Instr}
use Rattle.program_meaning.specs.Instructions as instr
use Rattle.lane_field.specs.Steps.{IsNumberOf}

-- the number is that of a field's name; other instructions ask for none
abbrev pub IsSymbolOf : Table → Instr → Option ℕ → Type 0
IsSymbolOf table (instr.field m a n) symbol = IsNumberOf table n symbol
IsSymbolOf table x symbol = Unit {0}

abbrev pub no_symbol : Option ℕ
no_symbol = None

-- There is one number for each instruction, and each is as asked.
pub record IsBound (table : Table) (program : List Instr) (symbols : List (Option ℕ)) : Type 0 where
  pub long : length symbols ≡ length program
  pub symbol :
      (k : ℕ) → k < length program
      → IsSymbolOf table (slice_index_or program k instr.all) (slice_index_or symbols k no_symbol)
