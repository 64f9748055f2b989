-- A sink that grew by the rows of blocks that pass.
use Rattle.std.specs.Prelude.{List}
use Rattle.value_meaning.specs.Val.{Val}
use Rattle.program_meaning.specs.Jobs.{Job}
use Rattle.block_lines.specs.RowLines.{kept_rows}
use Rattle.worker_merge.specs.Growing.{GrewSomehow}

-- the second sink is the first, grown by what the job makes of those of the rows that it keeps, in some order
abbrev pub GrewByRows : {A : Type 0} → (A → A → Job → List Val → Type 0) → A → A → Job → List Val → Type 0
GrewByRows grew old new job rows = GrewSomehow grew old new job (kept_rows job rows)
