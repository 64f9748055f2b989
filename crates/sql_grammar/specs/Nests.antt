-- Function values that read expressions.
use Rattle.std.specs.Prelude.{ℕ, List, Result}
use Rattle.std.specs.declared.alloc.Global.{Global}
use denote.Ref.{Bor}
use Rattle.tree_meaning.specs.Tree.{Ex}
use Rattle.query_meaning.specs.Reading.{Reader, expr_at}
use Rattle.sql_words.specs.declared.fault.ParseFault.{ParseFault}
use Rattle.sql_words.specs.declared.look.Look.{Look}
use Rattle.sql_words.specs.ReadsAt.{ReadsAt}

-- it may be called on any tokens, and reads what the reader gives
pub record IsReader (read : Reader Ex) (pre : Bor (List Look) → ℕ → Type 0) (post : Bor (List Look) → ℕ → Result (Ex × ℕ) ParseFault → Type 0) : Type 0 where
  pub callable : (looks : Bor (List Look)) (at : ℕ) → pre looks at
  pub reads : (looks : Bor (List Look)) (at : ℕ) (answer : Result (Ex × ℕ) ParseFault) → post looks at answer → ReadsAt looks.now at answer read

-- with room for so many within, it may be called on any tokens, and reads an expression
pub record Nests (room : ℕ) (pre : Global → ℕ → Bor (List Look) → ℕ → Type 0) (post : Global → ℕ → Bor (List Look) → ℕ → Result (Ex × ℕ) ParseFault → Type 0) : Type 0 where
  pub callable : (alloc : Global) (looks : Bor (List Look)) (at : ℕ) → pre alloc room looks at
  pub reads : (alloc : Global) (looks : Bor (List Look)) (at : ℕ) (answer : Result (Ex × ℕ) ParseFault) → post alloc room looks at answer → ReadsAt looks.now at answer (expr_at room)
