-- Which numbers a symbol table has texts for.
use Rattle.std.specs.Prelude.{◌↔◌, ℕ, ◌≤◌, IsSome}
use Rattle.block_meaning.specs.Tables.{Table, last_symbol, text_of}

abbrev pub NumbersHaveTexts : Type 0
NumbersHaveTexts = (table : Table) (n : ℕ) → IsSome (text_of table n) ↔ ((10 ≤ n) × (n ≤ last_symbol table))
