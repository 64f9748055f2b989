-- Lines, and what OFFSET and LIMIT let through of them.
use Rattle.std.specs.Prelude.{ℕ, ◌-◌, List, map, drop, flat_map, Option, Some, None}
use Rattle.std.specs.Io.KnownBytes.{Appends}
use Rattle.value_meaning.specs.Val.{Val}
use Rattle.tree_meaning.specs.Tree.{Query}
use Rattle.answer_meaning.specs.Made.{Made}
use Rattle.answer_meaning.specs.Answers.{limited}
use Rattle.answer_meaning.specs.Lines.{line_text}
use Rattle.made_meaning.specs.MadeRows.{made}
use Rattle.scan_meaning.specs.Answers.{IsPrefix}

-- the lines of what a query makes of rows, in order
abbrev pub made_lines : Query → List Val → List (List ℕ)
made_lines q rows = map (λ (m : Made). line_text m.output) (made q rows)

-- lines end to end
abbrev pub text_of : List (List ℕ) → List ℕ
text_of lines = flat_map (λ l. l) lines

abbrev pub let_through : ℕ → Option ℕ → List (List ℕ) → List (List ℕ)
let_through skip most lines = limited most (drop skip lines)

-- what a limit has left after so many
abbrev pub left_of : Option ℕ → ℕ → Option ℕ
left_of None n = None
left_of (Some most) n = Some (most - n)

-- a sink took a front of the text
pub record TakesPart (old new : Option (List ℕ)) (text : List ℕ) : Type 0 where
  pub added : List ℕ
  pub appends : Appends old new added
  pub front : IsPrefix added text

-- a sink kept what it held, and took something behind it, if anything
abbrev pub TakesSome : Option (List ℕ) → Option (List ℕ) → Type 0
TakesSome old new = (added : List ℕ) × Appends old new added
