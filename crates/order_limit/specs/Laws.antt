-- Rows that are arranged are an answer.
use Rattle.std.specs.Prelude.{◌≡◌, ℕ, Bool, List, map, flat_map, Option, IsPermutation}
use Rattle.answer_meaning.specs.Made.{Output, Made}
use Rattle.answer_meaning.specs.Answers.{IsAnswer}
use Rattle.answer_meaning.specs.Lines.{line_text, print}
use Rattle.order_limit.specs.Arranged.{Row, IsArranged}

-- the sort keys of a made row, and its line
abbrev pub keyed_made : Made → Row
keyed_made m = (m.keys, line_text m.output)

-- the lines of rows, in order
abbrev pub lines_of : List Row → List (List ℕ)
lines_of rows = map (λ (r : Row). r.1) rows

-- The lines of the rows are those of an answer for the made rows; `text` says the same of the lines end to end.
pub record PrintsAnswer (falling : List Bool) (skip : ℕ) (most : Option ℕ) (made : List Made) (rows : List Row) : Type 0 where
  pub outputs : List Output
  pub answer : IsAnswer falling skip most made outputs
  pub lines : lines_of rows ≡ map line_text outputs
  pub text : flat_map (λ l. l) (lines_of rows) ≡ print outputs

-- The lines of rows that are arranged are those of an answer for the made rows of which they are the keys and lines, in any order.
abbrev pub ArrangedRowsAreAnswers : Type 0
ArrangedRowsAreAnswers =
    (falling : List Bool) (skip : ℕ) (most : Option ℕ) (made : List Made) (rows out : List Row)
    → IsPermutation (map keyed_made made) rows → IsArranged falling skip most rows out → PrintsAnswer falling skip most made out
