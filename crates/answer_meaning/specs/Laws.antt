-- Laws of answers.
use Rattle.std.specs.Prelude.{ℕ, Bool, List, Option, IsPermutation}
use Rattle.answer_meaning.specs.Made.{Output, Made}
use Rattle.answer_meaning.specs.Answers.{IsAnswer}

-- Made rows in another order have the same answers.
abbrev pub OrderOfMadeRowsIsFree : Type 0
OrderOfMadeRowsIsFree =
    (falling : List Bool) (skip : ℕ) (limit : Option ℕ) (made others : List Made) (outputs : List Output)
    → IsPermutation made others → IsAnswer falling skip limit made outputs → IsAnswer falling skip limit others outputs
