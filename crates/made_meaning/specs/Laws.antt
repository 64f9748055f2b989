-- Laws of made rows.
use Rattle.std.specs.Prelude.{◌≡◌, List, [], map, None, false, IsPermutation}
use Rattle.value_meaning.specs.Val.{Val}
use Rattle.tree_meaning.specs.Tree.{Query, star}
use Rattle.check_meaning.specs.Aggregates.{is_grouped}
use Rattle.eval_meaning.specs.Passed.{passed}
use Rattle.answer_meaning.specs.Made.{Output, made_of_all}
use Rattle.answer_meaning.specs.Answers.{IsAnswer}
use Rattle.made_meaning.specs.MadeRows.{made, made_rows}

-- a query that isn't grouped makes one row of each that WHERE keeps
abbrev pub UngroupedMakesRows : Type 0
UngroupedMakesRows = (q : Query) (rows : List Val) → is_grouped q ≡ false → made q rows ≡ made_rows q (passed q rows)

-- `SELECT *` without WHERE and ORDER BY makes all rows, as they are
abbrev pub StarMakesAllRows : Type 0
StarMakesAllRows =
    (q : Query) (rows : List Val) → is_grouped q ≡ false → q.outs ≡ star → q.filter ≡ None → q.order ≡ []
    → made q rows ≡ made_of_all rows

-- Rows in another order have the same answers, whatever the query.
abbrev pub OrderOfRowsIsFree : Type 0
OrderOfRowsIsFree =
    (q : Query) (rows others : List Val) (outputs : List Output) → IsPermutation rows others
    → IsAnswer (map (λ k. k.1) q.order) q.skip q.take (made q rows) outputs
    → IsAnswer (map (λ k. k.1) q.order) q.skip q.take (made q others) outputs
