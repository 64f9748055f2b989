-- Rows arranged by their sort keys, and cut by OFFSET and LIMIT.
use Rattle.std.specs.Prelude.{◌≡◌, ℕ, Bool, List, drop, Option, length, All, IsPermutation, IsSortedByKey}
use Rattle.value_meaning.specs.Val.{Val}
use Rattle.answer_meaning.specs.Answers.{keys_cmp, limited}

-- the sort keys of a row, and its line
abbrev pub Row : Type 0
Row = List Val × List ℕ

-- the rows have a key for each flag
abbrev pub AreKeyed : List Bool → List Row → Type 0
AreKeyed falling rows = All (λ r. length r.0 ≡ length falling) rows

-- The rows in some arrangement that is sorted by their keys, of which those flagged fall, less the first `skip` many, and then
-- at most `most` many.
pub record IsArranged (falling : List Bool) (skip : ℕ) (most : Option ℕ) (rows result : List Row) : Type 0 where
  pub arrangement : List Row
  pub permutes : IsPermutation rows arrangement
  pub sorted : IsSortedByKey (λ (r : Row). r.0) (keys_cmp falling) arrangement
  pub cut : result ≡ limited most (drop skip arrangement)
