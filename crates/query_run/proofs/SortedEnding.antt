-- What sorted rows tell of the rows of all blocks: the lines of an answer.
use Rattle.std.proofs.Common.{◌≡◌, ℕ, Bool, false, ◌&&◌, List, length, ap}
use Rattle.std.specs.Prelude.{nat_lt}
use Rattle.std.proofs.lemmas.List.Sorted.{IsPermutation-refl}
use Rattle.value_meaning.specs.Val.{Val}
use Rattle.tree_meaning.specs.Tree.{Query}
use Rattle.check_meaning.specs.Aggregates.{is_grouped}
use Rattle.made_meaning.specs.MadeRows.{made}
use Rattle.block_lines.specs.RowLines.{made_keyed}
use Rattle.scan_meaning.specs.Blocks.{Block}
use Rattle.scan_meaning.specs.Batches.{rows_of}
use Rattle.scan_meaning.specs.Limits.{is_over, key_lists}
use Rattle.scan_meaning.specs.Answers.{falling}
use Rattle.order_limit.specs.Arranged.{Row}
use Rattle.order_limit.specs.Laws.{PrintsAnswer}
use Rattle.order_limit.proofs.Answered.{arranged_answers}
use Rattle.sorted_rows.specs.Sorted.{AreSorted}

-- a query that doesn't group has no groups over a limit
pub none_over_ungrouped : (q : Query) → is_grouped q ≡ false → (limit : ℕ) (rows : List Val) → is_over q limit rows ≡ false
unfolding is_over
none_over_ungrouped q single limit rows = ap (λ (b : Bool). b && nat_lt limit (length (key_lists q rows))) single

-- the lines of sorted rows are those of an answer
pub sorted_prints : (q : Query) (bs : List Block) (rows : List Row) (chunks kept : ℕ) → AreSorted q bs rows chunks kept → PrintsAnswer (falling q) q.skip q.take (made q (rows_of bs)) rows
sorted_prints q bs rows chunks kept s =
    arranged_answers (falling q) q.skip q.take (made q (rows_of bs)) (made_keyed q (rows_of bs)) rows (IsPermutation-refl (made_keyed q (rows_of bs))) s.arranged
