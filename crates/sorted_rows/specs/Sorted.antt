-- The rows of a query with ORDER BY over blocks.
use Rattle.std.specs.Prelude.{◌≡◌, ℕ, ◌≤◌, ◌^◌, List, length, None}
use Rattle.tree_meaning.specs.Tree.{Query}
use Rattle.block_lines.specs.RowLines.{made_keyed}
use Rattle.scan_meaning.specs.Blocks.{Block}
use Rattle.scan_meaning.specs.Batches.{rows_of, first_bad, count_passed}
use Rattle.scan_meaning.specs.Answers.{falling}
use Rattle.scan_batches.specs.Scans.{chunks_of}
use Rattle.order_limit.specs.Arranged.{Row, IsArranged}

-- None of the blocks is bad; these are the sort keys and lines of what the query makes of their rows, which are few, sorted and cut; and
-- their chunks and the rows that passed were counted.
pub record AreSorted (q : Query) (bs : List Block) (sorted : List Row) (chunks kept : ℕ) : Type 0 where
  pub good : first_bad bs ≡ None
  pub arranged : IsArranged (falling q) q.skip q.take (made_keyed q (rows_of bs)) sorted
  pub few : length (rows_of bs) ≤ 2 ^ 42
  pub chunks_are : chunks ≡ chunks_of bs
  pub kept_are : kept ≡ count_passed q bs
