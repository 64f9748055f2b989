-- What the sum of a query over files says.
use Rattle.std.specs.Prelude.{◌≡◌, ℕ, List, length, drop, Option, Some}
use Rattle.std.specs.Option.{ForSome}
use Rattle.snel_device.specs.Contents.{Contents}
use Rattle.tree_meaning.specs.Tree.{Query}
use Rattle.answer_meaning.specs.Answers.{limited}
use Rattle.made_meaning.specs.MadeRows.{made}
use Rattle.scan_batches.specs.Scans.{chunks_of}
use Rattle.scan_meaning.specs.Blocks.{Block}
use Rattle.scan_meaning.specs.Batches.{rows_of, front, count_passed, Counts}
use Rattle.scan_meaning.specs.Verdicts.{scan, Finds}
use Rattle.query_run.specs.declared.sum.QuerySum.{QuerySum}

-- What was done with these blocks: the lines that were put, the blocks that were read, the chunks that were run and the rows that passed.
pub record SumsTo (q : Query) (bs : List Block) (sum : QuerySum) : Type 0 where
  pub lines : sum.lines ≡ length (limited q.take (drop q.skip (made q (rows_of bs))))
  pub read : sum.read ≡ length bs
  pub chunks : sum.ran.chunks ≡ chunks_of bs
  pub kept : sum.ran.kept ≡ count_passed q bs

-- The sum is that of the blocks in the batches that count, beside so many that were left out.
pub record Sums (q : Query) (bs : List Block) (left_out : ℕ) (sum : QuerySum) : Type 0 where
  pub skipped : sum.skipped ≡ left_out
  pub done : (count : ℕ) → Counts q bs count → SumsTo q (front count bs) sum

-- where files tell, the sum is that of the blocks that are to be scanned
abbrev pub SumsUp : Query → List (List ℕ) → Option Contents → QuerySum → Type 0
SumsUp q names told sum = ForSome told (λ files. (bs : List Block) (n : ℕ) → Finds q names (Some files) (scan bs n) → Sums q bs n sum)
