-- Answers of a query, and how it may end on each verdict.
use Rattle.std.specs.Prelude.{◌≡◌, ◌≢◌, ◌⊎◌, ◌≤◌, ◌<◌, ◌+◌, ℕ, Bool, true, false, List, ◌++◌, map, Option, None}
use Rattle.std.specs.Io.KnownBytes.{Keeps, Appends}
use Rattle.value_meaning.specs.Val.{Val}
use Rattle.tree_meaning.specs.Tree.{Query}
use Rattle.answer_meaning.specs.Made.{Output}
use Rattle.answer_meaning.specs.Answers.{IsAnswer}
use Rattle.answer_meaning.specs.Lines.{print}
use Rattle.made_meaning.specs.MadeRows.{made}
use Rattle.scan_meaning.specs.Blocks.{Block}
use Rattle.scan_meaning.specs.Batches.{rows_of, first_bad, front, size_of, is_plain, BatchCounts, IsFirstBad, MayPass, MayPut}
use Rattle.scan_meaning.specs.Limits.{is_over}
use Rattle.scan_meaning.specs.Verdicts.{Verdict, no_such_file, no_block_file, scan, untold, statuses, IsAmong}

-- which order keys fall
abbrev pub falling : Query → List Bool
falling q = map (λ k. k.1) q.order

-- the outputs are an answer of the query for the rows
abbrev pub AreAnswer : Query → List Val → List Output → Type 0
AreAnswer q rows outputs = IsAnswer (falling q) q.skip q.take (made q rows) outputs

abbrev pub IsPrefix : List ℕ → List ℕ → Type 0
IsPrefix some all = (rest : List ℕ) × (all ≡ some ++ rest)

-- A sink took the lines of an answer of the query for the rows: the whole answer at status 0, else a prefix of one.
pub record AddsAnswer (q : Query) (rows : List Val) (status : ℕ) (old new : Option (List ℕ)) : Type 0 where
  pub outputs : List Output
  pub answer : AreAnswer q rows outputs
  pub added : List ℕ
  pub appends : Appends old new added
  pub whole : status ≡ 0 → added ≡ print outputs
  pub front : IsPrefix added (print outputs)

-- A sink took the lines of a whole answer.
pub record AddsWhole (q : Query) (rows : List Val) (old new : Option (List ℕ)) : Type 0 where
  pub outputs : List Output
  pub answer : AreAnswer q rows outputs
  pub appends : Appends old new (print outputs)

-- What a scan of these blocks owes: status 6 needs a bad block in the batches that count, and status 0 that none stands in the way; status 7
-- that no block is bad and there are more groups than the limit, and statuses 0 and 9 that there aren't. At 9 lines were put; a query that
-- isn't plain puts lines at 0 and 9 alone.
pub record EndsScan (q : Query) (limit : ℕ) (bs : List Block) (status : ℕ) (old new : Option (List ℕ)) : Type 0 where
  pub bad : status ≡ 6 → (b : Block) × IsFirstBad q bs b
  pub passed : status ≡ 0 → MayPass q bs
  pub over : status ≡ 7 → (first_bad bs ≡ None) × (is_over q limit (rows_of bs) ≡ true)
  pub within : (status ≡ 0) ⊎ (status ≡ 9) → is_over q limit (rows_of bs) ≡ false
  pub put : status ≡ 9 → MayPut q bs
  pub quiet : is_plain q ≡ false → status ≢ 0 → status ≢ 9 → Keeps old new
  pub wrote : AddsAnswer q (rows_of bs) status old new

-- Where a bad block ends a plain query, the lines of the batches before its own are written: of an answer for their rows, the whole.
pub record StopsAt (q : Query) (bs : List Block) (b : Block) (old new : Option (List ℕ)) : Type 0 where
  pub first : IsFirstBad q bs b
  pub wrote : AddsWhole q (rows_of (front first.before bs)) old new

-- Where a failed read ends a query, some batches were read, none of whose blocks is bad, and at least as many as the count of bytes that were
-- read tells: where it rose by more than the indexes and the blocks of the first batches so many have, of these. Their lines are written
-- where the query is plain.
pub record StopsReading (q : Query) (bs : List Block) (indexes before now : ℕ) (old new : Option (List ℕ)) : Type 0 where
  pub batches : ℕ
  pub told : (i : ℕ) → before + (indexes + size_of (front i bs)) < now → i ≤ batches
  pub good : first_bad (front batches bs) ≡ None
  pub wrote : is_plain q ≡ true → AddsWhole q (rows_of (front batches bs)) old new

-- Where a failed put ends a plain query, it put the lines of a batch that counts, and neither its blocks nor those before are bad: the lines
-- of the batches before are written, and some of those of the batch.
pub record StopsPutting (q : Query) (bs : List Block) (old new : Option (List ℕ)) : Type 0 where
  pub before : ℕ
  pub counts : BatchCounts q bs before
  pub good : first_bad (front (before + 1) bs) ≡ None
  pub outputs : List Output
  pub answer : AreAnswer q (rows_of (front before bs)) outputs
  pub more : List Output
  pub extended : AreAnswer q (rows_of (front (before + 1) bs)) more
  pub added : List ℕ
  pub appends : Appends old new added
  pub whole : IsPrefix (print outputs) added
  pub some : IsPrefix added (print more)

-- what the sink holds after a query that ended so on a verdict
abbrev pub Wrote : Query → ℕ → Verdict → ℕ → Option (List ℕ) → Option (List ℕ) → Type 0
Wrote q limit (no_such_file k) status old new = Keeps old new
Wrote q limit (no_block_file k) status old new = Keeps old new
Wrote q limit (scan bs n) status old new = EndsScan q limit bs status old new
Wrote q limit untold status old new = (added : List ℕ) × Appends old new added

-- A query with this limit on its groups ended as the verdict allows: with this status, and with this in the sink.
pub record EndsAs (q : Query) (limit : ℕ) (v : Verdict) (status : ℕ) (old new : Option (List ℕ)) : Type 0 where
  pub allowed : IsAmong status (statuses v)
  pub wrote : Wrote q limit v status old new
