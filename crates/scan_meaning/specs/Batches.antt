-- Batches of blocks, and those that count: all of them, unless a LIMIT is full before.
use Rattle.std.specs.Prelude.{◌≡◌, ℕ, suc, ◌+◌, ◌*◌, ◌<◌, ◌≤◌, ◌⊎◌, Bool, false, not, ◌&&◌, ◌==◌, List, [], length, take, drop, Option, Some, None, ⊤, is_none, unwrap_or, find, flat_map, sum_by, if◌then◌else◌}
use Rattle.std.specs.Option.{option_map}
use Rattle.value_meaning.specs.Val.{Val}
use Rattle.tree_meaning.specs.Tree.{Query}
use Rattle.check_meaning.specs.Aggregates.{is_grouped}
use Rattle.eval_meaning.specs.Passed.{passed}
use Rattle.scan_meaning.specs.Blocks.{Block, good_rows}

-- the rows of blocks, in order; a bad block has none
abbrev pub rows_of : List Block → List Val
rows_of bs = flat_map (λ b. unwrap_or (good_rows b) []) bs

-- a block is bad that is damaged or breaks its range
abbrev pub is_bad : Block → Bool
is_bad b = is_none (good_rows b)

abbrev pub first_bad : List Block → Option Block
first_bad bs = find is_bad bs

-- the bytes of blocks, as the index tells them
abbrev pub size_of : List Block → ℕ
size_of bs = sum_by (λ b. b.place.entry.length) bs

-- a batch is the next 64 blocks: the blocks of the first so many batches, and those of the batch behind them
abbrev pub front : ℕ → List Block → List Block
front j bs = take (64 * j) bs

abbrev pub batch : ℕ → List Block → List Block
batch j bs = take 64 (drop (64 * j) bs)

-- neither grouped nor sorted
abbrev pub is_plain : Query → Bool
is_plain q = not (is_grouped q) && (length q.order == 0)

-- How many rows have to pass: with a bare LIMIT, one without ORDER BY of a query that isn't grouped, OFFSET and LIMIT together; else all.
unfoldable pub need : Query → Option ℕ
need q = if is_plain q then option_map (λ n. q.skip + n) q.take else None

-- so many rows aren't enough: all are needed, or more
abbrev pub IsShort : Option ℕ → ℕ → Type 0
IsShort None n = ⊤
IsShort (Some most) n = n < most

-- how many rows of the blocks pass
abbrev pub count_passed : Query → List Block → ℕ
count_passed q bs = length (passed q (rows_of bs))

-- The batch behind the first so many counts: in neither these nor fewer do enough rows pass.
unfoldable pub BatchCounts : Query → List Block → ℕ → Type 0
BatchCounts q bs j = (i : ℕ) → i ≤ j → IsShort (need q) (count_passed q (front i bs))

-- So many batches count: each of them does, and in them enough rows pass or they are all.
pub record Counts (q : Query) (bs : List Block) (count : ℕ) : Type 0 where
  pub each : (j : ℕ) → j < count → BatchCounts q bs j
  pub last : (length bs ≤ 64 * count) ⊎ ¬ IsShort (need q) (count_passed q (front count bs))

-- This is the first bad block, and its batch counts.
pub record IsFirstBad (q : Query) (bs : List Block) (b : Block) : Type 0 where
  pub before : ℕ
  pub counts : BatchCounts q bs before
  pub good : first_bad (front before bs) ≡ None
  pub bad : first_bad (batch before bs) ≡ Some b

-- No bad block stands in the way: there is none in the batches that count, or only in the last of them, and in them enough rows pass.
pub record MayPass (q : Query) (bs : List Block) : Type 0 where
  pub count : ℕ
  pub counts : Counts q bs count
  pub good : (first_bad (front count bs) ≡ None)
      ⊎ ((j : ℕ) × (count ≡ suc j) × (first_bad (front j bs) ≡ None) × ¬ IsShort (need q) (count_passed q (front count bs)))

-- Lines may be put: those of a batch of a plain query that counts, once none of its blocks and of those before is bad, and those of another
-- query once no block is bad.
pub record MayPut (q : Query) (bs : List Block) : Type 0 where
  pub before : ℕ
  pub counts : BatchCounts q bs before
  pub good : first_bad (front (before + 1) bs) ≡ None
  pub all : is_plain q ≡ false → first_bad bs ≡ None
