-- What testing the blocks of a file tells.
use Rattle.std.specs.Prelude.{◌≡◌, ℕ, List, ⊤, Option, Some, None, IsSomeAnd, sum_by}
use Rattle.file_meaning.specs.Files.{Entry, IsFile}
use Rattle.scan_meaning.specs.Blocks.{Block}
use Rattle.scan_meaning.specs.Batches.{first_bad}
use Rattle.scan_meaning.specs.Opened.{Opened, blocks_of}
use Rattle.scan_files.specs.Places.{Held}

-- the block that was read, in a file that indexes this field
abbrev pub block_in : List ℕ → Held → Block
block_in field h = record { place = h.place; field = field; bytes = h.bytes }

-- the answer is the number of the block, or that there is none
abbrev pub IsNumberOf : Option Block → Option ℕ → Type 0
IsNumberOf (Some b) (Some k) = b.place.block ≡ k
IsNumberOf None None = ⊤
IsNumberOf b k = ⊥

-- the answer names the first bad block of the file with this number, or says that it has none
abbrev pub NamesFirstBad : ℕ → Opened → Option ℕ → Type 0
NamesFirstBad file o answer = IsNumberOf (first_bad (blocks_of file o)) answer

-- the bytes are a block file with this index
abbrev pub IsIndexed : Option (List ℕ) → List ℕ → List Entry → Type 0
IsIndexed file field entries = IsSomeAnd file (λ bytes. IsFile bytes field entries)

-- the rows that the entries tell
abbrev pub rows_of : List Entry → ℕ
rows_of es = sum_by (λ e. e.rows) es
