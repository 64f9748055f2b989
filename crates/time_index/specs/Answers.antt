-- What reading the index of a file answers, and how many bytes it may take.
use Rattle.std.specs.Prelude.{ℕ, ◌+◌, ◌≤◌, List, Option, IsSomeAnd}
use Rattle.std.specs.Option.{ForSome}
use Rattle.file_meaning.specs.Files.{Entry, IsIndex, IsFile}
use Rattle.file_meaning.specs.Reading.{index_cost}
use Rattle.snel_device.specs.Contents.{Contents}

-- where files are told, this one is there and its bytes have P
abbrev pub Knows : Option Contents → List ℕ → (List ℕ → Type 0) → Type 0
Knows told name P = ForSome told (λ files. IsSomeAnd (files name) P)

-- The bytes are no block file.
abbrev pub IsNoFile : List ℕ → Type 0
IsNoFile bytes = (field : List ℕ) (entries : List Entry) → IsFile bytes field entries → ⊥

-- the field and the entries are those of an index of blocks up to some place
abbrev pub IsSomeIndex : List ℕ → List Entry → Type 0
IsSomeIndex field entries = (to : ℕ) × IsIndex field entries to

-- A count of bytes that were read: it didn't fall, and rose by at most what it costs to read the index of this file, where files are told.
-- Where nothing is told, it rose by at most the 12 bytes of a tail and those of the longest index.
pub record Costs (told : Option Contents) (name : List ℕ) (before now : ℕ) : Type 0 where
  pub later : before ≤ now
  pub most : now ≤ before + 33_554_709
  pub cost : ForSome told (λ files. now ≤ before + index_cost (files name))
