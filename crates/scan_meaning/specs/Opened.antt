-- What the named files are.
use Rattle.std.specs.Prelude.{◌≡◌, ℕ, suc, List, [], ◌∷◌, ◌++◌, map, ⊤, Option, Some, None}
use Rattle.snel_device.specs.Contents.{Contents}
use Rattle.file_meaning.specs.Files.{Entry, IsFile}
use Rattle.scan_meaning.specs.Blocks.{Block, places_from, block_of}

-- a block file: its bytes and its index
pub record Opened : Type 0 where
  pub bytes : List ℕ
  pub field : List ℕ
  pub entries : List Entry

-- a name's file: there is none, it is no block file, or it is this one
pub data Named : Type 0 where
  absent : Named
  no_file : Named
  opened : Opened → Named

abbrev pub IsNamed : Option (List ℕ) → Named → Type 0
IsNamed None absent = ⊤
IsNamed (Some bytes) no_file = (field : List ℕ) (entries : List Entry) → IsFile bytes field entries → ⊥
IsNamed (Some bytes) (opened o) = (bytes ≡ o.bytes) × IsFile bytes o.field o.entries
IsNamed file named = ⊥

-- the same of each name, in order
abbrev pub AreNamed : Contents → List (List ℕ) → List Named → Type 0
AreNamed files [] [] = ⊤
AreNamed files (n ∷ ns) (f ∷ fs) = IsNamed (files n) f × AreNamed files ns fs
AreNamed files names fs = ⊥

-- all names have block files, these
abbrev pub AreOpened : Contents → List (List ℕ) → List Opened → Type 0
AreOpened files names os = AreNamed files names (map (λ o. opened o) os)

abbrev pub blocks_of : ℕ → Opened → List Block
blocks_of file o = map (block_of o.bytes o.field) (places_from file 0 o.entries)

-- the blocks of the files, in order, where the first has this number
abbrev pub blocks_from : ℕ → List Named → List Block
blocks_from i [] = []
blocks_from i (opened o ∷ fs) = blocks_of i o ++ blocks_from (suc i) fs
blocks_from i (f ∷ fs) = blocks_from (suc i) fs
