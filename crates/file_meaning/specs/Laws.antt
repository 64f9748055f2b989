-- Laws of block files.
use Rattle.std.specs.Prelude.{◌≡◌, ℕ, List, Option, Some, ◌↔◌}
use Rattle.value_meaning.specs.Val.{Val}
use Rattle.file_meaning.specs.Files.{Entry, IsFile, AreFileRows}
use Rattle.file_meaning.specs.Reading.{AreBytes, file_in}

-- Bytes are a block file with at most one index.
abbrev pub OneIndex : Type 0
OneIndex = (bytes f g : List ℕ) (es ds : List Entry) → IsFile bytes f es → IsFile bytes g ds → (f ≡ g) × (es ≡ ds)

-- the reading of bytes answers this index
abbrev pub Reads : List ℕ → List ℕ → List Entry → Type 0
Reads bytes f es = let index : Option (List ℕ × List Entry) = Some (f, es) in file_in bytes ≡ index

-- What reading answers is the index of the file, and there is none where it answers none.
abbrev pub ReadsExactly : Type 0
ReadsExactly = (bytes f : List ℕ) (es : List Entry) → AreBytes bytes → (Reads bytes f es ↔ IsFile bytes f es)

-- The rows of a file's undamaged blocks are one list, and there always is one.
abbrev pub OneListOfFileRows : Type 0
OneListOfFileRows =
    (es : List Entry) (bytes : List ℕ)
    → (rows : List Val) × AreFileRows es bytes rows × ((others : List Val) → AreFileRows es bytes others → others ≡ rows)
