-- Laws of packing.
use Rattle.std.specs.Prelude.{◌≡◌, ◌↔◌, ℕ, List, Option}
use Rattle.value_meaning.specs.Val.{vals}
use Rattle.file_meaning.specs.Files.{Entry, IsFile, AreFileRows}
use Rattle.write_meaning.specs.BlockTables.{IsTableOf}
use Rattle.pack_meaning.specs.Splitting as splitting
use Rattle.pack_meaning.specs.Cuts.{Rows, EachFits, AreCut, cut}
use Rattle.pack_meaning.specs.PackedFiles.{table_of, file_of, field_name, MayBePacked, HoldsRows}

-- Up to each line end there is a line, and one behind the last, if any byte follows it.
abbrev pub LinesAre : Type 0
LinesAre = (line rest : List ℕ) → splitting.LinesAre line rest

-- Cutting row by row makes the cut, and there is no other.
abbrev pub CutsAreMade : Type 0
CutsAreMade =
    (most : ℕ) (rows : Rows) (blocks : List Rows) → EachFits most rows → (cut most rows ≡ blocks) ↔ AreCut most blocks rows

-- The table that is written is the table of the rows.
abbrev pub TablesAreOfRows : Type 0
TablesAreOfRows = (rows : Rows) → IsTableOf (vals rows) (table_of rows)

-- The file of rows is a block file of just these rows.
abbrev pub FilesHoldRows : Type 0
FilesHoldRows =
    (field : Option (List ℕ)) (most : ℕ) (rows : Rows)
    → MayBePacked field most rows → HoldsRows (field_name field) (file_of field most rows) rows

-- However rows are cut, their files hold the same rows, and no others.
abbrev pub CutsHoldTheSame : Type 0
CutsHoldTheSame =
    (field : Option (List ℕ)) (most other : ℕ) (rows found : Rows) (entries : List Entry)
    → MayBePacked field most rows → MayBePacked field other rows
    → IsFile (file_of field other rows) (field_name field) entries → AreFileRows entries (file_of field other rows) found
    → HoldsRows (field_name field) (file_of field most rows) found
