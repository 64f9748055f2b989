-- The bytes of an index before its entries.
use Rattle.std.specs.Prelude.{ℕ, List, ◌++◌, length, codes}
use Rattle.std.specs.Int.{to_be_bytes, w16, w32}

-- the magic, the indexed field's name, and the count of entries
abbrev pub head_bytes : List ℕ → ℕ → List ℕ
head_bytes field count = codes "SNX1" ++ (to_be_bytes w16 (length field) ++ (field ++ to_be_bytes w32 count))
