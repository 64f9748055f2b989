-- What the first bytes of a cell say.
use Rattle.std.specs.Prelude.{◌≡◌, ℕ, ◌-◌, List, [], ◌∷◌, length, drop, Bool, not, ◌&&◌, nat_le, nat_lt, ◌%◌, Option, Some, None, is_some, ◌==◌, if◌then◌else◌}
use Rattle.std.specs.Option.{option_map}
use Rattle.block_meaning.specs.CellReading.{one_byte, head_at}
use Rattle.ion_cells.specs.declared.kind.Kind.{Kind}
use Rattle.ion_cells.specs.declared.kind.Kind.TheVariants as kinds
use Rattle.ion_cells.specs.declared.tag.Tag.{Tag}
use Rattle.ion_cells.specs.declared.tag.Tag.TheVariants as tags

-- the tag of a cell of one byte, and of one whose content is of a type
abbrev pub tag_of_byte : ℕ → Tag
tag_of_byte h = if h == 17 then tags.True else (if h == 16 then tags.False else tags.Null)

abbrev pub tag_of_type : ℕ → Tag
tag_of_type t =
    if t == 2 then tags.Whole
    else (if t == 3 then tags.Negative
    else (if t == 6 then tags.Time
    else (if t == 7 then tags.Symbol
    else (if t == 8 then tags.Text
    else (if t == 11 then tags.List else tags.Struct)))))

-- the kind of the cells with a tag
abbrev pub kind_of_tag : Tag → Kind
kind_of_tag tags.Null = kinds.Null
kind_of_tag tags.False = kinds.Bool
kind_of_tag tags.True = kinds.Bool
kind_of_tag tags.Whole = kinds.Int
kind_of_tag tags.Negative = kinds.Int
kind_of_tag tags.Time = kinds.Time
kind_of_tag tags.Symbol = kinds.Symbol
kind_of_tag tags.Text = kinds.Text
kind_of_tag tags.List = kinds.List
kind_of_tag tags.Struct = kinds.Struct

-- the length of the content stands in the first byte, and the byte isn't the whole of a cell
abbrev pub is_short : ℕ → Bool
is_short h = nat_le 32 h && nat_lt (h % 16) 14 && not (h == 209)

-- the tag of the first cell, how many bytes its content has, and its content before what follows the cell
abbrev pub Opening : Type 0
Opening = Option (Tag × ℕ × List ℕ)

unfoldable pub opening : List ℕ → Opening
opening [] = None
opening (h ∷ rest) =
    if is_some (one_byte h) then Some (tag_of_byte h, 0, rest)
    else option_map (λ x. (tag_of_type x.0, x.1, x.2)) (head_at (h ∷ rest))

-- the bytes are a cell with this tag, and its content begins at the place
abbrev pub Opens : Tag → ℕ → List ℕ → Type 0
Opens tag start bytes = let o : Opening = Some (tag, length bytes - start, drop start bytes) in opening bytes ≡ o
