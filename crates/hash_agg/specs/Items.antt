-- What is shown of the operands of a row, one item for each aggregate.
use Rattle.std.specs.Prelude.{ℕ, ◌<◌, List, [], ◌∷◌, length, slice_index_or}
use Rattle.std.specs.List.{AllZip}
use Rattle.value_meaning.specs.Val.{Val}
use Rattle.tree_meaning.specs.declared.AggName.{AggName}
use Rattle.agg_meaning.specs.Partials.{Partial}
use Rattle.agg_laws.specs.declared.seen.Seen.{Seen}
use Rattle.agg_laws.specs.Shows.{Shows}
use Rattle.agg_laws.specs.Alone.{alone}
use Rattle.agg_laws.specs.Room.{HasRoom, HaveRoom}

-- each item shows its operand's value
abbrev pub ShowsAll : List Seen → List Val → Type 0
ShowsAll = AllZip Shows

-- the partials of the row alone
abbrev pub alone_all : List AggName → List Seen → List Partial
alone_all (n ∷ ns) (i ∷ is) = alone n i ∷ alone_all ns is
alone_all ns is = []

-- each partial has room
abbrev pub EachHasRoom : List AggName → List Partial → Type 0
EachHasRoom names partials =
    (i : ℕ) (n : AggName) (s : Partial) → i < length names
    → HasRoom (slice_index_or names i n) (slice_index_or partials i s)

-- each two partials have room together
abbrev pub EachTwoHaveRoom : List AggName → List Partial → List Partial → Type 0
EachTwoHaveRoom names partials others =
    (i : ℕ) (n : AggName) (s t : Partial) → i < length names
    → HaveRoom (slice_index_or names i n) (slice_index_or partials i s) (slice_index_or others i t)
