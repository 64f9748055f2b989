-- Which blocks a query reads: those that its WHERE doesn't exclude by the times that the index tells.
use Rattle.std.specs.Prelude.{ℕ, Bool, false, not, List, Option, Some, None, int_lt}
use Rattle.std.specs.Int.{int_min, int_max}
use Rattle.tree_meaning.specs.Tree.{Ex, Query}
use Rattle.file_meaning.specs.Files.{Entry}
use Rattle.range_meaning.specs.declared.Bounds.{Bounds}
use Rattle.range_meaning.specs.declared.Bounds.TheVariants.{All, Between}
use Rattle.range_meaning.specs.Binding.{bounds}

-- the bounds that a query's WHERE leaves of a file's indexed field
abbrev pub bounds_by : List ℕ → Option Ex → Bounds
bounds_by field None = All
bounds_by field (Some filter) = bounds field filter

-- no number lies both in the bounds and from the entry's least to its greatest
abbrev pub are_apart : Entry → Bounds → Bool
are_apart e All = false
are_apart e (Between low high) = int_lt (int_min e.greatest high) (int_max e.least low)

-- the WHERE doesn't exclude a block of this entry in a file with this indexed field
unfoldable pub is_wanted : Query → List ℕ → Entry → Bool
is_wanted q field entry = not (are_apart entry (bounds_by field q.filter))
