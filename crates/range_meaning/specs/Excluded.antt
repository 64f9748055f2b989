-- Which blocks bounds exclude, and whether a block's entry tells the times of its rows.
use Rattle.std.specs.Prelude.{◌≡◌, ◌≢◌, ℕ, ℤ, ◌≤ℤ◌, List, []}
use Rattle.std.specs.List as list
use Rattle.value_meaning.specs.Val.{Val, time}
use Rattle.tree_meaning.specs.Tree.{name}
use Rattle.eval_meaning.specs.Paths.{step_of}
use Rattle.file_meaning.specs.Files.{Entry}
use Rattle.range_meaning.specs.declared.Bounds.{Bounds}
use Rattle.range_meaning.specs.declared.Bounds.TheVariants.{All}
use Rattle.range_meaning.specs.Intervals.{LiesIn}

-- the number lies from the entry's least to its greatest
pub record LiesWithin (entry : Entry) (t : ℤ) : Type 0 where
  pub not_below : entry.least ≤ℤ t
  pub not_above : t ≤ℤ entry.greatest

-- there are bounds, and no number lies both in them and from the entry's least to its greatest
pub record IsExcluded (entry : Entry) (b : Bounds) : Type 0 where
  pub bound : b ≢ All
  pub apart : (t : ℤ) → LiesIn t b → LiesWithin entry t → ⊥

-- the time, if it is one, that a row holds in its own pair of the name lies from the entry's least to its greatest
abbrev pub HoldsWithin : List ℕ → Entry → Val → Type 0
HoldsWithin field entry row = (t : ℤ) → step_of (name field) row ≡ time t → LiesWithin entry t

-- The entry of a block of these rows is sound: each time of the field lies from its least to its greatest. Without a field it always is.
abbrev pub IsSoundEntry : List ℕ → Entry → List Val → Type 0
IsSoundEntry field entry rows = field ≢ [] → list.All (HoldsWithin field entry) rows
