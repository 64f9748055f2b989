-- The parts of a time that a function takes.
use Rattle.std.specs.Prelude.{Bool, true, false}
use Rattle.tree_meaning.specs.declared.Part.{Part}
use Rattle.tree_meaning.specs.declared.Part.TheVariants as part

-- DATE_TRUNC
abbrev pub is_cut_to : Part → Bool
is_cut_to part.Microsecond = false
is_cut_to part.Second = true
is_cut_to part.Minute = true
is_cut_to part.Hour = true
is_cut_to part.Day = true
is_cut_to part.Week = true
is_cut_to part.Month = true
is_cut_to part.Quarter = true
is_cut_to part.Year = true

-- EXTRACT
abbrev pub is_extracted : Part → Bool
is_extracted part.Microsecond = true
is_extracted part.Second = true
is_extracted part.Minute = true
is_extracted part.Hour = true
is_extracted part.Day = true
is_extracted part.Week = false
is_extracted part.Month = true
is_extracted part.Quarter = true
is_extracted part.Year = true

-- DATE_ADD
abbrev pub is_added : Part → Bool
is_added part.Microsecond = true
is_added part.Second = true
is_added part.Minute = true
is_added part.Hour = true
is_added part.Day = true
is_added part.Week = true
is_added part.Month = false
is_added part.Quarter = false
is_added part.Year = false
