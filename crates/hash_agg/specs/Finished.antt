-- The rows of finished groups.
use Rattle.std.specs.Prelude.{List, map}
use Rattle.value_meaning.specs.Val.{Val}
use Rattle.tree_meaning.specs.declared.AggName.{AggName}
use Rattle.hash_agg.specs.Groups.{Entry, values_of}
use Rattle.agg_laws.specs.Parts.{part_kept}
use Rattle.hash_agg.specs.declared.group.Group.{Group}
use Rattle.hash_agg.specs.declared.finish.GroupRow.{GroupRow}
use Rattle.hash_agg.specs.Entries.{names_of}

abbrev pub row_view : GroupRow → List Val × List Val
row_view r = (r.keys, r.aggs)

-- the key list and the values of a group
abbrev pub finished_row : Group → List Val × List Val
finished_row g = (g.keys, values_of (names_of g) (map part_kept g.parts.items))

abbrev pub row_of : List AggName → Entry → List Val × List Val
row_of names e = (e.0, values_of names e.1)
