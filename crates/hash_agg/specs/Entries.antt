-- What groups stand for in memory.
use Rattle.std.specs.Prelude.{List, map}
use Rattle.tree_meaning.specs.declared.AggName.{AggName}
use Rattle.hash_agg.specs.Groups.{Entry, joined_all}
use Rattle.agg_laws.specs.declared.seen.Seen.{Seen}
use Rattle.hash_agg.specs.Items.{alone_all}
use Rattle.agg_laws.specs.Parts.{part_name, part_kept}
use Rattle.hash_agg.specs.declared.group.Group.{Group}

abbrev pub entry_of : Group → Entry
entry_of g = (g.keys, map part_kept g.parts.items)

abbrev pub names_of : Group → List AggName
names_of g = map part_name g.parts.items

-- the entry of a group and one more row
abbrev pub with_row : Group → List Seen → Entry
with_row g items = (g.keys, joined_all (names_of g) (map part_kept g.parts.items) (alone_all (names_of g) items))

-- the entry of a group and another of the same key list
abbrev pub with_group : Group → Group → Entry
with_group g h = (g.keys, joined_all (names_of g) (map part_kept g.parts.items) (map part_kept h.parts.items))
