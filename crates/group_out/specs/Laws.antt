-- Laws of the rows of groups.
use Rattle.std.specs.Prelude.{List, map, IsPermutation}
use Rattle.tree_meaning.specs.Tree.{Query}
use Rattle.eval_meaning.specs.Pair.{Pair}
use Rattle.made_meaning.specs.OverGroups.{Group, groups}
use Rattle.made_meaning.specs.MadeRows.{made_groups}
use Rattle.group_out.specs.Rows.{keyed, rows_of_groups}

-- the groups of pairs in another order make what the query makes of the pairs, in another order
abbrev pub OrderOfGroupsIsFree : Type 0
OrderOfGroupsIsFree =
    (q : Query) (all : List Pair) (gs : List Group) → IsPermutation (groups q.keys all) gs
    → IsPermutation (map keyed (made_groups q all)) (rows_of_groups q gs)
