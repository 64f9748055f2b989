-- What a query makes of groups, as rows of sort keys and lines.
use Rattle.std.specs.Prelude.{ℕ, List, Option, Some, None, map, if◌then◌else◌}
use Rattle.value_meaning.specs.Val.{Val}
use Rattle.tree_meaning.specs.Tree.{Query}
use Rattle.answer_meaning.specs.Made.{Made}
use Rattle.answer_meaning.specs.Lines.{line_text}
use Rattle.made_meaning.specs.OverGroups.{Group, over}
use Rattle.made_meaning.specs.MadeRows.{has_true, made_group, kept_groups}

-- the sort keys of a made row, and its line
abbrev pub keyed : Made → List Val × List ℕ
keyed m = (m.keys, line_text m.output)

-- the row of a group that HAVING keeps
abbrev pub row_of_group : Query → Group → Option (List Val × List ℕ)
row_of_group q g = if has_true q.having (over q g) then Some (keyed (made_group q g)) else None

-- the rows of the groups that HAVING keeps, in order
abbrev pub rows_of_groups : Query → List Group → List (List Val × List ℕ)
rows_of_groups q gs = map keyed (map (made_group q) (kept_groups q gs))
