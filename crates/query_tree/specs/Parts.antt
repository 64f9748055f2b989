-- What the parts of the code's queries stand for.
use Rattle.std.specs.Prelude.{ℕ, List, Bool, Option}
use Rattle.tree_meaning.specs.Tree.{Ex}
use Rattle.query_tree.specs.declared.lists.Item.{Item}
use Rattle.query_tree.specs.declared.lists.OrderKey.{OrderKey}

abbrev pub item_view : Item → Ex × Option (List ℕ)
item_view i = (i.expr, i.name)

abbrev pub key_view : OrderKey → Ex × Bool
key_view k = (k.expr, k.falling)
