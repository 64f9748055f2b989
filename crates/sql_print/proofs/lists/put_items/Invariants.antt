use Rattle.print_meaning.proofs.PrintedLists.{Lists, item_text}
use Rattle.sql_print.proofs.lists.put_items.Given as goal

abbrev pub invariant-loop-at : goal.invariant-loop-at
invariant-loop-at l = Lists (item_text l.row) l.fn.text l.text l.at l.items
