use Rattle.print_meaning.proofs.PrintedLists.{Lists, key_text}
use Rattle.sql_print.proofs.lists.put_keys.Given as goal

abbrev pub invariant-loop-at : goal.invariant-loop-at
invariant-loop-at l = Lists (key_text l.row) l.fn.text l.text l.at l.keys
