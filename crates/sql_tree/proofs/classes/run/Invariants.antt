use Rattle.std.proofs.Common.{◌≡◌, ◌+◌, drop}
use Rattle.query_meaning.specs.Lexing.{run}
use Rattle.sql_tree.specs.Classes.{passes}
use Rattle.sql_tree.proofs.classes.run.Given as goal

abbrev pub invariant-loop-byte : goal.invariant-loop-byte
invariant-loop-byte l =
    (l.count ≡ l.byte-index) × (run (passes l.class) l.bytes ≡ l.byte-index + run (passes l.class) (drop l.byte-index l.bytes))
