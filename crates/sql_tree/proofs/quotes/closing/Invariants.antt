use Rattle.std.proofs.Common.{◌≡◌, ◌≤◌, ◌-◌, length, drop}
use Rattle.std.specs.Prelude.{IfSome}
use Rattle.query_meaning.specs.Lexing.{closing}
use Rattle.sql_tree.proofs.LexSteps.{from_place}
use Rattle.sql_tree.proofs.quotes.closing.Given as goal

abbrev pub invariant-places : goal.invariant-places
invariant-places l =
    (l.place ≤ length l.bytes) × IfSome l.candidate (λ n. n ≤ length l.bytes) × (closing l.quote l.bytes ≡ from_place l.place l.candidate (closing l.quote (drop l.place l.bytes)))

abbrev pub decreases-places : goal.decreases-places
decreases-places l = length l.bytes - l.place
