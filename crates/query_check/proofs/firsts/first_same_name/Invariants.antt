use Rattle.std.proofs.Common.{◌≡◌, ◌-◌, ℕ, List, Bool, drop, take}
use Rattle.std.specs.Prelude.{find}
use Rattle.std.specs.List.{list_any, enumerate_from}
use Rattle.std.specs.Str.{bytes_eq}
use Rattle.query_check.proofs.firsts.first_same_name.Given as goal

abbrev pub invariant-loop-at : goal.invariant-loop-at
invariant-loop-at l =
    let t : ℕ × List ℕ → Bool = λ n. list_any (bytes_eq n.1) (take (n.0 - 1) l.names) in
    find t (enumerate_from 1 l.names) ≡ find t (drop l.at (enumerate_from 1 l.names))
