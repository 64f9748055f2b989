use Rattle.std.proofs.Common.{◌≡◌, map, take}
use Rattle.std.specs.List.{enumerate_from}
use Rattle.check_meaning.specs.Names.{output_name}
use Rattle.query_check.proofs.names.item_names.Given as goal

abbrev pub invariant-loop-at : goal.invariant-loop-at
invariant-loop-at l = l.names ≡ take l.at (map (λ o. output_name o.0 o.1) (enumerate_from 1 l.items))
