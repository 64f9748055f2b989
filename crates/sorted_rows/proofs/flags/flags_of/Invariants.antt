use Rattle.std.proofs.Common.{◌≡◌, map, take, Bool}
use Rattle.tree_meaning.specs.Tree.{Ex}
use Rattle.sorted_rows.proofs.flags.flags_of.Given as goal

-- the flags of the keys before this one
abbrev pub invariant-loop-at : goal.invariant-loop-at
invariant-loop-at l = l.flags.items ≡ map (λ (k : Ex × Bool). k.1) (take l.at l.order)
