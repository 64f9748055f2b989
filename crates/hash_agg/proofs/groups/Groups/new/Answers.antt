use Rattle.std.proofs.Common.{◌≤◌, List, [], subst, sym, map, length, arith}
use Rattle.hash_agg.specs.Groups.{AreApart}
use Rattle.hash_agg.specs.Entries.{entry_of}
use Rattle.hash_agg.specs.Covers.{Covers}
use Rattle.hash_agg.specs.declared.group.Group.{Group}
use Rattle.hash_agg.proofs.Rows.{HaveNames}
use Rattle.hash_agg.proofs.groups.Groups.new.Goals as goal

pub invariant_of-result : goal.invariant_of-result
invariant_of-result c =
    subst (λ (l : List Group). AreApart (map entry_of l) × HaveNames c.extend_from_slice.new.self.items l × length l ≤ c.args.limit × Covers c.new-2.result (map entry_of l)) (sym c.new.ensures.items)
    (tt, λ k d b. absurd (omega arith), omega arith, c.new-2.ensures [])
