use Rattle.std.proofs.Common.{◌≡◌, ℕ, nat_eq, nat_lt, get_or}
use Rattle.std.specs.Prelude.{◌&&◌}
use Rattle.lane_base.specs.Bits.{has}
use Rattle.key_places.proofs.tags.probe16.Given as goal

abbrev pub invariant-loop-i : goal.invariant-loop-i
invariant-loop-i l = (k : ℕ) → has l.found.0 k ≡ (nat_lt k l.i && nat_eq (get_or l.tags k 0) l.tag)
