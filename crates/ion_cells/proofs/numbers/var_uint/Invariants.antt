use Rattle.std.proofs.Common.{◌≡◌, ◌<◌, ◌^◌, ◌+◌, ◌-◌, drop}
use Rattle.block_meaning.specs.Numbers.{var_uint_in}
use Rattle.ion_cells.proofs.numbers.var_uint.Given as goal

abbrev pub invariant-loop-i : goal.invariant-loop-i
invariant-loop-i l = (l.number < 128 ^ l.i) × (var_uint_in 4 0 (drop l.at l.bytes) ≡ var_uint_in (4 - l.i) l.number (drop (l.at + l.i) l.bytes))
