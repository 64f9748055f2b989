use Rattle.std.proofs.Common.{◌≡◌, ◌<◌, ◌^◌, drop}
use Rattle.block_meaning.specs.Numbers.{magnitude_on}
use Rattle.ion_cells.proofs.numbers.magnitude.Given as goal

abbrev pub invariant-loop-byte : goal.invariant-loop-byte
invariant-loop-byte l = (l.number < 256 ^ l.byte-index) × (magnitude_on 0 l.bytes ≡ magnitude_on l.number (drop l.byte-index l.bytes))
