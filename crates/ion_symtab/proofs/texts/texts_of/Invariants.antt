use Rattle.std.proofs.Common.{length, ◌-◌, ◌≡◌, ◌≤◌, None, drop, map, ◌++◌}
use Rattle.std.specs.Option.{option_map}
use Rattle.block_meaning.specs.Tables.{Table}
use Rattle.block_meaning.specs.Blocks.{texts_by}
use Rattle.ion_symtab.proofs.texts.texts_of.Given as goal

abbrev pub invariant-loop-at : goal.invariant-loop-at
invariant-loop-at l = record {
  read : texts_by None (length l.cells) l.cells ≡ option_map (λ (ts : Table). map (λ s. s.now) l.texts.items ++ ts) (texts_by (option_map (λ s. s.now) l.before) (length (drop l.at l.cells)) (drop l.at l.cells));
  within : l.at ≤ length l.cells;
}

abbrev pub decreases-loop-at : goal.decreases-loop-at
decreases-loop-at l = length l.cells - l.at
