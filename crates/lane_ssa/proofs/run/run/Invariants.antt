use Rattle.std.proofs.Common.{◌≡◌, ℕ, ◌<◌, ◌≤◌, length, take, All}
use Rattle.std.specs.Prelude.{map}
use Rattle.lane_base.specs.Registers.{AreLegal}
use Rattle.program_meaning.specs.Programs.{mask_count, value_count}
use Rattle.program_meaning.specs.Registers.{after}
use Rattle.lane_ssa.specs.Frames.{registers_at}
use Rattle.lane_ssa.specs.Making.{lane_at}
use Rattle.lane_ssa.specs.Views.{instr_view}
use Rattle.lane_ssa.proofs.run.run.Given as goal

abbrev pub invariant-loop-k : goal.invariant-loop-k
invariant-loop-k l = record {
  state : (i : ℕ) → i < 16 → registers_at l.table (take l.made.masks l.masks.items) (take l.made.values l.values.items) i ≡ after (lane_at l.table l.live.0 l.rows i) (take l.k (map instr_view l.instrs));
  legal : All (AreLegal l.table) (take l.made.values l.values.items);
  masks : l.made.masks ≤ length l.masks.items;
  values : l.made.values ≤ length l.values.items;
  masks_long : length l.masks.items ≡ mask_count (map instr_view l.instrs);
  values_long : length l.values.items ≡ value_count (map instr_view l.instrs);
}
