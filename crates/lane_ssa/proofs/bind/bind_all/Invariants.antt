use Rattle.std.proofs.Common.{◌≡◌, ℕ, ◌<◌, ◌≤◌, length, slice_index_or, vec_capacity}
use Rattle.program_meaning.specs.Instructions as instr
use Rattle.std.specs.Prelude.{map}
use Rattle.lane_ssa.specs.Bound.{IsSymbolOf, no_symbol}
use Rattle.lane_ssa.specs.Views.{instr_view}
use Rattle.lane_ssa.proofs.bind.bind_all.Given as goal

abbrev pub invariant-loop-instr : goal.invariant-loop-instr
invariant-loop-instr l = record {
  long : length l.symbols.items ≡ l.instr-index;
  room : length l.instrs ≤ vec_capacity l.symbols;
  symbol : (k : ℕ) → k < l.instr-index → IsSymbolOf l.table (slice_index_or (map instr_view l.instrs) k instr.all) (slice_index_or l.symbols.items k no_symbol);
}
