use Rattle.std.proofs.Common.{◌<◌, length, arith, ◌∙◌, subst, All}
use Rattle.std.specs.Prelude.{map}
use Rattle.std.proofs.lemmas.List.{length-map}
use Rattle.lane_base.specs.Registers.{AreLegal}
use Rattle.lane_ssa.specs.Making.{lane_at}
use Rattle.lane_ssa.specs.Views.{instr_view}
use Rattle.lane_ssa.proofs.LaneRegisters.{viewed_at, pattern_at, is_next, run_next, run_end, all_values}
use Rattle.lane_ssa.proofs.run.run.Goals as goal

pub make-made-requires-clause-names : goal.make-made-requires-clause-names
make-made-requires-clause-names c =
    let long = length-map c.args.instrs.now instr_view in
    let within : c.loop-k.k < length (map instr_view c.args.instrs.now) = omega (arith, long) in
    (is_next c.args.table.now _ _ _ _ (map instr_view c.args.instrs.now) c.loop-k.invariant.masks c.loop-k.invariant.values c.loop-k.invariant.masks_long c.loop-k.invariant.values_long c.loop-k.k _ (lane_at c.args.table.now c.args.live.0 c.args.rows.now 0) within c.requires.program (viewed_at c.args.instrs.now c.loop-k.k _ c.index-instrs-k.is (omega arith)) (c.loop-k.invariant.state 0 (omega arith))).names

pub make-made-requires-clause-mask_room : goal.make-made-requires-clause-mask_room
make-made-requires-clause-mask_room c =
    let long = length-map c.args.instrs.now instr_view in
    let within : c.loop-k.k < length (map instr_view c.args.instrs.now) = omega (arith, long) in
    (is_next c.args.table.now _ _ _ _ (map instr_view c.args.instrs.now) c.loop-k.invariant.masks c.loop-k.invariant.values c.loop-k.invariant.masks_long c.loop-k.invariant.values_long c.loop-k.k _ (lane_at c.args.table.now c.args.live.0 c.args.rows.now 0) within c.requires.program (viewed_at c.args.instrs.now c.loop-k.k _ c.index-instrs-k.is (omega arith)) (c.loop-k.invariant.state 0 (omega arith))).mask_room

pub make-made-requires-clause-value_room : goal.make-made-requires-clause-value_room
make-made-requires-clause-value_room c =
    let long = length-map c.args.instrs.now instr_view in
    let within : c.loop-k.k < length (map instr_view c.args.instrs.now) = omega (arith, long) in
    (is_next c.args.table.now _ _ _ _ (map instr_view c.args.instrs.now) c.loop-k.invariant.masks c.loop-k.invariant.values c.loop-k.invariant.masks_long c.loop-k.invariant.values_long c.loop-k.k _ (lane_at c.args.table.now c.args.live.0 c.args.rows.now 0) within c.requires.program (viewed_at c.args.instrs.now c.loop-k.k _ c.index-instrs-k.is (omega arith)) (c.loop-k.invariant.state 0 (omega arith))).value_room

pub loop-k-preserved : goal.loop-k-preserved
loop-k-preserved c =
    let within : c.loop-k.k < length (map instr_view c.args.instrs.now) = omega (arith, length-map c.args.instrs.now instr_view) in
    record {
      state = λ i h. run_next (lane_at c.args.table.now c.args.live.0 c.args.rows.now i) (map instr_view c.args.instrs.now) c.loop-k.k _ _ _ within (viewed_at c.args.instrs.now c.loop-k.k _ c.index-instrs-k.is (omega arith)) (c.loop-k.invariant.state i h) (c.make-made.ensures.state i h);
      legal = c.make-made.ensures.legal;
      masks = c.make-made.ensures.masks;
      values = c.make-made.ensures.values;
      masks_long = c.make-made.ensures.masks_long ∙ c.loop-k.invariant.masks_long;
      values_long = c.make-made.ensures.values_long ∙ c.loop-k.invariant.values_long;
    }

pub make-made-requires-clause-pattern : goal.make-made-requires-clause-pattern
make-made-requires-clause-pattern c =
    pattern_at c.args.instrs.now c.args.patterns.now c.loop-k.k _ _ c.requires.compiled c.index-instrs-k.is c.index-patterns-k.is (omega arith)

pub returns-clause-state : goal.returns-clause-state
returns-clause-state c i h =
    let long = length-map c.args.instrs.now instr_view in
    run_end c.args.table.now _ _ _ _ (map instr_view c.args.instrs.now) c.loop-k.invariant.masks c.loop-k.invariant.values c.loop-k.invariant.masks_long c.loop-k.invariant.values_long c.loop-k.k i (lane_at c.args.table.now c.args.live.0 c.args.rows.now i) (omega (arith, long)) (c.loop-k.invariant.state i h)

pub returns-clause-legal : goal.returns-clause-legal
returns-clause-legal c =
    let long = length-map c.args.instrs.now instr_view in
    subst (All (AreLegal c.args.table.now)) (all_values c.args.table.now _ _ _ _ (map instr_view c.args.instrs.now) c.loop-k.invariant.masks c.loop-k.invariant.values c.loop-k.invariant.masks_long c.loop-k.invariant.values_long c.loop-k.k 0 (lane_at c.args.table.now c.args.live.0 c.args.rows.now 0) (omega (arith, long)) (c.loop-k.invariant.state 0 (omega arith))) c.loop-k.invariant.legal
