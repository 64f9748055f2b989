use Rattle.std.proofs.Common.{rules, refl, ap, ◌≡◌, true}
use Rattle.tree_meaning.specs.Tree.{name, at}
use Rattle.eval_meaning.specs.Paths.{step_of}
use Rattle.program_meaning.specs.Registers.{new_value}
use Rattle.lane_ssa.specs.Making.{lane_at}
use Rattle.lane_ssa.specs.Operands.{takes_one, takes_two}
use Rattle.lane_ssa.specs.Views.{instr_view}
use Rattle.lane_ssa.proofs.OneMade.{mask_read, value_read, of_one, of_pick, one_made, two_made}
use Rattle.lane_ssa.proofs.make.value16.Goals as goal

pub returns-in-Const-clause-legal : goal.returns-in-Const-clause-legal
returns-in-Const-clause-legal c = c.const16.ensures.legal c.args.table.now (c.look_of.ensures.legal c.args.table.now)

pub returns-in-Field-clause-value : goal.returns-in-Field-clause-value
returns-in-Field-clause-value c live i h =
    let table = c.args.table.now in
    let ms = c.args.masks.now in
    let vs = c.args.values.now in
    let names = rw c.in-Field.is at c.requires.names in
    rw c.in-Field.is
    (ap new_value
    (of_one (step_of (name c.in-Field.name)) (c.field16.ensures.value _ (rw c.in-Field.is at c.requires.symbol) i h)
    (mask_read table ms vs i _ _ _ (rw c.in-Field.is at c.mask_of.ensures) names.0)
    (value_read table ms vs i _ _ _ refl c.index-values-of.is names.1)))

pub returns-in-At-clause-value : goal.returns-in-At-clause-value
returns-in-At-clause-value c live i h =
    let table = c.args.table.now in
    let ms = c.args.masks.now in
    let vs = c.args.values.now in
    let names = rw c.in-At.is at c.requires.names in
    rw c.in-At.is
    (ap new_value
    (of_one (step_of (at c.in-At.at)) (c.place16.ensures.value i h)
    (mask_read table ms vs i _ _ _ (rw c.in-At.is at c.mask_of.ensures) names.0)
    (value_read table ms vs i _ _ _ refl c.index-values-of-in-At.is names.1)))

pub returns-in-Merge-clause-value : goal.returns-in-Merge-clause-value
returns-in-Merge-clause-value c live i h =
    let table = c.args.table.now in
    let ms = c.args.masks.now in
    let vs = c.args.values.now in
    let names = rw c.in-Merge.is at c.requires.names in
    rw c.in-Merge.is
    (ap new_value
    (of_pick (c.merge16.ensures.value table i h)
    (mask_read table ms vs i _ _ _ (rw c.in-Merge.is at c.mask_of.ensures) names.0)
    (mask_read table ms vs i _ _ _ refl names.1)
    (value_read table ms vs i _ _ _ refl c.index-values-a.is names.2)
    (value_read table ms vs i _ _ _ refl c.index-values-b.is names.3)))

pub returns-in-Bin-clause-value : goal.returns-in-Bin-clause-value
returns-in-Bin-clause-value c live i h =
    let two : takes_two (instr_view c.args.instr.now) ≡ true = search rules in
    two_made c.args.table.now c.args.masks.now c.args.values.now i (lane_at c.args.table.now live c.args.rows.now i) (instr_view c.args.instr.now) c.mask_of.result c.operand_of-in-Bin.result c.second_of.result _ c.index-values-operand_of-in-Bin.result c.index-values-second_of.result _ two c.requires.names c.mask_of.ensures c.operand_of-in-Bin.ensures c.second_of.ensures c.index-values-operand_of-in-Bin.is c.index-values-second_of.is
    (c.two16.ensures.value c.args.table.now (search rules) (search rules) i h)

pub returns-in_default-clause-value : goal.returns-in_default-clause-value
returns-in_default-clause-value c live i h =
    let one : takes_one (instr_view c.args.instr.now) ≡ true = search rules in
    one_made c.args.table.now c.args.masks.now c.args.values.now i (lane_at c.args.table.now live c.args.rows.now i) (instr_view c.args.instr.now) c.mask_of.result c.operand_of.result _ c.index-values-operand_of.result _ one c.requires.names c.mask_of.ensures c.operand_of.ensures c.index-values-operand_of.is
    (c.one16.ensures.value c.args.table.now (search rules) i h)
