use Rattle.std.proofs.Common.{◌≡◌, ◌<◌, true, false, length, ap, sym, ◌∙◌, arith}
use Rattle.std.specs.Prelude.{◌↔◌}
use Rattle.std.proofs.lemmas.List.{length-map}
use Rattle.snel_values.specs.View.{view, views}
use Rattle.program_meaning.specs.Registers.{value_at}
use Rattle.lane_base.specs.Shown.{is_nested}
use Rattle.lane_ssa.specs.Frames.{state_at}
use Rattle.batch_groups.specs.Flat.{values_in, IsFlat}
use Rattle.batch_groups.proofs.KeyByKey.{left_of, left_at, passes_at, told_apart, still_alike, alike, unlike, none_past}
use Rattle.batch_groups.proofs.lane_keys.are_keys.Goals as goal

pub returns-then-len-values : goal.returns-then-len-values
returns-then-len-values c table =
    let l = length-map c.args.registers.now (value_at (state_at table c.args.frame.now c.args.lane)) in
    let k = length-map c.args.values.now view in
    unlike (values_in table c.args.frame.now c.args.registers.now c.args.lane) (views c.args.values.now) (λ e. c.if-len-values.true (omega arith))

pub lane-requires-clause-register : goal.lane-requires-clause-register
lane-requires-clause-register c =
    passes_at (λ r. r < length c.args.frame.now.values) c.args.registers.now c.loop-at.at c.in-Some.register c.in-Some.ensures c.requires.1.within

pub same_look-requires : goal.same_look-requires
same_look-requires c =
    let flat = passes_at (IsFlat c.requires.0 c.args.frame.now c.args.lane) c.args.registers.now c.loop-at.at c.in-Some.register c.in-Some.ensures c.requires.1.flat in
    (c.requires.0, c.lane.ensures.legal c.requires.0 c.requires.1.legal, ap is_nested (c.lane.ensures.value c.requires.0) ∙ flat)

pub returns-then-not-same_look : goal.returns-then-not-same_look
returns-then-not-same_look c table =
    let f = value_at (state_at table c.args.frame.now c.args.lane) in
    let own = c.lane.ensures.value table in
    let test = c.same_look.ensures table in
    told_apart (values_in table c.args.frame.now c.args.registers.now c.args.lane) (views c.args.values.now) c.loop-at.at (f c.in-Some.register) (view c.index-values-at.result) c.same_look.result
    (left_of f c.args.registers.now c.loop-at.at c.in-Some.register c.in-Some.ensures)
    (left_at view c.args.values.now c.loop-at.at c.index-values-at.result (omega arith) c.index-values-at.is)
    (λ t. sym own ∙ test.0 t, λ e. test.1 (own ∙ e)) (c.loop-at.invariant table) c.if-not-same_look.true

pub loop-at-preserved : goal.loop-at-preserved
loop-at-preserved c table =
    let f = value_at (state_at table c.args.frame.now c.args.lane) in
    let own = c.lane.ensures.value table in
    let test = c.same_look.ensures table in
    still_alike (values_in table c.args.frame.now c.args.registers.now c.args.lane) (views c.args.values.now) c.loop-at.at (f c.in-Some.register) (view c.index-values-at.result) c.same_look.result
    (left_of f c.args.registers.now c.loop-at.at c.in-Some.register c.in-Some.ensures)
    (left_at view c.args.values.now c.loop-at.at c.index-values-at.result (omega arith) c.index-values-at.is)
    (λ t. sym own ∙ test.0 t, λ e. test.1 (own ∙ e)) (c.loop-at.invariant table) c.if-not-same_look.false

pub returns : goal.returns
returns c table =
    let l = length-map c.args.registers.now (value_at (state_at table c.args.frame.now c.args.lane)) in
    let k = length-map c.args.values.now view in
    alike (values_in table c.args.frame.now c.args.registers.now c.args.lane) (views c.args.values.now) c.loop-at.at (omega arith) (omega arith) (c.loop-at.invariant table)

pub unreachable-requires : goal.unreachable-requires
unreachable-requires c = none_past c.args.registers.now c.loop-at.at (omega arith) (sym c.in_default.is ∙ c.get.ensures)
