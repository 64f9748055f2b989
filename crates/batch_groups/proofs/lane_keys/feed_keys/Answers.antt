use Rattle.std.proofs.Common.{◌≡◌, ◌<◌, length, ap, ◌∙◌, arith}
use Rattle.std.proofs.lemmas.List.{length-map}
use Rattle.program_meaning.specs.Registers.{value_at}
use Rattle.lane_base.specs.Shown.{is_nested}
use Rattle.lane_ssa.specs.Frames.{state_at}
use Rattle.key_places.specs.Hashes.{fed_value}
use Rattle.batch_groups.specs.Flat.{values_in, IsFlat}
use Rattle.batch_groups.proofs.KeyByKey.{left_of, fed_more, fed_all, passes_at}
use Rattle.batch_groups.proofs.lane_keys.feed_keys.Goals as goal

pub lane-requires-clause-register : goal.lane-requires-clause-register
lane-requires-clause-register c =
    passes_at (λ r. r < length c.args.frame.now.values) c.args.registers.now c.loop-at.at c.in-Some.register c.in-Some.ensures c.requires.1.within

pub feed_look-requires : goal.feed_look-requires
feed_look-requires c =
    let flat = passes_at (IsFlat c.requires.0 c.args.frame.now c.args.lane) c.args.registers.now c.loop-at.at c.in-Some.register c.in-Some.ensures c.requires.1.flat in
    (c.requires.0, c.lane.ensures.legal c.requires.0 c.requires.1.legal, ap is_nested (c.lane.ensures.value c.requires.0) ∙ flat)

pub loop-at-preserved : goal.loop-at-preserved
loop-at-preserved c table =
    let f = value_at (state_at table c.args.frame.now c.args.lane) in
    fed_more (values_in table c.args.frame.now c.args.registers.now c.args.lane) c.loop-at.at (f c.in-Some.register) c.args.state.now c.loop-at.state c.feed_look.new.state
    (left_of f c.args.registers.now c.loop-at.at c.in-Some.register c.in-Some.ensures)
    (c.feed_look.ensures table ∙ ap (λ v. fed_value v c.loop-at.state) (c.lane.ensures.value table))
    (c.loop-at.invariant table)

pub returns : goal.returns
returns c table =
    let l = length-map c.args.registers.now (value_at (state_at table c.args.frame.now c.args.lane)) in
    fed_all (values_in table c.args.frame.now c.args.registers.now c.args.lane) c.loop-at.at c.args.state.now c.loop-at.state (omega arith) (c.loop-at.invariant table)
