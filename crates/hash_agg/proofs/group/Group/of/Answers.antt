use Rattle.std.proofs.Common.{◌∙◌, ap}
use Rattle.hash_agg.specs.Groups.{Entry}
use Rattle.hash_agg.proofs.Rows.{first_states, first_room}
use Rattle.hash_agg.proofs.group.Group.of.Goals as goal

pub add-requires-clause-room : goal.add-requires-clause-room
add-requires-clause-room w c =
    first_room c.args.aggs.now c.in_ok-no_parts.field-0.items c.in_ok-no_parts.ensures.names c.in_ok-no_parts.ensures.states

pub returns-clause-entry : goal.returns-clause-entry
returns-clause-entry w c =
    let states = first_states c.args.aggs.now c.in_ok-no_parts.field-0.items c.args.items.now c.add.new.self.parts.items c.in_ok-no_parts.ensures.names c.in_ok-no_parts.ensures.states (ap (λ (e : Entry). e.1) c.add.ensures.entry) in
    λ i. ((ap (λ (e : Entry). e.0) c.add.ensures.entry ∙ c.in_ok-build.ensures) i, states i)
