use Rattle.std.proofs.Common.{◌∙◌, map, arith, []}
use Rattle.std.proofs.lemmas.List.{length-map, take_all}
use Rattle.agg_meaning.specs.Partials.{partial_of}
use Rattle.agg_laws.specs.Parts.{part_name, part_kept}
use Rattle.hash_agg.proofs.Steps.{taken_seen, taken_named, no_partials}
use Rattle.hash_agg.proofs.group.no_parts.Goals as goal

pub loop-agg-preserved : goal.loop-agg-preserved
loop-agg-preserved c = record {
  names = taken_named part_name c.args.aggs.now c.loop-agg.agg-index _ c.empty.result c.loop-agg.parts.items c.push.new.self.items (omega arith) c.empty.ensures.name c.in_ok-push.ensures.items c.loop-agg.invariant.names;
  states = taken_seen (λ n. partial_of n []) part_kept c.args.aggs.now c.loop-agg.agg-index _ c.empty.result c.loop-agg.parts.items c.push.new.self.items (omega arith) c.empty.ensures.stands c.in_ok-push.ensures.items c.loop-agg.invariant.states;
}

pub returns-clause-states : goal.returns-clause-states
returns-clause-states c =
    let l = length-map c.args.aggs.now (λ n. partial_of n []) in
    c.loop-agg.invariant.states ∙ take_all c.loop-agg.agg-index (map (λ n. partial_of n []) c.args.aggs.now) (omega arith) ∙ no_partials c.args.aggs.now
