use Rattle.std.proofs.Common.{◌≡◌, map, take, []}
use Rattle.agg_meaning.specs.Partials.{partial_of}
use Rattle.agg_laws.specs.Parts.{part_name, part_kept}
use Rattle.hash_agg.proofs.group.no_parts.Given as goal

abbrev pub invariant-loop-agg : goal.invariant-loop-agg
invariant-loop-agg l = record {
  names : map part_name l.parts.items ≡ take l.agg-index l.aggs;
  states : map part_kept l.parts.items ≡ take l.agg-index (map (λ n. partial_of n []) l.aggs);
}
