use Rattle.std.proofs.Common.{◌≡◌, map}
use Rattle.agg_laws.specs.Parts.{part_name, part_kept}
use Rattle.hash_agg.specs.Items.{alone_all}
use Rattle.hash_agg.proofs.Steps.{partially}
use Rattle.hash_agg.proofs.group.add_each.Given as goal

abbrev pub invariant-loop-i : goal.invariant-loop-i
invariant-loop-i l = record {
  names : map part_name l.parts ≡ map part_name l.initial.parts;
  states : map part_kept l.parts ≡ partially l.i (map part_name l.initial.parts) (map part_kept l.initial.parts) (alone_all (map part_name l.initial.parts) l.items);
}
