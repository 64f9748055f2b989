use Rattle.std.proofs.Common.{◌≡◌, ◌∙◌, arith, rules, FitsSigned}
use Rattle.std.specs.Int.{w64}
use Rattle.std.proofs.lemmas.Int.{to_z-of_z}
use Rattle.tree_meaning.specs.declared.AggName.TheVariants as aggs
use Rattle.agg_laws.proofs.Adding.{room_for_one, added, sums_added}
use Rattle.agg_laws.proofs.avg_part.AvgPartPartial.add.Goals as goal

pub plus-self-requires : goal.plus-self-requires
plus-self-requires c =
    let room = room_for_one aggs.Avg _ c.requires in
    let one = c.one.ensures.count in
    omega arith

pub returns-in-Some-clause-stands : goal.returns-in-Some-clause-stands
returns-in-Some-clause-stands c =
    let fits : FitsSigned w64 c.in-Some.number = search rules in
    let it : c.one.result.sum ≡ c.in-Some.number = c.one.ensures.sum ∙ to_z-of_z w64 c.in-Some.number fits in
    added aggs.Avg _ _ c.args.item (sums_added c.args.item _ _ _ _ _ _ _ _ c.number_of.ensures c.in-Some.is c.one.ensures.count it c.plus-self.ensures.count c.plus-self.ensures.sum)
