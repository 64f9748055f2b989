use Rattle.std.proofs.Common.{arith, map}
use Rattle.hash_agg.specs.Entries.{entry_of}
use Rattle.hash_agg.specs.Groups.{partials_at}
use Rattle.hash_agg.proofs.Merging.{count_more, one_at_most}
use Rattle.hash_agg.proofs.groups.new_in.Goals as goal

pub loop-i-preserved : goal.loop-i-preserved
loop-i-preserved c =
    let there = map entry_of c.args.all.now in
    let one = c.one_if_new-count.ensures in
    let few = one_at_most (partials_at c.index-more-i.result.keys there) in
    let next = count_more there c.args.more.now c.loop-i.i c.index-more-i.result (omega arith) c.index-more-i.is in
    let is = c.loop-i.invariant.is in
    let below = c.loop-i.invariant.few in
    record { few = omega arith; is = omega arith }
