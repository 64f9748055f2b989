use Rattle.std.proofs.Common.{◌∙◌, ◌+ℤ◌, ◌*ℤ◌, pos, FitsSigned, to_z-of_z, w64}
use Rattle.std.specs.Int.{w128}
use Rattle.lane_time.proofs.FarSums.{count_fits, length_fits, distance_fits, sum_fits}
use Rattle.lane_time.proofs.shift.sum_of.Goals as goal

pub overflow_mul-distance : goal.overflow_mul-distance
overflow_mul-distance c =
    let count = c.from.ensures ∙ to_z-of_z {w = w64} c.ranges.count in
    let length = c.from-2.ensures in
    let count_is_small : FitsSigned w128 c.args.count = count_fits c.args.count c.ranges.count in
    let length_is_small : FitsSigned w128 (pos c.args.length) = length_fits c.args.length c.requires in
    simp (count, length, to_z-of_z) (distance_fits c.args.count c.args.length c.ranges.count c.requires)

pub overflow_add-result : goal.overflow_add-result
overflow_add-result c =
    let count = c.from.ensures ∙ to_z-of_z {w = w64} c.ranges.count in
    let length = c.from-2.ensures in
    let time = c.from-3.ensures ∙ to_z-of_z {w = w64} c.ranges.time in
    let count_is_small : FitsSigned w128 c.args.count = count_fits c.args.count c.ranges.count in
    let length_is_small : FitsSigned w128 (pos c.args.length) = length_fits c.args.length c.requires in
    let time_is_small : FitsSigned w128 c.args.time = count_fits c.args.time c.ranges.time in
    let distance_is_small : FitsSigned w128 (c.args.count *ℤ pos c.args.length) = distance_fits c.args.count c.args.length c.ranges.count c.requires in
    simp (count, length, time, to_z-of_z) (sum_fits c.args.time c.args.count c.args.length c.ranges.time c.ranges.count c.requires)

pub returns : goal.returns
returns c =
    let count = c.from.ensures ∙ to_z-of_z {w = w64} c.ranges.count in
    let length = c.from-2.ensures in
    let time = c.from-3.ensures ∙ to_z-of_z {w = w64} c.ranges.time in
    let count_is_small : FitsSigned w128 c.args.count = count_fits c.args.count c.ranges.count in
    let length_is_small : FitsSigned w128 (pos c.args.length) = length_fits c.args.length c.requires in
    let time_is_small : FitsSigned w128 c.args.time = count_fits c.args.time c.ranges.time in
    let distance_is_small : FitsSigned w128 (c.args.count *ℤ pos c.args.length) = distance_fits c.args.count c.args.length c.ranges.count c.requires in
    let sum_is_small : FitsSigned w128 (c.args.time +ℤ c.args.count *ℤ pos c.args.length) = sum_fits c.args.time c.args.count c.args.length c.ranges.time c.ranges.count c.requires in
    simp (count, length, time, to_z-of_z)
