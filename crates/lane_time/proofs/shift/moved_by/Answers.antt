use Rattle.std.proofs.Common.{◌≡◌, ℤ, ◌+ℤ◌, ◌*ℤ◌, pos, true, ap, sym, ◌∙◌, rules, arith, FitsSigned, to_z, of_z, to_z-of_z, w64}
use Rattle.std.specs.Int.{w128}
use Rattle.jiff_core.proofs.SignedLemmas.{signed_arith}
use Rattle.time_meaning.specs.Moments.{is_time, IsTime}
use Rattle.lane_time.proofs.TimeLanes.{is_time-holds}
use Rattle.lane_time.proofs.shift.moved_by.Goals as goal

fits : (t : ℤ) → IsTime t → FitsSigned w64 t
fits t h = omega (arith, signed_arith)

moment_is : (c : goal.Then-is_in_range) → to_z w128 (of_z w128 c.sum_of-moment.result) ≡ c.args.time +ℤ c.args.count *ℤ pos c.args.length
moment_is c =
    let wide : FitsSigned w128 c.sum_of-moment.result = search rules in
    let time = c.ranges.time in
    let count = c.ranges.count in
    to_z-of_z {w = w128} wide ∙ simp to_z-of_z at c.sum_of-moment.ensures

passes : (c : goal.Then-is_in_range) → is_time (c.args.time +ℤ c.args.count *ℤ pos c.args.length) ≡ true
passes c = sym (c.is_in_range.ensures ∙ ap is_time (moment_is c)) ∙ c.if-is_in_range.true

moment_fits : (c : goal.Then-is_in_range) → FitsSigned w64 (c.args.time +ℤ c.args.count *ℤ pos c.args.length)
moment_fits c = fits _ (is_time-holds _ (passes c))

pub overflow_cast-result : goal.overflow_cast-result
overflow_cast-result c = rw (moment_is c) (moment_fits c)

pub returns-then-is_in_range-clause-within : goal.returns-then-is_in_range-clause-within
returns-then-is_in_range-clause-within c = sym (passes c)

pub returns-then-is_in_range-clause-time : goal.returns-then-is_in_range-clause-time
returns-then-is_in_range-clause-time c h = rw (moment_is c) (to_z-of_z {w = w64} (moment_fits c))

pub returns-else-is_in_range-clause-within : goal.returns-else-is_in_range-clause-within
returns-else-is_in_range-clause-within c =
    let wide : FitsSigned w128 c.sum_of-moment.result = search rules in
    let time = c.ranges.time in
    let count = c.ranges.count in
    let moment = to_z-of_z {w = w128} wide ∙ simp to_z-of_z at c.sum_of-moment.ensures in
    sym c.if-is_in_range.false ∙ c.is_in_range.ensures ∙ ap is_time moment
