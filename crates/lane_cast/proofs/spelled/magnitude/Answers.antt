use Rattle.std.proofs.Common.{◌≡◌, ◌+◌, ◌-◌, ◌*◌, ◌<◌, ◌≤◌, ℕ, List, None, false, refl, drop, arith, get_or}
use Rattle.std.specs.Prelude.{nat_le}
use Rattle.std.proofs.lemmas.Bool.Decides.{nat_tests}
use Rattle.tree_meaning.specs.Decimals.{decimal_on}
use Rattle.tree_meaning.proofs.Decimals.{decimal_at, decimal_grows}
use Rattle.lane_cast.specs.Spelled.{up_to_limit}
use Rattle.lane_cast.proofs.spelled.magnitude.Goals as goal

too_large : (bs : List ℕ) (n : ℕ) → 9_223_372_036_854_775_808 < n → n ≤ decimal_on 0 bs → None ≡ up_to_limit (decimal_on 0 bs)
too_large bs n h g = let t : nat_le (decimal_on 0 bs) 9_223_372_036_854_775_808 ≡ false = grind (arith, nat_tests) in rw t refl

pub returns-then-number-gt922337203685477580 : goal.returns-then-number-gt922337203685477580
returns-then-number-gt922337203685477580 c =
    let ds = c.args.digits.now in
    let i = c.loop-digit.digit-index in
    let next = decimal_at ds i c.loop-digit.number c.loop-digit-test.true in
    let grows = decimal_grows (drop (i + 1) ds) (c.loop-digit.number * 10 + (get_or ds i 0 - 48)) in
    too_large ds (c.loop-digit.number * 10) (omega arith) (omega (arith, c.loop-digit.invariant.1))

pub returns-then-number-gt9223372036854775808 : goal.returns-then-number-gt9223372036854775808
returns-then-number-gt9223372036854775808 c =
    let ds = c.args.digits.now in
    let i = c.loop-digit.digit-index in
    let next = decimal_at ds i c.loop-digit.number c.loop-digit-test.true in
    let grows = decimal_grows (drop (i + 1) ds) (c.loop-digit.number * 10 + (get_or ds i 0 - 48)) in
    too_large ds (c.loop-digit.number * 10 + (get_or ds i 0 - 48)) (omega arith) (omega (arith, c.loop-digit.invariant.1))
