use Rattle.std.proofs.Common.{FitsSigned, w64, to_z-of_z}
use Rattle.lane_cast.proofs.Fitting.{multiplied}
use Rattle.lane_cast.proofs.numbers.one.Goals as goal

pub returns-in-Mul : goal.returns-in-Mul
returns-in-Mul c =
    let fits_x : FitsSigned w64 c.args.x = c.ranges.x in
    let fits_y : FitsSigned w64 c.args.y = c.ranges.y in
    let value = simp to_z-of_z at c.overflowing_mul-product.ensures.value in
    let overflow = simp to_z-of_z at c.overflowing_mul-product.ensures.overflow in
    rw c.in-Mul.is (multiplied c.args.x c.args.y c.overflowing_mul-product.result.0 c.overflowing_mul-product.result.1 fits_x fits_y value overflow)
