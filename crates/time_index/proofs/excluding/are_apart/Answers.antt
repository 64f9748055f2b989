use Rattle.std.proofs.Common.{◌≡◌, FitsSigned, w64, rules}
use Rattle.std.specs.Int.{int_min, int_max}
use Rattle.std.proofs.lemmas.Int.{to_z-of_z}
use Rattle.time_index.proofs.Apart.{less_is}
use Rattle.time_index.proofs.excluding.are_apart.Goals as goal

pub returns : goal.returns
returns c =
    let f : FitsSigned w64 c.args.least = search rules in
    let g : FitsSigned w64 c.args.greatest = search rules in
    let h : FitsSigned w64 c.args.low = search rules in
    let k : FitsSigned w64 c.args.high = search rules in
    let m : c.min.result ≡ int_min c.args.greatest c.args.high = simp to_z-of_z at c.min.ensures.value in
    let n : c.max.result ≡ int_max c.args.least c.args.low = simp to_z-of_z at c.max.ensures.value in
    less_is c.min.result c.max.result (int_min c.args.greatest c.args.high) (int_max c.args.least c.args.low) (record { sfits = c.min.type_inv }) (record { sfits = c.max.type_inv }) m n
