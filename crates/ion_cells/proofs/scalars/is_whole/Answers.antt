use Rattle.std.proofs.Common.{◌≡◌, sym, ◌∙◌, true, ltb, arith, length}
use Rattle.std.proofs.lemmas.Bool.Decides.{nat_tests}
use Rattle.ion_cells.proofs.ShortNumbers.{short_whole}
use Rattle.ion_cells.proofs.scalars.is_whole.Goals as goal

pub returns-then-payload-lt8 : goal.returns-then-payload-lt8
returns-then-payload-lt8 c =
    let few : ltb (length c.args.payload.now) 8 ≡ true = grind (arith, nat_tests, c.if-payload-lt8.true) in
    few ∙ sym (short_whole c.args.payload.now c.if-payload-lt8.true (λ k. omega (arith, c.type_inv.payload k)))
