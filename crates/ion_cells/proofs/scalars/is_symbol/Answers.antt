use Rattle.std.proofs.Common.{◌≡◌, true, false, sym, ◌∙◌, refl, arith}
use Rattle.std.specs.Prelude.{nat_le}
use Rattle.std.proofs.lemmas.Bool.Decides.{nat_tests}
use Rattle.ion_cells.proofs.Symbols.{symbol_is}
use Rattle.ion_cells.proofs.scalars.is_symbol.Goals as goal

pub returns-then-number-ge10 : goal.returns-then-number-ge10
returns-then-number-ge10 c =
    let e : nat_le 10 c.args.number ≡ true = grind (arith, nat_tests, c.if-number-ge10.true) in
    rw c.from.ensures (sym (symbol_is c.args.last c.args.number ∙ rw e refl))

pub returns-else-number-ge10 : goal.returns-else-number-ge10
returns-else-number-ge10 c =
    let e : nat_le 10 c.args.number ≡ false = grind (arith, nat_tests, c.if-number-ge10.false) in
    e ∙ sym (symbol_is c.args.last c.args.number ∙ rw e refl)
