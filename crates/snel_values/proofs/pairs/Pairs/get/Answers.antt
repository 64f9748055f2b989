use Rattle.std.proofs.Common.{◌≡◌, sym, arith, nat_eq, true, false}
use Rattle.std.specs.Cmp.Lexicographic.{pointwise}
use Rattle.snel_values.proofs.Finding.{found_here, not_here}
use Rattle.snel_values.proofs.pairs.Pairs.get.Goals as goal

pub returns-then-eq : goal.returns-then-eq
returns-then-eq c =
    let test : pointwise nat_eq c.pair-item.result.name c.args.name.now ≡ true = cc in
    let found = found_here c.args.name.now c.deref-pair-items.result.now _ c.pair-item.result _ (omega arith) c.pair-item.is c.loop-pair.invariant test in
    rw (← c.self.view_is, ← c.deref-pair-items.ensures.value) (sym found)

pub loop-pair-preserved : goal.loop-pair-preserved
loop-pair-preserved c =
    let test : pointwise nat_eq c.pair-item.result.name c.args.name.now ≡ false = cc in
    not_here c.args.name.now c.deref-pair-items.result.now _ c.pair-item.result _ (omega arith) c.pair-item.is c.loop-pair.invariant test
