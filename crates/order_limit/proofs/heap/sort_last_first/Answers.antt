use Rattle.std.proofs.Common.{rules}
use Rattle.std.proofs.lemmas.List.Sorted.{IsStrictWeakOrder-flip}
use Rattle.std.proofs.lemmas.Fn.{always_returns_same}
use Rattle.snel_values.specs.declared.made.MadeRow.{MadeRow}
use Rattle.order_limit.specs.Heaps.{row_before}
use Rattle.order_limit.proofs.Standing.{made_ranked}
use Rattle.order_limit.proofs.heap.sort_last_first.Goals as goal

pub returns-clause-sorted : goal.returns-clause-sorted
returns-clause-sorted c =
    let f = c.args.falling.now in
    c.sort_unstable_by.ensures.sorted (λ (x y : MadeRow). row_before f y x) (IsStrictWeakOrder-flip (row_before f) (made_ranked f)) (always_returns_same _ _ _ (λ a r g h. search rules))
