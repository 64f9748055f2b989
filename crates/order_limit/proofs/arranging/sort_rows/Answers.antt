use Rattle.std.proofs.Common.{rules}
use Rattle.std.specs.Ordering.{is_lt}
use Rattle.std.proofs.lemmas.List.Sorted.{ranks_by}
use Rattle.std.proofs.lemmas.Fn.{always_returns_same}
use Rattle.snel_values.specs.declared.made.MadeRow.{MadeRow}
use Rattle.order_limit.specs.Padded.{padded_cmp}
use Rattle.order_limit.proofs.Keys.{padded_total}
use Rattle.order_limit.proofs.arranging.sort_rows.Goals as goal

pub returns-clause-sorted : goal.returns-clause-sorted
returns-clause-sorted c =
    c.in_ok-sort_by.ensures.sorted (λ (x y : MadeRow). is_lt (padded_cmp c.args.falling.now x.keys y.keys)) (ranks_by (padded_total c.args.falling.now) (λ (x : MadeRow). x.keys)) (always_returns_same _ _ _ (λ a r g h. search rules))
