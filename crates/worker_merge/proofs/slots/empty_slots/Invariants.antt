use Rattle.std.proofs.Common.{◌≡◌, None, length, All}
use Rattle.worker_merge.proofs.slots.empty_slots.Given as goal

abbrev pub invariant-loop : goal.invariant-loop
invariant-loop l = record {
  count : length l.slots.items ≡ l.counter;
  none : All (λ o. o ≡ None) l.slots.items;
}
