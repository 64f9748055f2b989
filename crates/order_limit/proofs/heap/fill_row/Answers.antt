use Rattle.std.proofs.Common.{◌∷◌, [], length, ap, ◌∙◌, arith, length-append}
use Rattle.std.proofs.lemmas.List.Sorted.{length_permutation}
use Rattle.order_limit.specs.Heaps.{row_before}
use Rattle.order_limit.proofs.Heaps.{falling_is_heap}
use Rattle.order_limit.proofs.Standing.{made_ranked}
use Rattle.order_limit.proofs.heap.fill_row.Goals as goal

pub returns-then-len-most-clause-kept : goal.returns-then-len-most-clause-kept
returns-then-len-most-clause-kept c =
    let f = c.args.falling.now in
    let items = c.sort_last_first.new.rows.items in
    let more = ap length c.in-Ok.ensures.items ∙ length-append c.args.rows.now.items (c.args.row ∷ []) in
    record {
      few = omega (arith, length_permutation _ items c.sort_last_first.ensures.permutation, more, c.requires.room);
      heap = λ e. falling_is_heap (row_before f) (made_ranked f) items c.sort_last_first.ensures.sorted;
    }
