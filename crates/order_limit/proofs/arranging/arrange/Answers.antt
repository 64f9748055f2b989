use Rattle.std.proofs.Common.{◌≡◌, ◌∙◌, map, ap, length}
use Rattle.std.proofs.lemmas.List.Sorted.{IsPermutation-trans, IsPermutation-map, All-permutation}
use Rattle.snel_values.specs.Made.{row_view}
use Rattle.answer_meaning.specs.Answers.{limited}
use Rattle.order_limit.specs.Arranged.{Row}
use Rattle.order_limit.proofs.Rows.{sorted_rows, cut_rows}
use Rattle.order_limit.proofs.arranging.arrange.Goals as goal

pub returns : goal.returns
returns c =
    let items = c.sort_rows.new.all.items in
    let moved = IsPermutation-trans c.args.rows (map row_view c.in_ok-all.all.items) (map row_view items) c.in_ok-all.ensures (IsPermutation-map row_view c.in_ok-all.all.items items c.in_ok-sort_rows.ensures.permutation) in
    let keyed = All-permutation (λ (r : Row). length r.0 ≡ length c.args.falling.now) c.args.rows (map row_view items) moved c.requires in
    record {
      arrangement = map row_view items;
      permutes = moved;
      sorted = sorted_rows c.args.falling.now items keyed c.in_ok-sort_rows.ensures.sorted;
      cut = c.in_ok-cut.ensures ∙ ap (map row_view) (c.limit_rows.ensures ∙ ap (limited c.args.take) c.in_ok-kept.ensures) ∙ cut_rows row_view c.args.take c.args.skip items;
    }
