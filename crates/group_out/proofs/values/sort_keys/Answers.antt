use Rattle.std.proofs.Common.{sym, ◌∙◌, ap}
use Rattle.std.specs.Prelude.{slice_get, map, Bool}
use Rattle.tree_meaning.specs.Tree.{Ex, Query}
use Rattle.check_meaning.specs.Places.{order_ex}
use Rattle.query_tree.specs.Parts.{key_view}
use Rattle.query_walk.proofs.Listed.{mapped_at}
use Rattle.query_walk.proofs.Smaller.{taken_more}
use Rattle.hash_agg.specs.Finished.{row_view}
use Rattle.group_out.specs.Values.{value_of_row}
use Rattle.group_out.proofs.values.sort_keys.Goals as goal

pub loop-at-preserved : goal.loop-at-preserved
loop-at-preserved c =
    let q = c.args.checked.now in
    let row = row_view c.args.row.now in
    let key = key_view c.in-Some.key.now in
    let there = sym (c.in-Some.ensures ∙ ap (λ (q : Query). slice_get q.order c.loop-at.at) c.query.ensures.is) in
    taken_more c.loop-at.keys c.push.new.self (map (λ (k : Ex × Bool). value_of_row q row (order_ex q.outs k.0)) q.order) c.loop-at.at _ _
    (mapped_at (λ (k : Ex × Bool). value_of_row q row (order_ex q.outs k.0)) q.order c.loop-at.at key there)
    (c.in_ok-value_over.ensures ∙ ap (value_of_row q row) c.order_ex-expr.ensures) c.in_ok-push.ensures.ok c.loop-at.invariant
