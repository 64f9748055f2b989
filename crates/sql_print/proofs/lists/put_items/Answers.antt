use Rattle.std.proofs.Common.{◌∙◌, ℕ, List, ◌++◌, ap, sym, arith}
use Rattle.query_tree.specs.Parts.{item_view}
use Rattle.print_meaning.proofs.PrintedLists.{lists_one, lists_all, item_text, items_are}
use Rattle.sql_print.proofs.lists.put_items.Goals as goal

pub loop-at-preserved : goal.loop-at-preserved
loop-at-preserved c =
    lists_one (item_text c.args.row.now) c.args.text.now c.loop-at.text c.put_item.new.text c.loop-at.at c.args.items.now (item_view c.item_at.result.now) c.item_at.ensures c.in_ok-put_item.ensures c.loop-at.invariant

pub returns : goal.returns
returns c =
    lists_all (item_text c.args.row.now) c.args.text.now c.loop-at.text c.loop-at.at c.args.items.now (omega (arith, c.loop-at-test.false, c.len-at-end.ensures)) c.loop-at.invariant
    ∙ ap (λ (z : List ℕ). c.args.text.now ++ z) (sym (items_are c.args.row.now c.args.items.now))
