use Rattle.std.proofs.Common.{◌∙◌, ℕ, List, ◌++◌, ap, sym, arith}
use Rattle.query_tree.specs.Parts.{key_view}
use Rattle.print_meaning.proofs.PrintedLists.{lists_one, lists_all, key_text, keys_are}
use Rattle.sql_print.proofs.lists.put_keys.Goals as goal

pub loop-at-preserved : goal.loop-at-preserved
loop-at-preserved c =
    lists_one (key_text c.args.row.now) c.args.text.now c.loop-at.text c.put_key.new.text c.loop-at.at c.args.keys.now (key_view c.key_at.result.now) c.key_at.ensures c.in_ok-put_key.ensures c.loop-at.invariant

pub returns : goal.returns
returns c =
    lists_all (key_text c.args.row.now) c.args.text.now c.loop-at.text c.loop-at.at c.args.keys.now (omega (arith, c.loop-at-test.false, c.len-at-end.ensures)) c.loop-at.invariant
    ∙ ap (λ (z : List ℕ). c.args.text.now ++ z) (sym (keys_are c.args.row.now c.args.keys.now))
