use Rattle.std.proofs.Common.{◌∙◌, ℕ, List, ◌++◌, codes, ap}
use Rattle.print_meaning.specs.Pieces.{in_quotes}
use Rattle.print_meaning.specs.Texts.{outs_text, alias_text}
use Rattle.query_tree.specs.Queries.{query_view}
use Rattle.sql_print.proofs.Whole.{is_whole}
use Rattle.sql_print.proofs.query.print.Goals as goal

pub returns : goal.returns
returns c =
    let q = query_view c.args.query.now in
    let row = c.row_name-row.result.now in
    let front = codes "SELECT " ++ (outs_text row q.outs ++ (codes " FROM " ++ (in_quotes 34 q.source ++ alias_text q.alias))) in
    is_whole q row c.put_front.new.text c.put_middle.new.text c.put_end.new.text c.row_name-row.ensures (c.in_ok-put_front.ensures ∙ ap (λ (z : List ℕ). z ++ front) c.new-text.ensures) c.in_ok-put_middle.ensures c.in_ok-put_end.ensures
