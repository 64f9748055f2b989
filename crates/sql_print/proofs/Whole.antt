-- The text of a query in three parts.
use Rattle.std.proofs.Common.{◌≡◌, ◌∙◌, ℕ, List, [], ◌++◌, sym, append_assoc}
use Rattle.std.specs.Prelude.{codes}
use Rattle.tree_meaning.specs.Tree.{Query}
use Rattle.query_meaning.specs.RowName.{row_name}
use Rattle.print_meaning.specs.Pieces.{in_quotes}
use Rattle.print_meaning.specs.Print.{skipped, query_text}
use Rattle.print_meaning.specs.Texts.{outs_text, alias_text, clause_text, groups_text, order_text, count_text}
use Rattle.print_meaning.proofs.PrintedLists.{query_is}

three : (o a b c d e f g h : List ℕ) → (codes "SELECT " ++ (o ++ (codes " FROM " ++ (a ++ b)))) ++ ((c ++ (d ++ e)) ++ (f ++ (g ++ h))) ≡ codes "SELECT " ++ (o ++ (codes " FROM " ++ (a ++ (b ++ (c ++ (d ++ (e ++ (f ++ (g ++ h)))))))))
three o a b c d e f g h = simp append_assoc

pub is_whole : (q : Query) (row first second third : List ℕ) → row ≡ row_name q
    → first ≡ [] ++ (codes "SELECT " ++ (outs_text row q.outs ++ (codes " FROM " ++ (in_quotes 34 q.source ++ alias_text q.alias))))
    → second ≡ first ++ (clause_text (codes " WHERE ") row q.filter ++ (groups_text row q.keys ++ clause_text (codes " HAVING ") row q.having))
    → third ≡ second ++ (order_text row q.order ++ (count_text (codes " LIMIT ") q.take ++ count_text (codes " OFFSET ") (skipped q.skip)))
    → third ≡ query_text q
is_whole q row first second third r e f g =
    rw (g, f, e, r) (append_assoc (codes "SELECT " ++ (outs_text (row_name q) q.outs ++ (codes " FROM " ++ (in_quotes 34 q.source ++ alias_text q.alias)))) _ _ ∙ three (outs_text (row_name q) q.outs) (in_quotes 34 q.source) (alias_text q.alias) (clause_text (codes " WHERE ") (row_name q) q.filter) (groups_text (row_name q) q.keys) (clause_text (codes " HAVING ") (row_name q) q.having) (order_text (row_name q) q.order) (count_text (codes " LIMIT ") q.take) (count_text (codes " OFFSET ") (skipped q.skip)) ∙ sym (query_is q))
