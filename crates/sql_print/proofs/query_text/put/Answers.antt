use Rattle.sql_print.proofs.PiecesUtf8.{whole_or_none}
use Rattle.sql_print.proofs.query_text.put.Goals as goal

pub invariant_of-text : goal.invariant_of-text
invariant_of-text c =
    whole_or_none c.put.result c.text.inside.bytes c.put.new.text c.args.piece.now c.put.ensures.ok c.put.ensures.err c.text.invariant c.utf8.piece
