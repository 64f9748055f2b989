use Rattle.std.proofs.Common.{arith}
use Rattle.print_meaning.specs.Pieces.{in_quotes}
use Rattle.sql_print.proofs.PiecesUtf8.{with_piece, quoted_utf8}
use Rattle.sql_print.proofs.query_text.put_name.Goals as goal

pub invariant_of-text : goal.invariant_of-text
invariant_of-text c =
    with_piece c.text.inside.bytes c.put_name.new.text (in_quotes 34 c.args.name.now) c.in-Ok.ensures c.text.invariant (quoted_utf8 34 c.args.name.now (omega arith) c.utf8.name)
