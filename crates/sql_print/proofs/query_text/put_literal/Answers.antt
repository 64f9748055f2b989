use Rattle.snel_values.specs.View.{view}
use Rattle.print_meaning.specs.Texts.{literal_text}
use Rattle.sql_print.proofs.PiecesUtf8.{with_piece, literal_utf8}
use Rattle.sql_print.proofs.query_text.put_literal.Goals as goal

pub invariant_of-text : goal.invariant_of-text
invariant_of-text c =
    with_piece c.text.inside.bytes c.put_literal.new.text (literal_text (view c.args.value.now)) c.in-Ok.ensures c.text.invariant (literal_utf8 (view c.args.value.now) c.requires c.know.ensures)
