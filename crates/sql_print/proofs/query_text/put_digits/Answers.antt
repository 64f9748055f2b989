use Rattle.std.proofs.Common.{arith}
use Rattle.std.specs.Prelude.{decimal}
use Rattle.sql_print.proofs.PiecesUtf8.{whole_or_none, digits_utf8}
use Rattle.sql_print.proofs.query_text.put_digits.Goals as goal

pub invariant_of-text : goal.invariant_of-text
invariant_of-text c =
    whole_or_none c.put_digits.result c.text.inside.bytes c.put_digits.new.text (decimal c.args.number) c.put_digits.ensures.ok c.put_digits.ensures.err c.text.invariant (digits_utf8 c.args.number (omega arith))
