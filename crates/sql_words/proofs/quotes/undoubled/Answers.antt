use Rattle.sql_words.proofs.Kept.{undoubled_utf8}
use Rattle.sql_words.proofs.quotes.undoubled.Goals as goal

pub unreachable-requires : goal.unreachable-requires
unreachable-requires c = c.in-Err.ensures.cases.0 (rw (c.deref.ensures.value, c.in_ok-bytes.ensures, c.as_bytes.ensures.value) (undoubled_utf8 c.args.quote c.requires c.args.text.now c.utf8.text))
