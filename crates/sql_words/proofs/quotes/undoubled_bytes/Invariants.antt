use Rattle.std.proofs.Common.{◌≡◌, ◌++◌, drop}
use Rattle.query_meaning.specs.Tokens as spec
use Rattle.sql_words.proofs.Doubled.{left}
use Rattle.sql_words.proofs.quotes.undoubled_bytes.Given as goal

abbrev pub invariant-loop-byte : goal.invariant-loop-byte
invariant-loop-byte l = spec.undoubled l.quote l.bytes ≡ l.all.items ++ left l.quote l.held (drop l.byte-index l.bytes)
