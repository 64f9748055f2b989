use Rattle.std.proofs.Common.{[], ◌∷◌, ◌++◌, refl, arith}
use Rattle.print_meaning.proofs.PrintedLists.{quoted_all}
use Rattle.sql_pieces.proofs.quotes.put_in_quotes.Goals as goal

pub returns : goal.returns
returns c =
    let bytes = c.args.bytes.now in
    let e = quoted_all c.args.text.now (c.args.text.now ++ c.args.quote ∷ []) c.loop-byte.text bytes bytes c.args.quote c.loop-byte.byte-index refl refl (omega (arith, c.loop-byte-test.false)) c.loop-byte.invariant in
    rw (← e) c.push_all-2.ensures.ok
