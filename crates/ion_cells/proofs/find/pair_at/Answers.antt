use Rattle.std.proofs.Common.{◌≡◌, ◌+◌, ◌<◌, ◌≤◌, ◌%◌, length, get_or, true, sym, ◌∙◌, arith}
use Rattle.ion_cells.specs.Tags.{is_short}
use Rattle.ion_cells.proofs.PairFronts.{short_pair, short_pair_lost}
use Rattle.ion_cells.proofs.find.pair_at.Goals as goal

pub returns-then-bytes-end-clause-front : goal.returns-then-bytes-end-clause-front
returns-then-bytes-end-clause-front c =
    let short : is_short (get_or c.args.bytes.now (c.args.at + 1) 0) ≡ true = sym c.is_short.ensures ∙ c.if-is_short.true in
    short_pair_lost c.args.bytes.now c.args.at (omega arith) c.if-bytes-at-ge128.true short (omega (arith, c.from.ensures, c.if-bytes-end.true))

pub returns-then-is_short-clause-front : goal.returns-then-is_short-clause-front
returns-then-is_short-clause-front c =
    let short : is_short (get_or c.args.bytes.now (c.args.at + 1) 0) ≡ true = sym c.is_short.ensures ∙ c.if-is_short.true in
    let fits : c.args.at + 2 + get_or c.args.bytes.now (c.args.at + 1) 0 % 16 ≤ length c.args.bytes.now = omega (arith, c.from.ensures, c.if-bytes-end.false) in
    rw (c.from.ensures, c.from-then-is_short.ensures) (short_pair c.args.bytes.now c.args.at (omega arith) c.if-bytes-at-ge128.true short fits)
