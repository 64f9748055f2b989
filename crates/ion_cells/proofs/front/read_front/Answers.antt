use Rattle.std.proofs.Common.{◌≡◌, ◌+◌, ◌≤◌, ◌%◌, length, get_or, true, sym, ◌∙◌, arith}
use Rattle.ion_cells.specs.Tags.{is_short}
use Rattle.ion_cells.proofs.Openings.{short_found, short_lost}
use Rattle.ion_cells.proofs.front.read_front.Goals as goal

pub returns-then-bytes-end-clause-opens : goal.returns-then-bytes-end-clause-opens
returns-then-bytes-end-clause-opens c =
    let short : is_short (get_or c.args.bytes.now 0 0) ≡ true = sym c.is_short.ensures ∙ c.if-is_short.true in
    short_lost c.args.bytes.now short (omega (arith, c.from-end.ensures, c.if-bytes-end.true))

pub returns-then-is_short-clause-opens : goal.returns-then-is_short-clause-opens
returns-then-is_short-clause-opens c =
    let short : is_short (get_or c.args.bytes.now 0 0) ≡ true = sym c.is_short.ensures ∙ c.if-is_short.true in
    let room : 1 + get_or c.args.bytes.now 0 0 % 16 ≤ length c.args.bytes.now = omega (arith, c.from-end.ensures, c.if-bytes-end.false) in
    rw (c.type_tag.ensures, c.from-end.ensures) (short_found c.args.bytes.now short room)
