use Rattle.std.proofs.Common.{◌≤◌, length, arith}
use Rattle.ion_cells.proofs.Wholes.{is_opened, whole_opens}
use Rattle.ion_cells.proofs.cell.Cell.of_bytes.Goals as goal

pub unreachable-requires : goal.unreachable-requires
unreachable-requires c = is_opened c.args.last c.args.bytes.now c.requires c.in-None.ensures.opens

pub invariant_of-result-clause-opens : goal.invariant_of-result-clause-opens
invariant_of-result-clause-opens c =
    let w = c.in-Some.ensures.within in
    let within : c.in-Some.front.start ≤ length c.args.bytes.now = omega (arith, w.0, w.1) in
    whole_opens c.args.last c.args.bytes.now c.requires c.in-Some.front.tag c.in-Some.front.start c.in-Some.front.end within c.in-Some.ensures.opens
