use Rattle.std.proofs.Common.{refl, arith}
use Rattle.ion_cells.specs.Shown.{shown}
use Rattle.ion_cells.proofs.Stands.{cell_read, stands_nowhere, cell_between, legal_stands}
use Rattle.ion_cells.proofs.places.cell_at.Goals as goal

pub of_bytes-requires : goal.of_bytes-requires
of_bytes-requires c =
    cell_between c.args.last_symbol c.args.bytes.now c.args.at c.in-Some.end (omega (arith, c.in-Some.ensures.within.0)) c.in-Some.ensures.end

pub returns-in-Some-clause-shows : goal.returns-in-Some-clause-shows
unfolding shown
returns-in-Some-clause-shows c table h =
    let legal = cell_between c.args.last_symbol c.args.bytes.now c.args.at c.in-Some.end (omega (arith, c.in-Some.ensures.within.0)) c.in-Some.ensures.end in
    rw c.of_bytes.ensures.bytes (legal_stands table c.args.last_symbol _ legal h)

pub returns-in-None-clause-bad : goal.returns-in-None-clause-bad
returns-in-None-clause-bad c =
    stands_nowhere c.args.last_symbol 0 128 c.args.bytes.now c.args.at refl c.in-None.ensures.end

pub returns-in-Some-clause-read : goal.returns-in-Some-clause-read
unfolding shown
returns-in-Some-clause-read c table h =
    rw c.of_bytes.ensures.bytes (cell_read table c.args.last_symbol c.args.bytes.now c.args.at c.in-Some.end h (omega (arith, c.in-Some.ensures.within.0)) c.in-Some.ensures.within.1 c.in-Some.ensures.end)
