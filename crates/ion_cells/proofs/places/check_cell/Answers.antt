use Rattle.ion_cells.proofs.Stands.{stands, stands_nowhere, reads}
use Rattle.ion_cells.proofs.places.check_cell.Goals as goal

pub returns-in-Some-clause-stands : goal.returns-in-Some-clause-stands
returns-in-Some-clause-stands c =
    stands c.args.last_symbol c.args.depth c.saturating_sub.result c.args.bytes.now c.args.at c.saturating_sub.ensures c.in-Some.end c.in-Some.ensures.end

pub returns-in-None-clause-bad : goal.returns-in-None-clause-bad
returns-in-None-clause-bad c =
    stands_nowhere c.args.last_symbol c.args.depth c.saturating_sub.result c.args.bytes.now c.args.at c.saturating_sub.ensures c.in-None.ensures.end

pub returns-in-Some-clause-read : goal.returns-in-Some-clause-read
returns-in-Some-clause-read c =
    reads c.args.last_symbol c.args.depth c.saturating_sub.result c.args.bytes.now c.args.at c.saturating_sub.ensures _ c.in-Some.ensures.end

pub returns-in-None-clause-read : goal.returns-in-None-clause-read
returns-in-None-clause-read c =
    reads c.args.last_symbol c.args.depth c.saturating_sub.result c.args.bytes.now c.args.at c.saturating_sub.ensures _ c.in-None.ensures.end
