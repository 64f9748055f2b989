use Rattle.ion_cells.proofs.PairFronts.{long_front, long_lost}
use Rattle.ion_cells.proofs.find.long_pair_at.Goals as goal

pub returns-in_err-front-clause-front : goal.returns-in_err-front-clause-front
returns-in_err-front-clause-front c =
    rw c.from_residual-in_err-front.ensures (long_lost c.args.bytes.now c.args.at c.in_ok-label.label c.in_ok-label.start c.in_ok-label.ensures.number c.in_err-front.ensures.opens)

pub returns-clause-front : goal.returns-clause-front
returns-clause-front c =
    let front = c.in_ok-front in
    long_front c.args.bytes.now c.args.at c.in_ok-label.label c.in_ok-label.start c.in_ok-label.ensures.number front.front.tag front.front.start front.front.end front.ensures.within.0 front.ensures.opens
