use Rattle.ion_cells.specs.Shown.{shown}
use Rattle.ion_cells.proofs.Going.{some_found, item_legal, others_legal, values_first, no_values, none_found}
use Rattle.ion_cells.proofs.Openings.{behind_found, behind_lost, front_opens}
use Rattle.ion_cells.proofs.fronts.first_item.Goals as goal

pub of_front-requires-clause-legal : goal.of_front-requires-clause-legal
of_front-requires-clause-legal c =
    let found = behind_found c.args.bytes.now c.in_ok-front.front.tag c.in_ok-front.front.start c.in_ok-front.front.end c.in_ok-front.ensures.within.0 c.in_ok-front.ensures.opens in
    rw c.split_at.ensures.front (item_legal c.args.last c.args.bytes.now c.requires c.in_ok-front.front.end (some_found _ _ found) found)

pub of_front-requires-clause-opens : goal.of_front-requires-clause-opens
of_front-requires-clause-opens c =
    rw c.split_at.ensures.front (front_opens c.args.bytes.now c.in_ok-front.front.tag c.in_ok-front.front.start c.in_ok-front.front.end c.in_ok-front.ensures.within.0 c.in_ok-front.ensures.within.1 c.in_ok-front.ensures.opens)

pub returns-clause-item : goal.returns-clause-item
returns-clause-item c =
    let found = behind_found c.args.bytes.now c.in_ok-front.front.tag c.in_ok-front.front.start c.in_ok-front.front.end c.in_ok-front.ensures.within.0 c.in_ok-front.ensures.opens in
    (c.of_front.ensures.last, rw c.split_at.ensures.back (others_legal c.args.last c.args.bytes.now c.requires c.in_ok-front.front.end (some_found _ _ found) found))

pub returns-clause-values : goal.returns-clause-values
unfolding shown
returns-clause-values c table h =
    let found = behind_found c.args.bytes.now c.in_ok-front.front.tag c.in_ok-front.front.start c.in_ok-front.front.end c.in_ok-front.ensures.within.0 c.in_ok-front.ensures.opens in
    rw (c.of_front.ensures.bytes, c.split_at.ensures.front, c.split_at.ensures.back) (values_first c.args.last c.args.bytes.now c.requires c.in_ok-front.front.end (some_found _ _ found) found table h)

pub returns-in_err-front-clause-values : goal.returns-in_err-front-clause-values
returns-in_err-front-clause-values c table h =
    rw c.from_residual.ensures (no_values table c.args.bytes.now (none_found c.args.last c.args.bytes.now c.requires (behind_lost c.args.bytes.now c.in_err-front.ensures.opens)))
