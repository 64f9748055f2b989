use Rattle.std.proofs.Common.{sym, ◌∙◌}
use Rattle.block_meaning.proofs.Answered.{none_is}
use Rattle.ion_cells.specs.Shown.{shown}
use Rattle.ion_cells.proofs.Going.{behind_marked, label_some, label_range, behind_some, field_legal, fields_left, pairs_first, no_pairs, no_label}
use Rattle.ion_cells.proofs.Openings.{behind_found, behind_lost, front_opens}
use Rattle.ion_cells.proofs.fronts.first_field.Goals as goal

pub of_front-requires-clause-legal : goal.of_front-requires-clause-legal
of_front-requires-clause-legal c =
    let front = c.in_ok-front in
    rw c.split_at.ensures.front (field_legal c.args.last c.args.low c.args.bytes.now c.requires (label_some _ _ c.in_ok-label.ensures.number) c.in_ok-label.label _ (behind_marked _ _ _ c.in_ok-label.ensures.number) front.front.end (behind_found _ front.front.tag front.front.start front.front.end front.ensures.within.0 front.ensures.opens))

pub of_front-requires-clause-opens : goal.of_front-requires-clause-opens
of_front-requires-clause-opens c =
    let front = c.in_ok-front in
    rw c.split_at.ensures.front (front_opens _ front.front.tag front.front.start front.front.end front.ensures.within.0 front.ensures.within.1 front.ensures.opens)

pub returns-clause-label : goal.returns-clause-label
returns-clause-label c =
    let r = label_range c.args.last c.args.low c.args.bytes.now c.requires (label_some _ _ c.in_ok-label.ensures.number) c.in_ok-label.label _ (behind_marked _ _ _ c.in_ok-label.ensures.number) in
    (r.0, r.1, r.2, c.in_ok-label.ensures.within.2)

pub returns-clause-item : goal.returns-clause-item
returns-clause-item c =
    let front = c.in_ok-front in
    (c.of_front.ensures.last, rw c.split_at.ensures.back (fields_left c.args.last c.args.low c.args.bytes.now c.requires (label_some _ _ c.in_ok-label.ensures.number) c.in_ok-label.label _ (behind_marked _ _ _ c.in_ok-label.ensures.number) front.front.end (behind_found _ front.front.tag front.front.start front.front.end front.ensures.within.0 front.ensures.opens)))

pub returns-clause-pairs : goal.returns-clause-pairs
unfolding shown
returns-clause-pairs c table h =
    let front = c.in_ok-front in
    rw (c.of_front.ensures.bytes, c.split_at.ensures.front, c.split_at.ensures.back) (pairs_first c.args.last c.args.low c.args.bytes.now c.requires (label_some _ _ c.in_ok-label.ensures.number) c.in_ok-label.label _ (behind_marked _ _ _ c.in_ok-label.ensures.number) front.front.end (behind_found _ front.front.tag front.front.start front.front.end front.ensures.within.0 front.ensures.opens) table h)

pub returns-in_err-front-clause-pairs : goal.returns-in_err-front-clause-pairs
returns-in_err-front-clause-pairs c table h =
    let b = behind_some c.args.last c.args.low c.args.bytes.now c.requires (label_some _ _ c.in_ok-label.ensures.number) c.in_ok-label.label _ (behind_marked _ _ _ c.in_ok-label.ensures.number) in
    absurd (none_is b.0 (behind_lost _ c.in_err-front.ensures.opens ∙ sym b.1))

pub returns-in_err-label-clause-pairs : goal.returns-in_err-label-clause-pairs
returns-in_err-label-clause-pairs c table h = rw c.from_residual.ensures (no_pairs table c.args.low c.args.bytes.now (no_label c.args.last c.args.low c.args.bytes.now c.requires c.in_err-label.ensures.number))
