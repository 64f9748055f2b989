use Rattle.std.proofs.Common.{◌∙◌, ap}
use Rattle.tree_meaning.specs.Tree.{name}
use Rattle.eval_meaning.specs.Paths.{step_of}
use Rattle.ion_cells.specs.Shown.{shown}
use Rattle.ion_cells.specs.Values.{pairs_in}
use Rattle.lane_field.proofs.OwnTables.{own}
use Rattle.lane_field.proofs.Parts.{pair_legal, pair_value, find_none}
use Rattle.lane_field.proofs.find.field_of.Goals as goal

pub returns-in-Some-clause-legal : goal.returns-in-Some-clause-legal
returns-in-Some-clause-legal c table under =
    pair_legal table c.whole-cell.result (c.whole-cell.ensures.of table under) c.in-Some.pairs c.args.label c.find.result c.find.ensures c.in-Some.ensures.pairs c.in-Some.ensures.last

pub returns-in-Some-clause-value : goal.returns-in-Some-clause-value
returns-in-Some-clause-value c table n under named =
    pair_value table c.whole-cell.result (c.whole-cell.ensures.of table under) c.in-Some.pairs c.args.label c.find.result c.find.ensures c.in-Some.ensures.pairs c.in-Some.ensures.last n named
    ∙ ap (step_of (name n)) (c.whole-cell.ensures.same table)

pub returns-in-None-clause-value : goal.returns-in-None-clause-value
returns-in-None-clause-value c table n under named =
    let w = own table c.whole-cell.result (c.whole-cell.ensures.of table under) in
    find_none n (shown table c.whole-cell.result) (c.in-None.ensures.pairs w.wide w.fits ∙ ap pairs_in w.same)
    ∙ ap (step_of (name n)) (c.whole-cell.ensures.same table)
