use Rattle.std.proofs.Common.{◌∙◌, ap}
use Rattle.tree_meaning.specs.Tree.{at}
use Rattle.eval_meaning.specs.Paths.{step_of}
use Rattle.ion_cells.specs.Shown.{shown}
use Rattle.ion_cells.specs.Values.{items_in}
use Rattle.lane_field.proofs.OwnTables.{own}
use Rattle.lane_field.proofs.Parts.{item_legal, item_value, item_none}
use Rattle.lane_field.proofs.item.item_of.Goals as goal

pub returns-in-Some-clause-legal : goal.returns-in-Some-clause-legal
returns-in-Some-clause-legal c table under =
    item_legal table c.whole-cell.result (c.whole-cell.ensures.of table under) c.in-Some.items c.args.place c.nth_item.result c.nth_item.ensures c.in-Some.ensures.values c.in-Some.ensures.last

pub returns-in-Some-clause-value : goal.returns-in-Some-clause-value
returns-in-Some-clause-value c table under =
    item_value table c.whole-cell.result (c.whole-cell.ensures.of table under) c.in-Some.items c.args.place c.nth_item.result c.nth_item.ensures c.in-Some.ensures.values c.in-Some.ensures.last
    ∙ ap (step_of (at c.args.place)) (c.whole-cell.ensures.same table)

pub returns-in-None-clause-value : goal.returns-in-None-clause-value
returns-in-None-clause-value c table under =
    let w = own table c.whole-cell.result (c.whole-cell.ensures.of table under) in
    item_none c.args.place (shown table c.whole-cell.result) (c.in-None.ensures.values w.wide w.fits ∙ ap items_in w.same)
    ∙ ap (step_of (at c.args.place)) (c.whole-cell.ensures.same table)
