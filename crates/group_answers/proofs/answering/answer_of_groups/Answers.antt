use Rattle.std.proofs.Common.{ap, ◌∙◌, subst}
use Rattle.std.specs.Prelude.{IfOk}
use Rattle.tree_meaning.specs.Tree.{Query}
use Rattle.order_limit.specs.Arranged.{IsArranged}
use Rattle.scan_meaning.specs.Answers.{falling}
use Rattle.group_answers.proofs.RowsOfGroups.{are_keyed, answered}
use Rattle.group_answers.proofs.answering.answer_of_groups.Goals as goal

pub arrange-requires : goal.arrange-requires
arrange-requires c =
    are_keyed c.args.checked.now c.args.rows c.deref.result.now c.in_ok-unsorted.unsorted c.in_ok-unsorted.ensures.of_rows
    (c.deref.ensures.value ∙ c.in_ok-falling.ensures ∙ ap falling c.query-query.ensures.is)

pub returns : goal.returns
returns c all gs grouped same each =
    answered c.args.checked.now all gs c.deref.result.now c.in_ok-unsorted.unsorted c.arrange.result grouped same (c.in_ok-unsorted.ensures.of_groups gs each)
    (c.deref.ensures.value ∙ c.in_ok-falling.ensures ∙ ap falling c.query-query.ensures.is)
    (subst (λ (p : Query). IfOk c.arrange.result (IsArranged c.deref.result.now p.skip p.take c.in_ok-unsorted.unsorted)) c.query-query.ensures.is c.arrange.ensures)
