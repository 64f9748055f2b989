use Rattle.std.proofs.Common.{sym, ◌∙◌}
use Rattle.eval_values.proofs.Signs.{runs, ends, goes_on, both_hold, one_fails}
use Rattle.eval_values.proofs.matching.+likes.Goals as goal

pub likes-returns-then-sign-eq37 : goal.likes-returns-then-sign-eq37
likes-returns-then-sign-eq37 t c =
    c.some_suffix_likes.ensures ∙ runs c.args.pattern.now c.args.text.now c.sign-item.result c.in-len1-up.len_at_least c.sign-item.is c.if-sign-eq37.true

pub likes-returns-in-empty-text : goal.likes-returns-in-empty-text
likes-returns-in-empty-text t c =
    ends c.args.pattern.now c.args.text.now c.sign-item.result c.in-len1-up.len_at_least c.in-empty-text.len_below c.sign-item.is c.if-sign-eq37.false

pub likes-returns-then-stands_for : goal.likes-returns-then-stands_for
likes-returns-then-stands_for t c =
    both_hold _ _ _ (sym c.stands_for.ensures ∙ c.if-stands_for.true) c.likes.ensures
    ∙ goes_on c.args.pattern.now c.args.text.now c.sign-item.result c.first-item.result c.in-len1-up.len_at_least c.in-len1-up-text.len_at_least c.sign-item.is c.first-item.is c.if-sign-eq37.false

pub likes-returns-else-stands_for : goal.likes-returns-else-stands_for
likes-returns-else-stands_for t c =
    c.if-stands_for.false ∙ one_fails _ _ (sym c.stands_for.ensures ∙ c.if-stands_for.false)
    ∙ goes_on c.args.pattern.now c.args.text.now c.sign-item.result c.first-item.result c.in-len1-up.len_at_least c.in-len1-up-text.len_at_least c.sign-item.is c.first-item.is c.if-sign-eq37.false
