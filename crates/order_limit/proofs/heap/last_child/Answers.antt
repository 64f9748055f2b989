use Rattle.std.proofs.Common.{sym, ◌∙◌, ◌+◌, ◌*◌, arith}
use Rattle.order_limit.specs.Heaps.{row_before}
use Rattle.order_limit.proofs.Heaps.{only_is_last, right_is_last, left_is_last}
use Rattle.order_limit.proofs.Standing.{made_ranked}
use Rattle.order_limit.proofs.heap.last_child.Goals as goal

pub returns-then-right-rows : goal.returns-then-right-rows
returns-then-right-rows c =
    let f = c.args.falling.now in
    only_is_last (row_before f) (made_ranked f) c.args.rows.now c.args.at _ (omega arith) (omega (arith, c.requires)) (omega (arith, c.if-right-rows.true))

pub returns-then-is_before : goal.returns-then-is_before
returns-then-is_before c =
    let f = c.args.falling.now in
    right_is_last (row_before f) (made_ranked f) c.args.rows.now c.args.at (c.args.at * 2 + 1) _ (omega arith) (omega arith) (omega (arith, c.if-right-rows.false)) (λ d. sym (c.is_before.ensures d) ∙ c.if-is_before.true)

pub returns : goal.returns
returns c =
    let f = c.args.falling.now in
    left_is_last (row_before f) (made_ranked f) c.args.rows.now c.args.at _ (c.args.at * 2 + 1 + 1) (omega arith) (omega arith) (omega (arith, c.if-right-rows.false)) (λ d. sym (c.is_before.ensures d) ∙ c.if-is_before.false)
