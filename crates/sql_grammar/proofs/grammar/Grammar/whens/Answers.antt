use Rattle.std.proofs.Common.{drop, arith}
use Rattle.std.proofs.lemmas.Result.{err_from_is_err_and}
use Rattle.query_meaning.specs.Reading.{expr_at}
use Rattle.query_tree.specs.View.{arm_view}
use Rattle.sql_words.specs.Seen.{toks}
use Rattle.sql_grammar.specs.Rules as rule
use Rattle.sql_grammar.proofs.Loops.{handed_on, no_arm, whens_go_on, whens_stop}
use Rattle.sql_grammar.proofs.grammar.Grammar.whens.Goals as goal

pub returns-in_err-arm : goal.returns-in_err-arm
returns-in_err-arm g c =
    let ts = toks c.args.looks.now in
    let room = c.args.self.now.room in
    let p = err_from_is_err_and c.from_residual.result c.from_residual.ensures.1 in
    rw (p.1, p.2) (handed_on c.in_err-arm.field-0.0 (rule.arm (expr_at room) (drop c.loop-turn.rest ts)) (rule.whens room (drop c.args.at ts)) c.in_err-arm.ensures (no_arm room c.loop-turn._turn (omega arith) (expr_at room) _ c.loop-turn.all (drop c.loop-turn.rest ts) c.loop-turn.invariant))

pub returns-in_default : goal.returns-in_default
returns-in_default g c =
    let ts = toks c.args.looks.now in
    let room = c.args.self.now.room in
    rw c.in_ok-push.ensures.ok (whens_stop room c.loop-turn._turn (omega arith) (expr_at room) _ c.loop-turn.all (drop c.loop-turn.rest ts) c.loop-turn.invariant (arm_view c.in_ok-arm.arm) (drop c.in_ok-arm.behind ts) c.in_ok-arm.ensures c.in_default.ensures)

pub loop-turn-preserved : goal.loop-turn-preserved
loop-turn-preserved g c =
    let ts = toks c.args.looks.now in
    let room = c.args.self.now.room in
    rw c.in_ok-push.ensures.ok (whens_go_on room c.loop-turn._turn (omega arith) (expr_at room) _ c.loop-turn.all (drop c.loop-turn.rest ts) c.loop-turn.invariant (arm_view c.in_ok-arm.arm) (drop c.in_ok-arm.behind ts) c.in_ok-arm.ensures (drop c.in-Some.field-0 ts) c.in-Some.ensures)
