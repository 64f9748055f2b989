use Rattle.std.proofs.Common.{drop, arith}
use Rattle.std.proofs.lemmas.Result.{err_from_is_err_and}
use Rattle.sql_words.specs.Seen.{toks}
use Rattle.query_meaning.specs.Reading.{operand_by, level_by, expr_at}
use Rattle.sql_grammar.proofs.Loops.{chain_fails, chain_goes_on, chain_stops, handed_on}
use Rattle.sql_grammar.proofs.levels.chain.Goals as goal

pub returns-in_default : goal.returns-in_default
returns-in_default g c =
    let ts = toks c.args.looks.now in
    let room = c.args.room in
    chain_stops room c.loop-turn._turn (omega arith) (operand_by (expr_at room) room c.args.level) c.args.level _ c.loop-turn.left (drop c.loop-turn.rest ts) c.loop-turn.invariant c.in_default.ensures

pub loop-turn-preserved : goal.loop-turn-preserved
loop-turn-preserved g c =
    let ts = toks c.args.looks.now in
    let room = c.args.room in
    rw c.in_ok-both.ensures (chain_goes_on room c.loop-turn._turn (omega arith) (operand_by (expr_at room) room c.args.level) c.args.level _ c.loop-turn.left (drop c.loop-turn.rest ts) c.loop-turn.invariant c.in-Some.op (drop c.in-Some.next ts) c.in-Some.ensures c.in_ok-right.right (drop c.in_ok-right.behind ts) (c.requires.reads _ _ _ c.in_ok-right.ensures))

pub returns-in_err-right : goal.returns-in_err-right
returns-in_err-right g c =
    let ts = toks c.args.looks.now in
    let room = c.args.room in
    let p = err_from_is_err_and c.from_residual-in_err-right.result c.from_residual-in_err-right.ensures.1 in
    rw (p.1, p.2) (handed_on c.in_err-right.field-0.0 (operand_by (expr_at room) room c.args.level (drop c.in-Some.next ts)) (level_by (expr_at room) room c.args.level (drop c.args.at ts)) (c.requires.reads _ _ _ c.in_err-right.ensures) (chain_fails room c.loop-turn._turn (omega arith) (operand_by (expr_at room) room c.args.level) c.args.level _ c.loop-turn.left (drop c.loop-turn.rest ts) c.loop-turn.invariant c.in-Some.op (drop c.in-Some.next ts) c.in-Some.ensures))
