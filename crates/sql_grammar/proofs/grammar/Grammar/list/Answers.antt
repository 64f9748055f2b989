use Rattle.std.proofs.Common.{drop, arith}
use Rattle.sql_words.specs.Seen.{toks}
use Rattle.query_meaning.specs.Reading.{expr_at}
use Rattle.sql_grammar.proofs.Loops.{list_goes_on, list_stops}
use Rattle.sql_grammar.proofs.grammar.Grammar.list.Goals as goal

pub returns-in_default : goal.returns-in_default
returns-in_default g c =
    let ts = toks c.args.looks.now in
    let room = c.args.self.now.room in
    rw c.in_ok-push.ensures.ok (list_stops room c.loop-turn._turn (omega arith) (expr_at room) _ c.loop-turn.all (drop c.loop-turn.rest ts) (drop c.in_ok-one.next ts) c.in_ok-one.one c.loop-turn.invariant c.in_ok-one.ensures c.in_default.ensures)

pub loop-turn-preserved : goal.loop-turn-preserved
loop-turn-preserved g c =
    let ts = toks c.args.looks.now in
    let room = c.args.self.now.room in
    rw c.in_ok-push.ensures.ok (list_goes_on room c.loop-turn._turn (omega arith) (expr_at room) _ c.loop-turn.all (drop c.loop-turn.rest ts) (drop c.in_ok-one.next ts) c.in_ok-one.one c.loop-turn.invariant c.in_ok-one.ensures (drop c.in-Some.behind ts) c.in-Some.ensures)
