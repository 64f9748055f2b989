use Rattle.std.proofs.Common.{◌∙◌, arith, drop, sym, ◌≡◌, true, false}
use Rattle.query_meaning.specs.Reading.{begins}
use Rattle.sql_words.specs.Seen.{toks}
use Rattle.sql_words.proofs.Places.{one_more, no_more}
use Rattle.sql_words.proofs.steps.skip.Goals as goal

pub turns-preserved : goal.turns-preserved
turns-preserved c =
    let here : begins c.args.wanted (drop c.turns.place (toks c.args.looks.now)) ≡ true = cc in
    let m = one_more c.args.wanted (toks c.args.looks.now) c.turns.place here in
    (omega arith, omega (arith, m.0), c.turns.invariant.2 ∙ m.1)

pub returns-clause-count : goal.returns-clause-count
returns-clause-count c =
    let here : begins c.args.wanted (drop c.turns.place (toks c.args.looks.now)) ≡ false = cc in
    omega (arith, (no_more c.args.wanted (drop c.turns.place (toks c.args.looks.now)) here).0)

pub returns-clause-rest : goal.returns-clause-rest
returns-clause-rest c =
    let here : begins c.args.wanted (drop c.turns.place (toks c.args.looks.now)) ≡ false = cc in
    sym (c.turns.invariant.2 ∙ (no_more c.args.wanted (drop c.turns.place (toks c.args.looks.now)) here).1)
