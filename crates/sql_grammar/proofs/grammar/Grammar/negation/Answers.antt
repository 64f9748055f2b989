use Rattle.std.proofs.Common.{drop}
use Rattle.std.proofs.lemmas.Result.{err_from_is_err_and}
use Rattle.query_meaning.specs.declared.Mark.TheVariants as m
use Rattle.tree_meaning.specs.Tree.{no}
use Rattle.sql_words.specs.Seen.{toks}
use Rattle.sql_grammar.specs.Rules as rule
use Rattle.sql_grammar.proofs.Loops.{handed_on}
use Rattle.sql_grammar.proofs.Prefixes.{prefixed_none, prefixed_some}
use Rattle.sql_grammar.proofs.grammar.Grammar.negation.Goals as goal

pub returns-in_err-test : goal.returns-in_err-test
returns-in_err-test g c =
    let ts = toks c.args.looks.now in
    let room = c.args.self.now.room in
    let p = err_from_is_err_and c.from_residual.result c.from_residual.ensures.1 in
    rw (p.1, p.2) (handed_on c.in_err-test.field-0.0 (rule.condition room (drop c.skip-count.result.1 ts)) (rule.negation room (drop c.args.at ts)) c.in_err-test.ensures (prefixed_none m.Not no (rule.condition room) (drop c.args.at ts) (drop c.skip-count.result.1 ts) c.skip-count.ensures.rest))

pub returns : goal.returns
returns g c =
    let ts = toks c.args.looks.now in
    let room = c.args.self.now.room in
    rw c.in_ok-nots.ensures (prefixed_some m.Not no (rule.condition room) (drop c.args.at ts) (drop c.skip-count.result.1 ts) c.skip-count.ensures.rest c.skip-count.result.0 c.in_ok-test.test (drop c.in_ok-test.behind ts) c.skip-count.ensures.count c.in_ok-test.ensures)
