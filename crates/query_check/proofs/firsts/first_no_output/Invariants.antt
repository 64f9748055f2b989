use Rattle.std.proofs.Common.{◌≡◌, ℕ, Bool, drop, map}
use Rattle.std.specs.Prelude.{find}
use Rattle.std.specs.List.{enumerate_from}
use Rattle.tree_meaning.specs.Tree.{Ex}
use Rattle.query_tree.specs.Queries.{outs_view}
use Rattle.check_meaning.specs.Verdict.{is_no_number}
use Rattle.query_check.proofs.firsts.first_no_output.Given as goal

abbrev pub invariant-loop-at : goal.invariant-loop-at
invariant-loop-at l =
    let t : ℕ × Ex → Bool = λ n. is_no_number (outs_view l.query.outputs) n.1 in
    let es = map (λ k. k.0) l.query.order in find t (enumerate_from 1 es) ≡ find t (drop l.at (enumerate_from 1 es))
