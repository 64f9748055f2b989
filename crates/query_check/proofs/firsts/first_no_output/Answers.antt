use Rattle.std.proofs.Common.{◌∙◌, Bool, ℕ, sym, arith, map}
use Rattle.std.proofs.lemmas.List.{length-map}
use Rattle.tree_meaning.specs.Tree.{Ex}
use Rattle.query_tree.specs.Parts.{key_view}
use Rattle.query_tree.specs.Queries.{outs_view}
use Rattle.check_meaning.specs.Verdict.{is_no_number, first_no_output}
use Rattle.query_walk.proofs.Listed.{mapped_at}
use Rattle.query_check.proofs.FirstNumber.{number_here, number_next, number_end}
use Rattle.query_check.proofs.firsts.first_no_output.Goals as goal

abbrev key_ex : Ex × Bool → Ex
key_ex k = k.0

pub returns-then-is_no_number : goal.returns-then-is_no_number
unfolding first_no_output
returns-then-is_no_number c =
    let t : ℕ × Ex → Bool = λ n. is_no_number (outs_view c.args.query.now.outputs) n.1 in
    number_here t (map key_ex c.args.query.now.order) c.loop-at.at c.loop-at.invariant _ c.number.result (mapped_at key_ex c.args.query.now.order c.loop-at.at (key_view c.order_key.result.now) c.order_key.ensures) c.number.ensures (sym c.is_no_number.ensures ∙ c.if-is_no_number.true)

pub loop-at-preserved : goal.loop-at-preserved
loop-at-preserved c =
    let t : ℕ × Ex → Bool = λ n. is_no_number (outs_view c.args.query.now.outputs) n.1 in
    number_next t (map key_ex c.args.query.now.order) c.loop-at.at c.loop-at.invariant _ (mapped_at key_ex c.args.query.now.order c.loop-at.at (key_view c.order_key.result.now) c.order_key.ensures) (sym c.is_no_number.ensures ∙ c.if-is_no_number.false)

pub returns : goal.returns
unfolding first_no_output
returns c =
    let t : ℕ × Ex → Bool = λ n. is_no_number (outs_view c.args.query.now.outputs) n.1 in
    let keys = length-map c.args.query.now.order key_ex in
    number_end t (map key_ex c.args.query.now.order) c.loop-at.at c.loop-at.invariant (omega (arith, keys, c.loop-at-test.false, c.len-at-end.ensures))
