use Rattle.std.proofs.Common.{◌≡◌, ◌∙◌, ◌+◌, ◌≤◌, List, ℕ, map, length, arith, ap}
use Rattle.std.specs.List.{enumerate_from}
use Rattle.std.specs.Prelude.{Option}
use Rattle.tree_meaning.specs.Tree.{Ex}
use Rattle.query_tree.specs.Parts.{item_view}
use Rattle.check_meaning.specs.Names.{output_name}
use Rattle.query_walk.proofs.Listed.{mapped_at, whole}
use Rattle.query_check.proofs.Numbered.{numbered_at, length_mapped}
use Rattle.query_walk.proofs.Smaller.{taken_more}
use Rattle.query_check.proofs.names.item_names.Goals as goal

abbrev named : ℕ × (Ex × Option (List ℕ)) → List ℕ
named o = output_name o.0 o.1

pub loop-at-preserved : goal.loop-at-preserved
loop-at-preserved c =
    let all = map named (enumerate_from 1 c.args.items.now) in
    let here = mapped_at named (enumerate_from 1 c.args.items.now) c.loop-at.at _ (numbered_at c.args.items.now 1 c.loop-at.at (item_view c.output_item.result.now) c.output_item.ensures) in
    let same : c.in_ok-output_name.field-0 ≡ output_name (1 + c.loop-at.at) (item_view c.output_item.result.now) = c.in_ok-output_name.ensures ∙ ap (λ n. output_name n (item_view c.output_item.result.now)) (omega arith) in
    taken_more c.loop-at.names c.push.new.self all c.loop-at.at _ c.in_ok-output_name.field-0 here same c.in_ok-push.ensures c.loop-at.invariant

pub returns : goal.returns
returns c =
    let all = map named (enumerate_from 1 c.args.items.now) in
    let past : length all ≤ c.loop-at.at = omega (arith, length_mapped named c.args.items.now, c.loop-at-test.false, c.len-at-end.ensures) in
    c.loop-at.invariant ∙ whole all c.loop-at.at past
