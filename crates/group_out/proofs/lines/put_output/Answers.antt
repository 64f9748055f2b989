use Rattle.std.proofs.Common.{◌≡◌, ◌++◌, sym, ◌∙◌, ap, subst}
use Rattle.std.specs.Prelude.{slice_get, OnOk}
use Rattle.block_meaning.specs.Stored.{HasTimesInRange}
use Rattle.json_out.specs.NoMissing.{IsMissingAtMostAtTop}
use Rattle.json_out.specs.Begun.{begun}
use Rattle.query_tree.specs.Parts.{item_view}
use Rattle.query_walk.proofs.Listed.{some_is}
use Rattle.hash_agg.specs.Finished.{row_view}
use Rattle.group_out.specs.Values.{value_of_row}
use Rattle.group_out.proofs.OutputLines.{Item, name_is, named_there, pair_is, output_printable}
use Rattle.group_out.proofs.lines.put_output.Goals as goal

pub unreachable-requires-in_default-get : goal.unreachable-requires-in_default-get
unreachable-requires-in_default-get c =
    named_there c.args.checked.now.outs c.args.items.now c.args.at c.requires.outputs c.requires.there
    (c.in_default-get.ensures ∙ ap (λ l. slice_get l c.args.at) c.names.ensures)

pub put_value-requires-clause-times : goal.put_value-requires-clause-times
put_value-requires-clause-times c =
    subst HasTimesInRange (sym c.in_ok-value.ensures)
    (output_printable c.args.checked.now (row_view c.args.row.now) c.requires.printable c.know.ensures.formed c.args.items.now
    c.requires.outputs c.args.at (item_view c.in-Some.item.now) (sym c.in-Some.ensures)).times

pub put_value-requires-clause-missing : goal.put_value-requires-clause-missing
put_value-requires-clause-missing c =
    subst IsMissingAtMostAtTop (sym c.in_ok-value.ensures)
    (output_printable c.args.checked.now (row_view c.args.row.now) c.requires.printable c.know.ensures.formed c.args.items.now
    c.requires.outputs c.args.at (item_view c.in-Some.item.now) (sym c.in-Some.ensures)).missing

pub returns : goal.returns
returns c before item h there =
    let q = c.args.checked.now in
    let row = row_view c.args.row.now in
    let same : item_view c.in-Some.item.now ≡ item = some_is (item_view c.in-Some.item.now) item (c.in-Some.ensures ∙ there) in
    let name = c.as_str.ensures ∙ name_is q.outs c.args.items.now c.args.at item _ c.requires.outputs there (sym (c.in-Some-get.ensures ∙ ap (λ l. slice_get l c.args.at) c.names.ensures)) in
    let value = c.in_ok-value.ensures ∙ ap (λ (x : Item). value_of_row q row x.0) same in
    subst (λ p. OnOk c.put_value.result (c.put_value.new.self ≡ begun (before ++ p))) (pair_is q row c.args.at item _ _ name value) (c.put_value.ensures.pairs before h)
