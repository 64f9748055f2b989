use Rattle.std.proofs.Common.{◌≡◌, ◌<◌, ◌+◌, ◌*◌, ◌-◌, length, sym, ap, ◌∙◌, arith}
use Rattle.value_meaning.specs.Val.{size}
use Rattle.snel_values.specs.View.{view}
use Rattle.ion_cells.specs.Shown.{shown}
use Rattle.ion_cells.specs.Iterating.{values_left, fields_last, fields_low, pairs_left, labelled}
use Rattle.ion_symtab.proofs.Members.{item_smaller, pair_smaller, one_more, has_text, name_is, above_next}
use Rattle.ion_symtab.proofs.values.+value_of.Goals as goal

pub items_of-value_of-requires : goal.items_of-value_of-requires
items_of-value_of-requires t c =
    let table = c.args.table.now in
    let less = item_smaller c.loop-cell.items (shown table c.in-Some.cell) (values_left table c.next.new.self) (values_left table c.loop-cell.cell-iterator) (values_left table c.args.cells) (c.in-Some.ensures.steps.yields table c.loop-cell.invariant.last) c.loop-cell.invariant.all in
    (omega (arith, c.decreases), c.loop-cell.invariant.last ∙ ap (λ n. n - 9) (sym c.in-Some.ensures.steps.item))

pub pairs_of-unreachable-requires : goal.pairs_of-unreachable-requires
pairs_of-unreachable-requires t c =
    let field = c.in-Some.ensures.steps.item in
    has_text c.args.table.now (fields_last c.loop-label.label-iterator) c.in-Some.label c.loop-label.invariant.last field.first field.within c.in-None-text_of.ensures

pub pairs_of-value_of-requires : goal.pairs_of-value_of-requires
pairs_of-value_of-requires t c =
    let table = c.args.table.now in
    let less = pair_smaller c.loop-label.pairs (labelled table (c.in-Some.label, c.in-Some.cell)) (pairs_left table c.next.new.self) (pairs_left table c.loop-label.label-iterator) (pairs_left table c.args.fields) (c.in-Some.ensures.steps.yields table c.loop-label.invariant.last) c.loop-label.invariant.all in
    (omega (arith, c.decreases), c.loop-label.invariant.last ∙ ap (λ n. n - 9) (sym c.in-Some.ensures.steps.item.cell))

pub pairs_of-loop-label-preserved : goal.pairs_of-loop-label-preserved
pairs_of-loop-label-preserved t c =
    let table = c.args.table.now in
    let steps = c.in-Some.ensures.steps in
    let named = ap Rattle.std.proofs.Common.Some c.in_ok-name-in-Some-text_of.ensures ∙ c.in-Some-text_of.ensures in
    record {
      can = tt;
      finite = tt;
      last = c.loop-label.invariant.last ∙ ap (λ n. n - 9) (sym steps.last);
      above =
          λ n s high e.
          above_next table c.loop-label.pairs c.push.new.self c.in_ok-name-in-Some-text_of.name (view c.in_ok-value.value) c.in-Some.label (fields_low c.next.new.self) n s c.know.ensures named steps.rises high e c.in_ok-push.ensures.ok;
      all =
          one_more c.loop-label.pairs c.push.new.self (labelled table (c.in-Some.label, c.in-Some.cell)) (c.in_ok-name-in-Some-text_of.name, view c.in_ok-value.value) (pairs_left table c.next.new.self) (pairs_left table c.loop-label.label-iterator) (pairs_left table c.args.fields) (steps.yields table c.loop-label.invariant.last) c.loop-label.invariant.all (λ i. (name_is table c.in-Some.label c.in_ok-name-in-Some-text_of.name named i, c.in_ok-value.ensures i)) c.in_ok-push.ensures.ok;
    }

pub value_of-items_of-requires : goal.value_of-items_of-requires
value_of-items_of-requires t c =
    let same = ap size (c.in-List.ensures.value c.args.table.now c.requires) in
    (omega (arith, c.decreases, same), c.requires ∙ ap (λ n. n - 9) (sym c.in-List.ensures.within))

pub value_of-pairs_of-requires : goal.value_of-pairs_of-requires
value_of-pairs_of-requires t c =
    let same = ap size (c.in-Struct.ensures.value c.args.table.now c.requires) in
    (omega (arith, c.decreases, same), c.requires ∙ ap (λ n. n - 9) (sym c.in-Struct.ensures.within))
