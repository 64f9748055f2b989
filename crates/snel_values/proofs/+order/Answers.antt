use Rattle.std.proofs.Common.{◌≡◌, ◌<◌, ◌≤◌, sym, ◌∙◌, arith, length, min}
use Rattle.std.proofs.lemmas.Grind.{common_steps}
use Rattle.std.specs.Ordering.{nat_cmp}
use Rattle.std.specs.Cmp.Lexicographic.{slice_cmp}
use Rattle.snel_values.proofs.Comparing.{items_decided, items_tied, items_end, names_decided, pairs_decided, pairs_tied, pairs_end}
use Rattle.snel_values.proofs.+order.Goals as goal

pub items::Items::order-returns-then-ne : goal.items::Items::order-returns-then-ne
items::Items::order-returns-then-ne t c =
    let xs = c.self.inside.all.items in
    let ys = c.other.inside.all.items in
    let h : c.loop-i.i < length xs = grind (arith, common_steps) in
    let k : c.loop-i.i < length ys = grind (arith, common_steps) in
    rw (← c.self.view_is, ← c.other.view_is) (items_decided xs ys _ _ _ _ _ h k c.index.ensures c.index-in-loop-i.ensures c.order-first.ensures c.loop-i.invariant (sym c.ne.ensures ∙ c.if-ne.true))

pub items::Items::order-loop-i-preserved : goal.items::Items::order-loop-i-preserved
items::Items::order-loop-i-preserved t c =
    let xs = c.self.inside.all.items in
    let ys = c.other.inside.all.items in
    let h : c.loop-i.i < length xs = grind (arith, common_steps) in
    let k : c.loop-i.i < length ys = grind (arith, common_steps) in
    items_tied xs ys _ _ _ _ _ h k c.index.ensures c.index-in-loop-i.ensures c.order-first.ensures c.loop-i.invariant (sym c.ne.ensures ∙ c.if-ne.false)

pub items::Items::order-returns : goal.items::Items::order-returns
items::Items::order-returns t c =
    let xs = c.self.inside.all.items in
    let ys = c.other.inside.all.items in
    let h : c.loop-i.i ≤ length xs = grind (arith, common_steps) in
    let k : c.loop-i.i ≤ length ys = grind (arith, common_steps) in
    let m : min (length xs) (length ys) ≤ c.loop-i.i = grind (arith, common_steps) in
    let e : c.len-3.result ≡ length xs = grind (arith, common_steps) in
    let g : c.len-4.result ≡ length ys = grind (arith, common_steps) in
    rw (← c.self.view_is, ← c.other.view_is) (items_end xs ys _ _ _ _ _ h k m e g c.cmp.ensures c.loop-i.invariant)

pub pairs::Pairs::order-returns-then-ne : goal.pairs::Pairs::order-returns-then-ne
pairs::Pairs::order-returns-then-ne t c =
    let xs = c.self.inside.all.items in
    let ys = c.other.inside.all.items in
    let h : c.loop-i.i < length xs = grind (arith, common_steps) in
    let k : c.loop-i.i < length ys = grind (arith, common_steps) in
    let named : c.cmp-names.result ≡ slice_cmp nat_cmp c.index-x.result.now.name c.index-y.result.now.name = cc in
    rw (← c.self.view_is, ← c.other.view_is) (names_decided xs ys _ _ _ _ _ h k c.index-x.ensures c.index-y.ensures named c.loop-i.invariant (sym c.ne.ensures ∙ c.if-ne.true))

pub pairs::Pairs::order-returns-then-ne-2 : goal.pairs::Pairs::order-returns-then-ne-2
pairs::Pairs::order-returns-then-ne-2 t c =
    let xs = c.self.inside.all.items in
    let ys = c.other.inside.all.items in
    let h : c.loop-i.i < length xs = grind (arith, common_steps) in
    let k : c.loop-i.i < length ys = grind (arith, common_steps) in
    let named : c.cmp-names.result ≡ slice_cmp nat_cmp c.index-x.result.now.name c.index-y.result.now.name = cc in
    rw (← c.self.view_is, ← c.other.view_is) (pairs_decided xs ys _ _ _ _ _ h k c.index-x.ensures c.index-y.ensures named c.loop-i.invariant _ c.order-first.ensures (sym c.ne.ensures ∙ c.if-ne.false) (sym c.ne-in-loop-i.ensures ∙ c.if-ne-2.true))

pub pairs::Pairs::order-loop-i-preserved : goal.pairs::Pairs::order-loop-i-preserved
pairs::Pairs::order-loop-i-preserved t c =
    let xs = c.self.inside.all.items in
    let ys = c.other.inside.all.items in
    let h : c.loop-i.i < length xs = grind (arith, common_steps) in
    let k : c.loop-i.i < length ys = grind (arith, common_steps) in
    let named : c.cmp-names.result ≡ slice_cmp nat_cmp c.index-x.result.now.name c.index-y.result.now.name = cc in
    pairs_tied xs ys _ _ _ _ _ h k c.index-x.ensures c.index-y.ensures named c.loop-i.invariant _ c.order-first.ensures (sym c.ne.ensures ∙ c.if-ne.false) (sym c.ne-in-loop-i.ensures ∙ c.if-ne-2.false)

pub pairs::Pairs::order-returns : goal.pairs::Pairs::order-returns
pairs::Pairs::order-returns t c =
    let xs = c.self.inside.all.items in
    let ys = c.other.inside.all.items in
    let h : c.loop-i.i ≤ length xs = grind (arith, common_steps) in
    let k : c.loop-i.i ≤ length ys = grind (arith, common_steps) in
    let m : min (length xs) (length ys) ≤ c.loop-i.i = grind (arith, common_steps) in
    let e : c.len-3.result ≡ length xs = grind (arith, common_steps) in
    let g : c.len-4.result ≡ length ys = grind (arith, common_steps) in
    rw (← c.self.view_is, ← c.other.view_is) (pairs_end xs ys _ _ _ _ _ h k m e g c.cmp.ensures c.loop-i.invariant)
