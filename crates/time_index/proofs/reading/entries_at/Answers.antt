use Rattle.std.proofs.Common.{◌≡◌, ◌+◌, ℕ, sym, ap, ◌∙◌}
use Rattle.file_meaning.specs.Files.{Entry}
use Rattle.time_index.proofs.Walk.{stops, steps_to, ends_well, ends_apart}
use Rattle.time_index.proofs.reading.entries_at.Goals as goal
use Rattle.time_index.proofs.reading.entries_at.Goals.{then-from-to, else-from-to}

pub returns-then-not-stands_at : goal.returns-then-not-stands_at
returns-then-not-stands_at c =
    sym (stops c.args.to c.args.count c.args.at c.loop-i.i c.loop-i.from c.args.bytes.now c.loop-i.entries c.entry_at-entry.result c.loop-i.invariant c.loop-i-test.true c.entry_at-entry.ensures (sym c.stands_at.ensures ∙ c.if-not-stands_at.true))

pub loop-i-preserved : goal.loop-i-preserved
loop-i-preserved c =
    let next : c.loop-i.from + c.from.result ≡ c.loop-i.from + c.entry_at-entry.result.length = ap (λ (n : ℕ). c.loop-i.from + n) (c.from.ensures ∙ ap (λ (e : Entry). e.length) c.entry.view_is) in
    steps_to c.args.to c.args.count c.args.at c.loop-i.i c.loop-i.from c.args.bytes.now c.loop-i.entries c.entry_at-entry.result (c.loop-i.from + c.from.result) c.push.new.self c.loop-i.invariant c.loop-i-test.true c.entry_at-entry.ensures (sym c.stands_at.ensures ∙ c.if-not-stands_at.false) next c.in_ok-push.ensures.ok

pub returns : goal.returns
returns c =
    elim c.if-from-to.branch [
      | then-from-to w ↦ w.result-is ∙ sym (ends_well c.args.to c.args.count c.args.at c.loop-i.i c.loop-i.from c.args.bytes.now c.loop-i.entries c.loop-i.invariant c.loop-i-test.false w.if-from-to.true)
      | else-from-to w ↦ w.result-is ∙ sym (ends_apart c.args.to c.args.count c.args.at c.loop-i.i c.loop-i.from c.args.bytes.now c.loop-i.entries c.loop-i.invariant c.loop-i-test.false w.if-from-to.false)
    ]
