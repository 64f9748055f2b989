use Rattle.std.proofs.Common.{◌≡◌, ℕ, ◌-◌, ap, sym, ◌∙◌, arith}
use Rattle.file_meaning.specs.Reading.{AreBytes, u64_at}
use Rattle.file_meaning.proofs.Believed.{tail_spells}
use Rattle.time_index.proofs.Gap.{gap_some}
use Rattle.time_index.proofs.reading.gap_in.Goals as goal

pub returns-then-gap-le-MOST_INDEX_BYTES-clause-spelled :
    goal.returns-then-gap-le-MOST_INDEX_BYTES-clause-spelled
returns-then-gap-le-MOST_INDEX_BYTES-clause-spelled c =
    let at = c.args.at in
    let tail = c.args.tail.now in
    let gap = c.saturating_sub-gap.result in
    let all : AreBytes tail = λ i. omega (arith, c.type_inv.tail i) in
    let is : gap ≡ at - u64_at 0 tail = c.saturating_sub-gap.ensures ∙ ap (λ (n : ℕ). at - n) c.u64_at.ensures in
    tail_spells at tail gap all c.requires
    (gap_some at gap tail (sym c.has_magic.ensures ∙ c.if-has_magic.true) is c.if-gap-ge-LEAST_INDEX_BYTES.true c.if-gap-le-MOST_INDEX_BYTES.true)
