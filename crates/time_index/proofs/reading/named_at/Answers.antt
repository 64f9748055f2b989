use Rattle.std.proofs.Common.{sym, ◌∙◌, arith, subst}
use Rattle.std.specs.Str.{IsUtf8}
use Rattle.time_index.proofs.Slices.{counted}
use Rattle.time_index.proofs.Named.{long_name, many_entries, other_length, no_text, no_entries, named}
use Rattle.time_index.proofs.reading.named_at.Goals as goal
use Rattle.time_index.proofs.reading.named_at.Goals.{then-size-gt-MOST_NAME_BYTES-via-then-size-gt-MOST_NAME_BYTES, then-size-gt-MOST_NAME_BYTES-via-else-size-gt-MOST_NAME_BYTES+then-count-gt-MOST_BLOCKS, then-size-gt-MOST_NAME_BYTES-via-else-size-gt-MOST_NAME_BYTES+else-count-gt-MOST_BLOCKS+then-bytes-size}

pub returns-then-size-gt-MOST_NAME_BYTES : goal.returns-then-size-gt-MOST_NAME_BYTES
returns-then-size-gt-MOST_NAME_BYTES c =
    elim c.then-size-gt-MOST_NAME_BYTES.branch [
      | then-size-gt-MOST_NAME_BYTES-via-then-size-gt-MOST_NAME_BYTES w ↦ sym (long_name c.args.to c.args.size c.args.count c.args.bytes.now w.if-size-gt-MOST_NAME_BYTES.true)
      | then-size-gt-MOST_NAME_BYTES-via-else-size-gt-MOST_NAME_BYTES+then-count-gt-MOST_BLOCKS w ↦ sym (many_entries c.args.to c.args.size c.args.count c.args.bytes.now w.if-count-gt-MOST_BLOCKS.true)
      | then-size-gt-MOST_NAME_BYTES-via-else-size-gt-MOST_NAME_BYTES+else-count-gt-MOST_BLOCKS+then-bytes-size w ↦ sym (other_length c.args.to c.args.size c.args.count c.args.bytes.now w.if-bytes-size.true)
    ]

pub returns-in_default : goal.returns-in_default
returns-in_default c =
    let bytes = c.args.bytes.now in
    sym (no_text c.args.to c.args.size c.args.count bytes (λ text. c.in_default.ensures.cases.0 (subst IsUtf8 (sym (counted c.args.size 6 bytes)) text)))

pub returns-in_default-2 : goal.returns-in_default-2
returns-in_default-2 c =
    sym (no_entries c.args.to c.args.size c.args.count c.args.bytes.now (sym c.in_ok-entries.ensures ∙ c.in_default-2.is))

pub returns : goal.returns
returns c =
    let bytes = c.args.bytes.now in
    let name = c.in_ok-field.ensures ∙ c.in-Ok.ensures.cases.0 in
    let text : IsUtf8 c.in_ok-field.field = subst IsUtf8 (sym name) c.in-Ok.ensures.cases.1 in
    named c.args.to c.args.size c.args.count bytes c.in_ok-field.field c.in-Some.entries (omega (arith, c.if-size-gt-MOST_NAME_BYTES.false)) c.if-count-gt-MOST_BLOCKS.false c.if-bytes-size.false (name ∙ counted c.args.size 6 bytes) text (sym c.in-Some.is ∙ c.in_ok-entries.ensures)
