use Rattle.std.proofs.Common.{◌≡◌, sym, ◌∙◌, arith, true}
use Rattle.file_meaning.specs.Reading.{AreBytes, u16_at, has_magic}
use Rattle.time_index.proofs.Found.{spelled_in}
use Rattle.time_index.proofs.Named.{no_magic, behind_magic, too_short}
use Rattle.time_index.proofs.reading.index_in.Goals as goal

pub returns-then-not-has_magic-clause-read : goal.returns-then-not-has_magic-clause-read
returns-then-not-has_magic-clause-read c = sym (no_magic c.args.to c.args.bytes.now (sym c.has_magic.ensures ∙ c.if-not-has_magic.true))

pub returns-then-bytes-size-clause-read : goal.returns-then-bytes-size-clause-read
returns-then-bytes-size-clause-read c = sym (too_short c.args.to c.args.bytes.now (omega (arith, c.if-bytes-size.true, c.from-size.ensures, c.u16_at.ensures)))

pub returns-clause-read : goal.returns-clause-read
returns-clause-read c =
    let bytes = c.args.bytes.now in
    let size : c.from-size.result ≡ u16_at 4 bytes = c.from-size.ensures ∙ c.u16_at.ensures in
    let magic : has_magic 0 bytes ≡ true = sym c.has_magic.ensures ∙ c.if-not-has_magic.false in
    rw (behind_magic c.args.to bytes magic, sym size, sym c.u32_at-count.ensures) c.named_at.ensures

pub returns-clause-spelled : goal.returns-clause-spelled
returns-clause-spelled c =
    let all : AreBytes c.args.bytes.now = λ i. omega (arith, c.type_inv.bytes i) in
    spelled_in c.args.to c.args.bytes.now all c.named_at.result (returns-clause-read c)
