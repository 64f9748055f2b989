use Rattle.std.proofs.Common.{List, ℕ, ap, ◌∙◌}
use Rattle.std.specs.Int.{from_be_bytes, w16}
use Rattle.file_meaning.specs.Reading.{u16_at}
use Rattle.time_index.proofs.Slices.{first_of}
use Rattle.time_index.proofs.numbers.u16_at.Goals as goal

pub returns : goal.returns
unfolding u16_at
returns c =
    c.from_be_bytes.ensures ∙ ap (λ (l : List ℕ). from_be_bytes w16 l) (c.in-Some.ensures.cases.same ∙ first_of 2 c.args.at c.args.bytes.now)
