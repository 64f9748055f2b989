use Rattle.std.proofs.Common.{List, ℕ, ap, ◌∙◌}
use Rattle.std.specs.Int.{from_be_bytes, w64}
use Rattle.file_meaning.specs.Reading.{u64_at}
use Rattle.time_index.proofs.Slices.{first_of}
use Rattle.time_index.proofs.numbers.u64_at.Goals as goal

pub returns : goal.returns
unfolding u64_at
returns c =
    c.from_be_bytes.ensures ∙ ap (λ (l : List ℕ). from_be_bytes w64 l) (c.in-Some.ensures.cases.same ∙ first_of 8 c.args.at c.args.bytes.now)
