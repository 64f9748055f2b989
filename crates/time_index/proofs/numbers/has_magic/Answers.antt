use Rattle.std.proofs.Common.{ℕ, List, take, drop, ap, ◌∙◌, ◌+◌, ◌-◌}
use Rattle.std.specs.Prelude.{codes}
use Rattle.std.specs.Str.{bytes_eq}
use Rattle.file_meaning.specs.Reading.{has_magic}
use Rattle.time_index.proofs.Slices.{counted}
use Rattle.time_index.proofs.numbers.has_magic.Goals as goal

pub returns : goal.returns
unfolding has_magic
returns c =
    let at = c.args.at in
    let bytes = c.args.bytes.now in
    c.eq.ensures ∙ ap (λ (l : List ℕ). bytes_eq (take (at + 4 - at) (drop at bytes)) l) c.as_slice.ensures
    ∙ ap (λ (l : List ℕ). bytes_eq l (codes "SNX1")) (counted 4 at bytes)
