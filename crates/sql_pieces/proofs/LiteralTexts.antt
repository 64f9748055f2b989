-- The texts of literals.
use Rattle.std.proofs.Common.{◌≡◌, ℕ, ℤ, List, [], ◌∷◌, ◌++◌, append-nil}
use Rattle.std.specs.Prelude.{decimal, unsigned_abs}
use Rattle.value_meaning.specs.Val as val
use Rattle.time_meaning.specs.Printed.{time_text}
use Rattle.print_meaning.specs.Pieces.{in_quotes, spelling}
use Rattle.print_meaning.specs.Texts.{literal_text}

pub int_text : (n : ℤ) → literal_text (val.int n) ≡ decimal (unsigned_abs n)
unfolding literal_text spelling
int_text n = append-nil (decimal (unsigned_abs n))

pub moment_text : (t : ℤ) → literal_text (val.time t) ≡ 96 ∷ (time_text t ++ 96 ∷ [])
unfolding literal_text spelling
moment_text t = append-nil (96 ∷ (time_text t ++ 96 ∷ []))

pub string_text : (p : List ℕ) → literal_text (val.text p) ≡ in_quotes 39 p
unfolding literal_text spelling
string_text p = append-nil (in_quotes 39 p)
