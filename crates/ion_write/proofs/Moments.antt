-- The payload of a timestamp, part by part.
use Rattle.std.proofs.Common.{◌≡◌, ℕ, List, [], ◌∷◌, ◌++◌, refl, append_assoc}
use Rattle.write_meaning.specs.Encoding.{var_uint_bytes, micros_bytes, moment_bytes}

pub moment_made : (out first second third whole : List ℕ) (y m d h k s u : ℕ) → first ≡ out ++ 128 ∷ [] → second ≡ first ++ (var_uint_bytes y ++ (var_uint_bytes m ++ var_uint_bytes d))
    → third ≡ second ++ (var_uint_bytes h ++ (var_uint_bytes k ++ var_uint_bytes s)) → whole ≡ third ++ micros_bytes u → whole ≡ out ++ moment_bytes y m d h k s u
unfolding moment_bytes
moment_made out first second third whole y m d h k s u a b c e = rw (e, c, b, a) (simp append_assoc refl)
