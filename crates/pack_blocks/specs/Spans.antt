-- The least and the greatest of times so far.
use Rattle.std.specs.Prelude.{◌≡◌, ◌↔◌, ◌≢◌, ℤ, List, [], ◌∷◌, ◌++◌, Option, None, Some, IsTrue}
use Rattle.pack_meaning.specs.PackedFiles.{least_of, greatest_of}
use Rattle.pack_blocks.specs.declared.span.Span.{Span}

pub record IsSpan (ts : List ℤ) (s : Span) : Type 0 where
  pub some : IsTrue s.any ↔ (ts ≢ [])
  pub least : s.least ≡ least_of ts
  pub greatest : s.greatest ≡ greatest_of ts

-- one more time, if there is one
abbrev pub grown : Option ℤ → List ℤ → List ℤ
grown None ts = ts
grown (Some t) ts = ts ++ t ∷ []
