-- Texts that are lent, and those that stand twice side by side.
use Rattle.std.specs.Prelude.{◌≡◌, ◌↔◌, ◌≤◌, ◌++◌, filter, ℕ, List, [], ◌∷◌, map, count_by, bytes_eq, if◌then◌else◌}
use Rattle.std.specs.Borrow.{Bor}
use Rattle.block_meaning.specs.Tables.{TextsRise}
use Rattle.write_meaning.specs.BlockTables.{IsAmong, is_short}

-- what is lent
abbrev pub shown : List (Bor (List ℕ)) → List (List ℕ)
shown = map (λ s. s.now)

-- these texts are added at the end
abbrev pub Adds : List (Bor (List ℕ)) → List (Bor (List ℕ)) → List (List ℕ) → Type 0
Adds old new ss = shown new ≡ shown old ++ ss

-- those of them that have 3 to 32 bytes
abbrev pub AddsShort : List (Bor (List ℕ)) → List (Bor (List ℕ)) → List (List ℕ) → Type 0
AddsShort old new ss = shown new ≡ shown old ++ filter is_short ss

-- each text that equals the one before it
abbrev pub repeats : List (List ℕ) → List (List ℕ)
repeats [] = []
repeats (s ∷ []) = []
repeats (s ∷ t ∷ ts) = if bytes_eq s t then t ∷ repeats (t ∷ ts) else repeats (t ∷ ts)

-- The texts are those that were there, each once, rising.
pub record AreInOrder (old new : List (List ℕ)) : Type 0 where
  pub rise : TextsRise new
  pub each : (s : List ℕ) → IsAmong s new ↔ IsAmong s old

-- The texts are those that were there at least twice.
pub record AreRepeated (old new : List (List ℕ)) : Type 0 where
  pub each : (s : List ℕ) → IsAmong s new ↔ (2 ≤ count_by (λ t. bytes_eq t s) old)
