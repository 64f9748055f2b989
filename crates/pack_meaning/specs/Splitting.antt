-- The lines of an input.
use Rattle.std.specs.Prelude.{◌≡◌, ◌≢◌, ℕ, ◌≤◌, Bool, not, ◌==◌, List, [], ◌∷◌, ◌++◌, length, if◌then◌else◌}
use Rattle.std.specs.List.{filter, concat, All}

-- the byte that ends a line
abbrev pub line_end : ℕ
line_end = 10

-- the byte, in front of the first line
abbrev pub with_byte : ℕ → List (List ℕ) → List (List ℕ)
with_byte b [] = (b ∷ []) ∷ []
with_byte b (l ∷ ls) = (b ∷ l) ∷ ls

-- The lines, each with the byte that ends it. What follows the last line end is a line, which has none, only where it isn't empty.
abbrev pub lines_of : List ℕ → List (List ℕ)
lines_of [] = []
lines_of (b ∷ bs) = if b == line_end then (line_end ∷ []) ∷ lines_of bs else with_byte b (lines_of bs)

-- a line without the byte that ends it
abbrev pub content : List ℕ → List ℕ
content = filter (λ b. not (b == line_end))

-- no byte of these ends a line
abbrev pub HasNoEnd : List ℕ → Type 0
HasNoEnd [] = Unit {0}
HasNoEnd (b ∷ bs) = (b ≢ line_end) × HasNoEnd bs

-- What lines are: up to each line end there is one, and one behind the last, if any byte follows it; end to end they are the input.
pub record LinesAre (line rest : List ℕ) : Type 0 where
  pub first : HasNoEnd line → lines_of (line ++ line_end ∷ rest) ≡ (line ++ line_end ∷ []) ∷ lines_of rest
  pub last : HasNoEnd line → 1 ≤ length line → lines_of line ≡ line ∷ []
  pub whole : concat (lines_of rest) ≡ rest
  pub inner : HasNoEnd line → content (line ++ line_end ∷ []) ≡ line
  pub bare : HasNoEnd line → content line ≡ line
