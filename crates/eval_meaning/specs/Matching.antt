-- How texts match: by patterns, character by character, and by texts, byte by byte.
use Rattle.std.specs.Prelude.{◌≡◌, ℕ, List, [], ◌∷◌, ◌++◌, map, length, pos, Bool, true, false, ◌||◌, ◌&&◌, ◌==◌, nat_eq, if◌then◌else◌}
use Rattle.std.specs.List.{starts_with, ends_with}
use Rattle.std.specs.Str.{chars}
use Rattle.std.specs.Char.{to_ascii_lowercase}
use Rattle.value_meaning.specs.Val.{Val, truth, int}
use Rattle.tree_meaning.specs.declared.How.{How}
use Rattle.tree_meaning.specs.declared.How.TheVariants as how
use Rattle.eval_meaning.specs.Operands.{of_one, on_text}

-- A pattern and a text, as lists of characters, match: both are empty; or the pattern begins with `%` and its rest
-- matches the text or a suffix of the text; or it begins with `_` and its rest matches the text less one character; or
-- both begin with the same character and the rests match.
pub data Likes : List ℕ → List ℕ → Type 0 where
  both_empty : Likes [] []
  any_run : (sign : ℕ) (rest skipped suffix whole : List ℕ) → sign ≡ 37 → whole ≡ skipped ++ suffix → Likes rest suffix → Likes (sign ∷ rest) whole
  any_one : (sign c : ℕ) (rest suffix : List ℕ) → sign ≡ 95 → Likes rest suffix → Likes (sign ∷ rest) (c ∷ suffix)
  same : (c : ℕ) (rest suffix : List ℕ) → Likes rest suffix → Likes (c ∷ rest) (c ∷ suffix)

-- the text or a suffix of it passes
abbrev pub some_suffix : (List ℕ → Bool) → List ℕ → Bool
some_suffix test [] = test []
some_suffix test (c ∷ cs) = test (c ∷ cs) || some_suffix test cs

-- the first character passes, and the text less it too
abbrev pub first_and_rest : (ℕ → Bool) → (List ℕ → Bool) → List ℕ → Bool
first_and_rest first rest [] = false
first_and_rest first rest (c ∷ cs) = first c && rest cs

abbrev pub is_empty : List ℕ → Bool
is_empty [] = true
is_empty (c ∷ cs) = false

-- the same as a test: whether the pattern and the text match
unfoldable pub likes : List ℕ → List ℕ → Bool
likes [] = is_empty
likes (sign ∷ rest) = if sign == 37 then some_suffix (likes rest) else first_and_rest (λ c. sign == 95 || sign == c) (likes rest)

-- the text stands somewhere in the other
unfoldable pub stands_in : List ℕ → List ℕ → Bool
stands_in part whole = some_suffix (λ suffix. starts_with nat_eq suffix part) whole

-- Whether a text matches: LIKE by its characters; ILIKE by them regardless of the case of A-Z; STARTS_WITH, ENDS_WITH
-- and CONTAINS by its bytes.
abbrev pub matches : How → List ℕ → List ℕ → Bool
matches how.Like pattern s = likes (chars pattern) (chars s)
matches how.ILike pattern s = likes (map to_ascii_lowercase (chars pattern)) (map to_ascii_lowercase (chars s))
matches how.Starts part s = starts_with nat_eq s part
matches how.Ends part s = ends_with nat_eq s part
matches how.Contains part s = stands_in part s

-- LIKE, ILIKE, STARTS_WITH, ENDS_WITH, CONTAINS
abbrev pub matching_of : How → List ℕ → Val → Val
matching_of how pattern = of_one (on_text (λ s. truth (matches how pattern s)))

-- CHAR_LENGTH: the count of the characters
abbrev pub char_length : Val → Val
char_length = of_one (on_text (λ s. int (pos (length (chars s)))))
