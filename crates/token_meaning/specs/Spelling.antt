-- How tokens are spelled: of each kind, which bytes are a token of it.
use Rattle.std.specs.Prelude.{ℕ, ◌-◌, List, [], ◌∷◌, length, drop, take, Bool, true, false, ◌&&◌, ◌==◌, if◌then◌else◌, is_some}
use Rattle.std.specs.List.{list_all}
use Rattle.time_meaning.specs.Texts.{time_of}
use Rattle.query_meaning.specs.declared.TokenKind.{TokenKind}
use Rattle.query_meaning.specs.declared.TokenKind.TheVariants as k
use Rattle.query_meaning.specs.Lexing.{starts_word, is_word_byte, is_digit, is_no_backtick, number_of, sign_of}

-- a letter or `_`, and then letters, digits and `_`
abbrev pub is_word : List ℕ → Bool
is_word [] = false
is_word (b ∷ bs) = starts_word b && list_all is_word_byte bs

-- digits, at least one, of a number in range
abbrev pub is_number : List ℕ → Bool
is_number [] = false
is_number (b ∷ bs) = is_digit b && (list_all is_digit bs && is_some (number_of (b ∷ bs)))

-- bytes, of which each quote stands twice, and the closing quote
abbrev pub closes : ℕ → List ℕ → Bool
closes quote [] = false
closes quote (b ∷ []) = b == quote
closes quote (b ∷ c ∷ bs) = if b == quote then c == quote && closes quote bs else closes quote (c ∷ bs)

-- bytes without a backtick, and the closing backtick
abbrev pub closes_once : List ℕ → Bool
closes_once [] = false
closes_once (b ∷ []) = b == 96
closes_once (b ∷ c ∷ bs) = is_no_backtick b && closes_once (c ∷ bs)

-- a name between `"`, which is not empty
abbrev pub is_quoted : List ℕ → Bool
is_quoted [] = false
is_quoted (b ∷ []) = false
is_quoted (b ∷ c ∷ []) = false
is_quoted (b ∷ c ∷ d ∷ bs) = b == 34 && closes 34 (c ∷ d ∷ bs)

-- a text between `'`
abbrev pub is_string : List ℕ → Bool
is_string [] = false
is_string (b ∷ bs) = b == 39 && closes 39 bs

-- the text of a time between two backticks
abbrev pub is_moment : List ℕ → Bool
is_moment [] = false
is_moment (b ∷ bs) = b == 96 && (closes_once bs && is_some (time_of (take (length bs - 1) bs)))

-- the bytes are a token of the kind
abbrev pub is_spelled : TokenKind → List ℕ → Bool
is_spelled k.Word bytes = is_word bytes
is_spelled k.Quoted bytes = is_quoted bytes
is_spelled k.Str bytes = is_string bytes
is_spelled k.Moment bytes = is_moment bytes
is_spelled k.Number bytes = is_number bytes
is_spelled k.Sign bytes = is_some (sign_of bytes)
