-- Where tokens stand in a text: one behind the other, each the longest that can be taken at its place.
use Rattle.std.specs.Prelude.{◌≡◌, ℕ, ◌+◌, ◌<◌, ◌≤◌, List, [], ◌∷◌, length, drop, take, Bool, true, false, not, ◌&&◌}
use Rattle.query_meaning.specs.declared.TokenKind.{TokenKind}
use Rattle.query_meaning.specs.declared.TokenKind.TheVariants as k
use Rattle.query_meaning.specs.Lexing.{Span, is_space, is_ended, begins_with}
use Rattle.token_meaning.specs.Spelling.{is_spelled}

-- the bytes begin with a minus sign
abbrev pub is_minus : List ℕ → Bool
is_minus = begins_with 45

-- what may stand behind a token: a number runs into no word and into no dot, and a minus sign into no other
abbrev pub may_precede : TokenKind → List ℕ → List ℕ → Bool
may_precede k.Word bytes rest = true
may_precede k.Quoted bytes rest = true
may_precede k.Str bytes rest = true
may_precede k.Moment bytes rest = true
may_precede k.Number bytes rest = is_ended rest
may_precede k.Sign bytes rest = not (is_minus bytes && is_minus rest)

-- so many bytes of the front are a token of the kind, and no longer front is a token of any kind
pub record IsLongest (kind : TokenKind) (n : ℕ) (bytes : List ℕ) : Type 0 where
  pub some : 0 < n
  pub within : n ≤ length bytes
  pub spelled : is_spelled kind (take n bytes) ≡ true
  pub behind : may_precede kind (take n bytes) (drop n bytes) ≡ true
  pub longest : (other : TokenKind) (m : ℕ) → n < m → m ≤ length bytes → is_spelled other (take m bytes) ≡ false

-- The tokens of the bytes that begin at a place.
pub data AreTaken : ℕ → List ℕ → List Span → Type 0 where
  -- nothing is left
  ended : {at : ℕ} → AreTaken at [] []
  -- a blank is passed
  blank : {at b : ℕ} {bs : List ℕ} {ss : List Span} → is_space b ≡ true
      → AreTaken (at + 1) bs ss
      → AreTaken at (b ∷ bs) ss
  -- a token is taken
  taken : {at n : ℕ} {kind : TokenKind} {bytes : List ℕ} {ss : List Span} → IsLongest kind n bytes
      → AreTaken (at + n) (drop n bytes) ss
      → AreTaken at bytes (record { kind = kind; from = at; to = at + n } ∷ ss)
