-- The tokens of a text, by longest match from left to right, or the place of the first byte where none can be taken.
use Rattle.std.specs.Prelude.{ℕ, zero, suc, ◌+◌, ◌-◌, ◌*◌, List, [], ◌∷◌, length, drop, take, Bool, true, false, ◌||◌, ◌&&◌, ◌==◌, nat_le, nat_lt, if◌then◌else◌, Option, Some, None, is_some, Result, Ok, Err}
use Rattle.std.specs.Option.{option_map}
use Rattle.time_meaning.specs.Texts.{time_of}
use Rattle.tree_meaning.specs.Decimals.{decimal_on}
use Rattle.query_meaning.specs.declared.TokenKind.{TokenKind}
use Rattle.query_meaning.specs.declared.TokenKind.TheVariants as k
use Rattle.query_meaning.specs.declared.Mark.{Mark}
use Rattle.query_meaning.specs.declared.Mark.TheVariants as m

-- space, tab, carriage return, line feed
abbrev pub is_space : ℕ → Bool
is_space b = b == 32 || b == 9 || b == 13 || b == 10

-- an ASCII letter or `_`
abbrev pub starts_word : ℕ → Bool
starts_word b = (nat_le 97 b && nat_le b 122) || (nat_le 65 b && nat_le b 90) || b == 95

abbrev pub is_digit : ℕ → Bool
is_digit b = nat_le 48 b && nat_le b 57

abbrev pub is_word_byte : ℕ → Bool
is_word_byte b = starts_word b || is_digit b

-- how many bytes of the front pass
abbrev pub run : (ℕ → Bool) → List ℕ → ℕ
run p [] = 0
run p (b ∷ bs) = if p b then suc (run p bs) else 0

-- the number that digits spell, if it is at most 2 ^ 63 - 1
unfoldable pub number_of : List ℕ → Option ℕ
number_of digits = if nat_le (decimal_on 0 digits) 9_223_372_036_854_775_807 then Some (decimal_on 0 digits) else None

abbrev pub begins_with : ℕ → List ℕ → Bool
begins_with byte [] = false
begins_with byte (b ∷ bs) = b == byte

-- a number runs into no word and into no dot
unfoldable pub is_ended : List ℕ → Bool
is_ended [] = true
is_ended (b ∷ bs) = if starts_word b || b == 46 then false else true

-- two quotes in one, if the text is closed behind them, or else the first of them closes it
abbrev pub or_one : Option ℕ → Option ℕ
or_one None = Some 1
or_one (Some n) = Some (suc (suc n))

-- how many bytes there are up to the closing quote, and with it, which doubled quotes are not; the longest, where
-- a doubled one may close
abbrev pub closing : ℕ → List ℕ → Option ℕ
closing quote [] = None
closing quote (b ∷ []) = if b == quote then Some 1 else None
closing quote (b ∷ c ∷ bs) =
    if b == quote then (if c == quote then or_one (closing quote bs) else Some 1) else option_map suc (closing quote (c ∷ bs))

-- the kind and the length of a token
abbrev pub Cut : Type 0
Cut = TokenKind × ℕ

-- The token at the front, or how far behind the front the fault is.

unfoldable pub number_cut : List ℕ → Result Cut ℕ
number_cut bytes =
    if is_some (number_of (take (run is_digit bytes) bytes))
    then (if is_ended (drop (run is_digit bytes) bytes) then Ok (k.Number, run is_digit bytes) else Err (run is_digit bytes)) else Err 0

-- behind an opening quote
abbrev pub quoted_or : TokenKind → ℕ → Option ℕ → Result Cut ℕ
quoted_or kind least None = Err 0
quoted_or kind least (Some n) = if nat_lt n least then Err 0 else Ok (kind, suc n)

-- a name is not empty
unfoldable pub name_cut : List ℕ → Result Cut ℕ
name_cut bytes = quoted_or k.Quoted 2 (closing 34 bytes)

unfoldable pub string_cut : List ℕ → Result Cut ℕ
string_cut bytes = quoted_or k.Str 1 (closing 39 bytes)

abbrev pub is_no_backtick : ℕ → Bool
is_no_backtick b = if b == 96 then false else true

unfoldable pub moment_cut : List ℕ → Result Cut ℕ
moment_cut bytes =
    if nat_lt (run is_no_backtick bytes) (length bytes) && is_some (time_of (take (run is_no_backtick bytes) bytes))
    then Ok (k.Moment, suc (suc (run is_no_backtick bytes))) else Err 0

-- the sign that two bytes are: `<>`, `!=`, `<=`, `>=`
unfoldable pub two_sign : ℕ → ℕ → Option Mark
two_sign b c =
    if b == 60 && c == 62 then Some m.Unequal
    else (if b == 33 && c == 61 then Some m.Unequal
    else (if b == 60 && c == 61 then Some m.AtMost
    else (if b == 62 && c == 61 then Some m.AtLeast else None)))

-- the sign that a byte is: `( ) [ ] , . * + - / % = < >`
unfoldable pub one_sign : ℕ → Option Mark
one_sign b =
    if b == 40 then Some m.Open else (if b == 41 then Some m.Close
    else (if b == 91 then Some m.OpenIndex else (if b == 93 then Some m.CloseIndex
    else (if b == 44 then Some m.Comma else (if b == 46 then Some m.Dot
    else (if b == 42 then Some m.Star else (if b == 43 then Some m.Plus
    else (if b == 45 then Some m.Minus else (if b == 47 then Some m.Slash
    else (if b == 37 then Some m.Percent else (if b == 61 then Some m.Equal
    else (if b == 60 then Some m.Less else (if b == 62 then Some m.Greater else None)))))))))))))

-- the sign that the bytes are
unfoldable pub sign_of : List ℕ → Option Mark
sign_of [] = None
sign_of (b ∷ []) = one_sign b
sign_of (b ∷ c ∷ []) = two_sign b c
sign_of (b ∷ c ∷ d ∷ bs) = None

abbrev pub begins_two : ℕ → List ℕ → Bool
begins_two b [] = false
begins_two b (c ∷ bs) = is_some (two_sign b c)

-- `-` directly before `-` is no token
unfoldable pub sign_cut : ℕ → List ℕ → Result Cut ℕ
sign_cut b bs =
    if b == 45 && begins_with 45 bs then Err 0
    else (if begins_two b bs then Ok (k.Sign, 2)
    else (if is_some (one_sign b) then Ok (k.Sign, 1) else Err 0))

unfoldable pub cut_at : ℕ → List ℕ → Result Cut ℕ
cut_at b bs =
    if starts_word b then Ok (k.Word, suc (run is_word_byte bs))
    else (if is_digit b then number_cut (b ∷ bs)
    else (if b == 34 then name_cut bs
    else (if b == 39 then string_cut bs
    else (if b == 96 then moment_cut bs else sign_cut b bs))))

-- a token, its first place, and the place behind it
pub record Span : Type 0 where
  pub kind : TokenKind
  pub from : ℕ
  pub to : ℕ

abbrev pub with_span : Span → Result (List Span) ℕ → Result (List Span) ℕ
with_span s (Ok ss) = Ok (s ∷ ss)
with_span s (Err p) = Err p

abbrev pub cut_then : ℕ → Result Cut ℕ → (Cut → Result (List Span) ℕ) → Result (List Span) ℕ
cut_then at (Ok c) go = go c
cut_then at (Err n) go = Err (at + n)

-- the tokens of the bytes from a place on, of which so many at the front belong to a token before
abbrev pub spans_from : ℕ → ℕ → List ℕ → Result (List Span) ℕ
spans_from skip at [] = Ok []
spans_from (suc skip) at (b ∷ bs) = spans_from skip (at + 1) bs
spans_from zero at (b ∷ bs) =
    if is_space b then spans_from 0 (at + 1) bs
    else cut_then at (cut_at b bs) (λ c. with_span (record { kind = c.0; from = at; to = at + c.1 }) (spans_from (c.1 - 1) (at + 1) bs))

-- the tokens of a text, or the place of its first fault
unfoldable pub spans_of : List ℕ → Result (List Span) ℕ
spans_of text = spans_from 0 0 text
