-- Signs are taken before what follows them in a printed query.
use Rattle.std.proofs.Common.{◌≡◌, ℕ, List, [], ◌∷◌, false, Ok, refl}
use Rattle.query_meaning.specs.declared.TokenKind.TheVariants as k
use Rattle.query_meaning.specs.declared.Mark.TheVariants as m
use Rattle.query_meaning.specs.Lexing.{begins_with, two_sign, one_sign, sign_of, sign_cut, cut_at}
use Rattle.query_meaning.specs.Tokens.{mark, token_of}
use Rattle.print_meaning.specs.Pieces.{spelling}
use Rattle.print_meaning.proofs.Lexed.{Lexes}

-- a sign of one byte that goes on with nothing
abbrev IsAlone : ℕ → Type 0
IsAlone b = (rest : List ℕ) → cut_at b rest ≡ Ok (k.Sign, 1)

open_cut : IsAlone 40
unfolding cut_at sign_cut one_sign two_sign
open_cut [] = refl
open_cut (c ∷ bs) = refl

pub open_lexes : (rest : List ℕ) → Lexes (mark m.Open) rest
unfolding spelling token_of sign_of one_sign
open_lexes rest = record { kind = k.Sign; head = 40; tail = []; bytes = refl; visible = refl; cut = open_cut rest; means = refl; allowed = refl }

close_cut : IsAlone 41
unfolding cut_at sign_cut one_sign two_sign
close_cut [] = refl
close_cut (c ∷ bs) = refl

pub close_lexes : (rest : List ℕ) → Lexes (mark m.Close) rest
unfolding spelling token_of sign_of one_sign
close_lexes rest = record { kind = k.Sign; head = 41; tail = []; bytes = refl; visible = refl; cut = close_cut rest; means = refl; allowed = refl }

open_index_cut : IsAlone 91
unfolding cut_at sign_cut one_sign two_sign
open_index_cut [] = refl
open_index_cut (c ∷ bs) = refl

pub open_index_lexes : (rest : List ℕ) → Lexes (mark m.OpenIndex) rest
unfolding spelling token_of sign_of one_sign
open_index_lexes rest = record { kind = k.Sign; head = 91; tail = []; bytes = refl; visible = refl; cut = open_index_cut rest; means = refl; allowed = refl }

close_index_cut : IsAlone 93
unfolding cut_at sign_cut one_sign two_sign
close_index_cut [] = refl
close_index_cut (c ∷ bs) = refl

pub close_index_lexes : (rest : List ℕ) → Lexes (mark m.CloseIndex) rest
unfolding spelling token_of sign_of one_sign
close_index_lexes rest = record { kind = k.Sign; head = 93; tail = []; bytes = refl; visible = refl; cut = close_index_cut rest; means = refl; allowed = refl }

comma_cut : IsAlone 44
unfolding cut_at sign_cut one_sign two_sign
comma_cut [] = refl
comma_cut (c ∷ bs) = refl

pub comma_lexes : (rest : List ℕ) → Lexes (mark m.Comma) rest
unfolding spelling token_of sign_of one_sign
comma_lexes rest = record { kind = k.Sign; head = 44; tail = []; bytes = refl; visible = refl; cut = comma_cut rest; means = refl; allowed = refl }

dot_cut : IsAlone 46
unfolding cut_at sign_cut one_sign two_sign
dot_cut [] = refl
dot_cut (c ∷ bs) = refl

pub dot_lexes : (rest : List ℕ) → Lexes (mark m.Dot) rest
unfolding spelling token_of sign_of one_sign
dot_lexes rest = record { kind = k.Sign; head = 46; tail = []; bytes = refl; visible = refl; cut = dot_cut rest; means = refl; allowed = refl }

star_cut : IsAlone 42
unfolding cut_at sign_cut one_sign two_sign
star_cut [] = refl
star_cut (c ∷ bs) = refl

pub star_lexes : (rest : List ℕ) → Lexes (mark m.Star) rest
unfolding spelling token_of sign_of one_sign
star_lexes rest = record { kind = k.Sign; head = 42; tail = []; bytes = refl; visible = refl; cut = star_cut rest; means = refl; allowed = refl }

plus_cut : IsAlone 43
unfolding cut_at sign_cut one_sign two_sign
plus_cut [] = refl
plus_cut (c ∷ bs) = refl

pub plus_lexes : (rest : List ℕ) → Lexes (mark m.Plus) rest
unfolding spelling token_of sign_of one_sign
plus_lexes rest = record { kind = k.Sign; head = 43; tail = []; bytes = refl; visible = refl; cut = plus_cut rest; means = refl; allowed = refl }

slash_cut : IsAlone 47
unfolding cut_at sign_cut one_sign two_sign
slash_cut [] = refl
slash_cut (c ∷ bs) = refl

pub slash_lexes : (rest : List ℕ) → Lexes (mark m.Slash) rest
unfolding spelling token_of sign_of one_sign
slash_lexes rest = record { kind = k.Sign; head = 47; tail = []; bytes = refl; visible = refl; cut = slash_cut rest; means = refl; allowed = refl }

percent_cut : IsAlone 37
unfolding cut_at sign_cut one_sign two_sign
percent_cut [] = refl
percent_cut (c ∷ bs) = refl

pub percent_lexes : (rest : List ℕ) → Lexes (mark m.Percent) rest
unfolding spelling token_of sign_of one_sign
percent_lexes rest = record { kind = k.Sign; head = 37; tail = []; bytes = refl; visible = refl; cut = percent_cut rest; means = refl; allowed = refl }

equal_cut : IsAlone 61
unfolding cut_at sign_cut one_sign two_sign
equal_cut [] = refl
equal_cut (c ∷ bs) = refl

pub equal_lexes : (rest : List ℕ) → Lexes (mark m.Equal) rest
unfolding spelling token_of sign_of one_sign
equal_lexes rest = record { kind = k.Sign; head = 61; tail = []; bytes = refl; visible = refl; cut = equal_cut rest; means = refl; allowed = refl }

minus_cut : (rest : List ℕ) → begins_with 45 rest ≡ false → cut_at 45 rest ≡ Ok (k.Sign, 1)
unfolding cut_at sign_cut one_sign two_sign
minus_cut [] h = refl
minus_cut (c ∷ bs) h = rw h refl

pub minus_lexes : (rest : List ℕ) → begins_with 45 rest ≡ false → Lexes (mark m.Minus) rest
unfolding spelling token_of sign_of one_sign
minus_lexes rest h = record { kind = k.Sign; head = 45; tail = []; bytes = refl; visible = refl; cut = minus_cut rest h; means = refl; allowed = refl }

-- before a space
pub less_lexes : (rest : List ℕ) → Lexes (mark m.Less) (32 ∷ rest)
unfolding spelling token_of sign_of one_sign two_sign cut_at sign_cut
less_lexes rest = record { kind = k.Sign; head = 60; tail = []; bytes = refl; visible = refl; cut = refl; means = refl; allowed = refl }

-- before a space
pub greater_lexes : (rest : List ℕ) → Lexes (mark m.Greater) (32 ∷ rest)
unfolding spelling token_of sign_of one_sign two_sign cut_at sign_cut
greater_lexes rest = record { kind = k.Sign; head = 62; tail = []; bytes = refl; visible = refl; cut = refl; means = refl; allowed = refl }

pub unequal_lexes : (rest : List ℕ) → Lexes (mark m.Unequal) rest
unfolding spelling token_of sign_of one_sign two_sign cut_at sign_cut
unequal_lexes rest = record { kind = k.Sign; head = 60; tail = 62 ∷ []; bytes = refl; visible = refl; cut = refl; means = refl; allowed = refl }

pub at_most_lexes : (rest : List ℕ) → Lexes (mark m.AtMost) rest
unfolding spelling token_of sign_of one_sign two_sign cut_at sign_cut
at_most_lexes rest = record { kind = k.Sign; head = 60; tail = 61 ∷ []; bytes = refl; visible = refl; cut = refl; means = refl; allowed = refl }

pub at_least_lexes : (rest : List ℕ) → Lexes (mark m.AtLeast) rest
unfolding spelling token_of sign_of one_sign two_sign cut_at sign_cut
at_least_lexes rest = record { kind = k.Sign; head = 62; tail = 61 ∷ []; bytes = refl; visible = refl; cut = refl; means = refl; allowed = refl }
