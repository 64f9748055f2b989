-- The first byte of a token tells its kind.
use Rattle.std.proofs.Common.{◌≡◌, ℕ, zero, suc, ◌<◌, ◌≤◌, List, [], ◌∷◌, length, take, Bool, true, false, refl, sym, ◌∙◌, arith}
use Rattle.std.specs.Prelude.{◌&&◌, ◌==◌, nat_le, is_some, if◌then◌else◌}
use Rattle.std.proofs.lemmas.Bool.Decides.{nat_tests}
use Rattle.query_meaning.specs.declared.TokenKind.{TokenKind}
use Rattle.query_meaning.specs.declared.TokenKind.TheVariants as k
use Rattle.query_meaning.specs.Lexing.{starts_word, is_digit, one_sign, two_sign, sign_of}
use Rattle.token_meaning.specs.Spelling.{is_spelled}
use Rattle.token_meaning.proofs.Runs.{and_left}

-- the kind of the tokens that begin with a byte
abbrev pub opens : ℕ → TokenKind
opens b =
    if starts_word b then k.Word
    else (if is_digit b then k.Number
    else (if b == 34 then k.Quoted
    else (if b == 39 then k.Str
    else (if b == 96 then k.Moment else k.Sign))))

pub equal : (a b : ℕ) → (a == b) ≡ true → a ≡ b
equal a b e = grind (arith, nat_tests)

pub digit_no_word : (b : ℕ) → is_digit b ≡ true → starts_word b ≡ false
digit_no_word b e = grind (arith, nat_tests)

-- a byte that begins no token but a sign
pub record IsOther (b : ℕ) : Type 0 where
  pub word : starts_word b ≡ false
  pub digit : is_digit b ≡ false
  pub name : (b == 34) ≡ false
  pub string : (b == 39) ≡ false
  pub moment : (b == 96) ≡ false

pub opens_other : (b : ℕ) → IsOther b → opens b ≡ k.Sign
opens_other b h = rw (h.word, h.digit, h.name, h.string, h.moment) refl

pub one_is_other : (b : ℕ) → is_some (one_sign b) ≡ true → IsOther b
unfolding one_sign
one_is_other b e = record {
  word = grind (arith, nat_tests);
  digit = grind (arith, nat_tests);
  name = grind (arith, nat_tests);
  string = grind (arith, nat_tests);
  moment = grind (arith, nat_tests);
}

pub two_is_other : (b c : ℕ) → is_some (two_sign b c) ≡ true → IsOther b
unfolding two_sign
two_is_other b c e = record {
  word = grind (arith, nat_tests);
  digit = grind (arith, nat_tests);
  name = grind (arith, nat_tests);
  string = grind (arith, nat_tests);
  moment = grind (arith, nat_tests);
}

sign_opens : (b : ℕ) (x : List ℕ) → is_some (sign_of (b ∷ x)) ≡ true → opens b ≡ k.Sign
unfolding sign_of
sign_opens b [] e = opens_other b (one_is_other b e)
sign_opens b (c ∷ []) e = opens_other b (two_is_other b c e)
sign_opens b (c ∷ d ∷ x) e = absurd cc

quoted_opens : (b : ℕ) (x : List ℕ) → is_spelled k.Quoted (b ∷ x) ≡ true → opens b ≡ k.Quoted
quoted_opens b [] e = absurd cc
quoted_opens b (c ∷ []) e = absurd cc
quoted_opens b (c ∷ d ∷ x) e = let q : b ≡ 34 = equal b 34 (and_left _ _ e) in rw q refl

spelled_opens : (kind : TokenKind) (b : ℕ) (x : List ℕ) → is_spelled kind (b ∷ x) ≡ true → opens b ≡ kind
spelled_opens k.Word b x e = let w : starts_word b ≡ true = and_left _ _ e in rw w refl
spelled_opens k.Quoted b x e = quoted_opens b x e
spelled_opens k.Str b x e = let q : b ≡ 39 = equal b 39 (and_left _ _ e) in rw q refl
spelled_opens k.Moment b x e = let q : b ≡ 96 = equal b 96 (and_left _ _ e) in rw q refl
spelled_opens k.Number b x e = let d : is_digit b ≡ true = and_left _ _ e in rw (digit_no_word b d, d) refl
spelled_opens k.Sign b x e = sign_opens b x e

-- where no longer front is a token of the first byte's kind, none is a token of any kind
pub no_other : (kind : TokenKind) (b : ℕ) (bs : List ℕ) (n : ℕ) → opens b ≡ kind → ((m : ℕ) → n < suc m → m ≤ length bs → is_spelled kind (b ∷ take m bs) ≡ false) → (other : TokenKind) (m : ℕ) → n < m → m ≤ length (b ∷ bs) → is_spelled other (take m (b ∷ bs)) ≡ false
no_other kind b bs n e f other zero h j = absurd (omega (arith, h))
no_other kind b bs n e f other (suc m) h j = go (is_spelled other (b ∷ take m bs)) refl
  where
    go : (t : Bool) → is_spelled other (b ∷ take m bs) ≡ t → is_spelled other (b ∷ take m bs) ≡ false
    go false g = g
    go true g = rw (sym (spelled_opens other b (take m bs) g) ∙ e) (f m h (omega (arith, j)))
