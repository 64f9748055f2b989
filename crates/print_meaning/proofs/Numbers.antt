-- The decimal digits of a number are taken as it.
use Rattle.std.proofs.Common.{◌≡◌, ℕ, suc, ◌^◌, ◌<◌, List, [], ◌∷◌, ◌++◌, length, Bool, true, false, cond, Some, Ok, refl, arith, rules}
use Rattle.std.specs.Prelude.{◌==◌, nat_le, decimal}
use Rattle.std.proofs.Math.Seq.{take-append_seam, drop-append_seam}
use Rattle.std.proofs.lemmas.Bool.Decides.{nat_tests}
use Rattle.std.proofs.lemmas.Fmt.{digits_decimal, digits_value-decimal, decimal_nonempty}
use Rattle.std.proofs.lemmas.Str.Parse.{IsNumeralModel, numerals_by_fold}
use Rattle.query_meaning.specs.declared.TokenKind.TheVariants as k
use Rattle.query_meaning.specs.Lexing.{is_space, starts_word, is_digit, number_of, is_ended, begins_with, number_cut, cut_at}
use Rattle.tree_meaning.specs.Decimals.{decimal_on}
use Rattle.query_meaning.specs.Tokens.{num, token_of}
use Rattle.print_meaning.specs.Pieces.{spelling}
use Rattle.print_meaning.proofs.Lexed.{Lexes}
use Rattle.print_meaning.proofs.PlainWords.{first, each, run_over}

own : IsNumeralModel (λ ds. each is_digit ds ≡ true) (decimal_on 0)
own = numerals_by_fold _ (search rules) decimal_on (search rules)

all_digits : (n : ℕ) → n < 2 ^ 63 → each is_digit (decimal n) ≡ true
all_digits n h = digits_decimal own n (omega (arith, h))

value_again : (n : ℕ) → n < 2 ^ 63 → decimal_on 0 (decimal n) ≡ n
value_again n h = digits_value-decimal own n (omega (arith, h))

small_enough : (n : ℕ) → n < 2 ^ 63 → nat_le n 9_223_372_036_854_775_807 ≡ true
small_enough n h = grind (arith, nat_tests)

pub number_again : (n : ℕ) → n < 2 ^ 63 → number_of (decimal n) ≡ Some n
unfolding number_of
number_again n h = rw (value_again n h, small_enough n h) refl

no_word : (b : ℕ) → is_digit b ≡ true → starts_word b ≡ false
no_word b h = grind (arith, nat_tests)

no_space : (b : ℕ) → is_digit b ≡ true → is_space b ≡ false
no_space b h = grind (arith, nat_tests)

-- a list of digits
record IsNumber (n head : ℕ) (tail : List ℕ) : Type 0 where
  some : decimal n ≡ head ∷ tail
  digit : is_digit head ≡ true
  digits : each is_digit (head ∷ tail) ≡ true
  again : number_of (head ∷ tail) ≡ Some n

digits_cut : (w rest : List ℕ) (n : ℕ) → each is_digit w ≡ true → number_of w ≡ Some n → first is_digit rest ≡ false → is_ended rest ≡ true → number_cut (w ++ rest) ≡ Ok (k.Number, length w)
unfolding number_cut
digits_cut w rest n d again s e = rw (run_over is_digit w rest d s, take-append_seam w rest, drop-append_seam w rest, again, e) refl

number_is_cut : (n head : ℕ) (tail rest : List ℕ) → IsNumber n head tail → first is_digit rest ≡ false → is_ended rest ≡ true → cut_at head (tail ++ rest) ≡ Ok (k.Number, suc (length tail))
unfolding cut_at
number_is_cut n head tail rest d s e = rw (no_word head d.digit, d.digit) (digits_cut (head ∷ tail) rest n d.digits d.again s e)

number_means : (n head : ℕ) (tail : List ℕ) → number_of (head ∷ tail) ≡ Some n → token_of k.Number (head ∷ tail) ≡ num n
unfolding token_of
number_means n head tail e = rw e refl

number_parts : (n : ℕ) (w : List ℕ) (rest : List ℕ) → n < 2 ^ 63 → decimal n ≡ w → 0 < length w → first is_digit rest ≡ false → is_ended rest ≡ true → Lexes (num n) rest
unfolding spelling
number_parts n [] rest h e some s ended = absurd (omega (arith, some))
number_parts n (b ∷ bs) rest h e some s ended =
    let digits : each is_digit (b ∷ bs) ≡ true = rw e at (all_digits n h) in
    let again : number_of (b ∷ bs) ≡ Some n = rw e at (number_again n h) in
    let one : is_digit b ≡ true = front (is_digit b) (each is_digit bs) digits in
    record {
      kind = k.Number;
      head = b;
      tail = bs;
      bytes = e;
      visible = no_space b one;
      cut = number_is_cut n b bs rest (record { some = e; digit = one; digits = digits; again = again }) s ended;
      means = number_means n b bs again;
      allowed = refl;
    }
  where
    front : (x y : Bool) → cond x y false ≡ true → x ≡ true
    front true y g = refl
    front false y g = absurd cc

pub number_lexes : (n : ℕ) (rest : List ℕ) → n < 2 ^ 63 → first is_digit rest ≡ false → is_ended rest ≡ true → Lexes (num n) rest
number_lexes n rest h s ended = number_parts n (decimal n) rest h refl (decimal_nonempty n (omega (arith, h))) s ended

-- the text of a number begins with no sign
pub digit_first : (n : ℕ) (rest : List ℕ) → n < 2 ^ 63 → begins_with 45 (decimal n ++ rest) ≡ false
digit_first n rest h = go (decimal n) (all_digits n h) (decimal_nonempty n (omega (arith, h)))
  where
    no_minus : (b : ℕ) → is_digit b ≡ true → (b == 45) ≡ false
    no_minus b d = grind (arith, nat_tests)

    front : (x y : Bool) → cond x y false ≡ true → x ≡ true
    front true y g = refl
    front false y g = absurd cc

    go : (w : List ℕ) → each is_digit w ≡ true → 0 < length w → begins_with 45 (w ++ rest) ≡ false
    go [] d some = absurd (omega (arith, some))
    go (b ∷ bs) d some = no_minus b (front (is_digit b) (each is_digit bs) d)
