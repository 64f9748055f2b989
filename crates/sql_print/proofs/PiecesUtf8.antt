-- The pieces of printed queries are UTF-8.
use Rattle.std.proofs.Common.{◌≡◌, ℕ, suc, ◌<◌, ◌≤◌, ◌/◌, ◌%◌, ◌^◌, ◌==◌, Bool, true, false, cond, ◌&&◌, nat_lt, List, [], ◌∷◌, ◌++◌, length, get_or, IsUtf8, inl, inr, refl, sym, ap, subst, ℤ, pos, negsuc, arith, append-nil, ltb-true}
use Rattle.std.specs.Prelude.{decimal, codes, Result, Ok, Err, OnOk, OnErr}
use Rattle.std.proofs.lemmas.Bool.{and_parts, cases_lt}
use Rattle.std.proofs.lemmas.Bool.Decides.{nat_tests}
use Rattle.std.proofs.lemmas.Fmt.{IsAscii-decimal_wide}
use Rattle.std.proofs.lemmas.Str.{IsUtf8-append, IsUtf8-nil, IsUtf8-encode, IsUtf8-from_ascii, encode_ascii, inside_one}
use lib.Utf8.{scalar, scalars, encode, encodes, low_scalar}
use Rattle.value_meaning.specs.Val.{Val}
use Rattle.value_meaning.specs.Val as val
use Rattle.value_meaning.specs.Sound.{IsSound}
use Rattle.time_meaning.specs.Printed.{digit, two, four, six, to_second, after_second, micros_at, time_text}
use Rattle.tree_meaning.specs.WellFormed.{IsLiteral}
use Rattle.print_meaning.specs.Pieces.{doubled, in_quotes, spelling}
use Rattle.print_meaning.specs.Texts.{literal_text}
use Rattle.sql_pieces.proofs.LiteralTexts.{int_text, moment_text, string_text}

ascii_then : (x : ℕ) (xs : List ℕ) → x < 128 → IsUtf8 xs → IsUtf8 (x ∷ xs)
ascii_then x xs small u = IsUtf8-append (x ∷ []) xs (subst IsUtf8 (encode_ascii x small) (IsUtf8-encode x (low_scalar x (omega arith)))) u

abbrev are_ascii : List ℕ → Bool
are_ascii [] = true
are_ascii (x ∷ xs) = nat_lt x 128 && are_ascii xs

from_ascii : (xs : List ℕ) → are_ascii xs ≡ true → IsUtf8 xs
from_ascii [] e = IsUtf8-nil
from_ascii (x ∷ xs) e = let p = and_parts _ _ e in ascii_then x xs (ltb-true _ _ p.0) (from_ascii xs p.1)

pub digits_utf8 : (n : ℕ) → n < 10 ^ 64 → IsUtf8 (decimal n)
digits_utf8 n h = IsUtf8-from_ascii (decimal n) (IsAscii-decimal_wide n h)

-- Between quotes: no byte of a longer character is the quote.

doubled_append : (q : ℕ) (xs ys : List ℕ) → doubled q (xs ++ ys) ≡ doubled q xs ++ doubled q ys
doubled_append q [] ys = refl
doubled_append q (x ∷ xs) ys = go (x == q) (doubled_append q xs ys)
  where
    go : (t : Bool) → doubled q (xs ++ ys) ≡ doubled q xs ++ doubled q ys → cond t (q ∷ q ∷ doubled q (xs ++ ys)) (x ∷ doubled q (xs ++ ys)) ≡ cond t (q ∷ q ∷ doubled q xs) (x ∷ doubled q xs) ++ doubled q ys
    go true e = ap (λ (z : List ℕ). q ∷ q ∷ z) e
    go false e = ap (λ (z : List ℕ). x ∷ z) e

other_byte : (q x : ℕ) → q < 128 → 128 ≤ x → (x == q) ≡ false
other_byte q x h k = grind (arith, nat_tests)

doubled_high : (q : ℕ) (xs : List ℕ) → q < 128 → ((k : ℕ) → k < length xs → 128 ≤ get_or xs k 0) → doubled q xs ≡ xs
doubled_high q [] s h = refl
doubled_high q (x ∷ xs) s h = rw (other_byte q x s (h 0 (omega arith))) (ap (λ (z : List ℕ). x ∷ z) (doubled_high q xs s (λ k below. h (suc k) (omega arith))))

doubled_one : (q x : ℕ) → q < 128 → x < 128 → IsUtf8 (doubled q (x ∷ []))
doubled_one q x s h = go (x == q)
  where
    go : (t : Bool) → IsUtf8 (cond t (q ∷ q ∷ []) (x ∷ []))
    go true = ascii_then q (q ∷ []) s (ascii_then q [] s IsUtf8-nil)
    go false = ascii_then x [] h IsUtf8-nil

one_char : (q c : ℕ) → q < 128 → scalar c ≡ true → IsUtf8 (doubled q (encode c))
one_char q c s ok = elim (cases_lt c 128) [
  | inl small ↦ rw (encode_ascii c small) (doubled_one q c s small)
  | inr big ↦
      let high : (k : ℕ) → k < length (encode c) → 128 ≤ get_or (encode c) k 0 = λ k below. elim (cases_lt (get_or (encode c) k 0) 128) [
        | inl low ↦ absurd (omega (arith, inside_one c [] (encode c) k (sym (append-nil _)) below low))
        | inr h ↦ h
      ] in
      subst IsUtf8 (sym (doubled_high q (encode c) s high)) (IsUtf8-encode c ok)
]

all_chars : (q : ℕ) (cs : List ℕ) → q < 128 → scalars cs ≡ true → IsUtf8 (doubled q (encodes cs))
all_chars q [] s e = IsUtf8-nil
all_chars q (c ∷ cs) s e =
    let p = and_parts _ _ e in
    subst IsUtf8 (sym (doubled_append q (encode c) (encodes cs))) (IsUtf8-append _ _ (one_char q c s p.0) (all_chars q cs s p.1))

pub quoted_utf8 : (q : ℕ) (bs : List ℕ) → q < 128 → IsUtf8 bs → IsUtf8 (in_quotes q bs)
quoted_utf8 q bs s u =
    ascii_then q _ s (IsUtf8-append (doubled q bs) (q ∷ []) (subst (λ (l : List ℕ). IsUtf8 (doubled q l)) u.1.1 (all_chars q u.0 s u.1.0)) (ascii_then q [] s IsUtf8-nil))

-- Times: digits and signs between them.

digit_then : (n : ℕ) (xs : List ℕ) → IsUtf8 xs → IsUtf8 (digit n ∷ xs)
digit_then n xs u = ascii_then (digit n) xs (omega arith) u

two_then : (n : ℕ) (xs : List ℕ) → IsUtf8 xs → IsUtf8 (two n ++ xs)
two_then n xs u = digit_then (n / 10) (digit n ∷ xs) (digit_then n xs u)

four_then : (n : ℕ) (xs : List ℕ) → IsUtf8 xs → IsUtf8 (four n ++ xs)
four_then n xs u = two_then (n / 100) (two n ++ xs) (two_then n xs u)

second_then : (year month day hour minute second : ℕ) (xs : List ℕ) → IsUtf8 xs → IsUtf8 (to_second year month day hour minute second ++ xs)
second_then year month day hour minute second xs u =
    four_then year _ (ascii_then 45 _ (omega arith) (two_then month _ (ascii_then 45 _ (omega arith) (two_then day _ (ascii_then 84 _ (omega arith)
    (two_then hour _ (ascii_then 58 _ (omega arith) (two_then minute _ (ascii_then 58 _ (omega arith) (two_then second xs u))))))))))

fraction_utf8 : (n : ℕ) → IsUtf8 (after_second n)
fraction_utf8 n = go (n == 0)
  where
    go : (t : Bool) → IsUtf8 (cond t (90 ∷ []) (46 ∷ six n ++ 90 ∷ []))
    go true = from_ascii (90 ∷ []) refl
    go false = ascii_then 46 _ (omega arith) (two_then (n / 10_000) _ (four_then n (90 ∷ []) (from_ascii (90 ∷ []) refl)))

time_utf8 : (t : ℤ) → IsUtf8 (time_text t)
unfolding time_text
time_utf8 t = second_then _ _ _ _ _ _ (after_second (micros_at t % 1_000_000)) (fraction_utf8 (micros_at t % 1_000_000))

moment_utf8 : (t : ℤ) → IsUtf8 (96 ∷ (time_text t ++ 96 ∷ []))
moment_utf8 t = ascii_then 96 _ (omega arith) (IsUtf8-append (time_text t) (96 ∷ []) (time_utf8 t) (from_ascii (96 ∷ []) refl))

-- Literals, of which a text is UTF-8 where the value is sound.

truth_utf8 : (b : Bool) → IsUtf8 (literal_text (val.truth b))
unfolding literal_text spelling
truth_utf8 true = from_ascii (codes "TRUE") refl
truth_utf8 false = from_ascii (codes "FALSE") refl

null_utf8 : IsUtf8 (literal_text val.null)
unfolding literal_text spelling
null_utf8 = from_ascii (codes "NULL") refl

missing_utf8 : IsUtf8 (literal_text val.missing)
unfolding literal_text spelling
missing_utf8 = from_ascii (codes "MISSING") refl

pub literal_utf8 : (v : Val) → IsLiteral v → IsSound v → IsUtf8 (literal_text v)
literal_utf8 val.missing h s = missing_utf8
literal_utf8 val.null h s = null_utf8
literal_utf8 (val.truth b) h s = truth_utf8 b
literal_utf8 (val.int (pos n)) h s = rw (int_text (pos n)) (digits_utf8 n (omega arith))
literal_utf8 (val.int (negsuc n)) h s = absurd h
literal_utf8 (val.time t) h s = rw (moment_text t) (moment_utf8 t)
literal_utf8 (val.text p) h s = rw (string_text p) (quoted_utf8 39 p (omega arith) s)
literal_utf8 (val.list vs) h s = absurd h
literal_utf8 (val.struct fs) h s = absurd h

-- What was UTF-8 stays so by a piece that is UTF-8, added whole or not at all, and by one that was added.
pub whole_or_none : {A E : Type 0} (r : Result A E) (old new piece : List ℕ) → OnOk r (new ≡ old ++ piece) → OnErr r (new ≡ old) → IsUtf8 old → IsUtf8 piece → IsUtf8 new
whole_or_none (Ok x) old new piece h k u v = subst IsUtf8 (sym h) (IsUtf8-append old piece u v)
whole_or_none (Err e) old new piece h k u v = subst IsUtf8 (sym k) u

pub with_piece : (old new piece : List ℕ) → new ≡ old ++ piece → IsUtf8 old → IsUtf8 piece → IsUtf8 new
with_piece old new piece h u v = subst IsUtf8 (sym h) (IsUtf8-append old piece u v)
