-- Undoubling quotes keeps UTF-8.
use Rattle.std.proofs.Common.{◌≡◌, ℕ, List, [], ◌∷◌, ◌++◌, Bool, true, false, cond, refl, sym, ap, subst, ◌∙◌, ◌==◌, ◌&&◌, ◌<◌, ◌≤◌, ◌+◌, ◌/◌, ◌%◌, ⊎_elim, arith}
use Rattle.std.specs.Str.{IsUtf8}
use Rattle.std.proofs.lemmas.Str.{IsUtf8-nil, IsUtf8-append, IsUtf8-encode, encode_ascii}
use Rattle.std.proofs.lemmas.Bool.Decides.{eqb_tells}
use Rattle.std.proofs.lemmas.Bool.{le-ltb, ltb-true, ltb-false}
use Rattle.std.proofs.Math.Utf8.{encode, scalar, scalars, encodes}
use Rattle.std.proofs.Math.Dec.{ltb}
use Rattle.query_meaning.specs.Tokens.{undoubled}
use Rattle.sql_words.proofs.Doubled.{left, other, dropped, first_quote, kept}

abbrev Highs : List ℕ → Type 0
Highs [] = Unit {0}
Highs (x ∷ l) = (128 ≤ x) × Highs l

-- bytes that aren't ASCII, the first of them apart
record Wide (xs : List ℕ) : Type 0 where
  first : ℕ
  rest : List ℕ
  is : xs ≡ first ∷ rest
  high : Highs (first ∷ rest)

wide : (c : ℕ) → 128 ≤ c → Wide (encode c)
unfolding encode
wide c h = go (ltb c 128) (ltb c 2048) (ltb c 65536) (le-ltb c 128 h)
  where
    go : (a b d : Bool) → a ≡ false → Wide (cond a (c ∷ []) (cond b ((192 + c / 64) ∷ (128 + c % 64) ∷ []) (cond d ((224 + c / 4096) ∷ (128 + (c / 64) % 64) ∷ (128 + c % 64) ∷ []) ((240 + c / 262144) ∷ (128 + (c / 4096) % 64) ∷ (128 + (c / 64) % 64) ∷ (128 + c % 64) ∷ []))))
    go true b d e = absurd cc
    go false true d e = record { first = 192 + c / 64; rest = (128 + c % 64) ∷ []; is = refl; high = (omega arith, (omega arith, tt)) }
    go false false true e = record { first = 224 + c / 4096; rest = (128 + (c / 64) % 64) ∷ (128 + c % 64) ∷ []; is = refl; high = (omega arith, (omega arith, (omega arith, tt))) }
    go false false false e = record { first = 240 + c / 262144; rest = (128 + (c / 4096) % 64) ∷ (128 + (c / 64) % 64) ∷ (128 + c % 64) ∷ []; is = refl; high = (omega arith, (omega arith, (omega arith, (omega arith, tt)))) }

module _ (q : ℕ) (small : q < 128) where
  differs : (x : ℕ) → 128 ≤ x → (x == q) ≡ false
  differs x h = ⊎_elim (λ e. let s : x ≡ q = e.1 in absurd (omega arith)) (λ e. e.0) (eqb_tells x q)

  past : (xs bs : List ℕ) → Highs xs → undoubled q (xs ++ bs) ≡ xs ++ undoubled q bs
  past [] bs h = refl
  past (x ∷ xs) bs h = other q x (xs ++ bs) (differs x h.0) ∙ ap (λ (z : List ℕ). x ∷ z) (past xs bs h.1)

  past_any : (x : ℕ) (xs bs : List ℕ) (held : Bool) → Highs (x ∷ xs) → left q held ((x ∷ xs) ++ bs) ≡ (x ∷ xs) ++ undoubled q bs
  past_any x xs bs false h = past (x ∷ xs) bs h
  past_any x xs bs true h = let e = differs x h.0 in rw e (past (x ∷ xs) bs h)

  char_only : (b : Bool) (xs : Bool) → (b && xs) ≡ true → (b ≡ true) × (xs ≡ true)
  char_only true true e = (refl, refl)
  char_only true false e = absurd cc
  char_only false xs e = absurd cc

  one_ascii : (c : ℕ) (bs : List ℕ) → scalar c ≡ true → c < 128 → IsUtf8 bs → IsUtf8 (c ∷ bs)
  one_ascii c bs s h u = subst (λ (z : List ℕ). IsUtf8 (z ++ bs)) (encode_ascii c h) (IsUtf8-append (encode c) bs (IsUtf8-encode c s) u)

  without : (b : Bool) → (b && false) ≡ false
  without true = refl
  without false = refl

  module _ (c : ℕ) (cs : List ℕ) (held : Bool) (s : scalar c ≡ true) (later : (b : Bool) → IsUtf8 (left q b (encodes cs))) where
    doubled_one : (b : Bool) → (c == q) ≡ true → c < 128 → IsUtf8 (left q b (c ∷ encodes cs))
    doubled_one true e h = subst IsUtf8 (sym (dropped q c (encodes cs) e)) (later false)
    doubled_one false e h = subst IsUtf8 (sym (first_quote q c (encodes cs) e)) (one_ascii c (left q true (encodes cs)) s h (later true))

    ascii : c < 128 → IsUtf8 (left q held (encode c ++ encodes cs))
    ascii h = subst (λ (z : List ℕ). IsUtf8 (left q held (z ++ encodes cs))) (sym (encode_ascii c h)) (⊎_elim
        (λ e. doubled_one held e.0 h)
        (λ e. subst IsUtf8 (sym (kept q c (encodes cs) held false e.0 (without held))) (one_ascii c (left q false (encodes cs)) s h (later false)))
        (eqb_tells c q))

    rest_of : 128 ≤ c → IsUtf8 (left q held (encode c ++ encodes cs))
    rest_of h =
        let w = wide c h in
        let e : left q held (encode c ++ encodes cs) ≡ encode c ++ undoubled q (encodes cs) = ap (λ (z : List ℕ). left q held (z ++ encodes cs)) w.is ∙ past_any w.first w.rest (encodes cs) held w.high ∙ ap (λ (z : List ℕ). z ++ undoubled q (encodes cs)) (sym w.is) in
        subst IsUtf8 (sym e) (IsUtf8-append (encode c) (undoubled q (encodes cs)) (IsUtf8-encode c s) (later false))

    one_char : (b : Bool) → ltb c 128 ≡ b → IsUtf8 (left q held (encode c ++ encodes cs))
    one_char true e = ascii (ltb-true c 128 e)
    one_char false e = rest_of (ltb-false c 128 e)

  all_chars : (cs : List ℕ) → scalars cs ≡ true → (held : Bool) → IsUtf8 (left q held (encodes cs))
  all_chars [] s true = IsUtf8-nil
  all_chars [] s false = IsUtf8-nil
  all_chars (c ∷ cs) s held = one_char c cs held (char_only (scalar c) (scalars cs) s).0 (λ b. all_chars cs (char_only (scalar c) (scalars cs) s).1 b) (ltb c 128) refl

  pub undoubled_utf8 : (bs : List ℕ) → IsUtf8 bs → IsUtf8 (undoubled q bs)
  undoubled_utf8 bs u = subst (λ (z : List ℕ). IsUtf8 (undoubled q z)) u.1.1 (all_chars u.0 u.1.0 false)
