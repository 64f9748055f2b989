-- A piece stands in the bytes of a text where it stands in its characters.
use Rattle.std.proofs.Common.{◌≡◌, ℕ, ◌≤◌, Bool, true, false, List, [], ◌∷◌, ◌++◌, Option, None, Some, refl, ap, sym, subst, ◌∙◌, cond, arith, length, drop}
use Rattle.std.specs.Prelude.{◌||◌, ◌==◌, option_map, IfSome}
use Rattle.std.specs.Str.{IsUtf8, chars, continuation_len, all_scalars as scalars, encode_utf8_all as encodes}
use Rattle.std.specs.Char.{IsScalar, encode_utf8 as encode}
use Rattle.std.proofs.str.Laws as laws
use Rattle.std.proofs.Math.Utf8.{scalar}
use Rattle.std.proofs.lemmas.List.{drop_at}
use Rattle.std.proofs.lemmas.Bool.{eqb-true, eq-eqb}
use Rattle.std.proofs.lemmas.Str.{encode_same, encode_ascii, encodes-chars, scalars-chars, chars_from_encodes}
use Rattle.lane_text.specs.Pieces.{after_piece}
use Rattle.lane_text.specs.Bytewise.{after_bytes, IsRest, IsByteRest}
use Rattle.lane_text.proofs.Leads.{Lead, lead, Free, free}

third : (b d : Bool) (p q r : Option (List ℕ)) → b ≡ false → d ≡ true → cond b p (cond d q r) ≡ q
third false true p q r f g = refl
third false false p q r f g = cc
third true d p q r f g = cc

-- bytes that are no `_` step over their like
pub over_same : (xs piece text : List ℕ) → Free 95 xs → after_bytes (xs ++ piece) (xs ++ text) ≡ after_bytes piece text
unfolding after_bytes
over_same [] piece text f = refl
over_same (x ∷ xs) piece text f = third (x == 95) (x == x) _ _ _ f.0 (eq-eqb x x refl) ∙ over_same xs piece text f.1

-- the text begins with the bytes
pub record Begins (xs text : List ℕ) : Type 0 where
  pub rest : List ℕ
  pub is : text ≡ xs ++ rest

begun_by : (b d : Bool) (x y : ℕ) (xs text : List ℕ) (p q : Option (List ℕ)) (u : List ℕ) → b ≡ false → (x == y) ≡ d → cond b p (cond d q None) ≡ Some u
    → (q ≡ Some u → Begins xs text) → Begins (x ∷ xs) (y ∷ text)
begun_by true d x y xs text p q u f g h later = absurd (cc)
begun_by false false x y xs text p q u f g h later = absurd (cc)
begun_by false true x y xs text p q u f g h later =
    let found = later h in
    record { rest = found.rest; is = ap (λ l. y ∷ l) found.is ∙ ap (λ z. z ∷ (xs ++ found.rest)) (sym (eqb-true x y g)) }

-- where such bytes are stepped over, the text begins with them
pub begun : (xs piece text u : List ℕ) → Free 95 xs → after_bytes (xs ++ piece) text ≡ Some u → Begins xs text
unfolding after_bytes
begun [] piece text u f h = record { rest = text; is = refl }
begun (x ∷ xs) piece [] u f h = absurd (cc)
begun (x ∷ xs) piece (y ∷ text) u f h =
    begun_by (x == 95) (x == y) x y xs text _ (after_bytes (xs ++ piece) text) u f.0 refl h (begun xs piece text u f.1)

-- `_` at a character
over_one : (c : ℕ) (piece text : List ℕ) → Lead c → after_bytes (encode 95 ++ piece) (encode c ++ text) ≡ after_bytes piece text
unfolding after_bytes
over_one c piece text l =
    ap (λ x. after_bytes (x ++ piece) (encode c ++ text)) (encode_ascii 95 (omega arith))
    ∙ ap (λ x. after_bytes (95 ∷ piece) (x ++ text)) l.is
    ∙ ap (after_bytes piece) (drop_at l.others text (continuation_len l.lead) l.long)

no_text : (c : ℕ) (piece : List ℕ) → Lead c → after_bytes (encode c ++ piece) [] ≡ None
unfolding after_bytes
no_text c piece l = ap (λ x. after_bytes (x ++ piece) []) l.is

-- another character is not stepped over
other_none : (sign c : ℕ) (piece text : List ℕ) → (sign == 95) ≡ false → (sign == c) ≡ false → IsScalar sign → (o : Option (List ℕ)) → after_bytes (encode sign ++ piece) (encode c ++ text) ≡ o → o ≡ None
other_none sign c piece text f g s None e = refl
other_none sign c piece text f g s (Some u) e =
    let found = begun (encode sign) piece (encode c ++ text) u (free sign 95 (omega arith) (λ h. let w : true ≡ false = sym (eq-eqb sign 95 h) ∙ f in cc) s) e in
    let same = encode_same c sign text found.rest found.is in
    let w : true ≡ false = sym (eq-eqb sign c (sym same.0)) ∙ g in absurd (cc)

by_sign : (b d : Bool) (sign c : ℕ) (piece text : List ℕ) (o : Option (List ℕ)) → (sign == 95) ≡ b → (sign == c) ≡ d → IsScalar sign → IsScalar c
    → after_bytes piece text ≡ option_map encodes o → after_bytes (encode sign ++ piece) (encode c ++ text) ≡ option_map encodes (cond (b || d) o None)
by_sign true d sign c piece text o e f s t h =
    ap (λ x. after_bytes (encode x ++ piece) (encode c ++ text)) (eqb-true sign 95 e) ∙ over_one c piece text (lead c t) ∙ h
by_sign false true sign c piece text o e f s t h =
    let same : c ≡ sign = sym (eqb-true sign c f) in
    ap (λ x. after_bytes (encode sign ++ piece) (encode x ++ text)) same
    ∙ over_same (encode sign) piece text (free sign 95 (omega arith) (λ z. let w : true ≡ false = sym (eq-eqb sign 95 z) ∙ e in cc) s) ∙ h
by_sign false false sign c piece text o e f s t h = other_none sign c piece text e f s (after_bytes (encode sign ++ piece) (encode c ++ text)) refl

pub bytes_are_chars : (piece text : List ℕ) → scalars piece ≡ true → scalars text ≡ true
    → after_bytes (encodes piece) (encodes text) ≡ option_map encodes (after_piece piece text)
unfolding after_bytes after_piece
bytes_are_chars [] text s t = refl
bytes_are_chars (sign ∷ piece) [] s t =
    let parts = laws.both (scalar sign) (scalars piece) s in
    no_text sign (encodes piece) (lead sign parts.0)
bytes_are_chars (sign ∷ piece) (c ∷ text) s t =
    let parts = laws.both (scalar sign) (scalars piece) s in
    let others = laws.both (scalar c) (scalars text) t in
    by_sign (sign == 95) (sign == c) sign c (encodes piece) (encodes text) (after_piece piece text) refl refl parts.0 others.0 (bytes_are_chars piece text parts.1 others.1)

-- what is left is characters still
held : (b : Bool) (o : Option (List ℕ)) (u : List ℕ) → cond b o None ≡ Some u → o ≡ Some u
held true o u h = h
held false o u h = cc

pub left_scalars : (piece text u : List ℕ) → scalars text ≡ true → after_piece piece text ≡ Some u → scalars u ≡ true
unfolding after_piece
left_scalars [] text u s h = let e : text ≡ u = cc in subst (λ l. scalars l ≡ true) e s
left_scalars (sign ∷ piece) [] u s h = absurd (cc)
left_scalars (sign ∷ piece) (c ∷ text) u s h =
    left_scalars piece text u (laws.both (scalar c) (scalars text) s).1 (held (sign == 95 || sign == c) (after_piece piece text) u h)

-- a place in the bytes is a place in the characters
some_rest : (text : List ℕ) (n : ℕ) (o : Option (List ℕ)) → ((u : List ℕ) → o ≡ Some u → scalars u ≡ true) → option_map encodes o ≡ Some (drop n text)
    → n ≤ length text → IsRest text o (Some n)
some_rest text n None s e le = absurd (cc)
some_rest text n (Some u) s e le =
    let is : encodes u ≡ drop n text = cc in
    let utf8 : IsUtf8 (drop n text) = (u, (s u refl, is)) in
    (ap Some (chars_from_encodes u (drop n text) utf8 is), le, utf8)

none_rest : (o : Option (List ℕ)) → option_map encodes o ≡ None → o ≡ None
none_rest None e = refl
none_rest (Some u) e = absurd (cc)

rest_by : (text : List ℕ) (o : Option (List ℕ)) (r : Option ℕ) → ((u : List ℕ) → o ≡ Some u → scalars u ≡ true) → IsByteRest text (option_map encodes o) r → IsRest text o r
rest_by text o None s h = none_rest o h
rest_by text o (Some n) s h = some_rest text n o s h.0 h.1

pub rest_is : (piece text : List ℕ) (r : Option ℕ) → IsUtf8 piece → IsUtf8 text → IsByteRest text (after_bytes piece text) r → IsRest text (after_piece (chars piece) (chars text)) r
rest_is piece text r p t h =
    let same : after_bytes piece text ≡ option_map encodes (after_piece (chars piece) (chars text)) =
    ap (λ x. after_bytes x text) (sym (encodes-chars piece p)) ∙ ap (after_bytes (encodes (chars piece))) (sym (encodes-chars text t))
    ∙ bytes_are_chars (chars piece) (chars text) (scalars-chars piece p) (scalars-chars text t) in
    rest_by text (after_piece (chars piece) (chars text)) r (λ u e. left_scalars (chars piece) (chars text) u (scalars-chars text t) e)
    (subst (λ o. IsByteRest text o r) same h)

pub rest_within : (text : List ℕ) (wanted : Option (List ℕ)) (r : Option ℕ) (n : ℕ) → length text ≡ n → IsByteRest text wanted r → IfSome r (λ end. end ≤ n)
rest_within text wanted None n e h = tt
rest_within text wanted (Some at) n e h = let le = h.1 in omega arith
