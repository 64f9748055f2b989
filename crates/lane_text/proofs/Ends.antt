-- A text ends with the bytes of a piece without `_` exactly where its characters end with the piece's.
use Rattle.std.proofs.Common.{◌≡◌, ℕ, Bool, true, false, List, [], ◌∷◌, ◌++◌, refl, ap, sym, subst, ◌∙◌, length, take, append-nil}
use Rattle.std.specs.Prelude.{◌||◌, nat_eq}
use Rattle.std.specs.List.{ends_with}
use Rattle.std.specs.Str.{IsUtf8, chars, all_scalars as scalars, encode_utf8_all as encodes}
use Rattle.std.proofs.str.Laws as laws
use Rattle.std.proofs.Math.Utf8.{scalar}
use Rattle.std.specs.Char.{encode_utf8 as encode}
use Rattle.std.proofs.lemmas.List.{take_at, append_assoc}
use Rattle.std.proofs.lemmas.Bool.Decides.{Decides-eqb}
use Rattle.std.proofs.lemmas.Slice.Eq.{ends_is}
use Rattle.std.proofs.lemmas.Str.{encodes-chars, scalars-chars, chars-append, IsUtf8-take, IsCharBoundary-at_seam}
use Rattle.lane_text.specs.Pieces.{after_piece, is_whole, ends_in}
use Rattle.lane_text.specs.Bytewise.{IsPlain}
use Rattle.lane_text.proofs.CharSteps.{ends_here, whole_yes}
use Rattle.lane_text.proofs.Plain.{plain_here, plain_whole}

-- two tests that say one another are one
pub same_test : (a b : Bool) → (a ≡ true → b ≡ true) → (b ≡ true → a ≡ true) → a ≡ b
same_test true b f g = sym (f refl)
same_test false true f g = g refl
same_test false false f g = refl

record Front (text piece : List ℕ) : Type 0 where
  front : List ℕ
  is : text ≡ front ++ piece

grows : (piece before text : List ℕ) → ends_in piece text ≡ true → ends_in piece (before ++ text) ≡ true
grows piece [] text h = h
grows piece (c ∷ before) text h = right_of (is_whole piece (c ∷ (before ++ text))) (ends_in piece (before ++ text)) (grows piece before text h)
  where
    right_of : (a b : Bool) → b ≡ true → (a || b) ≡ true
    right_of true b h = refl
    right_of false b h = h

module _ (piece : List ℕ) (utf8 : IsUtf8 piece) (plain : IsPlain piece) where
  -- characters that are the piece have its bytes
  pub whole_bytes : (cs : List ℕ) → scalars cs ≡ true → is_whole (chars piece) cs ≡ true → encodes cs ≡ piece
  whole_bytes cs s h = plain_whole piece cs utf8 plain s h

  front_by : (c : ℕ) (cs : List ℕ) → scalars (c ∷ cs) ≡ true → (b : Bool) → is_whole (chars piece) (c ∷ cs) ≡ b → (b || ends_in (chars piece) cs) ≡ true
      → (ends_in (chars piece) cs ≡ true → Front (encodes cs) piece) → Front (encodes (c ∷ cs)) piece
  front_by c cs s true e h later = record { front = []; is = whole_bytes (c ∷ cs) s e }
  front_by c cs s false e h later =
      let found = later h in
      record { front = encode c ++ found.front; is = ap (λ l. encode c ++ l) found.is ∙ sym (append_assoc (encode c) found.front piece) }

  to_front : (cs : List ℕ) → scalars cs ≡ true → ends_in (chars piece) cs ≡ true → Front (encodes cs) piece
  to_front [] s h = record { front = []; is = whole_bytes [] s h }
  to_front (c ∷ cs) s h = front_by c cs s (is_whole (chars piece) (c ∷ cs)) refl h (to_front cs (laws.both (scalar c) (scalars cs) s).1)

  piece_whole : is_whole (chars piece) (chars piece) ≡ true
  piece_whole =
      let here = plain_here piece piece [] utf8 utf8 plain (sym (append-nil piece)) in
      whole_yes piece (after_piece (chars piece) (chars piece)) (length piece) here refl

  from_front : (text front : List ℕ) → IsUtf8 text → text ≡ front ++ piece → ends_in (chars piece) (chars text) ≡ true
  from_front text front t e =
      let cut : IsUtf8 front = subst IsUtf8 (ap (take (length front)) e ∙ take_at front piece (length front) refl) (IsUtf8-take text (length front) t (IsCharBoundary-at_seam text front piece e utf8)) in
      ap (ends_in (chars piece)) (ap chars e ∙ chars-append front piece cut)
      ∙ grows (chars piece) (chars front) (chars piece) (ends_here (chars piece) (chars piece) piece_whole)

  pub ends_are : (text : List ℕ) → IsUtf8 text → ends_with nat_eq text piece ≡ ends_in (chars piece) (chars text)
  ends_are text t =
      let said = ends_is Decides-eqb text piece (ends_with nat_eq text piece) refl in
      same_test (ends_with nat_eq text piece) (ends_in (chars piece) (chars text))
      (λ h. from_front text _ t (said.0 h))
      (λ h.
      let found = to_front (chars text) (scalars-chars text t) h in
      said.1 found.front (sym (encodes-chars text t) ∙ found.is))
