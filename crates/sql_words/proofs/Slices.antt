-- Where the texts of tokens may be cut out.
use Rattle.std.proofs.Common.{◌≡◌, ℕ, zero, suc, ◌+◌, ◌-◌, ◌<◌, ◌≤◌, List, [], ◌∷◌, length, drop, take, map, Some, refl, arith, IsUtf8, subst, sym, ap, ◌∙◌, length-take-le, length-drop}
use Rattle.std.specs.Prelude.{slice_get}
use Rattle.std.specs.Str.{IsCharBoundary}
use Rattle.std.proofs.lemmas.Str.{IsCharBoundary-before_ascii, IsCharBoundary-after_ascii}
use Rattle.std.proofs.lemmas.Option.{slice_get_within, get_or_from_slice_get}
use Rattle.std.proofs.lemmas.List.{take-take, drop-drop}
use Rattle.query_meaning.specs.declared.TokenKind.{TokenKind}
use Rattle.query_meaning.specs.declared.TokenKind.TheVariants as kind
use Rattle.query_meaning.specs.Lexing.{Span}
use Rattle.query_meaning.specs.Tokens.{inner, bytes_at}
use Rattle.query_meaning.proofs.Spans.{least, IsSpan, spans-are}
use Rattle.sql_tree.specs.declared.token.Token.{Token}
use Rattle.sql_tree.specs.Lexes.{span_view}
use Rattle.sql_words.specs.Slices.{IsTokenOf}

pub view_at : (ts : List Token) (i : ℕ) (t : Token) → slice_get ts i ≡ Some t → slice_get (map span_view ts) i ≡ Some (span_view t)
view_at [] i t e = absurd cc
view_at (x ∷ ts) zero t e = let same : x ≡ t = cc in rw same refl
view_at (x ∷ ts) (suc i) t e = view_at ts i t e

pub token-span : (text : List ℕ) (t : Token) → IsTokenOf text t → IsSpan text (span_view t)
token-span text t h =
    let here = view_at h.tokens h.at t h.here in
    let each = spans-are text (map span_view h.tokens) h.all in
    let found = each h.at (span_view t) (slice_get_within (map span_view h.tokens) h.at (span_view t) here) in
    let P : Span → Type 0 = IsSpan text in
    subst P (get_or_from_slice_get (map span_view h.tokens) h.at (span_view t) (span_view t) here) found

least_some : (k : TokenKind) → 1 ≤ least k
least_some kind.Word = omega arith
least_some kind.Quoted = omega arith
least_some kind.Str = omega arith
least_some kind.Moment = omega arith
least_some kind.Number = omega arith
least_some kind.Sign = omega arith

module _ (text : List ℕ) (t : Token) where
  pub ordered : IsTokenOf text t → t.from < t.to
  ordered h = let s = token-span text t h in omega (arith, s.wide, least_some t.kind)

  pub fits : IsTokenOf text t → t.to ≤ length text
  fits h = (token-span text t h).within

  -- the bytes of a token begin and end with ASCII
  pub starts : IsTokenOf text t → IsCharBoundary text t.from
  starts h =
      let s = token-span text t h in
      let room : t.from < length text = omega (arith, ordered h, s.within) in
      IsCharBoundary-before_ascii text t.from room s.first

  pub ends : IsUtf8 text → IsTokenOf text t → IsCharBoundary text t.to
  ends u h =
      let s = token-span text t h in
      let some = ordered h in
      let last : suc (t.to - 1) ≡ t.to = omega arith in
      let same : t.to - 1 + 1 ≡ t.to = omega arith in
      let room : t.to - 1 < length text = omega (arith, s.within) in
      let P : ℕ → Type 0 = IsCharBoundary text in
      subst P same (IsCharBoundary-after_ascii text (t.to - 1) u room (s.last (t.to - 1) last))

  pub starts_inside : IsUtf8 text → IsTokenOf text t → IsCharBoundary text (t.from + 1)
  starts_inside u h =
      let s = token-span text t h in
      let room : t.from < length text = omega (arith, ordered h, s.within) in
      IsCharBoundary-after_ascii text t.from u room s.first

  pub ends_inside : IsTokenOf text t → IsCharBoundary text (t.to - 1)
  ends_inside h =
      let s = token-span text t h in
      let some = ordered h in
      let last : suc (t.to - 1) ≡ t.to = omega arith in
      let room : t.to - 1 < length text = omega (arith, s.within) in
      IsCharBoundary-before_ascii text (t.to - 1) room (s.last (t.to - 1) last)

cut_inside : (l : List ℕ) (n m : ℕ) → n ≤ length l → n ≡ m + 2 → inner (take n l) ≡ take m (drop 1 l)
cut_inside [] n m h e = absurd (omega arith)
cut_inside (x ∷ l) n m h e =
    let two : n ≡ suc (m + 1) = omega arith in
    let long : length (take (m + 1) l) ≡ m + 1 = length-take-le (m + 1) l (omega arith) in
    let rest : suc (length (take (m + 1) l)) - 2 ≡ m = omega arith in
    rw (two, rest) (take-take m (m + 1) l (omega arith))

pub inside_is : (text : List ℕ) (t : Token) → IsTokenOf text t → t.from + 2 ≤ t.to → take (t.to - 1 - (t.from + 1)) (drop (t.from + 1) text) ≡ inner (bytes_at text (span_view t))
inside_is text t h w =
    let s = fits text t h in
    let long : t.to - t.from ≤ length (drop t.from text) = rw (length-drop t.from text) (omega arith) in
    sym (cut_inside (drop t.from text) (t.to - t.from) (t.to - 1 - (t.from + 1)) long (omega arith) ∙ ap (take (t.to - 1 - (t.from + 1))) (drop-drop 1 t.from text))

-- quotes stand on both sides
pub wide_by : (text : List ℕ) (t : Token) (k : TokenKind) → IsTokenOf text t → t.kind ≡ k → 2 ≤ least k → t.from + 2 ≤ t.to
wide_by text t k h e some =
    let s = token-span text t h in
    let wide : t.from + least k ≤ t.to = rw (← e) s.wide in
    omega arith
