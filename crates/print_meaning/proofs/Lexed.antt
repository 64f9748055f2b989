-- Printed pieces are taken as their tokens, where each is taken before what follows it.
use Rattle.std.proofs.Common.{◌≡◌, ℕ, suc, ◌+◌, ◌-◌, List, [], ◌∷◌, ◌++◌, length, drop, take, Bool, false, cond, Option, Some, None, Ok, refl, ap, sym, ◌∙◌, arith, append_assoc, length-append}
use Rattle.std.specs.Prelude.{find, ◌&&◌}
use Rattle.std.proofs.Math.Seq.{drop-append_seam, take-append_seam}
use Rattle.query_meaning.specs.declared.TokenKind.{TokenKind}
use Rattle.query_meaning.specs.Words.{is_refused}
use Rattle.query_meaning.specs.Lexing.{Span, is_space, cut_at, with_span, spans_from}
use Rattle.query_meaning.specs.Tokens.{Tok, Toks, token_of, bytes_at, tokens_in}
use Rattle.query_meaning.specs.Faults.{is_bare, refuses}
use Rattle.print_meaning.specs.Pieces.{Pieces, space, token, spelling, spelled, tokens_of}

-- the token is taken before these bytes, and is no refused word
pub record Lexes (t : Tok) (rest : List ℕ) : Type 0 where
  pub kind : TokenKind
  pub head : ℕ
  pub tail : List ℕ
  pub bytes : spelling t ≡ head ∷ tail
  pub visible : is_space head ≡ false
  pub cut : cut_at head (tail ++ rest) ≡ Ok (kind, suc (length tail))
  pub means : token_of kind (head ∷ tail) ≡ t
  pub allowed : (is_bare kind && is_refused (head ∷ tail)) ≡ false

-- each token is taken before what follows it
abbrev pub AreSpaced : Pieces → Type 0
AreSpaced [] = Unit {0}
AreSpaced (space ∷ ps) = AreSpaced ps
AreSpaced (token t ∷ ps) = Lexes t (spelled ps) × AreSpaced ps

-- the bytes from a place of a text on are these tokens, and no refused word is among them
pub record Lexed (text : List ℕ) (place : ℕ) (bytes : List ℕ) (ts : Toks) : Type 0 where
  pub spans : List Span
  pub lexed : spans_from 0 place bytes ≡ Ok spans
  pub means : tokens_in text spans ≡ ts
  pub allowed : find (refuses text) spans ≡ None

-- bytes that belong to a token before are passed over
passed : (tail rest : List ℕ) (at : ℕ) → spans_from (length tail) at (tail ++ rest) ≡ spans_from 0 (at + length tail) rest
passed [] rest at = ap (λ (k : ℕ). spans_from 0 k rest) (omega arith)
passed (b ∷ bs) rest at = passed bs rest (at + 1) ∙ ap (λ (k : ℕ). spans_from 0 k rest) (omega arith)

-- the bytes of a token in its text
bytes_here : (before w rest : List ℕ) (from to : ℕ) → from ≡ length before → to ≡ length before + length w → take (to - from) (drop from (before ++ (w ++ rest))) ≡ w
bytes_here before w rest from to e f =
    let n : to - from ≡ length w = omega (arith, e, f) in
    rw (n, e, drop-append_seam before (w ++ rest)) (take-append_seam w rest)

passes_over : (b : Bool) (s : Span) (o : Option Span) → b ≡ false → o ≡ None → cond b (Some s) o ≡ None
passes_over b s o e f = rw (e, f) refl

one_token : (t : Tok) (rest : List ℕ) (place : ℕ) (l : Lexes t rest) → spans_from 0 place (spelling t ++ rest) ≡ with_span (record { kind = l.kind; from = place; to = place + suc (length l.tail) }) (spans_from 0 (place + length (spelling t)) rest)
one_token t rest place l =
    let moved : place + 1 + length l.tail ≡ place + suc (length l.tail) = omega arith in
    let short : suc (length l.tail) - 1 ≡ length l.tail = omega arith in
    rw (l.bytes, l.visible, l.cut, short, passed l.tail rest (place + 1), moved) refl

pub lexed : (ps : Pieces) → AreSpaced ps → (text before : List ℕ) → text ≡ before ++ spelled ps → Lexed text (length before) (spelled ps) (tokens_of ps)
lexed [] h text before e = record { spans = []; lexed = refl; means = refl; allowed = refl }
lexed (space ∷ ps) h text before e =
    let one : length (before ++ 32 ∷ []) ≡ length before + 1 = length-append before (32 ∷ []) in
    let next = lexed ps h text (before ++ 32 ∷ []) (e ∙ sym (append_assoc before (32 ∷ []) (spelled ps))) in
    record { spans = next.spans; lexed = rw one at next.lexed; means = next.means; allowed = next.allowed }
lexed (token t ∷ ps) h text before e =
    let l = h.0 in
    let there : length (before ++ spelling t) ≡ length before + length (spelling t) = length-append before (spelling t) in
    let next = lexed ps h.1 text (before ++ spelling t) (e ∙ sym (append_assoc before (spelling t) (spelled ps))) in
    let span : Span = record { kind = l.kind; from = length before; to = length before + suc (length l.tail) } in
    let got : spans_from 0 (length before + length (spelling t)) (spelled ps) ≡ Ok next.spans = rw there at next.lexed in
    let size : length before + suc (length l.tail) ≡ length before + length (spelling t) = ap (λ (w : List ℕ). length before + length w) (sym l.bytes) in
    let here : bytes_at text span ≡ l.head ∷ l.tail = rw e (bytes_here before (spelling t) (spelled ps) (length before) (length before + suc (length l.tail)) refl size) ∙ l.bytes in
    record {
      spans = span ∷ next.spans;
      lexed = one_token t (spelled ps) (length before) l ∙ ap (with_span span) got;
      means = λ i. (ap (token_of l.kind) here ∙ l.means) i ∷ next.means i;
      allowed = passes_over (refuses text span) span (find (refuses text) next.spans) (rw here l.allowed) next.allowed;
    }
