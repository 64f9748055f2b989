-- Steps of the lexer.
use Rattle.std.proofs.Common.{◌≡◌, ℕ, zero, suc, ◌+◌, ◌-◌, ◌<◌, ◌≤◌, List, [], ◌∷◌, ◌++◌, length, get_or, drop, drop-cons, map, false, refl, sym, ap, ◌∙◌, arith, add-one, append_assoc, Result, Ok, Err}
use Rattle.std.proofs.lemmas.List.{map-append, drop-drop}
use Rattle.query_meaning.specs.Lexing.{Span, Cut, is_space, cut_at, with_span, spans_from, spans_of}
use Rattle.sql_tree.specs.declared.token.Token.{Token}
use Rattle.sql_tree.specs.Lexes.{span_view}
use Rattle.sql_tree.specs.Cuts.{IsCutOf}

-- spans before others
abbrev pub behind : List Span → Result (List Span) ℕ → Result (List Span) ℕ
behind front (Ok ss) = Ok (front ++ ss)
behind front (Err p) = Err p

behind_one : (front : List Span) (s : Span) (r : Result (List Span) ℕ) → behind front (with_span s r) ≡ behind (front ++ s ∷ []) r
behind_one front s (Ok ss) = ap (λ (z : List Span). let r : Result (List Span) ℕ = Ok z in r) (sym (append_assoc front (s ∷ []) ss))
behind_one front s (Err p) = refl

-- bytes that belong to a token before are passed over
passed : (n at : ℕ) (bs : List ℕ) → n ≤ length bs → spans_from n at bs ≡ spans_from 0 (at + n) (drop n bs)
passed zero at [] h = refl
passed zero at (b ∷ bs) h = ap (λ (k : ℕ). spans_from 0 k (b ∷ bs)) (omega arith)
passed (suc n) at [] h = absurd (omega arith)
passed (suc n) at (b ∷ bs) h = passed n (at + 1) bs (omega arith) ∙ ap (λ (k : ℕ). spans_from 0 k (drop n bs)) (omega arith)

module _ (b : ℕ) (rest : List ℕ) (place : ℕ) (c : Cut) where
  one_token : is_space b ≡ false → Ok c ≡ cut_at b rest → c.1 - 1 ≤ length rest → spans_from 0 place (b ∷ rest) ≡ with_span (record { kind = c.0; from = place; to = place + c.1 }) (spans_from 0 (place + 1 + (c.1 - 1)) (drop (c.1 - 1) rest))
  one_token space cut fits = rw (space, ← cut) (ap (with_span (record { kind = c.0; from = place; to = place + c.1 })) (passed (c.1 - 1) (place + 1) rest fits))

-- before the first token
pub at_start : (text bytes : List ℕ) (all : List Token) → bytes ≡ text → all ≡ [] → spans_of text ≡ behind (map span_view all) (spans_from 0 0 bytes)
unfolding spans_of
at_start text bytes all e f = rw (e, f) (go (spans_from 0 0 text))
  where
    go : (r : Result (List Span) ℕ) → r ≡ behind [] r
    go (Ok ss) = refl
    go (Err p) = refl

here : (bs : List ℕ) (place : ℕ) → place < length bs → drop place bs ≡ get_or bs place 0 ∷ drop (place + 1) bs
here bs place h = rw add-one (drop-cons bs place 0 h)

module _ (bs : List ℕ) (all : List Token) (place : ℕ) (c : Cut) where
  pub token_step : place < length bs → is_space (get_or bs place 0) ≡ false → IsCutOf (drop place bs) (Ok c) → 0 < c.1 → c.1 ≤ length (drop place bs) → behind (map span_view all) (spans_from 0 place (drop place bs)) ≡ behind (map span_view (all ++ (record { kind = c.0; from = place; to = place + c.1 }) ∷ [])) (spans_from 0 (place + c.1) (drop (place + c.1) bs))
  token_step h space cut some within =
      let rest = drop (place + 1) bs in
      let cut2 : Ok c ≡ cut_at (get_or bs place 0) (drop (place + 1) bs) = rw (here bs place h) at cut in
      let within2 : c.1 ≤ suc (length (drop (place + 1) bs)) = rw (here bs place h) at within in
      let one = one_token (get_or bs place 0) (drop (place + 1) bs) place c space cut2 (omega arith) in
      let moved : place + 1 + (c.1 - 1) ≡ place + c.1 = omega arith in
      let skipped : drop (c.1 - 1) (drop (place + 1) bs) ≡ drop (place + c.1) bs = drop-drop (c.1 - 1) (place + 1) bs ∙ ap (λ (k : ℕ). drop k bs) moved in
      rw (here bs place h, one, moved, skipped, map-append) (behind_one (map span_view all) (record { kind = c.0; from = place; to = place + c.1 }) (spans_from 0 (place + c.1) (drop (place + c.1) bs)))
