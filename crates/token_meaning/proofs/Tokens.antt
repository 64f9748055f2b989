-- The tokens of a text follow each other, each the longest at its place.
use Rattle.std.proofs.Common.{◌≡◌, ℕ, zero, suc, ◌+◌, ◌-◌, ◌<◌, ◌≤◌, List, [], ◌∷◌, length, drop, Bool, true, false, refl, ap, sym, ◌∙◌, subst, arith}
use Rattle.std.specs.Prelude.{Result, Ok, Err}
use Rattle.query_meaning.specs.Lexing.{Span, Cut, is_space, cut_at, cut_then, with_span, spans_from, spans_of}
use Rattle.query_meaning.proofs.Steps.{if_then}
use Rattle.token_meaning.specs.Standing.{IsLongest, AreTaken, ended, blank, taken}
use Rattle.token_meaning.proofs.Cuts.{cut_is_longest}

ok_is : {A B : Type 0} (x y : A) → (let r : Result A B = Ok x in r) ≡ Ok y → x ≡ y
ok_is x y e = cc

cut_some : {P : Type 0} (at : ℕ) (r : Result Cut ℕ) (go : Cut → Result (List Span) ℕ) (ss : List Span) → cut_then at r go ≡ Ok ss → ((c : Cut) → r ≡ Ok c → go c ≡ Ok ss → P) → P
cut_some at (Ok c) go ss e f = f c refl e
cut_some at (Err n) go ss e f = absurd cc

with_some : {P : Type 0} (s : Span) (r : Result (List Span) ℕ) (ss : List Span) → with_span s r ≡ Ok ss → ((rest : List Span) → r ≡ Ok rest → s ∷ rest ≡ ss → P) → P
with_some s (Ok rest) ss e f = f rest refl (ok_is _ _ e)
with_some s (Err p) ss e f = absurd cc

-- the bytes behind a token, the first of which is passed with it
behind : (n : ℕ) (b : ℕ) (bs : List ℕ) → 0 < n → drop (n - 1) bs ≡ drop n (b ∷ bs)
behind zero b bs h = absurd (omega (arith, h))
behind (suc n) b bs h = let one : suc n - 1 ≡ n = omega arith in rw one refl

are_taken : (skip at : ℕ) (bs : List ℕ) (ss : List Span) → skip ≤ length bs → spans_from skip at bs ≡ Ok ss → AreTaken (at + skip) (drop skip bs) ss
are_taken zero at [] ss w h = rw (← ok_is [] ss h) ended
are_taken (suc skip) at [] ss w h = absurd (omega (arith, w))
are_taken (suc skip) at (b ∷ bs) ss w h =
    let same : at + suc skip ≡ at + 1 + skip = omega arith in
    rw same (are_taken skip (at + 1) bs ss (omega (arith, w)) h)
are_taken zero at (b ∷ bs) ss w h =
    let same : at + 0 ≡ at = omega arith in
    rw same (if_then (is_space b) _ _ _ h
    (λ t h2. let next : at + 1 + 0 ≡ at + 1 = omega arith in blank t (subst (λ (n : ℕ). AreTaken n bs ss) next (are_taken 0 (at + 1) bs ss (omega arith) h2)))
    (λ _ h2. cut_some at (cut_at b bs) _ ss h2 (λ c f h3.
    with_some (record { kind = c.0; from = at; to = at + c.1 }) (spans_from (c.1 - 1) (at + 1) bs) ss h3 (λ rest r g.
    let token : IsLongest c.0 c.1 (b ∷ bs) = cut_is_longest b bs c f in
    let place : at + 1 + (c.1 - 1) ≡ at + c.1 = omega (arith, token.some) in
    let fits : c.1 - 1 ≤ length bs = omega (arith, token.some, token.within) in
    let more : AreTaken (at + c.1) (drop c.1 (b ∷ bs)) rest =
    rw (← place, ← behind c.1 b bs token.some) (are_taken (c.1 - 1) (at + 1) bs rest fits r) in
    rw (← g) (taken token more)))))

pub tokens-taken : (text : List ℕ) (ss : List Span) → spans_of text ≡ Ok ss → AreTaken 0 text ss
unfolding spans_of
tokens-taken text ss e = are_taken 0 0 text ss (omega arith) e
