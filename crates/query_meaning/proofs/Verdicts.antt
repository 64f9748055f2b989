-- A text comes to one verdict.
use Rattle.std.proofs.Common.{◌≡◌, ℕ, suc, ◌<◌, ◌≤◌, List, Some, None, refl, ap, subst, sym, ◌∙◌, arith}
use Rattle.std.specs.Prelude.{slice_get, Result, Ok, Err, length, ◌⊎◌}
use Rattle.std.proofs.Common.{inl, inr}
use Rattle.std.proofs.lemmas.Bool.{cases_order}
use Rattle.std.proofs.lemmas.Option.{slice_get_within}
use Rattle.tree_meaning.specs.Tree.{Query}
use Rattle.query_meaning.specs.Lexing.{Span, spans_of}
use Rattle.query_meaning.specs.Tokens.{tokens_in}
use Rattle.query_meaning.specs.Grammar.{IsQuery}
use Rattle.query_meaning.specs.Faults.{most_bytes, most_tokens, HasTokens, refused_at, DeepAt, IsReadable, Verdict, too_long, bad_token, too_many, refused, too_deep, not_a_query, is_query, ComesTo, by_length, by_token, by_count, by_word, by_depth, by_grammar, a_query}
use Rattle.query_meaning.proofs.Steps.{some_is}
use Rattle.query_meaning.proofs.FullQuery.{one_query}

ok_is : (x y : List Span) → (let r : Result (List Span) ℕ = Ok x in r) ≡ Ok y → x ≡ y
ok_is x y e = cc

module _ (text : List ℕ) where
  same_spans : (a b : List Span) → HasTokens text a → spans_of text ≡ Ok b → a ≡ b
  same_spans a b h e = ok_is a b (sym h.tokens ∙ e)

  some_span : (ss : List Span) (n : ℕ) (a b : Span) → slice_get ss n ≡ Some a → slice_get ss n ≡ Some b → a ≡ b
  some_span ss n a b e f = some_is a b (sym e ∙ f)

  one_place : (ss : List Span) (p q : ℕ) → DeepAt text ss p → DeepAt text ss q → p ≡ q
  one_place ss p q a b = go (cases_order a.n b.n)
    where
      go : (a.n ≡ b.n) ⊎ ((a.n < b.n) ⊎ (b.n < a.n)) → p ≡ q
      go (inl e) =
          let f : slice_get ss b.n ≡ Some a.span = rw (← e) a.here in
          let same = some_span ss b.n a.span b.span f b.here in
          a.there ∙ ap (λ (s : Span). s.from) same ∙ sym b.there
      go (inr (inl h)) = absurd (b.before (suc a.n) h a.deep)
      go (inr (inr h)) = absurd (a.before (suc b.n) h b.deep)

  long_first : (v : Verdict) → most_bytes < length text → ComesTo text v → v ≡ too_long
  long_first v h (by_length g) = refl
  long_first v h (by_token g e) = absurd (omega arith)
  long_first v h (by_count g e m) = absurd (omega arith)
  long_first v h (by_word t r) = absurd (omega (arith, t.short))
  long_first v h (by_depth t r d) = absurd (omega (arith, t.short))
  long_first v h (by_grammar t n) = absurd (omega (arith, t.tokens.short))
  long_first v h (a_query t q) = absurd (omega (arith, t.tokens.short))

  token_first : (p : ℕ) (v : Verdict) → length text ≤ most_bytes → spans_of text ≡ Err p → ComesTo text v → v ≡ bad_token p
  token_first p v h f (by_length g) = absurd (omega arith)
  token_first p v h f (by_token g e) = cc
  token_first p v h f (by_count g e m) = absurd cc
  token_first p v h f (by_word t r) = let e = t.tokens in absurd cc
  token_first p v h f (by_depth t r d) = let e = t.tokens in absurd cc
  token_first p v h f (by_grammar t n) = let e = t.tokens.tokens in absurd cc
  token_first p v h f (a_query t q) = let e = t.tokens.tokens in absurd cc

  at_most : (a b : List Span) → HasTokens text b → spans_of text ≡ Ok a → most_tokens < length a → ⊥
  at_most a b t e m = let same = same_spans b a t e in let few : length a ≤ most_tokens = rw (← same) t.few in omega arith

  no_word : (ss : List Span) (p : ℕ) → refused_at text ss ≡ None → refused_at text ss ≡ Some p → ⊥
  no_word ss p e f = let g = sym e ∙ f in cc

  deep_in : (a b : List Span) (p : ℕ) → a ≡ b → DeepAt text a p → DeepAt text b p
  deep_in a b p e d = let P : List Span → Type 0 = λ ss. DeepAt text ss p in subst P e d

  query_in : (a b : List Span) (q : Query) → a ≡ b → IsQuery (tokens_in text a) q → IsQuery (tokens_in text b) q
  query_in a b q e d = let P : List Span → Type 0 = λ ss. IsQuery (tokens_in text ss) q in subst P e d

  too_shallow : (ss : List Span) (p : ℕ) → IsReadable text ss → DeepAt text ss p → ⊥
  too_shallow ss p t d = t.shallow (suc d.n) (slice_get_within ss d.n d.span d.here) d.deep

  count_first : (ss : List Span) (v : Verdict) → length text ≤ most_bytes → spans_of text ≡ Ok ss → most_tokens < length ss → ComesTo text v → v ≡ too_many
  count_first ss v h e m (by_length g) = absurd (omega arith)
  count_first ss v h e m (by_token g f) = absurd cc
  count_first ss v h e m (by_count g f n) = refl
  count_first ss v h e m (by_word t r) = absurd (at_most ss _ t e m)
  count_first ss v h e m (by_depth t r d) = absurd (at_most ss _ t e m)
  count_first ss v h e m (by_grammar t n) = absurd (at_most ss _ t.tokens e m)
  count_first ss v h e m (a_query t q) = absurd (at_most ss _ t.tokens e m)

  word_first : (ss : List Span) (p : ℕ) (v : Verdict) → HasTokens text ss → refused_at text ss ≡ Some p → ComesTo text v → v ≡ refused p
  word_first ss p v t r (by_length g) = absurd (omega (arith, t.short))
  word_first ss p v t r (by_token g f) = let e = t.tokens in absurd cc
  word_first ss p v t r (by_count {spans = rs} g f n) = absurd (at_most rs ss t f n)
  word_first ss p v t r (by_word {spans = rs} u s) = let e = same_spans ss rs t u.tokens in ap refused (some_is _ _ (sym s ∙ rw (← e) r))
  word_first ss p v t r (by_depth {spans = rs} u s d) = let e = same_spans ss rs t u.tokens in absurd (no_word rs p s (rw (← e) r))
  word_first ss p v t r (by_grammar {spans = rs} u n) = let e = same_spans ss rs t u.tokens.tokens in absurd (no_word rs p u.unrefused (rw (← e) r))
  word_first ss p v t r (a_query {spans = rs} u q) = let e = same_spans ss rs t u.tokens.tokens in absurd (no_word rs p u.unrefused (rw (← e) r))

  depth_first : (ss : List Span) (p : ℕ) (v : Verdict) → HasTokens text ss → refused_at text ss ≡ None → DeepAt text ss p → ComesTo text v → v ≡ too_deep p
  depth_first ss p v t r d (by_length g) = absurd (omega (arith, t.short))
  depth_first ss p v t r d (by_token g f) = let e = t.tokens in absurd cc
  depth_first ss p v t r d (by_count {spans = rs} g f n) = absurd (at_most rs ss t f n)
  depth_first ss p v t r d (by_word {spans = rs} {p = q} u s) = let e = same_spans ss rs t u.tokens in absurd (no_word ss q r (rw e s))
  depth_first ss p v t r d (by_depth {spans = rs} {p = q} u s b) =
      let e = same_spans rs ss u t.tokens in ap too_deep (one_place ss q p (deep_in rs ss q e b) d)
  depth_first ss p v t r d (by_grammar {spans = rs} u n) = let e = same_spans ss rs t u.tokens.tokens in absurd (too_shallow rs p u (deep_in ss rs p e d))
  depth_first ss p v t r d (a_query {spans = rs} u q) = let e = same_spans ss rs t u.tokens.tokens in absurd (too_shallow rs p u (deep_in ss rs p e d))

  grammar_last : (ss : List Span) (v : Verdict) → IsReadable text ss → ((q : Query) → IsQuery (tokens_in text ss) q → ⊥) → ComesTo text v → v ≡ not_a_query
  grammar_last ss v t n (by_length g) = absurd (omega (arith, t.tokens.short))
  grammar_last ss v t n (by_token g f) = let e = t.tokens.tokens in absurd cc
  grammar_last ss v t n (by_count {spans = rs} g f m) = absurd (at_most rs ss t.tokens f m)
  grammar_last ss v t n (by_word {spans = rs} {p = q} u s) = let e = same_spans ss rs t.tokens u.tokens in absurd (no_word ss q t.unrefused (rw e s))
  grammar_last ss v t n (by_depth {spans = rs} {p = q} u s b) = let e = same_spans rs ss u t.tokens.tokens in absurd (too_shallow ss q t (deep_in rs ss q e b))
  grammar_last ss v t n (by_grammar u m) = refl
  grammar_last ss v t n (a_query {spans = rs} {q = q} u d) = let e = same_spans ss rs t.tokens u.tokens.tokens in absurd (n q (query_in rs ss q (sym e) d))

  query_last : (ss : List Span) (q : Query) (v : Verdict) → IsReadable text ss → IsQuery (tokens_in text ss) q → ComesTo text v → v ≡ is_query q
  query_last ss q v t d (by_length g) = absurd (omega (arith, t.tokens.short))
  query_last ss q v t d (by_token g f) = let e = t.tokens.tokens in absurd cc
  query_last ss q v t d (by_count {spans = rs} g f m) = absurd (at_most rs ss t.tokens f m)
  query_last ss q v t d (by_word {spans = rs} {p = p} u s) = let e = same_spans ss rs t.tokens u.tokens in absurd (no_word ss p t.unrefused (rw e s))
  query_last ss q v t d (by_depth {spans = rs} {p = p} u s b) = let e = same_spans rs ss u t.tokens.tokens in absurd (too_shallow ss p t (deep_in rs ss p e b))
  query_last ss q v t d (by_grammar {spans = rs} u m) = let e = same_spans ss rs t.tokens u.tokens.tokens in absurd (m q (query_in ss rs q e d))
  query_last ss q v t d (a_query {spans = rs} {q = r} u b) = let e = same_spans rs ss u.tokens t.tokens.tokens in ap is_query (one_query (query_in rs ss r e b) d)

  pub verdict-one : (v w : Verdict) → ComesTo text v → ComesTo text w → v ≡ w
  verdict-one v w (by_length h) d = sym (long_first w h d)
  verdict-one v w (by_token {p = p} h e) d = sym (token_first p w h e d)
  verdict-one v w (by_count {spans = ss} h e m) d = sym (count_first ss w h e m d)
  verdict-one v w (by_word {spans = ss} {p = p} t r) d = sym (word_first ss p w t r d)
  verdict-one v w (by_depth {spans = ss} {p = p} t r b) d = sym (depth_first ss p w t r b d)
  verdict-one v w (by_grammar {spans = ss} t n) d = sym (grammar_last ss w t n d)
  verdict-one v w (a_query {spans = ss} {q = q} t b) d = sym (query_last ss q w t b d)
