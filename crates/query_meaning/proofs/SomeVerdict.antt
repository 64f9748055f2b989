-- Each text comes to a verdict.
use Rattle.std.proofs.Common.{◌≡◌, ℕ, zero, suc, ◌+◌, ◌<◌, ◌≤◌, List, [], Option, Some, None, refl, sym, ◌∙◌, arith, inl, inr, get_or}
use Rattle.std.specs.Prelude.{Result, Ok, Err, length, take, count_by, ◌⊎◌}
use Rattle.std.proofs.lemmas.Bool.{cases_order, cases_lt}
use Rattle.std.proofs.lemmas.Option.{slice_get-get_or}
use Rattle.query_meaning.specs.declared.TokenKind.TheVariants as kind
use Rattle.tree_meaning.specs.Tree.{Query}
use Rattle.query_meaning.specs.Lexing.{Span, spans_of}
use Rattle.query_meaning.specs.Tokens.{Toks, tokens_in}
use Rattle.query_meaning.specs.Reading.{query_of}
use Rattle.query_meaning.specs.Faults.{most_bytes, most_tokens, deepest, is_such, goes_in, goes_out, HasDepth, StaysShallow, HasTokens, refused_at, IsReadable, Verdict, too_long, bad_token, too_many, refused, too_deep, not_a_query, is_query, ComesTo, by_length, by_token, by_count, by_word, by_depth, by_grammar, a_query}
use Rattle.query_meaning.proofs.FullQuery.{query-full}
use Rattle.query_meaning.proofs.TakesQuery.{query-takes}

-- the first token that brings the depth to one too many, among the first n, if there is one
record FirstDeep (ts : Toks) (n : ℕ) : Type 0 where
  at : ℕ
  within : at < n
  before : StaysShallow ts at
  deep : HasDepth (suc deepest) (take (suc at) ts)

later : (ts : Toks) (n : ℕ) → FirstDeep ts n → FirstDeep ts (suc n)
later ts n d = record { at = d.at; within = let h = d.within in omega arith; before = d.before; deep = d.deep }

none_deep : (ts : Toks) → StaysShallow ts 0
none_deep ts = λ i h d. let none : i ≡ 0 = omega arith in let f : HasDepth (suc deepest) [] = rw none at d in absurd (omega arith)

one_more : (ts : Toks) (n : ℕ) → StaysShallow ts n → (HasDepth (suc deepest) (take (suc n) ts) → ⊥) → StaysShallow ts (suc n)
one_more ts n h g = λ i j d. go i j d (cases_lt n i)
  where
    go : (i : ℕ) → i ≤ suc n → HasDepth (suc deepest) (take i ts) → (n < i) ⊎ (i ≤ n) → ⊥
    go i j d (inl k) = let same : i ≡ suc n = omega arith in g (rw same at d)
    go i j d (inr k) = h i k d

has_depth_or_not : (ts : Toks) → HasDepth (suc deepest) ts ⊎ (HasDepth (suc deepest) ts → ⊥)
has_depth_or_not ts = go (count_by (is_such goes_in) ts) (count_by (is_such goes_out) ts + suc deepest) (cases_order (count_by (is_such goes_in) ts) (count_by (is_such goes_out) ts + suc deepest))
  where
    go : (a b : ℕ) → (a ≡ b) ⊎ ((a < b) ⊎ (b < a)) → (a ≡ b) ⊎ (a ≡ b → ⊥)
    go a b (inl e) = inl e
    go a b (inr (inl h)) = inr (λ e. omega arith)
    go a b (inr (inr h)) = inr (λ e. omega arith)

shallow_or_deep : (ts : Toks) (n : ℕ) → StaysShallow ts n ⊎ FirstDeep ts n
shallow_or_deep ts zero = inl (none_deep ts)
shallow_or_deep ts (suc n) = go (shallow_or_deep ts n) (has_depth_or_not (take (suc n) ts))
  where
    go : StaysShallow ts n ⊎ FirstDeep ts n → HasDepth (suc deepest) (take (suc n) ts) ⊎ (HasDepth (suc deepest) (take (suc n) ts) → ⊥) → StaysShallow ts (suc n) ⊎ FirstDeep ts (suc n)
    go (inr d) h = inr (later ts n d)
    go (inl s) (inl d) = inr (record { at = n; within = omega arith; before = s; deep = d })
    go (inl s) (inr d) = inl (one_more ts n s d)

module _ (text : List ℕ) where
  abbrev Found : Type 0
  Found = (v : Verdict) × ComesTo text v

  by_reading : (ss : List Span) → IsReadable text ss → (o : Option Query) → query_of (tokens_in text ss) ≡ o → Found
  by_reading ss r None e = (not_a_query, by_grammar {spans = ss} r (λ q d. let some = sym e ∙ query-full d in absurd cc))
  by_reading ss r (Some q) e = (is_query q, a_query {spans = ss} r (query-takes (tokens_in text ss) q e))

  by_depths : (ss : List Span) → HasTokens text ss → refused_at text ss ≡ None → StaysShallow (tokens_in text ss) (length ss) ⊎ FirstDeep (tokens_in text ss) (length ss) → Found
  by_depths ss t r (inl s) = by_reading ss (record { tokens = t; unrefused = r; shallow = s }) (query_of (tokens_in text ss)) refl
  by_depths ss t r (inr d) =
      let blank : Span = record { kind = kind.Word; from = 0; to = 0 } in
      let span = get_or ss d.at blank in
      (too_deep span.from, by_depth {spans = ss} t r (record { n = d.at; span = span; here = slice_get-get_or ss d.at blank d.within; there = refl; before = d.before; deep = d.deep }))

  by_words : (ss : List Span) → HasTokens text ss → (o : Option ℕ) → refused_at text ss ≡ o → Found
  by_words ss t (Some p) e = (refused p, by_word {spans = ss} t e)
  by_words ss t None e = by_depths ss t e (shallow_or_deep (tokens_in text ss) (length ss))

  by_counts : (ss : List Span) → length text ≤ most_bytes → spans_of text ≡ Ok ss → (most_tokens < length ss) ⊎ (length ss ≤ most_tokens) → Found
  by_counts ss h e (inl m) = (too_many, by_count {spans = ss} h e m)
  by_counts ss h e (inr m) = by_words ss (record { short = h; tokens = e; few = m }) (refused_at text ss) refl

  by_tokens : length text ≤ most_bytes → (r : Result (List Span) ℕ) → spans_of text ≡ r → Found
  by_tokens h (Err p) e = (bad_token p, by_token h e)
  by_tokens h (Ok ss) e = by_counts ss h e (cases_lt most_tokens (length ss))

  pub verdict-some : Found
  verdict-some = go (cases_lt most_bytes (length text))
    where
      go : (most_bytes < length text) ⊎ (length text ≤ most_bytes) → Found
      go (inl h) = (too_long, by_length h)
      go (inr h) = by_tokens h (spans_of text) refl
