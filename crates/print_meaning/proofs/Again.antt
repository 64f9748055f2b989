-- The printed text of a query is read as the query.
use Rattle.std.proofs.Common.{◌≡◌, List, [], None, Ok, Result, refl, ap}
use Rattle.std.specs.Option.{option_map}
use Rattle.tree_meaning.specs.Tree.{Query}
use Rattle.query_meaning.specs.Lexing.{Span, spans_of}
use Rattle.query_meaning.specs.Tokens.{tokens_in}
use Rattle.query_meaning.specs.Grammar.{IsQuery}
use Rattle.tree_meaning.specs.WellFormed.{IsWellFormed}
use Rattle.query_meaning.specs.Faults.{refused_at, Verdict, ComesTo, by_length, by_token, by_count, by_word, by_depth, by_grammar, a_query}
use Rattle.query_meaning.proofs.FullQuery.{one_query, query-full}
use Rattle.print_meaning.specs.Pieces.{spelled, tokens_of}
use Rattle.print_meaning.specs.Print.{printed, query_text}
use Rattle.print_meaning.specs.Laws.{IsItsTokens, HasItsTokens, IsAgain}
use Rattle.print_meaning.proofs.Lexed.{lexed}
use Rattle.print_meaning.proofs.Spaced.{query-spaced}
use Rattle.print_meaning.proofs.Written.{query-printed}

pub is_its_tokens : (q : Query) → IsWellFormed q → IsItsTokens q
is_its_tokens q h = let stands = query-printed q h in record { stands = stands; read = query-full stands }

pub has_its_tokens : (q : Query) → IsWellFormed q → HasItsTokens q
unfolding query_text spans_of
has_its_tokens q h =
    let l = lexed (printed q) (query-spaced q h) (spelled (printed q)) [] refl in
    record { spans = l.spans; lexed = l.lexed; tokens = l.means; unrefused = ap (option_map (λ (s : Span). s.from)) l.allowed }

one_result : {A B : Type 0} (x y : A) (r : Result A B) → r ≡ Ok x → r ≡ Ok y → x ≡ y
one_result x y r e f = cc

module _ (q : Query) (h : IsWellFormed q) where
  same_spans : (spans : List Span) → spans_of (query_text q) ≡ Ok spans → (has_its_tokens q h).spans ≡ spans
  same_spans spans e = one_result _ spans (spans_of (query_text q)) (has_its_tokens q h).lexed e

  stands : (spans : List Span) → spans_of (query_text q) ≡ Ok spans → IsQuery (tokens_in (query_text q) spans) q
  stands spans e =
      let t = has_its_tokens q h in
      let same : tokens_in (query_text q) spans ≡ tokens_of (printed q) = rw (same_spans spans e) at t.tokens in
      rw same (query-printed q h)

  pub again : (v : Verdict) → ComesTo (query_text q) v → IsAgain q v
  again v (by_length l) = tt
  again v (by_token l e) = let t = has_its_tokens q h in let f = t.lexed in absurd cc
  again v (by_count l e m) = tt
  again v (by_word {spans = spans} w e) =
      let t = has_its_tokens q h in
      let same = same_spans spans w.tokens in
      let f : refused_at (query_text q) spans ≡ None = rw same at t.unrefused in
      absurd cc
  again v (by_depth w e d) = tt
  again v (by_grammar {spans = spans} r none) = none q (stands spans r.tokens.tokens)
  again v (a_query {spans = spans} {q = p} r i) = one_query i (stands spans r.tokens.tokens)
