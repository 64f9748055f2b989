-- The text of the query is read by computing.
use Rattle.std.proofs.Common.{◌≡◌, ℕ, ◌+◌, ◌≤◌, List, [], ◌∷◌, take, length, Bool, true, false, cond, Option, Some, None, Ok, refl, ap, ◌∙◌, arith}
use Rattle.std.specs.Prelude.{count_by, not, ◌&&◌, ◌||◌}
use Rattle.std.proofs.lemmas.List.Sums.{sum_by-take-le}
use Rattle.query_meaning.specs.declared.TokenKind.TheVariants as k
use Rattle.query_meaning.specs.Lexing.{Span, spans_of, cut_at, sign_cut, one_sign, two_sign, sign_of}
use Rattle.query_meaning.specs.Tokens.{Tok, Toks, tokens_in, token_of}
use Rattle.query_meaning.specs.Words.{reserved_word, function_word, is_refused}
use Rattle.query_meaning.specs.Reading.{operator_at, compare_at, what_at, name_at, word_at, string_at, num_at, index_at, field_at, step_at, path_at, is_at, like_at, among_by, range_by, test_by, tested_by, pred_by, else_by, case_by, parens_by, cast_end, cast_by, part_at, head_at, made, match_end, match_by, args_by, rows_at, call_by, marked_by, word_by, prim_by, expr_at, alias_at, item_by, outputs_by, direction_at, key_by, filter_by, groups_by, order_by, count_at, window_at, raw_in, raw_of, query_of}
use Rattle.query_meaning.specs.RowName.{short_path}
use Rattle.query_meaning.specs.Faults.{is_such, goes_in, goes_out, HasDepth, StaysShallow, HasTokens, refused_at, ComesTo, is_query, a_query}
use Rattle.query_meaning.proofs.TakesQuery.{query-takes}
use Rattle.check_meaning.specs.Verdict.{first_place, passed_limit, first_not_grouped, first_same_name, first_no_output, fault_of}
use Rattle.check_meaning.specs.Aggregates.{aggregates, is_grouped}
use Rattle.check_meaning.specs.Names.{names}
use Rattle.check_meaning.specs.Places.{output_at, output_named, order_ex, places}
use Rattle.check_meaning.specs.Parts.{parts_outside, within}
use Rattle.check_meaning.specs.Place.{Place, is_of_rows}
use Rattle.check_meaning.specs.Fault.{not_grouped, over_groups}
use Rattle.check_meaning.specs.Tests.{is_path, is_row_form, is_given, is_not_grouped, is_over_groups}
use Rattle.check_meaning.proofs.Same.{same_ex-refl}
use Rattle.tree_meaning.specs.declared.AggName.TheVariants.{CountAll}
use Rattle.tree_meaning.specs.Tree.{Ex, agg_of_rows}
use Rattle.std.specs.Option.{option_map, option_or}
use Rattle.std.specs.List.{list_any}
use Rattle.make_meaning.specs.LogQuery.{text, status, query}
use Rattle.make_meaning.specs.Laws.{LogQueryIsAccepted}

-- a token from its first place to the place behind it
abbrev word : ℕ → ℕ → Span
word a b = record { kind = k.Word; from = a; to = b }

abbrev sign : ℕ → ℕ → Span
sign a b = record { kind = k.Sign; from = a; to = b }

abbrev spans : List Span
spans =
    word 0 6 ∷ word 7 13 ∷ sign 13 14 ∷ word 15 20 ∷ sign 20 21 ∷ sign 21 22 ∷ sign 22 23 ∷ word 24 26 ∷ word 27 28 ∷ word 29 33 ∷ word 34 38 ∷
    word 39 44 ∷ word 45 47 ∷ word 48 54 ∷ word 55 60 ∷ word 61 63 ∷ word 64 70 ∷ []

spans_are : spans_of text ≡ Ok spans
unfolding spans_of cut_at sign_cut one_sign two_sign
spans_are = refl

none_refused : refused_at text spans ≡ None
unfolding is_refused
none_refused = refl

goes_in_once : count_by (is_such goes_in) (tokens_in text spans) ≡ 1
unfolding token_of reserved_word sign_of one_sign two_sign
goes_in_once = refl

-- a front has no more such tokens than the whole
front_fewer : (p : Tok → Bool) (ts : Toks) (i : ℕ) → count_by p (take i ts) ≤ count_by p ts
front_fewer p ts i = sum_by-take-le (λ (t : Tok). cond (p t) 1 0) ts i

stays_shallow : StaysShallow (tokens_in text spans) (length spans)
stays_shallow i within deep =
    let ts = tokens_in text spans in
    let once : count_by (is_such goes_in) ts ≡ 1 = goes_in_once in
    let few : count_by (is_such goes_in) (take i ts) ≤ count_by (is_such goes_in) ts = front_fewer (is_such goes_in) ts i in
    let here : count_by (is_such goes_in) (take i ts) ≡ count_by (is_such goes_out) (take i ts) + 65 = deep in
    absurd (omega arith)

tokens_are : query_of (tokens_in text spans) ≡ Some query
unfolding token_of reserved_word function_word sign_of one_sign two_sign operator_at compare_at what_at name_at word_at string_at num_at index_at field_at step_at path_at is_at like_at among_by range_by test_by tested_by pred_by else_by case_by parens_by cast_end cast_by part_at head_at made match_end match_by args_by rows_at call_by marked_by word_by prim_by expr_at alias_at item_by outputs_by direction_at key_by filter_by groups_by order_by count_at window_at raw_in raw_of query_of short_path
tokens_are = refl

-- a test of parts that holds of the status and of the count leaves nothing at any place
none_outside : (wrong : Ex → Bool) (given : Ex → Bool) → given status ≡ true → given (agg_of_rows CountAll) ≡ true
    → first_place (λ x. not (is_of_rows x.0) && list_any wrong (parts_outside given x.1)) query ≡ None
unfolding first_place names output_at output_named order_ex places parts_outside within
none_outside wrong given key count = rw (key, count) refl

status_is_given : is_given (status ∷ []) status ≡ true
status_is_given = ap (λ (b : Bool). b || false) (same_ex-refl status)

-- the faults of groups, behind limits and nesting, and before names and numbers
abbrev not_grouped_at : Option Place
not_grouped_at = first_place (is_not_grouped (status ∷ [])) query

abbrev over_groups_at : Option Place
over_groups_at = first_place (is_over_groups (status ∷ [])) query

of_groups : fault_of query ≡ option_or (option_map not_grouped not_grouped_at) (option_or (option_map over_groups over_groups_at) None)
unfolding first_place passed_limit first_not_grouped first_same_name first_no_output aggregates is_grouped names output_at output_named order_ex places parts_outside within
of_groups = refl

faultless : fault_of query ≡ None
faultless =
    of_groups
    ∙ ap (λ (o : Option Place). option_or (option_map not_grouped o) (option_or (option_map over_groups over_groups_at) None)) (none_outside is_path (is_given (status ∷ [])) status_is_given refl)
    ∙ ap (λ (o : Option Place). option_or (option_map over_groups o) None) (none_outside is_row_form (is_given (status ∷ [])) status_is_given refl)

pub log_query_is_accepted : LogQueryIsAccepted
log_query_is_accepted = record {
  comes = a_query {spans = spans}
      (record { tokens = record { short = omega arith; tokens = spans_are; few = omega arith }; unrefused = none_refused; shallow = stays_shallow })
      (query-takes (tokens_in text spans) query tokens_are);
  faultless = faultless;
}
