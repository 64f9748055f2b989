-- The printed tokens of a query are in the grammar.
use Rattle.std.proofs.Common.{◌≡◌, ℕ, zero, suc, pos, negsuc, ◌≤◌, List, [], ◌∷◌, length, map, Bool, true, false, Option, Some, None, refl, ap, sym, arith}
use Rattle.std.specs.Prelude.{All, IfSome}
use Rattle.std.specs.Option.{option_map}
use Rattle.value_meaning.specs.Val as val
use Rattle.query_meaning.specs.declared.Mark.{Mark}
use Rattle.query_meaning.specs.declared.Mark.TheVariants as m
use Rattle.query_meaning.specs.declared.FunctionWord.{FunctionWord}
use Rattle.query_meaning.specs.declared.FunctionWord.TheVariants as f
use Rattle.query_meaning.specs.declared.Level.TheVariants as lv
use Rattle.tree_meaning.specs.declared.BinOp.{BinOp}
use Rattle.tree_meaning.specs.declared.BinOp.TheVariants as op
use Rattle.tree_meaning.specs.declared.IsWhat.{IsWhat}
use Rattle.tree_meaning.specs.declared.IsWhat.TheVariants as what
use Rattle.tree_meaning.specs.declared.How.TheVariants as how
use Rattle.tree_meaning.specs.declared.Func.TheVariants as func
use Rattle.tree_meaning.specs.declared.AggName.{AggName}
use Rattle.tree_meaning.specs.declared.AggName.TheVariants as aggs
use Rattle.tree_meaning.specs.Tree.{Step, name, at, Ex, Exs, Arms, lit, path, neg, no, bin, is, member, between, matching, choice, cast, call, trunc, extract, shift, agg_of_rows, agg, exs, items, no_exs, ex, no_arms, arm, Outs, star, named, Query}
use Rattle.query_meaning.specs.Words.{function_text}
use Rattle.query_meaning.specs.Tokens.{Toks, mark, word}
use Rattle.query_meaning.specs.Grammar.{Head, aggregate, Joins, by_or, by_and, by_plus, by_minus, by_star, by_slash, by_percent, Compares, by_equal, by_unequal, by_less, by_at_most, by_greater, by_at_least, Asks, for_null, for_missing, for_true, for_false, by_like, by_ilike, is_null, is_missing, is_true, is_false, Calls, by_coalesce, by_null_if, by_char_length, by_unix_epoch, by_unix_micro, by_count, by_sum, by_min, by_max, by_avg, by_earliest, by_latest, by_bool_and, by_bool_or, by_starts_with, by_ends_with, by_contains, Opens, nothing, cut_to, part_from, added, Makes, coalesce, null_if, char_length, unix_epoch, unix_micro, aggregated, truncated, extracted, shifted, in_quotes, Steps, no_steps, dotted, indexed, Chain, chain, stop, more, Operand, of_or, of_and, of_sum, of_term, Neg, plain, negated, alone, compared, asked, tested, among, from_to, likened, Minus, unsigned, minus, Prim, a_number, a_string, a_moment, a_literal, a_path, in_parens, a_case, a_cast, a_call, a_match, a_count, Whens, last_when, more_whens, otherwise, Exprs, last_expr, more_exprs, Expr, Alias, no_alias, as_alias, Items, last_item, more_items, Outputs, all, listed, Direction, rising, descending, Keys, last_key, more_keys, Filter, no_filter, filter, Groups, no_groups, groups, Order, no_order, order, Count, no_count, count, skip_of, Written, written, IsQuery}
use Rattle.query_meaning.specs.RowName.{row_name, without_row}
use Rattle.tree_meaning.specs.WellFormed.{IsLiteral, IsPath, IsStep, IsFormed, AreFormed, ArmsAreFormed, IsOutput, AreOutputs, IsKey, IsWellFormed}
use Rattle.print_meaning.specs.Pieces.{Pieces, tokens_of}
use Rattle.print_meaning.specs.Print.{key, what_mark, agg_word, put_literal, put_steps, put, put_exs, put_other_exs, put_arms, put_others, put_alias, put_item, put_outs, put_filter, put_groups, put_direction, put_key, put_order, put_count, skipped, printed}
use Rattle.print_meaning.proofs.Known.{function-known, part-known, cast-known}
use Rattle.print_meaning.proofs.Rows.{all_first, all_rest, long, long_exs, long_arms, long_item, long_key, long_outs, short_long_list, short_long_outs, short_long_order, short_long_option}

-- one form alone at each level
term_of : {e : Ex} {s t : Toks} → Minus s e t → Operand lv.Sum s e t
term_of d = of_sum (chain (of_term d) stop)

sum_of : {e : Ex} {s t : Toks} → Prim s e t → Chain lv.Sum s e t
sum_of d = chain (term_of (unsigned d)) stop

neg_of : {e : Ex} {s t : Toks} → Prim s e t → Neg s e t
neg_of d = plain (alone (sum_of d))

and_of : {e : Ex} {s t : Toks} → Neg s e t → Chain lv.And s e t
and_of d = chain (of_and d) stop

expr_of : {e : Ex} {s t : Toks} → Neg s e t → Expr s e t
expr_of d = chain (of_or (and_of d)) stop

stands : {e : Ex} {s t : Toks} → Prim s e t → Expr s e t
stands p = expr_of (neg_of p)

-- a form of two operands, alone
of_sums : {k : Mark} {o : BinOp} {a b : Ex} {s t u : Toks} → Joins lv.Sum k o → Prim s a (mark k ∷ t) → Prim t b u → Expr s (bin o a b) u
of_sums j p q = expr_of (plain (alone (chain (term_of (unsigned p)) (more j (term_of (unsigned q)) stop))))

of_terms : {k : Mark} {o : BinOp} {a b : Ex} {s t u : Toks} → Joins lv.Term k o → Prim s a (mark k ∷ t) → Prim t b u → Expr s (bin o a b) u
of_terms j p q = expr_of (plain (alone (chain (of_sum (chain (of_term (unsigned p)) (more j (of_term (unsigned q)) stop))) stop)))

of_tests : {k : Mark} {o : BinOp} {a b : Ex} {s t u : Toks} → Compares k o → Prim s a (mark k ∷ t) → Prim t b u → Expr s (bin o a b) u
of_tests c p q = expr_of (plain (compared c (sum_of p) (sum_of q)))

steps_put : (ss : List Step) → All IsStep ss → (s : Pieces) → Steps (tokens_of (put_steps ss s)) ss (tokens_of s)
steps_put [] h s = no_steps
steps_put (name n ∷ ss) h s = dotted in_quotes (steps_put ss (all_rest IsStep (name n) ss h) s)
steps_put (at i ∷ ss) h s = let l = all_first IsStep (at i) ss h in indexed (omega (arith, l)) (steps_put ss (all_rest IsStep (at i) ss h) s)

path_put : (ss : List Step) → IsPath ss → (s : Pieces) → Steps (tokens_of (put_steps ss s)) ss (tokens_of s)
path_put [] h s = absurd h
path_put (at i ∷ ss) h s = absurd h
path_put (name n ∷ ss) h s = dotted in_quotes (steps_put ss h.1 s)

literal_put : (v : val.Val) → IsLiteral v → (s : Pieces) → Prim (tokens_of (put_literal v s)) (lit v) (tokens_of s)
literal_put val.missing h s = a_literal is_missing
literal_put val.null h s = a_literal is_null
literal_put (val.truth true) h s = a_literal is_true
literal_put (val.truth false) h s = a_literal is_false
literal_put (val.int (pos n)) h s = a_number
literal_put (val.int (negsuc n)) h s = absurd h
literal_put (val.time t) h s = a_moment
literal_put (val.text p) h s = a_string
literal_put (val.list vs) h s = absurd h
literal_put (val.struct fs) h s = absurd h

asks_what : (w : IsWhat) → Asks (what_mark w) w
asks_what what.Null = for_null
asks_what what.Missing = for_missing
asks_what what.True = for_true
asks_what what.False = for_false

calls_agg : (n : AggName) → (n ≡ aggs.CountAll → ⊥) → Calls (agg_word n) (aggregate n)
calls_agg aggs.CountAll h = absurd (h refl)
calls_agg aggs.Count h = by_count
calls_agg aggs.Sum h = by_sum
calls_agg aggs.Min h = by_min
calls_agg aggs.Max h = by_max
calls_agg aggs.Avg h = by_avg
calls_agg aggs.Earliest h = by_earliest
calls_agg aggs.Latest h = by_latest
calls_agg aggs.BoolAnd h = by_bool_and
calls_agg aggs.BoolOr h = by_bool_or

pub exs_items : (es : Exs) → exs (items es) ≡ es
exs_items no_exs = refl
exs_items (ex e es) = ap (ex e) (exs_items es)

call_of : {w : FunctionWord} {h : Head} {es : List Ex} {e : Ex} {s t u : Toks} → Opens w s h t → Exprs t es (mark m.Close ∷ u) → Makes h es e → Prim (word (function_text w) ∷ mark m.Open ∷ s) e u
call_of {w} o d k = a_call (function-known w) o d k

mutual
  prim_put : (row : List ℕ) (e : Ex) → IsFormed e → (s : Pieces) → Prim (tokens_of (put row e s)) (long row e) (tokens_of s)
  prim_put row (lit v) h s = literal_put v h s
  prim_put row (path r ss) h s = rw h.0 (a_path in_quotes (path_put ss h.1 s))
  prim_put row (neg e) h s = in_parens (expr_of (plain (alone (chain (term_of (minus (unsigned (prim_put row e h (key m.Close ∷ s))))) stop))))
  prim_put row (no e) h s = in_parens (expr_of (negated (neg_of (prim_put row e h _))))
  prim_put row (bin op.Add a b) h s = in_parens (of_sums by_plus (prim_put row a h.0 _) (prim_put row b h.1 _))
  prim_put row (bin op.Sub a b) h s = in_parens (of_sums by_minus (prim_put row a h.0 _) (prim_put row b h.1 _))
  prim_put row (bin op.Mul a b) h s = in_parens (of_terms by_star (prim_put row a h.0 _) (prim_put row b h.1 _))
  prim_put row (bin op.Div a b) h s = in_parens (of_terms by_slash (prim_put row a h.0 _) (prim_put row b h.1 _))
  prim_put row (bin op.Rem a b) h s = in_parens (of_terms by_percent (prim_put row a h.0 _) (prim_put row b h.1 _))
  prim_put row (bin op.Eq a b) h s = in_parens (of_tests by_equal (prim_put row a h.0 _) (prim_put row b h.1 _))
  prim_put row (bin op.Ne a b) h s = in_parens (of_tests by_unequal (prim_put row a h.0 _) (prim_put row b h.1 _))
  prim_put row (bin op.Lt a b) h s = in_parens (of_tests by_less (prim_put row a h.0 _) (prim_put row b h.1 _))
  prim_put row (bin op.Le a b) h s = in_parens (of_tests by_at_most (prim_put row a h.0 _) (prim_put row b h.1 _))
  prim_put row (bin op.Gt a b) h s = in_parens (of_tests by_greater (prim_put row a h.0 _) (prim_put row b h.1 _))
  prim_put row (bin op.Ge a b) h s = in_parens (of_tests by_at_least (prim_put row a h.0 _) (prim_put row b h.1 _))
  prim_put row (bin op.And a b) h s = in_parens (chain (of_or (chain (of_and (neg_of (prim_put row a h.0 _))) (more by_and (of_and (neg_of (prim_put row b h.1 _))) stop))) stop)
  prim_put row (bin op.Or a b) h s = in_parens (chain (of_or (and_of (neg_of (prim_put row a h.0 _)))) (more by_or (of_or (and_of (neg_of (prim_put row b h.1 _)))) stop))
  prim_put row (is w e) h s = in_parens (expr_of (plain (asked (asks_what w) (sum_of (prim_put row e h _)))))
  prim_put row (member e es) h s =
      in_parens (expr_of (plain (tested (sum_of (prim_put row e h.0 _)) (rw (← exs_items (long_exs row es)) (among (exs_put row es h.1 h.2 (key m.Close ∷ key m.Close ∷ s)))))))
  prim_put row (between e a b) h s = in_parens (expr_of (plain (tested (sum_of (prim_put row e h.0 _)) (from_to (sum_of (prim_put row a h.1 _)) (sum_of (prim_put row b h.2 _))))))
  prim_put row (matching how.Like e p) h s = in_parens (expr_of (plain (tested (sum_of (prim_put row e h _)) (likened by_like))))
  prim_put row (matching how.ILike e p) h s = in_parens (expr_of (plain (tested (sum_of (prim_put row e h _)) (likened by_ilike))))
  prim_put row (matching how.Starts e p) h s = a_match (function-known f.StartsWith) by_starts_with (stands (prim_put row e h _))
  prim_put row (matching how.Ends e p) h s = a_match (function-known f.EndsWith) by_ends_with (stands (prim_put row e h _))
  prim_put row (matching how.Contains e p) h s = a_match (function-known f.Contains) by_contains (stands (prim_put row e h _))
  prim_put row (choice no_arms e) h s = absurd h.1
  prim_put row (choice (arm a b r) e) h s =
      in_parens (stands (a_case (whens_put row r h.0.2 _ (stands (prim_put row a h.0.0 _)) (stands (prim_put row b h.0.1 _))) (otherwise (stands (prim_put row e h.2 _)))))
  prim_put row (cast c e) h s = a_cast (stands (prim_put row e h _)) (cast-known c)
  prim_put row (call func.Coalesce no_exs) h s = absurd (omega (arith, h.1))
  prim_put row (call func.Coalesce (ex e es)) h s =
      rw (← exs_items (long_exs row es)) (call_of (nothing by_coalesce) (other_exs_put row es h.0.1 (key m.Close ∷ s) (stands (prim_put row e h.0.0 _))) coalesce)
  prim_put row (call func.NullIf no_exs) h s = absurd (omega (arith, h.1))
  prim_put row (call func.NullIf (ex a no_exs)) h s = absurd (omega (arith, h.1))
  prim_put row (call func.NullIf (ex a (ex b no_exs))) h s = call_of (nothing by_null_if) (more_exprs (stands (prim_put row a h.0.0 _)) (last_expr (stands (prim_put row b h.0.1.0 _)))) null_if
  prim_put row (call func.NullIf (ex a (ex b (ex c es)))) h s = absurd (omega (arith, h.1))
  prim_put row (call func.CharLength no_exs) h s = absurd (omega (arith, h.1))
  prim_put row (call func.CharLength (ex a no_exs)) h s = call_of (nothing by_char_length) (last_expr (stands (prim_put row a h.0.0 _))) char_length
  prim_put row (call func.CharLength (ex a (ex b es))) h s = absurd (omega (arith, h.1))
  prim_put row (call func.UnixEpoch no_exs) h s = absurd (omega (arith, h.1))
  prim_put row (call func.UnixEpoch (ex a no_exs)) h s = call_of (nothing by_unix_epoch) (last_expr (stands (prim_put row a h.0.0 _))) unix_epoch
  prim_put row (call func.UnixEpoch (ex a (ex b es))) h s = absurd (omega (arith, h.1))
  prim_put row (call func.UnixMicro no_exs) h s = absurd (omega (arith, h.1))
  prim_put row (call func.UnixMicro (ex a no_exs)) h s = call_of (nothing by_unix_micro) (last_expr (stands (prim_put row a h.0.0 _))) unix_micro
  prim_put row (call func.UnixMicro (ex a (ex b es))) h s = absurd (omega (arith, h.1))
  prim_put row (trunc p e) h s = call_of (cut_to (part-known p) h.0) (last_expr (stands (prim_put row e h.1 _))) truncated
  prim_put row (extract p e) h s = call_of (part_from (part-known p) h.0) (last_expr (stands (prim_put row e h.1 _))) extracted
  prim_put row (shift p a e) h s = call_of (added (part-known p) h.0) (more_exprs (stands (prim_put row a h.1 _)) (last_expr (stands (prim_put row e h.2 _)))) shifted
  prim_put row (agg_of_rows n) h s = rw h (a_count (function-known f.Count))
  prim_put row (agg n e) h s = call_of (nothing (calls_agg n h.0)) (last_expr (stands (prim_put row e h.1 _))) aggregated

  exs_put : (row : List ℕ) (es : Exs) → AreFormed es → 1 ≤ length (items es) → (s : Pieces) → Exprs (tokens_of (put_exs row es s)) (items (long_exs row es)) (tokens_of s)
  exs_put row no_exs h l s = absurd (omega (arith, l))
  exs_put row (ex e es) h l s = other_exs_put row es h.1 s (stands (prim_put row e h.0 _))

  -- the expressions behind a first one
  other_exs_put : (row : List ℕ) (es : Exs) → AreFormed es → (s : Pieces) {e : Ex} {t : Toks} → Expr t e (tokens_of (put_other_exs row es s)) → Exprs t (e ∷ items (long_exs row es)) (tokens_of s)
  other_exs_put row no_exs h s d = last_expr d
  other_exs_put row (ex e es) h s d = more_exprs d (other_exs_put row es h.1 s (stands (prim_put row e h.0 _)))

  -- the arms behind a first one
  whens_put : (row : List ℕ) (r : Arms) → ArmsAreFormed r → (u : Pieces) {a b : Ex} {s t : Toks} → Expr s a (mark m.Then ∷ t) → Expr t b (tokens_of (put_arms row r u)) → Whens (mark m.When ∷ s) (arm a b (long_arms row r)) (tokens_of u)
  whens_put row no_arms h u c d = last_when c d
  whens_put row (arm x y r) h u c d = more_whens c d (whens_put row r h.2 u (stands (prim_put row x h.0 _)) (stands (prim_put row y h.1 _)))

expr_put : (row : List ℕ) (e : Ex) → IsFormed e → (s : Pieces) → Expr (tokens_of (put row e s)) (long row e) (tokens_of s)
expr_put row e h s = stands (prim_put row e h s)

-- the members behind a first one
others_put : (row : List ℕ) (es : List Ex) → All IsFormed es → (s : Pieces) {e : Ex} {t : Toks} → Expr t e (tokens_of (put_others (put row) es s)) → Exprs t (e ∷ map (long row) es) (tokens_of s)
others_put row [] h s d = last_expr d
others_put row (e ∷ es) h s d = more_exprs d (others_put row es (all_rest IsFormed e es h) s (expr_put row e (all_first IsFormed e es h) _))

alias_put : (n : Option (List ℕ)) (s : Pieces) → Alias (tokens_of (put_alias n s)) n (tokens_of s)
alias_put None s = no_alias
alias_put (Some n) s = as_alias in_quotes

other_items_put : (row : List ℕ) (xs : List (Ex × Option (List ℕ))) → All IsOutput xs → (s : Pieces) {e : Ex} {n : Option (List ℕ)} {t u : Toks} → Expr t e u → Alias u n (tokens_of (put_others (put_item row) xs s)) → Items t ((e, n) ∷ map (long_item row) xs) (tokens_of s)
other_items_put row [] h s d a = last_item d a
other_items_put row (x ∷ xs) h s d a =
    more_items d a (other_items_put row xs (all_rest IsOutput x xs h) s (expr_put row x.0 ((all_first IsOutput x xs h).0) _) (alias_put x.1 _))

outs_put : (row : List ℕ) (o : Outs) → AreOutputs o → (s : Pieces) → Outputs (tokens_of (put_outs row o s)) (long_outs row o) (tokens_of s)
outs_put row star h s = all
outs_put row (named []) h s = absurd (omega (arith, h.0))
outs_put row (named (x ∷ xs)) h s =
    listed (other_items_put row xs (all_rest IsOutput x xs h.1) s (expr_put row x.0 ((all_first IsOutput x xs h.1).0) _) (alias_put x.1 _))

filter_put : (k : Mark) (row : List ℕ) (o : Option Ex) → IfSome o IsFormed → (s : Pieces) → Filter k (tokens_of (put_filter k row o s)) (option_map (long row) o) (tokens_of s)
filter_put k row None h s = no_filter
filter_put k row (Some e) h s = filter (expr_put row e h s)

groups_put : (row : List ℕ) (es : List Ex) → All IsFormed es → (s : Pieces) → Groups (tokens_of (put_groups row es s)) (map (long row) es) (tokens_of s)
groups_put row [] h s = no_groups
groups_put row (e ∷ es) h s = groups (others_put row es (all_rest IsFormed e es h) s (expr_put row e (all_first IsFormed e es h) _))

direction_put : (falling : Bool) (s : Pieces) → Direction (tokens_of (put_direction falling s)) falling (tokens_of s)
direction_put true s = descending
direction_put false s = rising

other_keys_put : (row : List ℕ) (ks : List (Ex × Bool)) → All IsKey ks → (s : Pieces) {e : Ex} {d : Bool} {t u : Toks} → Expr t e u → Direction u d (tokens_of (put_others (put_key row) ks s)) → Keys t ((e, d) ∷ map (long_key row) ks) (tokens_of s)
other_keys_put row [] h s d a = last_key d a
other_keys_put row (x ∷ xs) h s d a =
    more_keys d a (other_keys_put row xs (all_rest IsKey x xs h) s (expr_put row x.0 (all_first IsKey x xs h) _) (direction_put x.1 _))

order_put : (row : List ℕ) (ks : List (Ex × Bool)) → All IsKey ks → (s : Pieces) → Order (tokens_of (put_order row ks s)) (map (long_key row) ks) (tokens_of s)
order_put row [] h s = no_order
order_put row (k ∷ ks) h s = order (other_keys_put row ks (all_rest IsKey k ks h) s (expr_put row k.0 (all_first IsKey k ks h) _) (direction_put k.1 _))

count_put : (k : Mark) (n : Option ℕ) (s : Pieces) → Count k (tokens_of (put_count k n s)) n (tokens_of s)
count_put k None s = no_count
count_put k (Some n) s = count

skip_put : (n : ℕ) → skip_of (skipped n) ≡ n
skip_put zero = refl
skip_put (suc n) = refl

-- the query whose paths begin with the row's name
abbrev with_row : Query → Query
with_row q =
    record {
      outs = long_outs (row_name q) q.outs;
      source = q.source;
      alias = q.alias;
      filter = option_map (long (row_name q)) q.filter;
      keys = map (long (row_name q)) q.keys;
      having = option_map (long (row_name q)) q.having;
      order = map (long_key (row_name q)) q.order;
      take = q.take;
      skip = skip_of (skipped q.skip);
    }

written_put : (q : Query) → IsWellFormed q → Written (tokens_of (printed q)) (with_row q)
unfolding printed
written_put q h =
    let row = row_name q in
    written (outs_put row q.outs h.outs _) in_quotes (alias_put q.alias _) (filter_put m.Where row q.filter h.filter _) (groups_put row q.keys h.keys _)
    (filter_put m.Having row q.having h.having _) (order_put row q.order h.order _) (count_put m.Limit q.take _) (count_put m.Offset (skipped q.skip) [])

loses_row : (q : Query) → IsWellFormed q → without_row (row_name (with_row q)) (with_row q) ≡ q
loses_row q h =
    let row = row_name q in
    λ i.
    record {
      outs = short_long_outs row q.outs h.outs i;
      source = q.source;
      alias = q.alias;
      filter = short_long_option row q.filter h.filter i;
      keys = short_long_list row q.keys h.keys i;
      having = short_long_option row q.having h.having i;
      order = short_long_order row q.order h.order i;
      take = q.take;
      skip = skip_put q.skip i;
    }

-- the printed tokens are the query
pub query-printed : (q : Query) → IsWellFormed q → IsQuery (tokens_of (printed q)) q
query-printed q h = record { raw = with_row q; written = written_put q h; bare = sym (loses_row q h) }
