-- What is in the grammar is read, where what follows doesn't go on with it.
use Rattle.std.proofs.Common.{◌≡◌, ℕ, ℤ, pos, zero, suc, ◌<◌, ◌≤◌, List, [], ◌∷◌, length, Option, Some, None, Bool, true, false, cond, refl, ap, ◌∙◌, arith}
use Rattle.std.specs.Prelude.{nat_le}
use Rattle.std.specs.Option.{option_map}
use Rattle.std.proofs.lemmas.Bool.Decides.{nat_tests}
use Rattle.value_meaning.specs.Val as val
use Rattle.query_meaning.specs.declared.Mark.{Mark}
use Rattle.query_meaning.specs.declared.Mark.TheVariants as m
use Rattle.query_meaning.specs.declared.FunctionWord.{FunctionWord}
use Rattle.query_meaning.specs.declared.FunctionWord.TheVariants as f
use Rattle.query_meaning.specs.declared.Level.{Level}
use Rattle.query_meaning.specs.declared.Level.TheVariants as lv
use Rattle.tree_meaning.specs.declared.BinOp.{BinOp}
use Rattle.tree_meaning.specs.declared.IsWhat.{IsWhat}
use Rattle.tree_meaning.specs.declared.How.{How}
use Rattle.tree_meaning.specs.declared.CastTo.{CastTo}
use Rattle.tree_meaning.specs.declared.Func.TheVariants as func
use Rattle.tree_meaning.specs.declared.Part.{Part}
use Rattle.tree_meaning.specs.declared.AggName.TheVariants as aggs
use Rattle.tree_meaning.specs.Tree.{Step, name, at, Ex, Arms, lit, path, neg, no, bin, is, member, between, matching, choice, cast, call, agg_of_rows, exs}
use Rattle.query_meaning.specs.Words.{function_word, part_word, cast_word}
use Rattle.query_meaning.specs.Tokens.{Tok, Toks, mark, word, quoted, string, moment, num, no_token}
use Rattle.query_meaning.specs.Grammar.{Head, function, Joins, by_or, by_and, by_plus, by_minus, by_star, by_slash, by_percent, Compares, by_equal, by_unequal, by_less, by_at_most, by_greater, by_at_least, Asks, for_null, for_missing, for_true, for_false, Likens, by_like, by_ilike, Denotes, is_null, is_missing, is_true, is_false, Calls, by_coalesce, by_null_if, by_char_length, by_unix_epoch, by_unix_micro, by_count, by_sum, by_min, by_max, by_avg, by_earliest, by_latest, by_bool_and, by_bool_or, Matches, by_starts_with, by_ends_with, by_contains, Opens, nothing, cut_to, part_from, added, Makes, coalesce, null_if, char_length, unix_epoch, unix_micro, aggregated, truncated, extracted, shifted, Name, bare, in_quotes, Steps, no_steps, dotted, indexed, Chain, chain, More, stop, more, Operand, of_or, of_and, of_sum, of_term, Neg, plain, negated, Pred, alone, compared, asked, asked_not, tested, tested_not, Test, among, from_to, likened, Minus, unsigned, minus, Prim, a_number, a_string, a_moment, a_literal, a_path, in_parens, a_case, a_cast, a_call, a_match, a_count, Whens, last_when, more_whens, Else, without, otherwise, Exprs, last_expr, more_exprs, Expr}
use Rattle.query_meaning.specs.Reading.{is_mark, after, said, Reader, or_op, and_op, sum_op, term_op, compare_of, operator_at, compare_at, what_at, more_by, prefixed, name_at, word_at, string_at, num_at, index_at, field_at, step_at, steps_at, is_at, like_at, list_by, among_by, range_by, test_by, is_test, tested_by, pred_by, whens_by, else_by, case_by, parens_by, cast_end, cast_by, match_of, part_at, head_at, made, match_end, match_by, args_by, rows_at, call_by, marked_by, word_by, prim_by, minus_by, sum_by, neg_by, operand_by, level_by, expr_at}
use Rattle.query_meaning.proofs.Steps.{is_mark-true, after-some}

-- how tightly a mark binds that goes on with a form; 0 goes on with none
abbrev pub binds : Mark → ℕ
binds m.Or = 1
binds m.And = 2
binds m.Equal = 3
binds m.Unequal = 3
binds m.Less = 3
binds m.AtMost = 3
binds m.Greater = 3
binds m.AtLeast = 3
binds m.Is = 3
binds m.In = 3
binds m.Between = 3
binds m.Like = 3
binds m.ILike = 3
binds m.Not = 3
binds m.Plus = 4
binds m.Minus = 4
binds m.Star = 5
binds m.Slash = 5
binds m.Percent = 5
binds m.Dot = 6
binds m.OpenIndex = 6
binds m.Open = 6
binds _ = 0

abbrev pub strength : Toks → ℕ
strength [] = 0
strength (mark k ∷ ts) = binds k
strength (word n ∷ ts) = 0
strength (quoted n ∷ ts) = 0
strength (string n ∷ ts) = 0
strength (moment n ∷ ts) = 0
strength (num n ∷ ts) = 0
strength (no_token ∷ ts) = 0

abbrev pub floor : Level → ℕ
floor lv.Or = 1
floor lv.And = 2
floor lv.Sum = 4
floor lv.Term = 5

abbrev pub inner : Level → ℕ
inner lv.Or = 2
inner lv.And = 3
inner lv.Sum = 5
inner lv.Term = 6

mark_one : (j k : Mark) → mark j ≡ mark k → j ≡ k
mark_one j k e = cc

pub after-none : (k : Mark) (ts : Toks) → strength ts < binds k → after k ts ≡ None
after-none k [] h = refl
after-none k (word n ∷ ts) h = refl
after-none k (quoted n ∷ ts) h = refl
after-none k (string n ∷ ts) h = refl
after-none k (moment n ∷ ts) h = refl
after-none k (num n ∷ ts) h = refl
after-none k (no_token ∷ ts) h = refl
after-none k (mark j ∷ ts) h = go (is_mark k (mark j)) (λ b. mark_one j k (is_mark-true k (mark j) b))
  where
    go : (b : Bool) → (b ≡ true → j ≡ k) → cond b (Some ts) None ≡ None
    go true f = absurd (omega (arith, ap binds (f refl)))
    go false f = refl

-- a mark below a strength says nothing
said-none : {A : Type 0} (say : Mark → Option A) (n : ℕ) → ((k : Mark) → binds k < n → say k ≡ None) → (ts : Toks) → strength ts < n → said say ts ≡ None
said-none say n none [] h = refl
said-none say n none (word w ∷ ts) h = refl
said-none say n none (quoted w ∷ ts) h = refl
said-none say n none (string w ∷ ts) h = refl
said-none say n none (moment w ∷ ts) h = refl
said-none say n none (num w ∷ ts) h = refl
said-none say n none (no_token ∷ ts) h = refl
said-none say n none (mark k ∷ ts) h = rw (none k h) refl

or_none : (k : Mark) → binds k < 1 → or_op k ≡ None
or_none m.Or h = absurd (omega arith)
or_none _ h = refl

and_none : (k : Mark) → binds k < 2 → and_op k ≡ None
and_none m.And h = absurd (omega arith)
and_none _ h = refl

sum_none : (k : Mark) → binds k < 4 → sum_op k ≡ None
sum_none m.Plus h = absurd (omega arith)
sum_none m.Minus h = absurd (omega arith)
sum_none _ h = refl

term_none : (k : Mark) → binds k < 5 → term_op k ≡ None
term_none m.Star h = absurd (omega arith)
term_none m.Slash h = absurd (omega arith)
term_none m.Percent h = absurd (omega arith)
term_none _ h = refl

compare_none : (k : Mark) → binds k < 3 → compare_of k ≡ None
compare_none m.Equal h = absurd (omega arith)
compare_none m.Unequal h = absurd (omega arith)
compare_none m.Less h = absurd (omega arith)
compare_none m.AtMost h = absurd (omega arith)
compare_none m.Greater h = absurd (omega arith)
compare_none m.AtLeast h = absurd (omega arith)
compare_none _ h = refl

operator-none : (l : Level) (ts : Toks) → strength ts < floor l → operator_at l ts ≡ None
unfolding operator_at
operator-none lv.Or ts h = said-none or_op 1 or_none ts h
operator-none lv.And ts h = said-none and_op 2 and_none ts h
operator-none lv.Sum ts h = said-none sum_op 4 sum_none ts h
operator-none lv.Term ts h = said-none term_op 5 term_none ts h

compare-none : (ts : Toks) → strength ts < 3 → compare_at ts ≡ None
unfolding compare_at
compare-none ts h = said-none compare_of 3 compare_none ts h

no_test_mark : (k : Mark) (ts : Toks) → binds k < 3 → is_test (mark k ∷ ts) ≡ false
no_test_mark m.In ts h = absurd (omega arith)
no_test_mark m.Between ts h = absurd (omega arith)
no_test_mark m.Like ts h = absurd (omega arith)
no_test_mark m.ILike ts h = absurd (omega arith)
no_test_mark _ ts h = refl

no_test : (ts : Toks) → strength ts < 3 → is_test ts ≡ false
no_test [] h = refl
no_test (word w ∷ ts) h = refl
no_test (quoted w ∷ ts) h = refl
no_test (string w ∷ ts) h = refl
no_test (moment w ∷ ts) h = refl
no_test (num w ∷ ts) h = refl
no_test (no_token ∷ ts) h = refl
no_test (mark k ∷ ts) h = no_test_mark k ts h

operator-joins : {l : Level} {k : Mark} {o : BinOp} → Joins l k o → (ts : Toks) → operator_at l (mark k ∷ ts) ≡ Some (o, ts)
unfolding operator_at
operator-joins by_or ts = refl
operator-joins by_and ts = refl
operator-joins by_plus ts = refl
operator-joins by_minus ts = refl
operator-joins by_star ts = refl
operator-joins by_slash ts = refl
operator-joins by_percent ts = refl

compare-compares : {k : Mark} {o : BinOp} → Compares k o → (ts : Toks) → compare_at (mark k ∷ ts) ≡ Some (o, ts)
unfolding compare_at
compare-compares by_equal ts = refl
compare-compares by_unequal ts = refl
compare-compares by_less ts = refl
compare-compares by_at_most ts = refl
compare-compares by_greater ts = refl
compare-compares by_at_least ts = refl

what-asks : {k : Mark} {w : IsWhat} → Asks k w → (ts : Toks) → (what_at (mark k ∷ ts) ≡ Some (w, ts)) × (after m.Not (mark k ∷ ts) ≡ None)
unfolding what_at
what-asks for_null ts = (refl, refl)
what-asks for_missing ts = (refl, refl)
what-asks for_true ts = (refl, refl)
what-asks for_false ts = (refl, refl)

joins_below : {l : Level} {k : Mark} {o : BinOp} → Joins l k o → binds k < inner l
joins_below by_or = omega arith
joins_below by_and = omega arith
joins_below by_plus = omega arith
joins_below by_minus = omega arith
joins_below by_star = omega arith
joins_below by_slash = omega arith
joins_below by_percent = omega arith

compares_below : {k : Mark} {o : BinOp} → Compares k o → binds k < 4
compares_below by_equal = omega arith
compares_below by_unequal = omega arith
compares_below by_less = omega arith
compares_below by_at_most = omega arith
compares_below by_greater = omega arith
compares_below by_at_least = omega arith

floor_inner : (l : Level) → floor l < inner l
floor_inner lv.Or = omega arith
floor_inner lv.And = omega arith
floor_inner lv.Sum = omega arith
floor_inner lv.Term = omega arith

-- what follows an operand doesn't go on with it
more_below : {l : Level} {a e : Ex} {s t : Toks} → More l a s e t → strength t < floor l → strength s < inner l
more_below {l} stop h = omega (arith, floor_inner l)
more_below (more j d r) h = joins_below j

steps_less : {s t : Toks} {ss : List Step} → Steps s ss t → length t ≤ length s
steps_less no_steps = omega arith
steps_less (dotted n r) = omega (arith, steps_less r)
steps_less (indexed i r) = omega (arith, steps_less r)

opens_less : {w : FunctionWord} {h : Head} {s t : Toks} → Opens w s h t → length t ≤ length s
opens_less (nothing c) = omega arith
opens_less (cut_to a b) = omega arith
opens_less (part_from a b) = omega arith
opens_less (added a b) = omega arith

mutual
  pub chain_less : {l : Level} {e : Ex} {s t : Toks} → Chain l s e t → length t < length s
  chain_less (chain d r) = omega (arith, operand_less d, more_less r)

  more_less : {l : Level} {a e : Ex} {s t : Toks} → More l a s e t → length t ≤ length s
  more_less stop = omega arith
  more_less (more j d r) = omega (arith, operand_less d, more_less r)

  operand_less : {l : Level} {e : Ex} {s t : Toks} → Operand l s e t → length t < length s
  operand_less (of_or d) = chain_less d
  operand_less (of_and d) = neg_less d
  operand_less (of_sum d) = chain_less d
  operand_less (of_term d) = minus_less d

  neg_less : {e : Ex} {s t : Toks} → Neg s e t → length t < length s
  neg_less (plain d) = pred_less d
  neg_less (negated d) = omega (arith, neg_less d)

  pred_less : {e : Ex} {s t : Toks} → Pred s e t → length t < length s
  pred_less (alone d) = chain_less d
  pred_less (compared c d b) = omega (arith, chain_less d, chain_less b)
  pred_less (asked a d) = omega (arith, chain_less d)
  pred_less (asked_not a d) = omega (arith, chain_less d)
  pred_less (tested d b) = omega (arith, chain_less d, test_less b)
  pred_less (tested_not d b) = omega (arith, chain_less d, test_less b)

  test_less : {a e : Ex} {s t : Toks} → Test a s e t → length t < length s
  test_less (among d) = omega (arith, exprs_less d)
  test_less (from_to a b) = omega (arith, chain_less a, chain_less b)
  test_less (likened h) = omega arith

  minus_less : {e : Ex} {s t : Toks} → Minus s e t → length t < length s
  minus_less (unsigned d) = prim_less d
  minus_less (minus d) = omega (arith, minus_less d)

  prim_less : {e : Ex} {s t : Toks} → Prim s e t → length t < length s
  prim_less a_number = omega arith
  prim_less a_string = omega arith
  prim_less a_moment = omega arith
  prim_less (a_literal d) = omega arith
  prim_less (a_path n p) = omega (arith, steps_less p)
  prim_less (in_parens d) = omega (arith, chain_less d)
  prim_less (a_case w d) = omega (arith, whens_less w, else_less d)
  prim_less (a_cast d c) = omega (arith, chain_less d)
  prim_less (a_call k o d c) = omega (arith, opens_less o, exprs_less d)
  prim_less (a_match k c d) = omega (arith, chain_less d)
  prim_less (a_count k) = omega arith

  whens_less : {a : Arms} {s t : Toks} → Whens s a t → length t < length s
  whens_less (last_when c d) = omega (arith, chain_less c, chain_less d)
  whens_less (more_whens c d w) = omega (arith, chain_less c, chain_less d, whens_less w)

  else_less : {e : Ex} {s t : Toks} → Else s e t → length t ≤ length s
  else_less without = omega arith
  else_less (otherwise d) = omega (arith, chain_less d)

  pub exprs_less : {es : List Ex} {s t : Toks} → Exprs s es t → length t < length s
  exprs_less (last_expr d) = chain_less d
  exprs_less (more_exprs d r) = omega (arith, chain_less d, exprs_less r)

-- one more within
within : (n : ℕ) (s : Toks) (x : Ex × Toks) → length s < n → ((k : ℕ) → length s ≤ k → level_by (expr_at k) k lv.Or s ≡ Some x) → expr_at n s ≡ Some x
unfolding expr_at
within zero s x h f = absurd (omega arith)
within (suc n) s x h f = f n (omega arith)

-- a form that no such mark begins has none in front
prefixed-plain : (k : Mark) (wrap : Ex → Ex) (f : Reader Ex) (s : Toks) (x : Ex × Toks) → f s ≡ Some x → ((ts : Toks) → f (mark k ∷ ts) ≡ None) → prefixed k wrap f s ≡ Some x
prefixed-plain k wrap f [] x e none = e
prefixed-plain k wrap f (t ∷ ts) x e none = go (is_mark k t) (is_mark-true k t)
  where
    go : (b : Bool) → (b ≡ true → t ≡ mark k) → cond b (option_map (λ (y : Ex × Toks). (wrap y.0, y.1)) (prefixed k wrap f ts)) (f (t ∷ ts)) ≡ Some x
    go true same = absurd (let h : t ≡ mark k = same refl in let g : f (mark k ∷ ts) ≡ Some x = rw h at e in let z = none ts in cc)
    go false same = e

minus_first : (f : Reader Ex) (n : ℕ) (ts : Toks) → prim_by f n (mark m.Minus ∷ ts) ≡ None
unfolding prim_by marked_by
minus_first f n ts = refl

not_first : (f : Reader Ex) (n : ℕ) (ts : Toks) → pred_by (sum_by f n) f n (mark m.Not ∷ ts) ≡ None
unfolding pred_by prim_by marked_by
not_first f n ts = refl

pub name_at-name : {k : Tok} {n : List ℕ} → Name k n → (ts : Toks) → name_at (k ∷ ts) ≡ Some (n, ts)
unfolding name_at
name_at-name bare ts = refl
name_at-name in_quotes ts = refl

dot_step : {k : Tok} {n : List ℕ} → Name k n → (s : Toks) → step_at (mark m.Dot ∷ k ∷ s) ≡ Some (Some (name n, s))
unfolding step_at field_at
dot_step n s = rw (name_at-name n s) refl

le_test : (a b : ℕ) → a ≤ b → nat_le a b ≡ true
le_test a b h = grind (arith, nat_tests)

index_step : (i : ℕ) → i ≤ 4_294_967_295 → (s : Toks) → step_at (mark m.OpenIndex ∷ num i ∷ mark m.CloseIndex ∷ s) ≡ Some (Some (at i, s))
unfolding step_at index_at num_at
index_step i h s = rw (le_test i 4_294_967_295 h) refl

no_step : (s : Toks) → strength s < 6 → step_at s ≡ Some None
unfolding step_at
no_step s h = rw (after-none m.Dot s h, after-none m.OpenIndex s h) refl

steps_full : {s t : Toks} {ss : List Step} → Steps s ss t → (n : ℕ) → length s < n → strength t < 6 → steps_at n s ≡ Some (ss, t)
steps_full d zero h w = absurd (omega arith)
steps_full {s = s} no_steps (suc n) h w = rw (no_step s w) refl
steps_full (dotted {s = s} k d) (suc n) h w = rw (dot_step k s, steps_full d n (omega arith) w) refl
steps_full (indexed {s = s} i d) (suc n) h w = rw (index_step _ i s, steps_full d n (omega arith) w) refl

-- a name that goes on with steps isn't followed by a parenthesis
no_open : {s t : Toks} {ss : List Step} → Steps s ss t → strength t < 6 → after m.Open s ≡ None
no_open {s = s} no_steps w = after-none m.Open s w
no_open (dotted k d) w = refl
no_open (indexed i d) w = refl

path_full : {k : Tok} {n : List ℕ} {ss : List Step} {s t : Toks} → Name k n → Steps s ss t → (f : Reader Ex) (r : ℕ) → length s < r → strength t < 6 → prim_by f r (k ∷ s) ≡ Some (path 0 (name n ∷ ss), t)
unfolding prim_by word_by
path_full bare d f r h w = rw (no_open d w, steps_full d r h w) refl
path_full in_quotes d f r h w = rw (steps_full d r h w) refl

number_full : (f : Reader Ex) (n i : ℕ) (s : Toks) → prim_by f n (num i ∷ s) ≡ Some (lit (val.int (pos i)), s)
unfolding prim_by
number_full f n i s = refl

string_full : (f : Reader Ex) (n : ℕ) (p : List ℕ) (s : Toks) → prim_by f n (string p ∷ s) ≡ Some (lit (val.text p), s)
unfolding prim_by
string_full f n p s = refl

moment_full : (f : Reader Ex) (n : ℕ) (t : ℤ) (s : Toks) → prim_by f n (moment t ∷ s) ≡ Some (lit (val.time t), s)
unfolding prim_by
moment_full f n t s = refl

literal_full : {k : Mark} {v : _} → Denotes k v → (f : Reader Ex) (n : ℕ) (s : Toks) → prim_by f n (mark k ∷ s) ≡ Some (lit v, s)
unfolding prim_by marked_by
literal_full is_null f n s = refl
literal_full is_missing f n s = refl
literal_full is_true f n s = refl
literal_full is_false f n s = refl

like_full : {k : Mark} {h : How} → Likens k h → (a : Ex) (p : List ℕ) (s : Toks) (t : Reader Ex) (f : Reader Ex) (n : ℕ) → test_by t f n a (mark k ∷ string p ∷ s) ≡ Some (matching h a p, s)
unfolding test_by like_at string_at
like_full by_like a p s t f n = refl
like_full by_ilike a p s t f n = refl

-- how a test begins
record Tests (s : Toks) : Type 0 where
  below : strength s < 4
  no_compare : compare_at s ≡ None
  no_is : after m.Is s ≡ None
  no_not : after m.Not s ≡ None
  is_one : is_test s ≡ true

test_begins : {a e : Ex} {s t : Toks} → Test a s e t → Tests s
unfolding compare_at
test_begins (among d) = record { below = omega arith; no_compare = refl; no_is = refl; no_not = refl; is_one = refl }
test_begins (from_to a b) = record { below = omega arith; no_compare = refl; no_is = refl; no_not = refl; is_one = refl }
test_begins (likened by_like) = record { below = omega arith; no_compare = refl; no_is = refl; no_not = refl; is_one = refl }
test_begins (likened by_ilike) = record { below = omega arith; no_compare = refl; no_is = refl; no_not = refl; is_one = refl }

whens_begin : {s t : Toks} {a : Arms} → Whens s a t → (r : Toks) × (s ≡ mark m.When ∷ r)
whens_begin (last_when {s = s} c d) = (s, refl)
whens_begin (more_whens {s = s} c d w) = (s, refl)

else_below : {e : Ex} {s t : Toks} → Else s e (mark m.End ∷ t) → (strength s < 1) × (after m.When s ≡ None)
else_below d = go d refl
  where
    go : {e : Ex} {s u t : Toks} → Else s e u → u ≡ mark m.End ∷ t → (strength s < 1) × (after m.When s ≡ None)
    go without h = rw h (omega arith, refl)
    go (otherwise d) h = (omega arith, refl)

head_calls : {w : FunctionWord} {h : Head} → Calls w h → (s : Toks) → (head_at w s ≡ Some (h, s)) × (match_of w ≡ None)
unfolding head_at
head_calls by_coalesce s = (refl, refl)
head_calls by_null_if s = (refl, refl)
head_calls by_char_length s = (refl, refl)
head_calls by_unix_epoch s = (refl, refl)
head_calls by_unix_micro s = (refl, refl)
head_calls by_count s = (refl, refl)
head_calls by_sum s = (refl, refl)
head_calls by_min s = (refl, refl)
head_calls by_max s = (refl, refl)
head_calls by_avg s = (refl, refl)
head_calls by_earliest s = (refl, refl)
head_calls by_latest s = (refl, refl)
head_calls by_bool_and s = (refl, refl)
head_calls by_bool_or s = (refl, refl)

part_full : (takes : Part → Bool) (k : Mark) (n : List ℕ) (p : Part) (s : Toks) → part_word n ≡ Some p → takes p ≡ true → after k (mark k ∷ s) ≡ Some s → part_at takes k (word n ∷ mark k ∷ s) ≡ Some (p, s)
unfolding part_at word_at
part_full takes k n p s known takes_it next = rw (known, takes_it, next) refl

head_full : {w : FunctionWord} {h : Head} {s t : Toks} → Opens w s h t → (head_at w s ≡ Some (h, t)) × (match_of w ≡ None)
unfolding head_at
head_full {s = s} (nothing c) = head_calls c s
head_full (cut_to {n = n} {p = p} {s = s} a b) = (rw (part_full _ m.Comma n p s a b refl) refl, refl)
head_full (part_from {n = n} {p = p} {s = s} a b) = (rw (part_full _ m.From n p s a b refl) refl, refl)
head_full (added {n = n} {p = p} {s = s} a b) = (rw (part_full _ m.Comma n p s a b refl) refl, refl)

makes_full : {h : Head} {es : List Ex} {e : Ex} → Makes h es e → made h es ≡ Some e
unfolding made
makes_full (coalesce {es = es}) = go es
  where
    go : {e : Ex} (es : List Ex) → made (function func.Coalesce) (e ∷ es) ≡ Some (call func.Coalesce (exs (e ∷ es)))
    go [] = refl
    go (a ∷ []) = refl
    go (a ∷ b ∷ es) = refl
makes_full null_if = refl
makes_full char_length = refl
makes_full unix_epoch = refl
makes_full unix_micro = refl
makes_full aggregated = refl
makes_full truncated = refl
makes_full extracted = refl
makes_full shifted = refl

match_matches : {w : FunctionWord} {h : How} → Matches w h → (s : Toks) → (match_of w ≡ Some h) × (rows_at w s ≡ None)
unfolding rows_at
match_matches by_starts_with s = (refl, refl)
match_matches by_ends_with s = (refl, refl)
match_matches by_contains s = (refl, refl)

pub starry : (k : ℕ) (r : Toks) → expr_at k (mark m.Star ∷ r) ≡ None
unfolding expr_at prim_by marked_by pred_by
starry zero r = refl
starry (suc k) r = refl

-- no list of forms begins with *, where none of the forms does
pub no_star : {A : Type 0} (f : Reader A) → ((r : Toks) → f (mark m.Star ∷ r) ≡ None) → (n : ℕ) (s : Toks) (x : List A × Toks) → list_by f n s ≡ Some x → after m.Star s ≡ None
no_star {A} f none n s x e = go (after m.Star s) refl
  where
    all_none : (k : ℕ) (r : Toks) → list_by f k (mark m.Star ∷ r) ≡ None
    all_none zero r = refl
    all_none (suc k) r = rw (none r) refl

    go : (o : Option Toks) → after m.Star s ≡ o → o ≡ None
    go None h = refl
    go (Some r) h = absurd (let same = after-some m.Star s r h in let g : list_by f n (mark m.Star ∷ r) ≡ Some x = rw same at e in let z = all_none n r in cc)

rows_none : (w : FunctionWord) (s : Toks) → after m.Star s ≡ None → rows_at w s ≡ None
unfolding rows_at
rows_none f.Count s h = h
rows_none _ s h = refl

args_full : {w : FunctionWord} {h : Head} {es : List Ex} {e : Ex} {s t u : Toks} (f : Reader Ex) (n : ℕ) → Opens w s h t → list_by f n t ≡ Some (es, mark m.Close ∷ u) → Makes h es e → args_by f n w s ≡ Some (e, u)
unfolding args_by
args_full f n o read k = rw ((head_full o).0, read, makes_full k) refl

no_rows : {w : FunctionWord} {h : Head} {s t : Toks} {x : List Ex × Toks} (n : ℕ) → Opens w s h t → list_by (expr_at n) n t ≡ Some x → rows_at w s ≡ None
no_rows {w} n (nothing {s = s} c) read = rows_none w s (no_star (expr_at n) (starry n) n s _ read)
no_rows n (cut_to a b) read = rows_none f.DateTrunc _ refl
no_rows n (part_from a b) read = rows_none f.Extract _ refl
no_rows n (added a b) read = rows_none f.DateAdd _ refl

call_full : {w : FunctionWord} {h : Head} {es : List Ex} {e : Ex} {s t u : Toks} (n : ℕ) → Opens w s h t → list_by (expr_at n) n t ≡ Some (es, mark m.Close ∷ u) → Makes h es e → call_by (expr_at n) n w s ≡ Some (e, u)
unfolding call_by
call_full n o read k = rw (no_rows n o read, (head_full o).1, args_full (expr_at n) n o read k) refl

match_full : {w : FunctionWord} {h : How} {e : Ex} {p : List ℕ} {s t : Toks} (f : Reader Ex) (n : ℕ) → Matches w h → f s ≡ Some (e, mark m.Comma ∷ string p ∷ mark m.Close ∷ t) → call_by f n w s ≡ Some (matching h e p, t)
unfolding call_by match_by match_end string_at
match_full {s = s} f n k read = rw ((match_matches k s).1, (match_matches k s).0, read) refl

word_full : (n : List ℕ) (w : FunctionWord) (s : Toks) (f : Reader Ex) (k : ℕ) → function_word n ≡ Some w → prim_by f k (word n ∷ mark m.Open ∷ s) ≡ call_by f k w s
unfolding prim_by word_by
word_full n w s f k known = rw known refl

count_full : (inner : Reader Ex) (n : ℕ) (s : Toks) → call_by inner n f.Count (mark m.Star ∷ mark m.Close ∷ s) ≡ Some (agg_of_rows aggs.CountAll, s)
unfolding call_by rows_at
count_full inner n s = refl

cast_full : {n : List ℕ} {c : CastTo} {e : Ex} {s t : Toks} (f : Reader Ex) (k : ℕ) → f s ≡ Some (e, mark m.As ∷ word n ∷ mark m.Close ∷ t) → cast_word n ≡ Some c → prim_by f k (mark m.Cast ∷ mark m.Open ∷ s) ≡ Some (cast c e, t)
unfolding prim_by marked_by cast_by cast_end word_at
cast_full f k read known = rw (read, known) refl

parens_full : {e : Ex} {s t : Toks} (f : Reader Ex) (k : ℕ) → f s ≡ Some (e, mark m.Close ∷ t) → prim_by f k (mark m.Open ∷ s) ≡ Some (e, t)
unfolding prim_by marked_by parens_by
parens_full f k read = rw read refl

case_full : {a : Arms} {e : Ex} {t u : Toks} (f : Reader Ex) (k : ℕ) (s : Toks) → whens_by f k s ≡ Some (a, t) → else_by f t ≡ Some (e, u) → prim_by f k (mark m.Case ∷ s) ≡ Some (choice a e, u)
unfolding prim_by marked_by case_by
case_full f k s arms other = rw (arms, other) refl

without_full : (f : Reader Ex) (u : Toks) → else_by f (mark m.End ∷ u) ≡ Some (lit val.null, u)
unfolding else_by
without_full f u = refl

otherwise_full : {e : Ex} {s u : Toks} (f : Reader Ex) → f s ≡ Some (e, mark m.End ∷ u) → else_by f (mark m.Else ∷ s) ≡ Some (e, u)
unfolding else_by
otherwise_full f read = rw read refl

-- the forms of a test, once its first sum is read
module _ (f : Reader Ex) (n : ℕ) (sums : Reader Ex) {s : Toks} {a : Ex} {t : Toks} (first : sums s ≡ Some (a, t)) where
  alone_full : strength t < 3 → pred_by sums f n s ≡ Some (a, t)
  unfolding pred_by tested_by
  alone_full w = rw (first, compare-none t w, after-none m.Is t w, after-none m.Not t w, no_test t w) refl

  tested_full : {e : Ex} {u : Toks} → Tests t → test_by sums f n a t ≡ Some (e, u) → pred_by sums f n s ≡ Some (e, u)
  unfolding pred_by tested_by
  tested_full b read = rw (first, b.no_compare, b.no_is, b.no_not, b.is_one, read) refl

compared_full : {k : Mark} {o : BinOp} {a b : Ex} {s t u : Toks} (f : Reader Ex) (n : ℕ) (sums : Reader Ex) → sums s ≡ Some (a, mark k ∷ t) → Compares k o → sums t ≡ Some (b, u) → pred_by sums f n s ≡ Some (bin o a b, u)
unfolding pred_by tested_by
compared_full {t = t} f n sums first c second = rw (first, compare-compares c t, second) refl

asked_full : {k : Mark} {w : IsWhat} {a : Ex} {s t : Toks} (f : Reader Ex) (n : ℕ) (sums : Reader Ex) → sums s ≡ Some (a, mark m.Is ∷ mark k ∷ t) → Asks k w → pred_by sums f n s ≡ Some (is w a, t)
unfolding pred_by tested_by is_at compare_at
asked_full {t = t} f n sums first c = rw (first, (what-asks c t).1, (what-asks c t).0) refl

asked_not_full : {k : Mark} {w : IsWhat} {a : Ex} {s t : Toks} (f : Reader Ex) (n : ℕ) (sums : Reader Ex) → sums s ≡ Some (a, mark m.Is ∷ mark m.Not ∷ mark k ∷ t) → Asks k w → pred_by sums f n s ≡ Some (no (is w a), t)
unfolding pred_by tested_by is_at compare_at
asked_not_full {t = t} f n sums first c = rw (first, (what-asks c t).0) refl

tested_not_full : {a e : Ex} {s t u : Toks} (f : Reader Ex) (n : ℕ) (sums : Reader Ex) → sums s ≡ Some (a, mark m.Not ∷ t) → test_by sums f n a t ≡ Some (e, u) → pred_by sums f n s ≡ Some (no e, u)
unfolding pred_by tested_by compare_at
tested_not_full f n sums first read = rw (first, read) refl

among_full : {es : List Ex} {t : Toks} (f : Reader Ex) (n : ℕ) (sums : Reader Ex) (a : Ex) (s : Toks) → list_by f n s ≡ Some (es, mark m.Close ∷ t) → test_by sums f n a (mark m.In ∷ mark m.Open ∷ s) ≡ Some (member a (exs es), t)
unfolding test_by among_by
among_full f n sums a s read = rw read refl

range_full : {b c : Ex} {s t u : Toks} (f : Reader Ex) (n : ℕ) (sums : Reader Ex) (a : Ex) → sums s ≡ Some (b, mark m.And ∷ t) → sums t ≡ Some (c, u) → test_by sums f n a (mark m.Between ∷ s) ≡ Some (between a b c, u)
unfolding test_by range_by
range_full f n sums a low high = rw (low, high) refl

mutual
  chain_full : {l : Level} {e : Ex} {s t : Toks} → Chain l s e t → (n : ℕ) → length s ≤ n → strength t < floor l → level_by (expr_at n) n l s ≡ Some (e, t)
  chain_full (chain d r) n h w =
      let shorter = operand_less d in
      let next = more_full r n (omega arith) n (omega arith) w in
      rw (operand_full d n h (more_below r w)) next

  more_full : {l : Level} {a e : Ex} {s t : Toks} → More l a s e t → (n : ℕ) → length s ≤ n → (k : ℕ) → length s < k → strength t < floor l → more_by (operand_by (expr_at n) n l) l k a s ≡ Some (e, t)
  more_full stop n h zero j w = absurd (omega arith)
  more_full {l} {s = s} stop n h (suc k) j w = rw (operator-none l s w) refl
  more_full (more by d r) n h zero j w = absurd (omega arith)
  more_full {l} {e = e} {t = v} (more {k = m'} {s = s} by d r) n h (suc k) j w =
      let shorter = operand_less d in
      let next = more_full r n (omega arith) k (omega arith) w in
      rw (operator-joins by s, operand_full d n (omega arith) (more_below r w)) next

  operand_full : {l : Level} {e : Ex} {s t : Toks} → Operand l s e t → (n : ℕ) → length s ≤ n → strength t < inner l → operand_by (expr_at n) n l s ≡ Some (e, t)
  operand_full (of_or d) n h w = chain_full d n h w
  operand_full (of_and d) n h w = neg_full d n h w
  operand_full (of_sum d) n h w = chain_full d n h w
  operand_full (of_term d) n h w = minus_full d n h w

  neg_full : {e : Ex} {s t : Toks} → Neg s e t → (n : ℕ) → length s ≤ n → strength t < 3 → neg_by (expr_at n) n s ≡ Some (e, t)
  neg_full {s = s} (plain d) n h w = prefixed-plain m.Not no (pred_by (sum_by (expr_at n) n) (expr_at n) n) s _ (pred_full d n h w) (not_first (expr_at n) n)
  neg_full (negated d) n h w = rw (neg_full d n (omega arith) w) refl

  pred_full : {e : Ex} {s t : Toks} → Pred s e t → (n : ℕ) → length s ≤ n → strength t < 3 → pred_by (sum_by (expr_at n) n) (expr_at n) n s ≡ Some (e, t)
  pred_full (alone d) n h w = alone_full (expr_at n) n (sum_by (expr_at n) n) (chain_full d n h (omega arith)) w
  pred_full (compared c d b) n h w =
      let shorter = chain_less d in
      compared_full (expr_at n) n (sum_by (expr_at n) n) (chain_full d n h (compares_below c)) c (chain_full b n (omega arith) (omega arith))
  pred_full (asked c d) n h w = asked_full (expr_at n) n (sum_by (expr_at n) n) (chain_full d n h (omega arith)) c
  pred_full (asked_not c d) n h w = asked_not_full (expr_at n) n (sum_by (expr_at n) n) (chain_full d n h (omega arith)) c
  pred_full (tested d b) n h w =
      let shorter = chain_less d in
      let begin = test_begins b in
      tested_full (expr_at n) n (sum_by (expr_at n) n) (chain_full d n h begin.below) begin (test_full b n (omega arith) w)
  pred_full (tested_not d b) n h w =
      let shorter = chain_less d in
      tested_not_full (expr_at n) n (sum_by (expr_at n) n) (chain_full d n h (omega arith)) (test_full b n (omega arith) w)

  test_full : {a e : Ex} {s t : Toks} → Test a s e t → (n : ℕ) → length s ≤ n → strength t < 3 → test_by (sum_by (expr_at n) n) (expr_at n) n a s ≡ Some (e, t)
  test_full {a} (among {s = s} d) n h w = among_full (expr_at n) n (sum_by (expr_at n) n) a s (exprs_full d n (omega arith) n (omega arith) (omega arith) refl)
  test_full {a} (from_to b c) n h w =
      let shorter = chain_less b in
      range_full (expr_at n) n (sum_by (expr_at n) n) a (chain_full b n (omega arith) (omega arith)) (chain_full c n (omega arith) (omega arith))
  test_full {a} (likened {p = p} {s = s} k) n h w = like_full k a p s (sum_by (expr_at n) n) (expr_at n) n

  minus_full : {e : Ex} {s t : Toks} → Minus s e t → (n : ℕ) → length s ≤ n → strength t < 6 → minus_by (expr_at n) n s ≡ Some (e, t)
  minus_full {s = s} (unsigned d) n h w = prefixed-plain m.Minus neg (prim_by (expr_at n) n) s _ (prim_full d n h w) (minus_first (expr_at n) n)
  minus_full (minus d) n h w = rw (minus_full d n (omega arith) w) refl

  prim_full : {e : Ex} {s t : Toks} → Prim s e t → (n : ℕ) → length s ≤ n → strength t < 6 → prim_by (expr_at n) n s ≡ Some (e, t)
  prim_full a_number n h w = number_full (expr_at n) n _ _
  prim_full a_string n h w = string_full (expr_at n) n _ _
  prim_full a_moment n h w = moment_full (expr_at n) n _ _
  prim_full (a_literal {s = s} d) n h w = literal_full d (expr_at n) n s
  prim_full (a_path k p) n h w = path_full k p (expr_at n) n (omega arith) w
  prim_full (in_parens d) n h w = parens_full (expr_at n) n (within n _ _ (omega arith) (λ k j. chain_full d k j (omega arith)))
  prim_full (a_case a d) n h w =
      let b = else_below d in
      let shorter = whens_less a in
      case_full (expr_at n) n _ (whens_full a n (omega arith) n (omega arith) b.0 b.1) (else_full d n (omega arith) refl)
  prim_full (a_cast d c) n h w = cast_full (expr_at n) n (within n _ _ (omega arith) (λ k j. chain_full d k j (omega arith))) c
  prim_full (a_call {n = called} {w = fw} {s = s} known o d k) n h w =
      let shorter = opens_less o in
      word_full called fw s (expr_at n) n known ∙ call_full n o (exprs_full d n (omega arith) n (omega arith) (omega arith) refl) k
  prim_full (a_match {n = called} {w = fw} {s = s} known k d) n h w =
      word_full called fw s (expr_at n) n known ∙ match_full (expr_at n) n k (within n _ _ (omega arith) (λ i j. chain_full d i j (omega arith)))
  prim_full (a_count {n = called} {s = s} known) n h w = word_full called f.Count (mark m.Star ∷ mark m.Close ∷ s) (expr_at n) n known ∙ count_full (expr_at n) n s

  whens_full : {a : Arms} {s t : Toks} → Whens s a t → (n : ℕ) → length s ≤ n → (k : ℕ) → length s ≤ k → strength t < 1 → after m.When t ≡ None → whens_by (expr_at n) k s ≡ Some (a, t)
  whens_full (last_when c d) n h zero j w e = absurd (omega arith)
  whens_full (last_when c d) n h (suc k) j w e =
      let shorter = chain_less c in
      let first = within n _ _ (omega arith) (λ k j. chain_full c k j (omega arith)) in
      let second = within n _ _ (omega arith) (λ k j. chain_full d k j w) in
      rw (first, second, e) refl
  whens_full (more_whens c d r) n h zero j w e = absurd (omega arith)
  whens_full (more_whens c d r) n h (suc k) j w e =
      let shorter = chain_less c in
      let shorter2 = chain_less d in
      let b = whens_begin r in
      let first = within n _ _ (omega arith) (λ k j. chain_full c k j (omega arith)) in
      let second = within n _ _ (omega arith) (λ k j. chain_full d k j (rw b.1 (omega arith))) in
      let others = whens_full r n (omega arith) k (omega arith) w e in
      rw (first, second, others, b.1) refl

  else_full : {e : Ex} {s t u : Toks} → Else s e t → (n : ℕ) → length s ≤ n → t ≡ mark m.End ∷ u → else_by (expr_at n) s ≡ Some (e, u)
  else_full {u = u} without n h same = rw same (without_full (expr_at n) u)
  else_full {u = u} (otherwise {e = e} {s = s} d) n h same =
      otherwise_full (expr_at n) (within n s (e, mark m.End ∷ u) (omega arith) (λ k j. rw same at (chain_full d k j (rw same (omega arith)))))

  exprs_full : {es : List Ex} {s t : Toks} → Exprs s es t → (n : ℕ) → length s < n → (k : ℕ) → length s < k → strength t < 1 → after m.Comma t ≡ None → list_by (expr_at n) k s ≡ Some (es, t)
  exprs_full (last_expr d) n h zero j w e = absurd (omega arith)
  exprs_full (last_expr d) n h (suc k) j w e = rw (within n _ _ h (λ k j. chain_full d k j w), e) refl
  exprs_full (more_exprs d r) n h zero j w e = absurd (omega arith)
  exprs_full (more_exprs d r) n h (suc k) j w e =
      let shorter = chain_less d in
      rw (within n _ _ h (λ k j. chain_full d k j (omega arith)), exprs_full r n (omega arith) k (omega arith) w e) refl

pub expr_full : (n : ℕ) {e : Ex} {s t : Toks} → Expr s e t → length s < n → strength t < 1 → expr_at n s ≡ Some (e, t)
expr_full n d h w = within n _ _ h (λ k j. chain_full d k j w)

pub list_full : (n : ℕ) {es : List Ex} {s t : Toks} → Exprs s es t → length s < n → strength t < 1 → after m.Comma t ≡ None → list_by (expr_at n) n s ≡ Some (es, t)
list_full n d h w e = exprs_full d n h n h w e
