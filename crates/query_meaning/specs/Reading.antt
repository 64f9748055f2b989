-- The same by reading from left to right: the tree, and the tokens that are left.
use Rattle.std.specs.Prelude.{ℕ, zero, suc, pos, nat_le, List, [], ◌∷◌, length, Option, Some, None, Bool, true, false, if◌then◌else◌}
use Rattle.std.specs.Option.{option_map}
use denote.Enum.Bare.{sameb}
use Rattle.value_meaning.specs.Val.{Val}
use Rattle.value_meaning.specs.Val as val
use Rattle.query_meaning.specs.contracts.Mark as mark_type
use Rattle.query_meaning.specs.declared.Mark.{Mark}
use Rattle.query_meaning.specs.declared.Mark.TheVariants as m
use Rattle.query_meaning.specs.declared.FunctionWord.{FunctionWord}
use Rattle.query_meaning.specs.declared.FunctionWord.TheVariants as f
use Rattle.query_meaning.specs.declared.Level.{Level}
use Rattle.query_meaning.specs.declared.Level.TheVariants as lv
use Rattle.tree_meaning.specs.declared.BinOp.{BinOp}
use Rattle.tree_meaning.specs.declared.BinOp.TheVariants as op
use Rattle.tree_meaning.specs.declared.IsWhat.{IsWhat}
use Rattle.tree_meaning.specs.declared.IsWhat.TheVariants as what
use Rattle.tree_meaning.specs.declared.How.{How}
use Rattle.tree_meaning.specs.declared.How.TheVariants as how
use Rattle.tree_meaning.specs.declared.Func.{Func}
use Rattle.tree_meaning.specs.declared.Func.TheVariants as func
use Rattle.tree_meaning.specs.declared.Part.{Part}
use Rattle.tree_meaning.specs.Parts.{is_cut_to, is_extracted, is_added}
use Rattle.tree_meaning.specs.declared.AggName.TheVariants as aggs
use Rattle.tree_meaning.specs.Tree.{Step, name, at, Ex, Arms, lit, path, neg, no, bin, is, member, between, matching, choice, cast, call, trunc, extract, shift, agg_of_rows, agg, exs, no_arms, arm, Outs, star, named, Query}
use Rattle.query_meaning.specs.Words.{function_word, part_word, cast_word}
use Rattle.query_meaning.specs.Tokens.{Tok, Toks, mark, word, quoted, string, moment, num, no_token}
use Rattle.query_meaning.specs.Grammar.{Head, function, aggregate, truncation, extraction, addition, skip_of}
use Rattle.query_meaning.specs.RowName.{row_name, without_row}

infixl 10 ◌>>=◌
abbrev pub ◌>>=◌ : {A B : Type 0} → Option A → (A → Option B) → Option B
None >>= f = None
(Some x) >>= f = f x

abbrev pub match_option : {A B : Type 0} → Option A → B → (A → B) → B
match_option None d f = d
match_option (Some x) d f = f x

abbrev pub Reader : Type 0 → Type 0
Reader A = Toks → Option (A × Toks)

abbrev pub is_mark : Mark → Tok → Bool
is_mark k (mark j) = sameb mark_type.the_type j k
is_mark k (word n) = false
is_mark k (quoted n) = false
is_mark k (string p) = false
is_mark k (moment t) = false
is_mark k (num n) = false
is_mark k no_token = false

-- what follows this mark, if it stands at the front
abbrev pub after : Mark → Toks → Option Toks
after k [] = None
after k (t ∷ ts) = if is_mark k t then Some ts else None

-- a mark that says something, and what follows it
abbrev pub said : {A : Type 0} → (Mark → Option A) → Reader A
said say [] = None
said say (mark k ∷ ts) = option_map (λ x. (x, ts)) (say k)
said say (word n ∷ ts) = None
said say (quoted n ∷ ts) = None
said say (string p ∷ ts) = None
said say (moment t ∷ ts) = None
said say (num n ∷ ts) = None
said say (no_token ∷ ts) = None

-- the operator of a level that a mark is
abbrev pub or_op : Mark → Option BinOp
or_op m.Or = Some op.Or
or_op _ = None

abbrev pub and_op : Mark → Option BinOp
and_op m.And = Some op.And
and_op _ = None

abbrev pub sum_op : Mark → Option BinOp
sum_op m.Plus = Some op.Add
sum_op m.Minus = Some op.Sub
sum_op _ = None

abbrev pub term_op : Mark → Option BinOp
term_op m.Star = Some op.Mul
term_op m.Slash = Some op.Div
term_op m.Percent = Some op.Rem
term_op _ = None

abbrev pub op_of : Level → Mark → Option BinOp
op_of lv.Or k = or_op k
op_of lv.And k = and_op k
op_of lv.Sum k = sum_op k
op_of lv.Term k = term_op k

abbrev pub compare_of : Mark → Option BinOp
compare_of m.Equal = Some op.Eq
compare_of m.Unequal = Some op.Ne
compare_of m.Less = Some op.Lt
compare_of m.AtMost = Some op.Le
compare_of m.Greater = Some op.Gt
compare_of m.AtLeast = Some op.Ge
compare_of _ = None

abbrev pub what_of : Mark → Option IsWhat
what_of m.Null = Some what.Null
what_of m.Missing = Some what.Missing
what_of m.True = Some what.True
what_of m.False = Some what.False
what_of _ = None

abbrev pub how_of : Mark → Option How
how_of m.Like = Some how.Like
how_of m.ILike = Some how.ILike
how_of _ = None

abbrev pub literal_of : Mark → Option Val
literal_of m.Null = Some val.null
literal_of m.Missing = Some val.missing
literal_of m.True = Some (val.truth true)
literal_of m.False = Some (val.truth false)
literal_of _ = None

unfoldable pub operator_at : Level → Reader BinOp
operator_at l ts = said (op_of l) ts

unfoldable pub compare_at : Reader BinOp
compare_at ts = said compare_of ts

unfoldable pub what_at : Reader IsWhat
what_at ts = said what_of ts

-- operands and operators behind the tree so far
abbrev pub more_by : Reader Ex → Level → ℕ → Ex → Reader Ex
more_by f l zero a ts = None
more_by f l (suc n) a ts = match_option (operator_at l ts) (Some (a, ts)) (λ x. f x.1 >>= λ y. more_by f l n (bin x.0 a y.0) y.1)

abbrev pub chain_by : Reader Ex → Level → ℕ → Reader Ex
chain_by f l n ts = f ts >>= λ x. more_by f l n x.0 x.1

-- a mark any number of times, and a form
abbrev pub prefixed : Mark → (Ex → Ex) → Reader Ex → Reader Ex
prefixed k wrap f [] = f []
prefixed k wrap f (t ∷ ts) = if is_mark k t then option_map (λ x. (wrap x.0, x.1)) (prefixed k wrap f ts) else f (t ∷ ts)

-- how often a mark stands at the front, and what follows
abbrev pub count_of : Mark → Toks → ℕ
count_of k [] = 0
count_of k (t ∷ ts) = if is_mark k t then suc (count_of k ts) else 0

abbrev pub behind : Mark → Toks → Toks
behind k [] = []
behind k (t ∷ ts) = if is_mark k t then behind k ts else t ∷ ts

abbrev pub times : (Ex → Ex) → ℕ → Ex → Ex
times wrap zero e = e
times wrap (suc n) e = wrap (times wrap n e)

abbrev pub begins : Mark → Toks → Bool
begins k [] = false
begins k (t ∷ ts) = is_mark k t

-- the same as `prefixed`, the marks counted first
abbrev pub counted : Mark → (Ex → Ex) → Reader Ex → Reader Ex
counted k wrap f ts = option_map (λ x. (times wrap (count_of k ts) x.0, x.1)) (f (behind k ts))

abbrev pub name_of : Tok → Option (List ℕ)
name_of (mark k) = None
name_of (word n) = Some n
name_of (quoted n) = Some n
name_of (string p) = None
name_of (moment t) = None
name_of (num n) = None
name_of no_token = None

unfoldable pub name_at : Reader (List ℕ)
name_at [] = None
name_at (t ∷ ts) = option_map (λ n. (n, ts)) (name_of t)

abbrev pub word_of : Tok → Option (List ℕ)
word_of (mark k) = None
word_of (word n) = Some n
word_of (quoted n) = None
word_of (string p) = None
word_of (moment t) = None
word_of (num n) = None
word_of no_token = None

unfoldable pub word_at : Reader (List ℕ)
word_at [] = None
word_at (t ∷ ts) = option_map (λ n. (n, ts)) (word_of t)

abbrev pub string_of : Tok → Option (List ℕ)
string_of (mark k) = None
string_of (word n) = None
string_of (quoted n) = None
string_of (string p) = Some p
string_of (moment t) = None
string_of (num n) = None
string_of no_token = None

unfoldable pub string_at : Reader (List ℕ)
string_at [] = None
string_at (t ∷ ts) = option_map (λ n. (n, ts)) (string_of t)

abbrev pub num_of : Tok → Option ℕ
num_of (mark k) = None
num_of (word n) = None
num_of (quoted n) = None
num_of (string p) = None
num_of (moment t) = None
num_of (num n) = Some n
num_of no_token = None

unfoldable pub num_at : Reader ℕ
num_at [] = None
num_at (t ∷ ts) = option_map (λ n. (n, ts)) (num_of t)

-- behind `[`: a number that is no greater than an index may be, and `]`
unfoldable pub index_at : Reader Step
index_at ts = num_at ts >>= λ x. if nat_le x.0 4_294_967_295 then option_map (λ r. (at x.0, r)) (after m.CloseIndex x.1) else None

-- behind `.`: a name
unfoldable pub field_at : Reader Step
field_at ts = option_map (λ x. (name x.0, x.1)) (name_at ts)

-- a step, if one begins here
unfoldable pub step_at : Toks → Option (Option (Step × Toks))
step_at ts =
    match_option (after m.Dot ts)
    (match_option (after m.OpenIndex ts) (Some None) (λ r. option_map Some (index_at r)))
    (λ r. option_map Some (field_at r))

abbrev pub steps_at : ℕ → Reader (List Step)
steps_at zero ts = None
steps_at (suc n) ts = step_at ts >>= λ o. match_option o (Some ([], ts)) (λ x. option_map (λ y. (x.0 ∷ y.0, y.1)) (steps_at n x.1))

-- a name and steps
unfoldable pub path_at : ℕ → Reader Ex
path_at n ts = name_at ts >>= λ x. option_map (λ y. (path 0 (name x.0 ∷ y.0), y.1)) (steps_at n x.1)

-- behind IS
unfoldable pub is_at : Ex → Reader Ex
is_at e ts =
    match_option (after m.Not ts) (option_map (λ x. (is x.0 e, x.1)) (what_at ts))
    (λ r. option_map (λ x. (no (is x.0 e), x.1)) (what_at r))

-- LIKE or ILIKE and a text, if such a word stands here
unfoldable pub like_at : Ex → Reader Ex
like_at e ts = said how_of ts >>= λ x. option_map (λ y. (matching x.0 e y.0, y.1)) (string_at x.1)

-- forms with commas between them
abbrev pub list_by : {A : Type 0} → Reader A → ℕ → Reader (List A)
list_by f zero ts = None
list_by f (suc n) ts = f ts >>= λ x. match_option (after m.Comma x.1) (Some (x.0 ∷ [], x.1)) (λ r. option_map (λ y. (x.0 ∷ y.0, y.1)) (list_by f n r))

-- behind IN: a list in parentheses
unfoldable pub among_by : Reader Ex → ℕ → Ex → Reader Ex
among_by f n e ts = after m.Open ts >>= λ r. list_by f n r >>= λ x. option_map (λ t. (member e (exs x.0), t)) (after m.Close x.1)

-- behind BETWEEN, over a reader of sums
unfoldable pub range_by : Reader Ex → Ex → Reader Ex
range_by s e ts = s ts >>= λ x. after m.And x.1 >>= λ r. option_map (λ y. (between e x.0 y.0, y.1)) (s r)

-- IN, BETWEEN, LIKE or ILIKE, over a reader of sums and one of expressions
unfoldable pub test_by : Reader Ex → Reader Ex → ℕ → Ex → Reader Ex
test_by s f n e ts =
    match_option (after m.In ts) (match_option (after m.Between ts) (like_at e ts) (range_by s e)) (among_by f n e)

-- the words that begin a test
abbrev pub begins_test : Mark → Bool
begins_test m.In = true
begins_test m.Between = true
begins_test m.Like = true
begins_test m.ILike = true
begins_test _ = false

abbrev pub is_test : Toks → Bool
is_test [] = false
is_test (mark k ∷ ts) = begins_test k
is_test (word n ∷ ts) = false
is_test (quoted n ∷ ts) = false
is_test (string p ∷ ts) = false
is_test (moment t ∷ ts) = false
is_test (num n ∷ ts) = false
is_test (no_token ∷ ts) = false

-- what follows the first sum of a test
unfoldable pub tested_by : Reader Ex → Reader Ex → ℕ → Ex → Reader Ex
tested_by s f n e ts =
    match_option (compare_at ts)
    (match_option (after m.Is ts)
    (match_option (after m.Not ts)
    (if is_test ts then test_by s f n e ts else Some (e, ts))
    (λ r. option_map (λ x. (no x.0, x.1)) (test_by s f n e r)))
    (is_at e))
    (λ x. option_map (λ y. (bin x.0 e y.0, y.1)) (s x.1))

unfoldable pub pred_by : Reader Ex → Reader Ex → ℕ → Reader Ex
pred_by s f n ts = s ts >>= λ x. tested_by s f n x.0 x.1

-- the arms of a CASE
abbrev pub whens_by : Reader Ex → ℕ → Reader Arms
whens_by f zero ts = None
whens_by f (suc n) ts = do
  r ← after m.When ts
  a ← f r
  s ← after m.Then a.1
  b ← f s
  match_option (after m.When b.1) (Some (arm a.0 b.0 no_arms, b.1)) (λ _. option_map (λ x. (arm a.0 b.0 x.0, x.1)) (whens_by f n b.1))

-- behind the arms: ELSE and a value, or neither, and END
unfoldable pub else_by : Reader Ex → Reader Ex
else_by f ts =
    match_option (after m.Else ts) (option_map (λ r. (lit val.null, r)) (after m.End ts))
    (λ r. f r >>= λ x. option_map (λ t. (x.0, t)) (after m.End x.1))

-- behind CASE
unfoldable pub case_by : Reader Ex → ℕ → Reader Ex
case_by f n ts = whens_by f n ts >>= λ a. option_map (λ e. (choice a.0 e.0, e.1)) (else_by f a.1)

-- behind `(`
unfoldable pub parens_by : Reader Ex → Reader Ex
parens_by f ts = f ts >>= λ x. option_map (λ r. (x.0, r)) (after m.Close x.1)

-- behind the operand of a CAST
unfoldable pub cast_end : Ex → Reader Ex
cast_end e ts = after m.As ts >>= λ r. word_at r >>= λ x. cast_word x.0 >>= λ c. option_map (λ t. (cast c e, t)) (after m.Close x.1)

-- behind CAST
unfoldable pub cast_by : Reader Ex → Reader Ex
cast_by f ts = after m.Open ts >>= λ r. f r >>= λ x. cast_end x.0 x.1

-- how a word matches
abbrev pub match_of : FunctionWord → Option How
match_of f.StartsWith = Some how.Starts
match_of f.EndsWith = Some how.Ends
match_of f.Contains = Some how.Contains
match_of _ = None

-- a part that the function takes, and the mark behind it
unfoldable pub part_at : (Part → Bool) → Mark → Reader Part
part_at takes k ts = word_at ts >>= λ x. part_word x.0 >>= λ p. if takes p then option_map (λ r. (p, r)) (after k x.1) else None

-- what stands before the expressions of a call
unfoldable pub head_at : FunctionWord → Reader Head
head_at f.DateTrunc ts = option_map (λ x. (truncation x.0, x.1)) (part_at is_cut_to m.Comma ts)
head_at f.Extract ts = option_map (λ x. (extraction x.0, x.1)) (part_at is_extracted m.From ts)
head_at f.DateAdd ts = option_map (λ x. (addition x.0, x.1)) (part_at is_added m.Comma ts)
head_at f.Coalesce ts = Some (function func.Coalesce, ts)
head_at f.NullIf ts = Some (function func.NullIf, ts)
head_at f.CharLength ts = Some (function func.CharLength, ts)
head_at f.ToUnixEpoch ts = Some (function func.UnixEpoch, ts)
head_at f.ToUnixMicro ts = Some (function func.UnixMicro, ts)
head_at f.StartsWith ts = None
head_at f.EndsWith ts = None
head_at f.Contains ts = None
head_at f.Count ts = Some (aggregate aggs.Count, ts)
head_at f.Sum ts = Some (aggregate aggs.Sum, ts)
head_at f.Min ts = Some (aggregate aggs.Min, ts)
head_at f.Max ts = Some (aggregate aggs.Max, ts)
head_at f.Avg ts = Some (aggregate aggs.Avg, ts)
head_at f.Earliest ts = Some (aggregate aggs.Earliest, ts)
head_at f.Latest ts = Some (aggregate aggs.Latest, ts)
head_at f.BoolAnd ts = Some (aggregate aggs.BoolAnd, ts)
head_at f.BoolOr ts = Some (aggregate aggs.BoolOr, ts)

abbrev pub made_one : Head → Ex → Option Ex
made_one (function func.Coalesce) e = Some (call func.Coalesce (exs (e ∷ [])))
made_one (function func.NullIf) e = None
made_one (function func.CharLength) e = Some (call func.CharLength (exs (e ∷ [])))
made_one (function func.UnixEpoch) e = Some (call func.UnixEpoch (exs (e ∷ [])))
made_one (function func.UnixMicro) e = Some (call func.UnixMicro (exs (e ∷ [])))
made_one (aggregate n) e = Some (agg n e)
made_one (truncation p) e = Some (trunc p e)
made_one (extraction p) e = Some (extract p e)
made_one (addition p) e = None

abbrev pub made_two : Head → Ex → Ex → Option Ex
made_two (function func.Coalesce) a b = Some (call func.Coalesce (exs (a ∷ b ∷ [])))
made_two (function func.NullIf) a b = Some (call func.NullIf (exs (a ∷ b ∷ [])))
made_two (function func.CharLength) a b = None
made_two (function func.UnixEpoch) a b = None
made_two (function func.UnixMicro) a b = None
made_two (aggregate n) a b = None
made_two (truncation p) a b = None
made_two (extraction p) a b = None
made_two (addition p) a b = Some (shift p a b)

abbrev pub made_many : Head → List Ex → Option Ex
made_many (function func.Coalesce) es = Some (call func.Coalesce (exs es))
made_many (function func.NullIf) es = None
made_many (function func.CharLength) es = None
made_many (function func.UnixEpoch) es = None
made_many (function func.UnixMicro) es = None
made_many (aggregate n) es = None
made_many (truncation p) es = None
made_many (extraction p) es = None
made_many (addition p) es = None

-- the tree of a call with these expressions, if it takes so many
unfoldable pub made : Head → List Ex → Option Ex
made h [] = None
made h (a ∷ []) = made_one h a
made h (a ∷ b ∷ []) = made_two h a b
made h (a ∷ b ∷ c ∷ es) = made_many h (a ∷ b ∷ c ∷ es)

-- behind the expression that is matched: a text and `)`
unfoldable pub match_end : How → Ex → Reader Ex
match_end h e ts = after m.Comma ts >>= λ r. string_at r >>= λ x. option_map (λ t. (matching h e x.0, t)) (after m.Close x.1)

-- behind STARTS_WITH, ENDS_WITH or CONTAINS and `(`
unfoldable pub match_by : Reader Ex → How → Reader Ex
match_by f h ts = f ts >>= λ x. match_end h x.0 x.1

-- behind the word of another call and `(`
unfoldable pub args_by : Reader Ex → ℕ → FunctionWord → Reader Ex
args_by f n w ts = head_at w ts >>= λ h. list_by f n h.1 >>= λ x. made h.0 x.0 >>= λ e. option_map (λ t. (e, t)) (after m.Close x.1)

-- `*` and `)` behind COUNT and `(`
unfoldable pub rows_at : FunctionWord → Toks → Option Toks
rows_at f.Count ts = after m.Star ts
rows_at _ ts = None

-- behind the word of a call and `(`
unfoldable pub call_by : Reader Ex → ℕ → FunctionWord → Reader Ex
call_by f n w ts =
    match_option (rows_at w ts) (match_option (match_of w) (args_by f n w ts) (λ h. match_by f h ts))
    (λ r. option_map (λ t. (agg_of_rows aggs.CountAll, t)) (after m.Close r))

-- what begins with this mark
unfoldable pub marked_by : Reader Ex → ℕ → Mark → Reader Ex
marked_by f n m.Open ts = parens_by f ts
marked_by f n m.Case ts = case_by f n ts
marked_by f n m.Cast ts = cast_by f ts
marked_by f n k ts = option_map (λ v. (lit v, ts)) (literal_of k)

-- a call, where `(` follows the word, or a path
unfoldable pub word_by : Reader Ex → ℕ → List ℕ → Reader Ex
word_by f n w ts =
    match_option (after m.Open ts) (option_map (λ y. (path 0 (name w ∷ y.0), y.1)) (steps_at n ts)) (λ r. function_word w >>= λ g. call_by f n g r)

unfoldable pub prim_by : Reader Ex → ℕ → Reader Ex
prim_by f n [] = None
prim_by f n (num k ∷ ts) = Some (lit (val.int (pos k)), ts)
prim_by f n (string p ∷ ts) = Some (lit (val.text p), ts)
prim_by f n (moment t ∷ ts) = Some (lit (val.time t), ts)
prim_by f n (word w ∷ ts) = word_by f n w ts
prim_by f n (quoted w ∷ ts) = option_map (λ y. (path 0 (name w ∷ y.0), y.1)) (steps_at n ts)
prim_by f n (mark k ∷ ts) = marked_by f n k ts
prim_by f n (no_token ∷ ts) = None

-- The levels, over a reader of what stands in parentheses.

abbrev pub minus_by : Reader Ex → ℕ → Reader Ex
minus_by f n = prefixed m.Minus neg (prim_by f n)

abbrev pub term_by : Reader Ex → ℕ → Reader Ex
term_by f n = chain_by (minus_by f n) lv.Term n

abbrev pub sum_by : Reader Ex → ℕ → Reader Ex
sum_by f n = chain_by (term_by f n) lv.Sum n

abbrev pub neg_by : Reader Ex → ℕ → Reader Ex
neg_by f n = prefixed m.Not no (pred_by (sum_by f n) f n)

abbrev pub and_by : Reader Ex → ℕ → Reader Ex
and_by f n = chain_by (neg_by f n) lv.And n

abbrev pub or_by : Reader Ex → ℕ → Reader Ex
or_by f n = chain_by (and_by f n) lv.Or n

-- the operands of a level
abbrev pub operand_by : Reader Ex → ℕ → Level → Reader Ex
operand_by f n lv.Or = and_by f n
operand_by f n lv.And = neg_by f n
operand_by f n lv.Sum = term_by f n
operand_by f n lv.Term = minus_by f n

abbrev pub level_by : Reader Ex → ℕ → Level → Reader Ex
level_by f n l = chain_by (operand_by f n l) l n

unfoldable pub expr_at : ℕ → Reader Ex
expr_at zero ts = None
expr_at (suc n) ts = or_by (expr_at n) n ts

-- The parts of a query.

-- [[AS] name]
unfoldable pub alias_at : Toks → Option (Option (List ℕ) × Toks)
alias_at ts =
    match_option (after m.As ts) (Some (match_option (name_at ts) (None, ts) (λ x. (Some x.0, x.1))))
    (λ r. option_map (λ x. (Some x.0, x.1)) (name_at r))

unfoldable pub item_by : Reader Ex → Reader (Ex × Option (List ℕ))
item_by f ts = f ts >>= λ x. option_map (λ y. ((x.0, y.0), y.1)) (alias_at x.1)

unfoldable pub outputs_by : Reader Ex → ℕ → Reader Outs
outputs_by f n ts = match_option (after m.Star ts) (option_map (λ x. (named x.0, x.1)) (list_by (item_by f) n ts)) (λ r. Some (star, r))

-- [ASC or DESC]
unfoldable pub direction_at : Toks → Bool × Toks
direction_at ts = match_option (after m.Desc ts) (match_option (after m.Asc ts) (false, ts) (λ r. (false, r))) (λ r. (true, r))

unfoldable pub key_by : Reader Ex → Reader (Ex × Bool)
key_by f ts = option_map (λ x. ((x.0, (direction_at x.1).0), (direction_at x.1).1)) (f ts)

unfoldable pub filter_by : Reader Ex → Mark → Reader (Option Ex)
filter_by f k ts = match_option (after k ts) (Some (None, ts)) (λ r. option_map (λ x. (Some x.0, x.1)) (f r))

unfoldable pub groups_by : Reader Ex → ℕ → Reader (List Ex)
groups_by f n ts = match_option (after m.Group ts) (Some ([], ts)) (λ r. after m.By r >>= list_by f n)

unfoldable pub order_by : Reader Ex → ℕ → Reader (List (Ex × Bool))
order_by f n ts = match_option (after m.Order ts) (Some ([], ts)) (λ r. after m.By r >>= list_by (key_by f) n)

unfoldable pub count_at : Mark → Reader (Option ℕ)
count_at k ts = match_option (after k ts) (Some (None, ts)) (λ r. option_map (λ x. (Some x.0, x.1)) (num_at r))

abbrev pub whole : {A : Type 0} → A × Toks → Option A
whole (x, []) = Some x
whole (x, t ∷ ts) = None

-- what LIMIT and OFFSET say, up to the end
unfoldable pub window_at : Toks → Option (Option ℕ × ℕ)
window_at ts = count_at m.Limit ts >>= λ t. count_at m.Offset t.1 >>= λ s. whole ((t.0, skip_of s.0), s.1)

unfoldable pub raw_in : ℕ → Toks → Option Query
raw_in n ts = do
  s ← after m.Select ts
  o ← outputs_by (expr_at n) n s
  f ← after m.From o.1
  k ← name_at f
  a ← alias_at k.1
  w ← filter_by (expr_at n) m.Where a.1
  g ← groups_by (expr_at n) n w.1
  h ← filter_by (expr_at n) m.Having g.1
  b ← order_by (expr_at n) n h.1
  l ← window_at b.1
  Some (record { outs = o.0; source = k.0; alias = a.0; filter = w.0; keys = g.0; having = h.0; order = b.0; take = l.0; skip = l.1 })

-- the query, as it is written
unfoldable pub raw_of : Toks → Option Query
raw_of ts = raw_in (suc (length ts)) ts

-- the query of the tokens
unfoldable pub query_of : Toks → Option Query
query_of ts = option_map (λ q. without_row (row_name q) q) (raw_of ts)
