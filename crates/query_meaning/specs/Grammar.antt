-- The grammar. Of each form: at the front of the first tokens it can be taken as this tree, and the second tokens are left.
-- A word that is followed by `(` is no name, since no form goes on with `(` behind a name.
use Rattle.std.specs.Prelude.{◌≡◌, ℕ, ◌≤◌, ℤ, pos, List, [], ◌∷◌, Bool, true, false, Option, Some, None}
use Rattle.value_meaning.specs.Val.{Val}
use Rattle.value_meaning.specs.Val as val
use Rattle.query_meaning.specs.declared.Mark.{Mark}
use Rattle.query_meaning.specs.declared.Mark.TheVariants as m
use Rattle.query_meaning.specs.declared.FunctionWord.{FunctionWord}
use Rattle.query_meaning.specs.declared.FunctionWord.TheVariants as f
use Rattle.query_meaning.specs.declared.Level.{Level}
use Rattle.query_meaning.specs.declared.Level.TheVariants as lv
use Rattle.tree_meaning.specs.declared.BinOp.{BinOp}
use Rattle.tree_meaning.specs.declared.BinOp.TheVariants as op
use Rattle.tree_meaning.specs.declared.IsWhat.{IsWhat}
use Rattle.tree_meaning.specs.declared.IsWhat.TheVariants as what
use Rattle.tree_meaning.specs.declared.How.{How}
use Rattle.tree_meaning.specs.declared.How.TheVariants as how
use Rattle.tree_meaning.specs.declared.CastTo.{CastTo}
use Rattle.tree_meaning.specs.declared.Func.{Func}
use Rattle.tree_meaning.specs.declared.Func.TheVariants as func
use Rattle.tree_meaning.specs.declared.Part.{Part}
use Rattle.tree_meaning.specs.Parts.{is_cut_to, is_extracted, is_added}
use Rattle.tree_meaning.specs.declared.AggName.{AggName}
use Rattle.tree_meaning.specs.declared.AggName.TheVariants as aggs
use Rattle.tree_meaning.specs.Tree.{Step, name, at, Ex, Arms, lit, path, neg, no, bin, is, member, between, matching, choice, cast, call, trunc, extract, shift, agg_of_rows, agg, exs, no_arms, arm, Outs, star, named, Query}
use Rattle.query_meaning.specs.Words.{function_word, part_word, cast_word}
use Rattle.query_meaning.specs.Tokens.{Tok, Toks, mark, word, quoted, string, moment, num}
use Rattle.query_meaning.specs.RowName.{row_name, without_row}

-- the operators of a level
pub data Joins : Level → Mark → BinOp → Type 0 where
  by_or : Joins lv.Or m.Or op.Or
  by_and : Joins lv.And m.And op.And
  by_plus : Joins lv.Sum m.Plus op.Add
  by_minus : Joins lv.Sum m.Minus op.Sub
  by_star : Joins lv.Term m.Star op.Mul
  by_slash : Joins lv.Term m.Slash op.Div
  by_percent : Joins lv.Term m.Percent op.Rem

-- the comparisons
pub data Compares : Mark → BinOp → Type 0 where
  by_equal : Compares m.Equal op.Eq
  by_unequal : Compares m.Unequal op.Ne
  by_less : Compares m.Less op.Lt
  by_at_most : Compares m.AtMost op.Le
  by_greater : Compares m.Greater op.Gt
  by_at_least : Compares m.AtLeast op.Ge

-- what follows IS
pub data Asks : Mark → IsWhat → Type 0 where
  for_null : Asks m.Null what.Null
  for_missing : Asks m.Missing what.Missing
  for_true : Asks m.True what.True
  for_false : Asks m.False what.False

-- LIKE and ILIKE
pub data Likens : Mark → How → Type 0 where
  by_like : Likens m.Like how.Like
  by_ilike : Likens m.ILike how.ILike

-- the literals that are words
pub data Denotes : Mark → Val → Type 0 where
  is_null : Denotes m.Null val.null
  is_missing : Denotes m.Missing val.missing
  is_true : Denotes m.True (val.truth true)
  is_false : Denotes m.False (val.truth false)

-- the functions of values and the aggregates, with an expression between parentheses or more
pub data Head : Type 0 where
  function : Func → Head
  aggregate : AggName → Head
  truncation : Part → Head
  extraction : Part → Head
  addition : Part → Head

-- the words that stand for a function or an aggregate of expressions alone
pub data Calls : FunctionWord → Head → Type 0 where
  by_coalesce : Calls f.Coalesce (function func.Coalesce)
  by_null_if : Calls f.NullIf (function func.NullIf)
  by_char_length : Calls f.CharLength (function func.CharLength)
  by_unix_epoch : Calls f.ToUnixEpoch (function func.UnixEpoch)
  by_unix_micro : Calls f.ToUnixMicro (function func.UnixMicro)
  by_count : Calls f.Count (aggregate aggs.Count)
  by_sum : Calls f.Sum (aggregate aggs.Sum)
  by_min : Calls f.Min (aggregate aggs.Min)
  by_max : Calls f.Max (aggregate aggs.Max)
  by_avg : Calls f.Avg (aggregate aggs.Avg)
  by_earliest : Calls f.Earliest (aggregate aggs.Earliest)
  by_latest : Calls f.Latest (aggregate aggs.Latest)
  by_bool_and : Calls f.BoolAnd (aggregate aggs.BoolAnd)
  by_bool_or : Calls f.BoolOr (aggregate aggs.BoolOr)

-- the words that match an expression with a text
pub data Matches : FunctionWord → How → Type 0 where
  by_starts_with : Matches f.StartsWith how.Starts
  by_ends_with : Matches f.EndsWith how.Ends
  by_contains : Matches f.Contains how.Contains

-- what stands in the parentheses of a call before its expressions
pub data Opens : FunctionWord → Toks → Head → Toks → Type 0 where
  nothing : {w : FunctionWord} {h : Head} {s : Toks} → Calls w h → Opens w s h s
  cut_to : {n : List ℕ} {p : Part} {s : Toks} → part_word n ≡ Some p → is_cut_to p ≡ true → Opens f.DateTrunc (word n ∷ mark m.Comma ∷ s) (truncation p) s
  part_from : {n : List ℕ} {p : Part} {s : Toks} → part_word n ≡ Some p → is_extracted p ≡ true → Opens f.Extract (word n ∷ mark m.From ∷ s) (extraction p) s
  added : {n : List ℕ} {p : Part} {s : Toks} → part_word n ≡ Some p → is_added p ≡ true → Opens f.DateAdd (word n ∷ mark m.Comma ∷ s) (addition p) s

-- the tree of a call with these expressions: COALESCE takes one or more, NULLIF two, DATE_ADD a count and what it is
-- added to, and all others one
pub data Makes : Head → List Ex → Ex → Type 0 where
  coalesce : {e : Ex} {es : List Ex} → Makes (function func.Coalesce) (e ∷ es) (call func.Coalesce (exs (e ∷ es)))
  null_if : {a b : Ex} → Makes (function func.NullIf) (a ∷ b ∷ []) (call func.NullIf (exs (a ∷ b ∷ [])))
  char_length : {e : Ex} → Makes (function func.CharLength) (e ∷ []) (call func.CharLength (exs (e ∷ [])))
  unix_epoch : {e : Ex} → Makes (function func.UnixEpoch) (e ∷ []) (call func.UnixEpoch (exs (e ∷ [])))
  unix_micro : {e : Ex} → Makes (function func.UnixMicro) (e ∷ []) (call func.UnixMicro (exs (e ∷ [])))
  aggregated : {n : AggName} {e : Ex} → Makes (aggregate n) (e ∷ []) (agg n e)
  truncated : {p : Part} {e : Ex} → Makes (truncation p) (e ∷ []) (trunc p e)
  extracted : {p : Part} {e : Ex} → Makes (extraction p) (e ∷ []) (extract p e)
  shifted : {p : Part} {a e : Ex} → Makes (addition p) (a ∷ e ∷ []) (shift p a e)

-- a word that isn't reserved, or a quoted name
pub data Name : Tok → List ℕ → Type 0 where
  bare : {n : List ℕ} → Name (word n) n
  in_quotes : {n : List ℕ} → Name (quoted n) n

pub data Steps : Toks → List Step → Toks → Type 0 where
  no_steps : {s : Toks} → Steps s [] s
  dotted : {k : Tok} {n : List ℕ} {ss : List Step} {s t : Toks} → Name k n → Steps s ss t → Steps (mark m.Dot ∷ k ∷ s) (name n ∷ ss) t
  indexed : {i : ℕ} {ss : List Step} {s t : Toks} → i ≤ 4_294_967_295 → Steps s ss t → Steps (mark m.OpenIndex ∷ num i ∷ mark m.CloseIndex ∷ s) (at i ∷ ss) t

mutual
  -- an operand, then operators and operands
  pub data Chain : Level → Toks → Ex → Toks → Type 0 where
    chain : {l : Level} {a e : Ex} {s t u : Toks} → Operand l s a t → More l a t e u → Chain l s e u

  -- what follows goes on with the tree so far on its left
  pub data More : Level → Ex → Toks → Ex → Toks → Type 0 where
    stop : {l : Level} {a : Ex} {s : Toks} → More l a s a s
    more : {l : Level} {k : Mark} {o : BinOp} {a b e : Ex} {s t u : Toks} → Joins l k o → Operand l s b t → More l (bin o a b) t e u → More l a (mark k ∷ s) e u

  pub data Operand : Level → Toks → Ex → Toks → Type 0 where
    of_or : {e : Ex} {s t : Toks} → Chain lv.And s e t → Operand lv.Or s e t
    of_and : {e : Ex} {s t : Toks} → Neg s e t → Operand lv.And s e t
    of_sum : {e : Ex} {s t : Toks} → Chain lv.Term s e t → Operand lv.Sum s e t
    of_term : {e : Ex} {s t : Toks} → Minus s e t → Operand lv.Term s e t

  pub data Neg : Toks → Ex → Toks → Type 0 where
    plain : {e : Ex} {s t : Toks} → Pred s e t → Neg s e t
    negated : {e : Ex} {s t : Toks} → Neg s e t → Neg (mark m.Not ∷ s) (no e) t

  -- a sum, alone or in a test; IS NOT, NOT IN, NOT BETWEEN, NOT LIKE and NOT ILIKE are NOT of the plain form
  pub data Pred : Toks → Ex → Toks → Type 0 where
    alone : {e : Ex} {s t : Toks} → Chain lv.Sum s e t → Pred s e t
    compared : {k : Mark} {o : BinOp} {a b : Ex} {s t u : Toks} → Compares k o → Chain lv.Sum s a (mark k ∷ t) → Chain lv.Sum t b u → Pred s (bin o a b) u
    asked : {k : Mark} {w : IsWhat} {e : Ex} {s t : Toks} → Asks k w → Chain lv.Sum s e (mark m.Is ∷ mark k ∷ t) → Pred s (is w e) t
    asked_not : {k : Mark} {w : IsWhat} {e : Ex} {s t : Toks} → Asks k w → Chain lv.Sum s e (mark m.Is ∷ mark m.Not ∷ mark k ∷ t) → Pred s (no (is w e)) t
    tested : {a e : Ex} {s t u : Toks} → Chain lv.Sum s a t → Test a t e u → Pred s e u
    tested_not : {a e : Ex} {s t u : Toks} → Chain lv.Sum s a (mark m.Not ∷ t) → Test a t e u → Pred s (no e) u

  -- what follows a sum and makes a test of it
  pub data Test : Ex → Toks → Ex → Toks → Type 0 where
    among : {a : Ex} {es : List Ex} {s t : Toks} → Exprs s es (mark m.Close ∷ t) → Test a (mark m.In ∷ mark m.Open ∷ s) (member a (exs es)) t
    from_to : {a b c : Ex} {s t u : Toks} → Chain lv.Sum s b (mark m.And ∷ t) → Chain lv.Sum t c u → Test a (mark m.Between ∷ s) (between a b c) u
    likened : {a : Ex} {k : Mark} {h : How} {p : List ℕ} {s : Toks} → Likens k h → Test a (mark k ∷ string p ∷ s) (matching h a p) s

  pub data Minus : Toks → Ex → Toks → Type 0 where
    unsigned : {e : Ex} {s t : Toks} → Prim s e t → Minus s e t
    minus : {e : Ex} {s t : Toks} → Minus s e t → Minus (mark m.Minus ∷ s) (neg e) t

  pub data Prim : Toks → Ex → Toks → Type 0 where
    a_number : {n : ℕ} {s : Toks} → Prim (num n ∷ s) (lit (val.int (pos n))) s
    a_string : {p : List ℕ} {s : Toks} → Prim (string p ∷ s) (lit (val.text p)) s
    a_moment : {t : ℤ} {s : Toks} → Prim (moment t ∷ s) (lit (val.time t)) s
    a_literal : {k : Mark} {v : Val} {s : Toks} → Denotes k v → Prim (mark k ∷ s) (lit v) s
    a_path : {k : Tok} {n : List ℕ} {ss : List Step} {s t : Toks} → Name k n → Steps s ss t → Prim (k ∷ s) (path 0 (name n ∷ ss)) t
    in_parens : {e : Ex} {s t : Toks} → Chain lv.Or s e (mark m.Close ∷ t) → Prim (mark m.Open ∷ s) e t
    a_case : {arms : Arms} {e : Ex} {s t u : Toks} → Whens s arms t → Else t e (mark m.End ∷ u) → Prim (mark m.Case ∷ s) (choice arms e) u
    a_cast : {n : List ℕ} {c : CastTo} {e : Ex} {s t : Toks} → Chain lv.Or s e (mark m.As ∷ word n ∷ mark m.Close ∷ t) → cast_word n ≡ Some c → Prim (mark m.Cast ∷ mark m.Open ∷ s) (cast c e) t
    a_call : {n : List ℕ} {w : FunctionWord} {h : Head} {es : List Ex} {e : Ex} {s t u : Toks} → function_word n ≡ Some w → Opens w s h t → Exprs t es (mark m.Close ∷ u) → Makes h es e → Prim (word n ∷ mark m.Open ∷ s) e u
    a_match : {n : List ℕ} {w : FunctionWord} {h : How} {e : Ex} {p : List ℕ} {s t : Toks} → function_word n ≡ Some w → Matches w h → Chain lv.Or s e (mark m.Comma ∷ string p ∷ mark m.Close ∷ t) → Prim (word n ∷ mark m.Open ∷ s) (matching h e p) t
    a_count : {n : List ℕ} {s : Toks} → function_word n ≡ Some f.Count → Prim (word n ∷ mark m.Open ∷ mark m.Star ∷ mark m.Close ∷ s) (agg_of_rows aggs.CountAll) s

  pub data Whens : Toks → Arms → Toks → Type 0 where
    last_when : {a b : Ex} {s t u : Toks} → Chain lv.Or s a (mark m.Then ∷ t) → Chain lv.Or t b u → Whens (mark m.When ∷ s) (arm a b no_arms) u
    more_whens : {a b : Ex} {arms : Arms} {s t u v : Toks} → Chain lv.Or s a (mark m.Then ∷ t) → Chain lv.Or t b u → Whens u arms v → Whens (mark m.When ∷ s) (arm a b arms) v

  -- without ELSE the value is NULL
  pub data Else : Toks → Ex → Toks → Type 0 where
    without : {s : Toks} → Else s (lit val.null) s
    otherwise : {e : Ex} {s t : Toks} → Chain lv.Or s e t → Else (mark m.Else ∷ s) e t

  -- expressions with commas between them, at least one
  pub data Exprs : Toks → List Ex → Toks → Type 0 where
    last_expr : {e : Ex} {s t : Toks} → Chain lv.Or s e t → Exprs s (e ∷ []) t
    more_exprs : {e : Ex} {es : List Ex} {s t u : Toks} → Chain lv.Or s e (mark m.Comma ∷ t) → Exprs t es u → Exprs s (e ∷ es) u

abbrev pub Expr : Toks → Ex → Toks → Type 0
Expr = Chain lv.Or

-- [[AS] name]
pub data Alias : Toks → Option (List ℕ) → Toks → Type 0 where
  no_alias : {s : Toks} → Alias s None s
  alias : {k : Tok} {n : List ℕ} {s : Toks} → Name k n → Alias (k ∷ s) (Some n) s
  as_alias : {k : Tok} {n : List ℕ} {s : Toks} → Name k n → Alias (mark m.As ∷ k ∷ s) (Some n) s

-- outputs with commas between them, at least one
pub data Items : Toks → List (Ex × Option (List ℕ)) → Toks → Type 0 where
  last_item : {e : Ex} {n : Option (List ℕ)} {s t u : Toks} → Expr s e t → Alias t n u → Items s ((e, n) ∷ []) u
  more_items : {e : Ex} {n : Option (List ℕ)} {items : List (Ex × Option (List ℕ))} {s t u v : Toks} → Expr s e t → Alias t n (mark m.Comma ∷ u) → Items u items v → Items s ((e, n) ∷ items) v

pub data Outputs : Toks → Outs → Toks → Type 0 where
  all : {s : Toks} → Outputs (mark m.Star ∷ s) star s
  listed : {items : List (Ex × Option (List ℕ))} {s t : Toks} → Items s items t → Outputs s (named items) t

-- [ASC or DESC], and whether it is DESC
pub data Direction : Toks → Bool → Toks → Type 0 where
  rising : {s : Toks} → Direction s false s
  ascending : {s : Toks} → Direction (mark m.Asc ∷ s) false s
  descending : {s : Toks} → Direction (mark m.Desc ∷ s) true s

-- order keys with commas between them, at least one
pub data Keys : Toks → List (Ex × Bool) → Toks → Type 0 where
  last_key : {e : Ex} {d : Bool} {s t u : Toks} → Expr s e t → Direction t d u → Keys s ((e, d) ∷ []) u
  more_keys : {e : Ex} {d : Bool} {ks : List (Ex × Bool)} {s t u v : Toks} → Expr s e t → Direction t d (mark m.Comma ∷ u) → Keys u ks v → Keys s ((e, d) ∷ ks) v

-- [WHERE expr] and [HAVING expr]
pub data Filter : Mark → Toks → Option Ex → Toks → Type 0 where
  no_filter : {k : Mark} {s : Toks} → Filter k s None s
  filter : {k : Mark} {e : Ex} {s t : Toks} → Expr s e t → Filter k (mark k ∷ s) (Some e) t

-- [GROUP BY expr [',' expr]..]
pub data Groups : Toks → List Ex → Toks → Type 0 where
  no_groups : {s : Toks} → Groups s [] s
  groups : {es : List Ex} {s t : Toks} → Exprs s es t → Groups (mark m.Group ∷ mark m.By ∷ s) es t

-- [ORDER BY key [',' key]..]
pub data Order : Toks → List (Ex × Bool) → Toks → Type 0 where
  no_order : {s : Toks} → Order s [] s
  order : {ks : List (Ex × Bool)} {s t : Toks} → Keys s ks t → Order (mark m.Order ∷ mark m.By ∷ s) ks t

-- [LIMIT number] and [OFFSET number]
pub data Count : Mark → Toks → Option ℕ → Toks → Type 0 where
  no_count : {k : Mark} {s : Toks} → Count k s None s
  count : {k : Mark} {n : ℕ} {s : Toks} → Count k (mark k ∷ num n ∷ s) (Some n) s

-- OFFSET 0 and its absence are one
abbrev pub skip_of : Option ℕ → ℕ
skip_of None = 0
skip_of (Some n) = n

-- the tokens are a query, in which paths may still begin with the row's name
pub data Written : Toks → Query → Type 0 where
  written :
      {outs : Outs} {k : Tok} {source : List ℕ} {alias : Option (List ℕ)} {filter having : Option Ex} {keys : List Ex} {order : List (Ex × Bool)} {take skip : Option ℕ} {s t u v w x y z : Toks}
      → Outputs s outs (mark m.From ∷ k ∷ t) → Name k source → Alias t alias u → Filter m.Where u filter v → Groups v keys w
      → Filter m.Having w having x → Order x order y → Count m.Limit y take z → Count m.Offset z skip []
      → Written (mark m.Select ∷ s) (record { outs = outs; source = source; alias = alias; filter = filter; keys = keys; having = having; order = order; take = take; skip = skip_of skip })

-- the tokens are the query
pub record IsQuery (ts : Toks) (q : Query) : Type 0 where
  pub raw : Query
  pub written : Written ts raw
  pub bare : q ≡ without_row (row_name raw) raw
