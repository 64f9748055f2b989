-- How a query is printed. Each `put` says what is printed before what follows.
use Rattle.std.specs.Prelude.{ℕ, zero, suc, List, [], ◌∷◌, Bool, if◌then◌else◌, Option, Some, None, unsigned_abs}
use Rattle.value_meaning.specs.Val.{Val}
use Rattle.value_meaning.specs.Val as val
use Rattle.query_meaning.specs.declared.Mark.{Mark}
use Rattle.query_meaning.specs.declared.Mark.TheVariants as m
use Rattle.query_meaning.specs.declared.FunctionWord.{FunctionWord}
use Rattle.query_meaning.specs.declared.FunctionWord.TheVariants as f
use Rattle.tree_meaning.specs.declared.BinOp.{BinOp}
use Rattle.tree_meaning.specs.declared.BinOp.TheVariants as op
use Rattle.tree_meaning.specs.declared.IsWhat.{IsWhat}
use Rattle.tree_meaning.specs.declared.IsWhat.TheVariants as what
use Rattle.tree_meaning.specs.declared.How.TheVariants as how
use Rattle.tree_meaning.specs.declared.Func.{Func}
use Rattle.tree_meaning.specs.declared.Func.TheVariants as func
use Rattle.tree_meaning.specs.declared.Part.{Part}
use Rattle.tree_meaning.specs.declared.AggName.{AggName}
use Rattle.tree_meaning.specs.declared.AggName.TheVariants as aggs
use Rattle.tree_meaning.specs.Tree.{Step, name, at, Ex, Exs, Arms, lit, path, neg, no, bin, is, member, between, matching, choice, cast, call, trunc, extract, shift, agg_of_rows, agg, no_exs, ex, no_arms, arm, Outs, star, named, Query}
use Rattle.query_meaning.specs.Words.{function_text, part_text, cast_text}
use Rattle.query_meaning.specs.Tokens.{mark, word, quoted, string, moment, num}
use Rattle.query_meaning.specs.RowName.{row_name}
use Rattle.print_meaning.specs.Pieces.{Piece, Pieces, space, token, spelled}

-- Words and signs.

-- both spellings of unequal are printed as `<>`
abbrev pub op_mark : BinOp → Mark
op_mark op.Add = m.Plus
op_mark op.Sub = m.Minus
op_mark op.Mul = m.Star
op_mark op.Div = m.Slash
op_mark op.Rem = m.Percent
op_mark op.Eq = m.Equal
op_mark op.Ne = m.Unequal
op_mark op.Lt = m.Less
op_mark op.Le = m.AtMost
op_mark op.Gt = m.Greater
op_mark op.Ge = m.AtLeast
op_mark op.And = m.And
op_mark op.Or = m.Or

abbrev pub what_mark : IsWhat → Mark
what_mark what.Null = m.Null
what_mark what.Missing = m.Missing
what_mark what.True = m.True
what_mark what.False = m.False

abbrev pub func_word : Func → FunctionWord
func_word func.Coalesce = f.Coalesce
func_word func.NullIf = f.NullIf
func_word func.CharLength = f.CharLength
func_word func.UnixEpoch = f.ToUnixEpoch
func_word func.UnixMicro = f.ToUnixMicro

abbrev pub agg_word : AggName → FunctionWord
agg_word aggs.CountAll = f.Count
agg_word aggs.Count = f.Count
agg_word aggs.Sum = f.Sum
agg_word aggs.Min = f.Min
agg_word aggs.Max = f.Max
agg_word aggs.Avg = f.Avg
agg_word aggs.Earliest = f.Earliest
agg_word aggs.Latest = f.Latest
agg_word aggs.BoolAnd = f.BoolAnd
agg_word aggs.BoolOr = f.BoolOr

-- Pieces.

abbrev pub key : Mark → Piece
key k = token (mark k)

-- a name, quoted
abbrev pub title : List ℕ → Piece
title n = token (quoted n)

-- a function's word and `(`, with nothing between them
abbrev pub put_head : FunctionWord → Pieces → Pieces
put_head w s = token (word (function_text w)) ∷ key m.Open ∷ s

abbrev pub put_part : Part → Pieces → Pieces
put_part p s = token (word (part_text p)) ∷ s

abbrev pub put_comma : Pieces → Pieces
put_comma s = key m.Comma ∷ space ∷ s

-- a word with a space on both sides
abbrev pub put_between : Mark → Pieces → Pieces
put_between k s = space ∷ key k ∷ space ∷ s

-- The literals. No literal of a query is a list or a struct.
abbrev pub put_literal : Val → Pieces → Pieces
put_literal val.missing s = key m.Missing ∷ s
put_literal val.null s = key m.Null ∷ s
put_literal (val.truth b) s = (if b then key m.True else key m.False) ∷ s
put_literal (val.int n) s = token (num (unsigned_abs n)) ∷ s
put_literal (val.time t) s = token (moment t) ∷ s
put_literal (val.text p) s = token (string p) ∷ s
put_literal (val.list vs) s = s
put_literal (val.struct fs) s = s

abbrev pub put_steps : List Step → Pieces → Pieces
put_steps [] s = s
put_steps (name n ∷ ss) s = key m.Dot ∷ title n ∷ put_steps ss s
put_steps (at i ∷ ss) s = key m.OpenIndex ∷ token (num i) ∷ key m.CloseIndex ∷ put_steps ss s

-- An expression of a query whose row has this name. Each operator form, CASE included, stands in parentheses; literals,
-- paths, casts and calls stand bare.
abbrev mutual
  pub put : List ℕ → Ex → Pieces → Pieces
  put row (lit v) s = put_literal v s
  put row (path r ss) s = title row ∷ put_steps ss s
  put row (neg e) s = key m.Open ∷ key m.Minus ∷ put row e (key m.Close ∷ s)
  put row (no e) s = key m.Open ∷ key m.Not ∷ space ∷ put row e (key m.Close ∷ s)
  put row (bin o a b) s = key m.Open ∷ put row a (put_between (op_mark o) (put row b (key m.Close ∷ s)))
  put row (is w e) s = key m.Open ∷ put row e (put_between m.Is (key (what_mark w) ∷ key m.Close ∷ s))
  put row (member e es) s = key m.Open ∷ put row e (put_between m.In (key m.Open ∷ put_exs row es (key m.Close ∷ key m.Close ∷ s)))
  put row (between e a b) s = key m.Open ∷ put row e (put_between m.Between (put row a (put_between m.And (put row b (key m.Close ∷ s)))))
  put row (matching how.Like e p) s = key m.Open ∷ put row e (put_between m.Like (token (string p) ∷ key m.Close ∷ s))
  put row (matching how.ILike e p) s = key m.Open ∷ put row e (put_between m.ILike (token (string p) ∷ key m.Close ∷ s))
  put row (matching how.Starts e p) s = put_head f.StartsWith (put row e (put_comma (token (string p) ∷ key m.Close ∷ s)))
  put row (matching how.Ends e p) s = put_head f.EndsWith (put row e (put_comma (token (string p) ∷ key m.Close ∷ s)))
  put row (matching how.Contains e p) s = put_head f.Contains (put row e (put_comma (token (string p) ∷ key m.Close ∷ s)))
  put row (choice r e) s = key m.Open ∷ key m.Case ∷ put_arms row r (put_between m.Else (put row e (space ∷ key m.End ∷ key m.Close ∷ s)))
  put row (cast c e) s = key m.Cast ∷ key m.Open ∷ put row e (put_between m.As (token (word (cast_text c)) ∷ key m.Close ∷ s))
  put row (call g es) s = put_head (func_word g) (put_exs row es (key m.Close ∷ s))
  put row (trunc p e) s = put_head f.DateTrunc (put_part p (put_comma (put row e (key m.Close ∷ s))))
  put row (extract p e) s = put_head f.Extract (put_part p (put_between m.From (put row e (key m.Close ∷ s))))
  put row (shift p a e) s = put_head f.DateAdd (put_part p (put_comma (put row a (put_comma (put row e (key m.Close ∷ s))))))
  put row (agg_of_rows n) s = put_head (agg_word n) (key m.Star ∷ key m.Close ∷ s)
  put row (agg n e) s = put_head (agg_word n) (put row e (key m.Close ∷ s))

  -- with `, ` between them
  pub put_exs : List ℕ → Exs → Pieces → Pieces
  put_exs row no_exs s = s
  put_exs row (ex e es) s = put row e (put_other_exs row es s)

  -- with `, ` before each
  pub put_other_exs : List ℕ → Exs → Pieces → Pieces
  put_other_exs row no_exs s = s
  put_other_exs row (ex e es) s = put_comma (put row e (put_other_exs row es s))

  pub put_arms : List ℕ → Arms → Pieces → Pieces
  put_arms row no_arms s = s
  put_arms row (arm a b r) s = put_between m.When (put row a (put_between m.Then (put row b (put_arms row r s))))

-- Lists with `, ` between their members.

abbrev pub put_others : {A : Type 0} → (A → Pieces → Pieces) → List A → Pieces → Pieces
put_others each [] s = s
put_others each (x ∷ xs) s = put_comma (each x (put_others each xs s))

abbrev pub put_list : {A : Type 0} → (A → Pieces → Pieces) → List A → Pieces → Pieces
put_list each [] s = s
put_list each (x ∷ xs) s = each x (put_others each xs s)

-- A query, each of its clauses with a space before it.

abbrev pub put_alias : Option (List ℕ) → Pieces → Pieces
put_alias None s = s
put_alias (Some n) s = put_between m.As (title n ∷ s)

abbrev pub put_item : List ℕ → Ex × Option (List ℕ) → Pieces → Pieces
put_item row i s = put row i.0 (put_alias i.1 s)

abbrev pub put_outs : List ℕ → Outs → Pieces → Pieces
put_outs row star s = key m.Star ∷ s
put_outs row (named items) s = put_list (put_item row) items s

abbrev pub put_filter : Mark → List ℕ → Option Ex → Pieces → Pieces
put_filter k row None s = s
put_filter k row (Some e) s = put_between k (put row e s)

abbrev pub put_groups : List ℕ → List Ex → Pieces → Pieces
put_groups row [] s = s
put_groups row (e ∷ es) s = space ∷ key m.Group ∷ put_between m.By (put_list (put row) (e ∷ es) s)

-- ASC is not printed
abbrev pub put_direction : Bool → Pieces → Pieces
put_direction falling s = if falling then space ∷ key m.Desc ∷ s else s

abbrev pub put_key : List ℕ → Ex × Bool → Pieces → Pieces
put_key row k s = put row k.0 (put_direction k.1 s)

abbrev pub put_order : List ℕ → List (Ex × Bool) → Pieces → Pieces
put_order row [] s = s
put_order row (k ∷ ks) s = space ∷ key m.Order ∷ put_between m.By (put_list (put_key row) (k ∷ ks) s)

abbrev pub put_count : Mark → Option ℕ → Pieces → Pieces
put_count k None s = s
put_count k (Some n) s = put_between k (token (num n) ∷ s)

-- OFFSET 0 is not printed
abbrev pub skipped : ℕ → Option ℕ
skipped zero = None
skipped (suc n) = Some (suc n)

-- the tokens of the printed query and the spaces between them
unfoldable pub printed : Query → Pieces
printed q =
    key m.Select ∷ space ∷ put_outs (row_name q) q.outs (
    put_between m.From (title q.source ∷ put_alias q.alias (
    put_filter m.Where (row_name q) q.filter (
    put_groups (row_name q) q.keys (
    put_filter m.Having (row_name q) q.having (
    put_order (row_name q) q.order (
    put_count m.Limit q.take (
    put_count m.Offset (skipped q.skip) []))))))))

-- the text of the printed query
unfoldable pub query_text : Query → List ℕ
query_text q = spelled (printed q)
