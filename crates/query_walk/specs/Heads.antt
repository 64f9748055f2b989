-- What an expression is apart from the expressions that stand in it.
use Rattle.std.specs.Prelude.{◌≡◌, ℕ, List, [], Option, Some, None}
use Rattle.value_meaning.specs.Val.{Val}
use Rattle.tree_meaning.specs.Tree.{Step, Ex, lit, path, neg, no, bin, is, member, between, matching, choice, cast, call, trunc, extract, shift, agg_of_rows, agg}
use Rattle.query_walk.specs.declared.head.Kind.{Kind}
use Rattle.query_walk.specs.declared.head.Kind.TheVariants as kind
use Rattle.query_walk.specs.declared.head.Detail.{Detail}
use Rattle.query_walk.specs.declared.head.Detail.TheVariants as detail

-- its form
abbrev pub kind_of : Ex → Kind
kind_of (lit v) = kind.Lit
kind_of (path r ss) = kind.Path
kind_of (neg e) = kind.Neg
kind_of (no e) = kind.Not
kind_of (bin o a b) = kind.Bin
kind_of (is w e) = kind.Is
kind_of (member e es) = kind.In
kind_of (between e a b) = kind.Between
kind_of (matching h e s) = kind.Match
kind_of (choice r e) = kind.Case
kind_of (cast c e) = kind.Cast
kind_of (call f es) = kind.Call
kind_of (trunc p e) = kind.Trunc
kind_of (extract p e) = kind.Extract
kind_of (shift p a e) = kind.Shift
kind_of (agg_of_rows n) = kind.AggOfRows
kind_of (agg n e) = kind.Agg

-- the row, operator, function, part or aggregate that it names
abbrev pub detail_of : Ex → Detail
detail_of (path r ss) = detail.Row r
detail_of (bin o a b) = detail.Op o
detail_of (is w e) = detail.What w
detail_of (matching h e s) = detail.How h
detail_of (cast c e) = detail.To c
detail_of (call f es) = detail.Func f
detail_of (trunc p e) = detail.Part p
detail_of (extract p e) = detail.Part p
detail_of (shift p a e) = detail.Part p
detail_of (agg_of_rows n) = detail.Agg n
detail_of (agg n e) = detail.Agg n
detail_of e = detail.Nothing

-- its steps
abbrev pub steps_of : Ex → Option (List Step)
steps_of (path r ss) = Some ss
steps_of e = None

-- its text
abbrev pub text_of : Ex → List ℕ
text_of (matching h e s) = s
text_of e = []

-- its value
abbrev pub value_of : Ex → Option Val
value_of (lit v) = Some v
value_of e = None

pub record SameHead (a b : Ex) : Type 0 where
  pub kinds : kind_of a ≡ kind_of b
  pub details : detail_of a ≡ detail_of b
  pub steps : steps_of a ≡ steps_of b
  pub texts : text_of a ≡ text_of b
  pub values : value_of a ≡ value_of b
