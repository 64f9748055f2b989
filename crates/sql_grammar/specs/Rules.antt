-- The rules of expressions within which there is room for so many.
use Rattle.std.specs.Prelude.{ℕ, List, Some}
use Rattle.tree_meaning.specs.declared.BinOp.{BinOp}
use Rattle.tree_meaning.specs.declared.How.{How}
use Rattle.tree_meaning.specs.Tree.{Ex, Arms}
use Rattle.query_meaning.specs.declared.FunctionWord.{FunctionWord}
use Rattle.query_meaning.specs.declared.Level.{Level}
use Rattle.query_meaning.specs.declared.Mark.{Mark}
use Rattle.query_meaning.specs.declared.Mark.TheVariants as m
use Rattle.query_meaning.specs.Reading as read
use Rattle.query_meaning.specs.Reading.{◌>>=◌, Reader, after, expr_at}
use Rattle.sql_grammar.specs.Tails.{compared_by, denied_by}

abbrev pub list : ℕ → Reader (List Ex)
list n = read.list_by (expr_at n) n

-- levels
abbrev pub disjunction : ℕ → Reader Ex
disjunction n = read.or_by (expr_at n) n

abbrev pub conjunction : ℕ → Reader Ex
conjunction n = read.and_by (expr_at n) n

abbrev pub negation : ℕ → Reader Ex
negation n = read.neg_by (expr_at n) n

abbrev pub sum : ℕ → Reader Ex
sum n = read.sum_by (expr_at n) n

abbrev pub term : ℕ → Reader Ex
term n = read.term_by (expr_at n) n

abbrev pub signed : ℕ → Reader Ex
signed n = read.minus_by (expr_at n) n

abbrev pub level : ℕ → Level → Reader Ex
level n l = read.level_by (expr_at n) n l

abbrev pub operand_of : ℕ → Level → Reader Ex
operand_of n l = read.operand_by (expr_at n) n l

-- conditions
abbrev pub condition : ℕ → Reader Ex
condition n = read.pred_by (sum n) (expr_at n) n

abbrev pub tested : ℕ → Ex → Reader Ex
tested n e = read.tested_by (sum n) (expr_at n) n e

abbrev pub compared : ℕ → BinOp → Ex → Reader Ex
compared n o e = compared_by (sum n) o e

abbrev pub denied : ℕ → Ex → Reader Ex
denied n e = denied_by (read.test_by (sum n) (expr_at n) n e)

abbrev pub test : ℕ → Ex → Reader Ex
test n e = read.test_by (sum n) (expr_at n) n e

abbrev pub range : ℕ → Ex → Reader Ex
range n e = read.range_by (sum n) e

abbrev pub among : ℕ → Ex → Reader Ex
among n e = read.among_by (expr_at n) n e

-- what stands for itself
abbrev pub operand : ℕ → Reader Ex
operand n = read.prim_by (expr_at n) n

abbrev pub marked : ℕ → Mark → Reader Ex
marked n k = read.marked_by (expr_at n) n k

abbrev pub word : ℕ → List ℕ → Reader Ex
word n w = read.word_by (expr_at n) n w

abbrev pub call : ℕ → FunctionWord → Reader Ex
call n w = read.call_by (expr_at n) n w

abbrev pub matched : ℕ → How → Reader Ex
matched n h = read.match_by (expr_at n) h

abbrev pub args : ℕ → FunctionWord → Reader Ex
args n w = read.args_by (expr_at n) n w

abbrev pub parens : ℕ → Reader Ex
parens n = read.parens_by (expr_at n)

abbrev pub cast : ℕ → Reader Ex
cast n = read.cast_by (expr_at n)

abbrev pub case : ℕ → Reader Ex
case n = read.case_by (expr_at n) n

abbrev pub arm : Reader Ex → Reader (Ex × Ex)
arm f ts = do
  r ← after m.When ts
  a ← f r
  s ← after m.Then a.1
  b ← f s
  Some ((a.0, b.0), b.1)

abbrev pub whens : ℕ → Reader Arms
whens n = read.whens_by (expr_at n) n

abbrev pub other : ℕ → Reader Ex
other n = read.else_by (expr_at n)
