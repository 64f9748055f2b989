-- Queries that are well formed. A text in a tree is any list of bytes here: that texts of the code are UTF-8 is kept by their type.
use Rattle.std.specs.Prelude.{◌≡◌, ℕ, ◌<◌, ◌≤◌, ◌^◌, ℤ, pos, negsuc, List, [], ◌∷◌, length, All, Bool, true, Option, IfSome}
use Rattle.value_meaning.specs.Val.{Val}
use Rattle.value_meaning.specs.Val as val
use Rattle.time_meaning.specs.Moments.{IsTime}
use Rattle.tree_meaning.specs.declared.Func.{Func}
use Rattle.tree_meaning.specs.declared.Func.TheVariants as func
use Rattle.tree_meaning.specs.Parts.{is_cut_to, is_extracted, is_added}
use Rattle.tree_meaning.specs.declared.AggName.{AggName}
use Rattle.tree_meaning.specs.declared.AggName.TheVariants as aggs
use Rattle.tree_meaning.specs.Tree.{Step, name, at, Ex, Exs, Arms, lit, path, neg, no, bin, is, member, between, matching, choice, cast, call, trunc, extract, shift, agg_of_rows, agg, no_exs, ex, no_arms, arm, items, Outs, star, named, Query}

-- a name is not empty
abbrev pub IsName : List ℕ → Type 0
IsName n = 0 < length n

-- a number that a literal may be
abbrev pub IsNumber : ℤ → Type 0
IsNumber (pos n) = n < 2 ^ 63
IsNumber (negsuc n) = ⊥

-- NULL, MISSING, a truth value, a text, a time in range, or a number from 0 to 2 ^ 63 - 1
abbrev pub IsLiteral : Val → Type 0
IsLiteral val.missing = Unit {0}
IsLiteral val.null = Unit {0}
IsLiteral (val.truth b) = Unit {0}
IsLiteral (val.int n) = IsNumber n
IsLiteral (val.time t) = IsTime t
IsLiteral (val.text s) = Unit {0}
IsLiteral (val.list vs) = ⊥
IsLiteral (val.struct fs) = ⊥

-- to the value of a name, or to the item at a place of 32 bits
abbrev pub IsStep : Step → Type 0
IsStep (name n) = IsName n
IsStep (at i) = i < 2 ^ 32

-- at least one step, the first of them a name
abbrev pub IsPath : List Step → Type 0
IsPath [] = ⊥
IsPath (at i ∷ ss) = ⊥
IsPath (name n ∷ ss) = IsName n × All IsStep ss

-- how many arguments a function takes
abbrev pub TakesArguments : Func → ℕ → Type 0
TakesArguments func.Coalesce n = 1 ≤ n
TakesArguments func.NullIf n = n ≡ 2
TakesArguments func.CharLength n = n ≡ 1
TakesArguments func.UnixEpoch n = n ≡ 1
TakesArguments func.UnixMicro n = n ≡ 1

-- COUNT(*) alone has no operand
abbrev pub IsOfRows : AggName → Type 0
IsOfRows n = n ≡ aggs.CountAll

-- a CASE has an arm
abbrev pub HasArm : Arms → Type 0
HasArm no_arms = ⊥
HasArm (arm a b r) = Unit {0}

abbrev mutual
  -- an expression
  pub IsFormed : Ex → Type 0
  IsFormed (lit v) = IsLiteral v
  IsFormed (path r ss) = (r ≡ 0) × IsPath ss
  IsFormed (neg e) = IsFormed e
  IsFormed (no e) = IsFormed e
  IsFormed (bin o a b) = IsFormed a × IsFormed b
  IsFormed (is w e) = IsFormed e
  IsFormed (member e es) = IsFormed e × AreFormed es × (1 ≤ length (items es))
  IsFormed (between e a b) = IsFormed e × IsFormed a × IsFormed b
  IsFormed (matching h e p) = IsFormed e
  IsFormed (choice r e) = ArmsAreFormed r × HasArm r × IsFormed e
  IsFormed (cast c e) = IsFormed e
  IsFormed (call f es) = AreFormed es × TakesArguments f (length (items es))
  IsFormed (trunc p e) = (is_cut_to p ≡ true) × IsFormed e
  IsFormed (extract p e) = (is_extracted p ≡ true) × IsFormed e
  IsFormed (shift p a e) = (is_added p ≡ true) × IsFormed a × IsFormed e
  IsFormed (agg_of_rows n) = IsOfRows n
  IsFormed (agg n e) = (IsOfRows n → ⊥) × IsFormed e

  -- expressions
  pub AreFormed : Exs → Type 0
  AreFormed no_exs = Unit {0}
  AreFormed (ex e es) = IsFormed e × AreFormed es

  -- the arms of a CASE
  pub ArmsAreFormed : Arms → Type 0
  ArmsAreFormed no_arms = Unit {0}
  ArmsAreFormed (arm a b r) = IsFormed a × IsFormed b × ArmsAreFormed r

-- an output: an expression, with or without a name of its own
abbrev pub IsOutput : Ex × Option (List ℕ) → Type 0
IsOutput i = IsFormed i.0 × IfSome i.1 IsName

-- the whole row, or at least one output
abbrev pub AreOutputs : Outs → Type 0
AreOutputs star = Unit {0}
AreOutputs (named items) = (1 ≤ length items) × All IsOutput items

-- an order key: an expression, and whether it is descending
abbrev pub IsKey : Ex × Bool → Type 0
IsKey k = IsFormed k.0

-- a count of rows
abbrev pub IsCount : ℕ → Type 0
IsCount n = n < 2 ^ 63

pub record IsWellFormed (q : Query) : Type 0 where
  pub outs : AreOutputs q.outs
  pub source : IsName q.source
  pub alias : IfSome q.alias IsName
  pub filter : IfSome q.filter IsFormed
  pub keys : All IsFormed q.keys
  pub having : IfSome q.having IsFormed
  pub order : All IsKey q.order
  pub take : IfSome q.take IsCount
  pub skip : IsCount q.skip
