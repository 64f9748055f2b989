-- Trees of queries, apart from where they lie in memory.
use Rattle.std.specs.Prelude.{ℕ, suc, ◌+◌, List, [], ◌∷◌, Bool, Option}
use Rattle.value_meaning.specs.Val.{Val}
use Rattle.tree_meaning.specs.declared.BinOp.{BinOp}
use Rattle.tree_meaning.specs.declared.IsWhat.{IsWhat}
use Rattle.tree_meaning.specs.declared.How.{How}
use Rattle.tree_meaning.specs.declared.CastTo.{CastTo}
use Rattle.tree_meaning.specs.declared.Func.{Func}
use Rattle.tree_meaning.specs.declared.Part.{Part}
use Rattle.tree_meaning.specs.declared.AggName.{AggName}

-- a step of a path: to the value of a name, or to the item at a place
pub data Step : Type 0 where
  name : List ℕ → Step
  at : ℕ → Step

mutual
  pub data Ex : Type 0 where
    lit : Val → Ex
    -- the number of its source, and the steps from there
    path : ℕ → List Step → Ex
    neg : Ex → Ex
    no : Ex → Ex
    bin : BinOp → Ex → Ex → Ex
    is : IsWhat → Ex → Ex
    member : Ex → Exs → Ex
    between : Ex → Ex → Ex → Ex
    matching : How → Ex → List ℕ → Ex
    choice : Arms → Ex → Ex
    cast : CastTo → Ex → Ex
    call : Func → Exs → Ex
    trunc : Part → Ex → Ex
    extract : Part → Ex → Ex
    -- the count, and what it is added to
    shift : Part → Ex → Ex → Ex
    -- an aggregate without an operand, and one of an operand
    agg_of_rows : AggName → Ex
    agg : AggName → Ex → Ex

  pub data Exs : Type 0 where
    no_exs : Exs
    ex : Ex → Exs → Exs

  pub data Arms : Type 0 where
    no_arms : Arms
    arm : Ex → Ex → Arms → Arms

-- how large a tree is, as a bound on recursions
abbrev mutual
  pub size : Ex → ℕ
  size (lit v) = 0
  size (path r ss) = 0
  size (neg e) = suc (size e)
  size (no e) = suc (size e)
  size (bin o a b) = suc (size a + size b)
  size (is w e) = suc (size e)
  size (member e es) = suc (size e + exs_size es)
  size (between e a b) = suc (size e + size a + size b)
  size (matching h e s) = suc (size e)
  size (choice r e) = suc (arms_size r + size e)
  size (cast c e) = suc (size e)
  size (call f es) = suc (exs_size es)
  size (trunc p e) = suc (size e)
  size (extract p e) = suc (size e)
  size (shift p a e) = suc (size a + size e)
  size (agg_of_rows n) = 0
  size (agg n e) = suc (size e)

  pub exs_size : Exs → ℕ
  exs_size no_exs = 0
  exs_size (ex e es) = suc (size e + exs_size es)

  pub arms_size : Arms → ℕ
  arms_size no_arms = 0
  arms_size (arm a b r) = suc (size a + size b + arms_size r)

-- the lists and the chains are each other
abbrev pub exs : List Ex → Exs
exs [] = no_exs
exs (e ∷ es) = ex e (exs es)

abbrev pub items : Exs → List Ex
items no_exs = []
items (ex e es) = e ∷ items es

abbrev pub arms : List (Ex × Ex) → Arms
arms [] = no_arms
arms (x ∷ xs) = arm x.0 x.1 (arms xs)

-- what a query puts out: the whole row, or expressions with or without a name
pub data Outs : Type 0 where
  star : Outs
  named : List (Ex × Option (List ℕ)) → Outs

pub record Query : Type 0 where
  pub outs : Outs
  pub source : List ℕ
  pub alias : Option (List ℕ)
  pub filter : Option Ex
  pub keys : List Ex
  pub having : Option Ex
  -- each with whether it is descending
  pub order : List (Ex × Bool)
  pub take : Option ℕ
  pub skip : ℕ
