-- Which conjuncts of a WHERE bind a field, and the bounds that they leave.
use Rattle.std.specs.Prelude.{ℕ, zero, ℤ, Bool, false, List, [], ◌∷◌, ◌++◌, map, fold, Option, Some, None, if◌then◌else◌}
use Rattle.std.specs.Str.{bytes_eq}
use Rattle.value_meaning.specs.Val.{time}
use Rattle.tree_meaning.specs.declared.BinOp.{BinOp}
use Rattle.tree_meaning.specs.declared.BinOp.TheVariants as op
use Rattle.tree_meaning.specs.Tree.{Ex, Step, name, lit, path, bin, between}
use Rattle.range_meaning.specs.declared.Bounds.{Bounds}
use Rattle.range_meaning.specs.declared.Bounds.TheVariants.{All, Between}
use Rattle.range_meaning.specs.Intervals.{interval, meet}

-- the operands of the outermost ANDs
abbrev pub conjuncts : Ex → List Ex
conjuncts (bin op.And a b) = conjuncts a ++ conjuncts b
conjuncts e = e ∷ []

-- the steps are the field's name alone
abbrev pub is_name : List ℕ → List Step → Bool
is_name field (name n ∷ []) = bytes_eq n field
is_name field steps = false

-- the expression is the path of the field's name alone, from the row
abbrev pub is_field : List ℕ → Ex → Bool
is_field field (path zero steps) = is_name field steps
is_field field e = false

-- the moment that the expression is
abbrev pub moment_of : Ex → Option ℤ
moment_of (lit (time t)) = Some t
moment_of e = None

-- the comparison with its operands exchanged
abbrev pub mirrored : BinOp → BinOp
mirrored op.Lt = op.Gt
mirrored op.Le = op.Ge
mirrored op.Gt = op.Lt
mirrored op.Ge = op.Le
mirrored other = other

-- the bounds that a comparison of the field with a moment leaves, and BETWEEN with two
abbrev pub against : BinOp → Option ℤ → Bounds
against op None = All
against op (Some t) = interval op t

abbrev pub within : Option ℤ → Option ℤ → Bounds
within (Some low) (Some high) = Between low high
within low high = All

-- the bounds that a conjunct leaves of the field
abbrev pub bounds_of : List ℕ → Ex → Bounds
bounds_of field (bin op a b) =
    if is_field field a then against op (moment_of b)
    else (if is_field field b then against (mirrored op) (moment_of a) else All)
bounds_of field (between e low high) = if is_field field e then within (moment_of low) (moment_of high) else All
bounds_of field e = All

-- the bounds that all conjuncts leave of the field
abbrev pub bounds_of_all : List ℕ → List Ex → Bounds
bounds_of_all field es = fold meet All (map (bounds_of field) es)

-- the bounds that a WHERE leaves of the field; a file without an indexed field has the empty name
abbrev pub bounds : List ℕ → Ex → Bounds
bounds [] filter = All
bounds (b ∷ bs) filter = bounds_of_all (b ∷ bs) (conjuncts filter)
