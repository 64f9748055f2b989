-- Bounds of times: closed intervals of numbers from -2^63 to 2^63 - 1.
use Rattle.std.specs.Prelude.{ℤ, pos, neg_ℤ, ◌-ℤ◌, ◌+ℤ◌, ◌≤ℤ◌, int_le, if◌then◌else◌}
use Rattle.std.specs.Int.{int_min, int_max}
use Rattle.tree_meaning.specs.declared.BinOp.{BinOp}
use Rattle.tree_meaning.specs.declared.BinOp.TheVariants as op
use Rattle.range_meaning.specs.declared.Bounds.{Bounds}
use Rattle.range_meaning.specs.declared.Bounds.TheVariants.{All, Between}

abbrev pub least_number : ℤ
least_number = neg_ℤ (pos 9_223_372_036_854_775_808)

abbrev pub greatest_number : ℤ
greatest_number = pos 9_223_372_036_854_775_807

-- no number lies in it
abbrev pub nothing : Bounds
nothing = Between greatest_number least_number

-- the numbers below a number, and those above it
abbrev pub below : ℤ → Bounds
below t = if int_le t least_number then nothing else Between least_number (t -ℤ pos 1)

abbrev pub above : ℤ → Bounds
above t = if int_le greatest_number t then nothing else Between (t +ℤ pos 1) greatest_number

-- the numbers that stand so to a number; the other operators bind nothing
abbrev pub interval : BinOp → ℤ → Bounds
interval op.Eq t = Between t t
interval op.Lt t = below t
interval op.Le t = Between least_number t
interval op.Gt t = above t
interval op.Ge t = Between t greatest_number
interval op.Ne t = All
interval op.Add t = All
interval op.Sub t = All
interval op.Mul t = All
interval op.Div t = All
interval op.Rem t = All
interval op.And t = All
interval op.Or t = All

-- what lies in both
abbrev pub meet : Bounds → Bounds → Bounds
meet All b = b
meet (Between low high) All = Between low high
meet (Between l h) (Between m k) = Between (int_max l m) (int_min h k)

-- the number lies in the bounds
abbrev pub LiesIn : ℤ → Bounds → Type 0
LiesIn t All = Unit {0}
LiesIn t (Between low high) = (low ≤ℤ t) × (t ≤ℤ high)
