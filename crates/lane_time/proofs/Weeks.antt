-- The start of a week, by one division.
use Rattle.std.proofs.Common.{◌≡◌, ℤ, pos, ◌*ℤ◌, arith}
use Rattle.std.specs.Prelude.{◌+ℤ◌, ◌-ℤ◌}
use Rattle.std.specs.Int.{int_div_euclid}
use Rattle.jiff_core.specs.Calendar.{weekday_number}
use Rattle.jiff_core.proofs.SignedLemmas.{signed_arith}
use Rattle.tree_meaning.specs.declared.Part.TheVariants as part
use Rattle.eval_meaning.specs.Times.{trunc}

-- weeks are counted from the Monday three days before 1970-01-01
pub week_start_is : (t : ℤ) → trunc part.Week t ≡ (int_div_euclid (t +ℤ pos 259_200_000_000) (pos 604_800_000_000) *ℤ pos 604_800_000_000) -ℤ pos 259_200_000_000
unfolding trunc weekday_number
week_start_is t = omega (arith, signed_arith)
