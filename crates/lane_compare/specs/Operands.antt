-- Where an operator of two operands is NULL.
use Rattle.std.specs.Prelude.{Bool, not, ◌&&◌, ◌||◌}
use Rattle.value_meaning.specs.Val.{Val}
use Rattle.eval_meaning.specs.Logic.{is_null, is_missing}

-- one is NULL, and neither is MISSING
abbrev pub is_null_of_two : Val → Val → Bool
is_null_of_two v w = not (is_missing v || is_missing w) && (is_null v || is_null w)
