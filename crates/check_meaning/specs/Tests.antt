-- What is wrong at one place of a query.
use Rattle.std.specs.Prelude.{Bool, true, false, ◌||◌, ◌&&◌, List, length, nat_lt, not, if◌then◌else◌}
use Rattle.std.specs.List.{list_any}
use Rattle.tree_meaning.specs.declared.Func.TheVariants as func
use Rattle.tree_meaning.specs.declared.Func.{Func}
use Rattle.tree_meaning.specs.Tree.{Ex, path, matching, cast, call, trunc, extract, shift, agg}
use Rattle.check_meaning.specs.Limit.{most, steps}
use Rattle.check_meaning.specs.Parts.{parts, parts_outside}
use Rattle.check_meaning.specs.Place.{Place, is_of_rows}
use Rattle.check_meaning.specs.Aggregates.{is_aggregate, has_aggregate, is_among}

abbrev pub is_path : Ex → Bool
is_path (path r ss) = true
is_path e = false

-- a path of more steps than there may be
abbrev pub is_long : Ex → Bool
is_long (path r ss) = nat_lt (most steps) (length ss)
is_long e = false

-- an aggregate of an expression that has an aggregate
abbrev pub is_doubled : Ex → Bool
is_doubled (agg n e) = has_aggregate e
is_doubled e = false

-- a function of times, or of a text's length
abbrev pub is_row_function : Func → Bool
is_row_function func.Coalesce = false
is_row_function func.NullIf = false
is_row_function func.CharLength = true
is_row_function func.UnixEpoch = true
is_row_function func.UnixMicro = true

-- a cast, a matching, or a function of times or of a text's length: these aren't computed over groups
abbrev pub is_row_form : Ex → Bool
is_row_form (cast c e) = true
is_row_form (matching h e s) = true
is_row_form (call f es) = is_row_function f
is_row_form (trunc p e) = true
is_row_form (extract p e) = true
is_row_form (shift p a e) = true
is_row_form e = false

-- Over groups a part that equals a group key is that key, and an aggregate is a value of the group. What stands outside
-- these is computed from them.
abbrev pub is_given : List Ex → Ex → Bool
is_given keys e = is_aggregate e || is_among keys e

abbrev pub has_long_path : Place × Ex → Bool
has_long_path x = list_any is_long (parts x.1)

-- an aggregate in WHERE, in a group key or in an aggregate
abbrev pub is_nested : Place × Ex → Bool
is_nested x = if is_of_rows x.0 then has_aggregate x.1 else list_any is_doubled (parts x.1)

-- an output, HAVING or an order key with a path outside the keys and the aggregates
abbrev pub is_not_grouped : List Ex → Place × Ex → Bool
is_not_grouped keys x = not (is_of_rows x.0) && list_any is_path (parts_outside (is_given keys) x.1)

-- one of these with a form outside the keys and the aggregates that isn't computed over groups
abbrev pub is_over_groups : List Ex → Place × Ex → Bool
is_over_groups keys x = not (is_of_rows x.0) && list_any is_row_form (parts_outside (is_given keys) x.1)
