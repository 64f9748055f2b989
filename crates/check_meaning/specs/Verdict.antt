-- Whether a query is accepted, and its first fault where it isn't.
use Rattle.std.specs.Prelude.{ℕ, Bool, false, ◌-◌, List, [], ◌∷◌, map, length, take, Option, None, Some, is_some, is_none, nat_lt, if◌then◌else◌, find}
use Rattle.std.specs.Option.{option_map, option_map_or, option_or}
use Rattle.std.specs.Str.{bytes_eq}
use Rattle.std.specs.List.{list_any, enumerate_from}
use Rattle.tree_meaning.specs.Tree.{Ex, Outs, star, named, Query}
use Rattle.check_meaning.specs.Limit.{Limit, most}
use Rattle.check_meaning.specs.Limit as limit
use Rattle.check_meaning.specs.Place.{Place, output}
use Rattle.check_meaning.specs.Fault.{Fault, too_many, nested, not_grouped, over_groups, same_name, no_such_order}
use Rattle.check_meaning.specs.Names.{names}
use Rattle.check_meaning.specs.Places.{output_exs, output_at, as_number, places}
use Rattle.check_meaning.specs.Aggregates.{aggregates, is_grouped}
use Rattle.check_meaning.specs.Tests.{has_long_path, is_nested, is_not_grouped, is_over_groups}

-- the first place, in the order of the text, that is so
unfoldable pub first_place : (Place × Ex → Bool) → Query → Option Place
first_place test q = option_map (λ x. x.0) (find test (places q))

-- the first in a list, counted from 1, that is so, where the test takes the number too
abbrev pub first_number : {A : Type 0} → (ℕ × A → Bool) → List A → Option ℕ
first_number test xs = option_map (λ n. n.0) (find test (enumerate_from 1 xs))

-- more than there may be
abbrev pub is_past : Limit → ℕ → Bool
is_past l n = nat_lt (most l) n

-- the first limit that is passed; outputs and keys count as they are written, steps for each path by itself, aggregates
-- without repeats
unfoldable pub passed_limit : Query → Option Limit
passed_limit q =
    if is_past limit.outputs (length (output_exs q.outs)) then Some limit.outputs
    else if is_past limit.group_keys (length q.keys) then Some limit.group_keys
    else if is_past limit.order_keys (length q.order) then Some limit.order_keys
    else if is_some (first_place has_long_path q) then Some limit.steps
    else if is_past limit.aggregates (length (aggregates q)) then Some limit.aggregates
    else None

-- the whole row isn't one of a group
unfoldable pub first_not_grouped : Query → Outs → Option Place
first_not_grouped q star = Some (output 1)
first_not_grouped q (named items) = first_place (is_not_grouped q.keys) q

-- where the query is grouped
abbrev pub in_groups : {A : Type 0} → Query → Option A → Option A
in_groups q found = if is_grouped q then found else None

-- the first output whose name an earlier one has
unfoldable pub first_same_name : Outs → Option ℕ
first_same_name outs = first_number (λ n. list_any (bytes_eq n.1) (take (n.0 - 1) (names outs))) (names outs)

-- the number of no output; `*` has no outputs
abbrev pub is_no_number : Outs → Ex → Bool
is_no_number outs e = option_map_or (λ k. is_none (output_at outs k)) (as_number e) false

-- the first order key, as it is written, that is the number of no output
unfoldable pub first_no_output : Query → Option ℕ
first_no_output q = first_number (λ n. is_no_number q.outs n.1) (map (λ k. k.0) q.order)

abbrev pub first_of : {A : Type 0} → List (Option A) → Option A
first_of [] = None
first_of (x ∷ xs) = option_or x (first_of xs)

-- the first fault; a query without one is accepted
abbrev pub fault_of : Query → Option Fault
fault_of q = first_of (
    option_map too_many (passed_limit q)
    ∷ option_map nested (first_place is_nested q)
    ∷ option_map not_grouped (in_groups q (first_not_grouped q q.outs))
    ∷ option_map over_groups (in_groups q (first_place (is_over_groups q.keys) q))
    ∷ option_map same_name (first_same_name q.outs)
    ∷ option_map no_such_order (first_no_output q)
    ∷ [])
