-- CAST.
use Rattle.std.specs.Prelude.{ℕ, pos, neg_ℤ, unsigned_abs, List, [], ◌∷◌, length, codes, Bool, true, false, not, ◌&&◌, ◌==◌, nat_le, if◌then◌else◌}
use Rattle.std.specs.Str.{bytes_eq, all_ascii_digits}
use Rattle.value_meaning.specs.Val.{Val, missing, truth, int, text}
use Rattle.tree_meaning.specs.declared.CastTo.{CastTo}
use Rattle.tree_meaning.specs.declared.CastTo.TheVariants as to
use Rattle.tree_meaning.specs.Decimals.{decimal_on}
use Rattle.eval_meaning.specs.Operands.{of_one}
use Rattle.eval_meaning.specs.Numbers.{fitted}

-- 1 to 19 digits
abbrev pub are_digits : List ℕ → Bool
are_digits bytes = nat_le 1 (length bytes) && nat_le (length bytes) 19 && all_ascii_digits bytes

-- the number that 1 to 19 digits spell, or its negative
unfoldable pub unsigned_number : List ℕ → Val
unsigned_number bytes = if are_digits bytes then fitted (pos (decimal_on 0 bytes)) else missing

unfoldable pub negative_number : List ℕ → Val
negative_number bytes = if are_digits bytes then fitted (neg_ℤ (pos (decimal_on 0 bytes))) else missing

-- the number that a text spells: an optional `-` and 1 to 19 digits with a value in range
unfoldable pub spelled_number : List ℕ → Val
spelled_number [] = missing
spelled_number (b ∷ bytes) = if b == 45 then negative_number bytes else unsigned_number (b ∷ bytes)

-- the truth value that a text spells
unfoldable pub spelled_truth : List ℕ → Val
spelled_truth bytes =
    if bytes_eq bytes (codes "true") then truth true else (if bytes_eq bytes (codes "false") then truth false else missing)

-- to INTEGER: a number itself; 1 and 0 of true and false; the number that a text spells
abbrev pub to_integer : Val → Val
to_integer (int n) = int n
to_integer (truth b) = int (pos (if b then 1 else 0))
to_integer (text s) = spelled_number s
to_integer v = missing

-- to BOOLEAN: a truth value itself; of a number whether it isn't 0; the truth value that a text spells
abbrev pub to_boolean : Val → Val
to_boolean (truth b) = truth b
to_boolean (int n) = truth (not (unsigned_abs n == 0))
to_boolean (text s) = spelled_truth s
to_boolean v = missing

abbrev pub cast_of : CastTo → Val → Val
cast_of to.Integer = of_one to_integer
cast_of to.Boolean = of_one to_boolean
