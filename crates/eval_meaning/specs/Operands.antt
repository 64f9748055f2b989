-- What an operator reads of its operands: unless a rule says otherwise, an operator or function is MISSING where an
-- operand is MISSING, else NULL where an operand is NULL, else by the rule of its kinds, else MISSING.
use Rattle.std.specs.Prelude.{ℕ, ℤ, List, ◌||◌, if◌then◌else◌}
use Rattle.value_meaning.specs.Val.{Val, missing, null, int, time, text}
use Rattle.time_meaning.specs.Moments.{is_time}
use Rattle.eval_meaning.specs.Logic.{is_null, is_missing}

-- an operator of one operand, with the rule of its kinds
abbrev pub of_one : (Val → Val) → Val → Val
of_one rule a = if is_missing a then missing else (if is_null a then null else rule a)

-- an operator of two operands
abbrev pub of_two : (Val → Val → Val) → Val → Val → Val
of_two rule a b = if is_missing a || is_missing b then missing else (if is_null a || is_null b then null else rule a b)

-- a rule for numbers alone, for two of them, and for texts alone
abbrev pub on_number : (ℤ → Val) → Val → Val
on_number rule (int n) = rule n
on_number rule v = missing

abbrev pub on_numbers : (ℤ → ℤ → Val) → Val → Val → Val
on_numbers rule (int m) (int n) = rule m n
on_numbers rule v w = missing

abbrev pub on_text : (List ℕ → Val) → Val → Val
on_text rule (text s) = rule s
on_text rule v = missing

-- a rule for times alone
abbrev pub on_time : (ℤ → Val) → Val → Val
on_time rule (time t) = rule t
on_time rule v = missing

-- the same, of times in the calendar's range, in which those of rows and of literals lie
abbrev pub on_date : (ℤ → Val) → Val → Val
on_date rule = on_time (λ t. if is_time t then rule t else missing)
