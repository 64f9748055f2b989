-- The logic of three values and MISSING: AND, OR, NOT, IS, COALESCE and the choice of CASE, as functions of values.
use Rattle.std.specs.Prelude.{Bool, true, false, List, [], ◌∷◌, not, if◌then◌else◌}
use Rattle.value_meaning.specs.Val.{Val, missing, null, truth, int, time, text, list, struct}
use Rattle.tree_meaning.specs.declared.IsWhat.{IsWhat}
use Rattle.tree_meaning.specs.declared.IsWhat.TheVariants as what

-- What AND, OR and NOT read of a value: true, false, NULL, and any other, which is MISSING or of another kind.
pub data Logic : Type 0 where
  holds : Logic
  fails : Logic
  unknown : Logic
  other : Logic

abbrev pub logic_of : Val → Logic
logic_of missing = other
logic_of null = unknown
logic_of (truth b) = if b then holds else fails
logic_of (int n) = other
logic_of (time t) = other
logic_of (text s) = other
logic_of (list vs) = other
logic_of (struct fs) = other

-- the value that AND, OR and NOT give
abbrev pub of_logic : Logic → Val
of_logic holds = truth true
of_logic fails = truth false
of_logic unknown = null
of_logic other = missing

-- false if one is false; true if both are true; else MISSING if one is neither a truth value nor NULL; else NULL
abbrev pub and_logic : Logic → Logic → Logic
and_logic fails q = fails
and_logic holds q = q
and_logic unknown fails = fails
and_logic unknown holds = unknown
and_logic unknown unknown = unknown
and_logic unknown other = other
and_logic other fails = fails
and_logic other holds = other
and_logic other unknown = other
and_logic other other = other

-- true if one is true; false if both are false; else MISSING if one is neither a truth value nor NULL; else NULL
abbrev pub or_logic : Logic → Logic → Logic
or_logic holds q = holds
or_logic fails q = q
or_logic unknown holds = holds
or_logic unknown fails = unknown
or_logic unknown unknown = unknown
or_logic unknown other = other
or_logic other holds = holds
or_logic other fails = other
or_logic other unknown = other
or_logic other other = other

-- the other truth value; NULL of NULL; else MISSING
abbrev pub not_logic : Logic → Logic
not_logic holds = fails
not_logic fails = holds
not_logic unknown = unknown
not_logic other = other

-- AND
abbrev pub and_of : Val → Val → Val
and_of a b = of_logic (and_logic (logic_of a) (logic_of b))

-- OR
abbrev pub or_of : Val → Val → Val
or_of a b = of_logic (or_logic (logic_of a) (logic_of b))

-- NOT
abbrev pub not_of : Val → Val
not_of a = of_logic (not_logic (logic_of a))

-- the value is true, as WHERE and HAVING keep it and an arm of CASE asks
abbrev pub is_true : Val → Bool
is_true missing = false
is_true null = false
is_true (truth b) = b
is_true (int n) = false
is_true (time t) = false
is_true (text s) = false
is_true (list vs) = false
is_true (struct fs) = false

abbrev pub is_false : Val → Bool
is_false missing = false
is_false null = false
is_false (truth b) = not b
is_false (int n) = false
is_false (time t) = false
is_false (text s) = false
is_false (list vs) = false
is_false (struct fs) = false

abbrev pub is_null : Val → Bool
is_null missing = false
is_null null = true
is_null (truth b) = false
is_null (int n) = false
is_null (time t) = false
is_null (text s) = false
is_null (list vs) = false
is_null (struct fs) = false

abbrev pub is_missing : Val → Bool
is_missing missing = true
is_missing null = false
is_missing (truth b) = false
is_missing (int n) = false
is_missing (time t) = false
is_missing (text s) = false
is_missing (list vs) = false
is_missing (struct fs) = false

-- IS: true exactly of NULL, of MISSING, of true, of false; else false
abbrev pub is_of : IsWhat → Val → Val
is_of what.Null v = truth (is_null v)
is_of what.Missing v = truth (is_missing v)
is_of what.True v = truth (is_true v)
is_of what.False v = truth (is_false v)

-- COALESCE of two: the first if it is neither NULL nor MISSING, else the second, but NULL where that is MISSING and the first is NULL
abbrev pub first_of : Val → Val → Val
first_of missing b = b
first_of null b = if is_missing b then null else b
first_of (truth a) b = truth a
first_of (int a) b = int a
first_of (time a) b = time a
first_of (text a) b = text a
first_of (list a) b = list a
first_of (struct a) b = struct a

-- COALESCE: the first that is neither NULL nor MISSING; if there is none, NULL if one is NULL, else MISSING
abbrev pub coalesce : List Val → Val
coalesce [] = missing
coalesce (v ∷ vs) = first_of v (coalesce vs)

-- one arm of CASE: its value where its condition is true, else what the later arms give
abbrev pub choice_of : Val → Val → Val → Val
choice_of test value later = if is_true test then value else later
