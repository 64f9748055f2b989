-- AND, OR, NOT and COALESCE, as the sentences say that tell them.
use Rattle.std.specs.Prelude.{◌≡◌, Bool, true, false, ◌&&◌, ◌||◌, if◌then◌else◌}
use Rattle.value_meaning.specs.Val.{Val, missing, null, truth, int, time, text, list, struct}
use Rattle.eval_meaning.specs.Logic.{and_of, or_of, not_of, first_of, is_true, is_false, is_null}

-- a truth value or NULL
abbrev pub is_logical : Val → Bool
is_logical v = is_true v || (is_false v || is_null v)

abbrev pub is_present : Val → Bool
is_present missing = false
is_present null = false
is_present (truth b) = true
is_present (int n) = true
is_present (time t) = true
is_present (text s) = true
is_present (list vs) = true
is_present (struct fs) = true

pub record TruthTables : Type 0 where
  pub conjunction : (a b : Val) → and_of a b ≡ (
      if is_false a || is_false b then truth false
      else (if is_true a && is_true b then truth true
      else (if is_logical a && is_logical b then null else missing)))
  pub disjunction : (a b : Val) → or_of a b ≡ (
      if is_true a || is_true b then truth true
      else (if is_false a && is_false b then truth false
      else (if is_logical a && is_logical b then null else missing)))
  pub negation : (a : Val) → not_of a ≡ (
      if is_true a then truth false
      else (if is_false a then truth true
      else (if is_null a then null else missing)))
  pub first_present : (a b : Val) → first_of a b ≡ (
      if is_present a then a
      else (if is_present b then b
      else (if is_null a || is_null b then null else missing)))
