-- Values that a line can show: MISSING has no text, so that none stands within a list or a struct.
use Rattle.value_meaning.specs.Val.{Val, Vals, Fields, missing, null, truth, int, time, text, list, struct, no_vals, val, no_fields, field}

-- no MISSING stands in the value, at any depth
abbrev mutual
  pub HasNoMissing : Val → Type 0
  HasNoMissing missing = ⊥
  HasNoMissing null = Unit {0}
  HasNoMissing (truth b) = Unit {0}
  HasNoMissing (int n) = Unit {0}
  HasNoMissing (time t) = Unit {0}
  HasNoMissing (text s) = Unit {0}
  HasNoMissing (list vs) = HaveNoMissing vs
  HasNoMissing (struct fs) = PairsHaveNoMissing fs

  pub HaveNoMissing : Vals → Type 0
  HaveNoMissing no_vals = Unit {0}
  HaveNoMissing (val v vs) = HasNoMissing v × HaveNoMissing vs

  pub PairsHaveNoMissing : Fields → Type 0
  PairsHaveNoMissing no_fields = Unit {0}
  PairsHaveNoMissing (field n v fs) = HasNoMissing v × PairsHaveNoMissing fs

-- MISSING stands at most at the top
abbrev pub IsMissingAtMostAtTop : Val → Type 0
IsMissingAtMostAtTop missing = Unit {0}
IsMissingAtMostAtTop v = HasNoMissing v
