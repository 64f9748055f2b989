-- Values as they may stand in a block: what cells denote is stored, and MISSING is not.
use Rattle.std.specs.Prelude.{◌≤◌, FitsSigned, IsTrue}
use Rattle.std.specs.Int.{w64}
use Rattle.time_meaning.specs.Moments.{is_time}
use Rattle.value_meaning.specs.Val.{Val, Vals, Fields, missing, null, truth, int, time, text, list, struct, no_vals, val, no_fields, field, depth}
use Rattle.block_meaning.specs.declared.TheConstants.{MOST_DEPTH}

-- at every depth no MISSING, numbers of 64 bits with a sign, and times from the year 1 to the year 9999
abbrev mutual
  pub HasStoredParts : Val → Type 0
  HasStoredParts missing = ⊥
  HasStoredParts null = Unit {0}
  HasStoredParts (truth b) = Unit {0}
  HasStoredParts (int n) = FitsSigned w64 n
  HasStoredParts (time t) = IsTrue (is_time t)
  HasStoredParts (text s) = Unit {0}
  HasStoredParts (list vs) = HaveStoredParts vs
  HasStoredParts (struct fs) = PairsHaveStoredParts fs

  pub HaveStoredParts : Vals → Type 0
  HaveStoredParts no_vals = Unit {0}
  HaveStoredParts (val v vs) = HasStoredParts v × HaveStoredParts vs

  pub PairsHaveStoredParts : Fields → Type 0
  PairsHaveStoredParts no_fields = Unit {0}
  PairsHaveStoredParts (field n v fs) = HasStoredParts v × PairsHaveStoredParts fs

-- The value may stand in a block: no MISSING is in it, its numbers and times stand in their ranges, and it isn't too deep.
pub record IsStored (v : Val) : Type 0 where
  pub parts : HasStoredParts v
  pub shallow : depth v ≤ MOST_DEPTH

-- each time lies from the year 1 to the year 9999
abbrev mutual
  pub HasTimesInRange : Val → Type 0
  HasTimesInRange missing = Unit {0}
  HasTimesInRange null = Unit {0}
  HasTimesInRange (truth b) = Unit {0}
  HasTimesInRange (int n) = Unit {0}
  HasTimesInRange (time t) = IsTrue (is_time t)
  HasTimesInRange (text s) = Unit {0}
  HasTimesInRange (list vs) = HaveTimesInRange vs
  HasTimesInRange (struct fs) = PairsHaveTimesInRange fs

  pub HaveTimesInRange : Vals → Type 0
  HaveTimesInRange no_vals = Unit {0}
  HaveTimesInRange (val v vs) = HasTimesInRange v × HaveTimesInRange vs

  pub PairsHaveTimesInRange : Fields → Type 0
  PairsHaveTimesInRange no_fields = Unit {0}
  PairsHaveTimesInRange (field n v fs) = HasTimesInRange v × PairsHaveTimesInRange fs
