-- A value that is stored has a text: `LineMaker::put_value` takes it.
use Rattle.value_meaning.specs.Val.{Val, Vals, Fields, missing, null, truth, int, time, text, list, struct, no_vals, val, no_fields, field}
use Rattle.block_meaning.specs.Stored.{HasStoredParts, HaveStoredParts, PairsHaveStoredParts, IsStored, HasTimesInRange}
use Rattle.block_meaning.proofs.StoredCells.{stored_times}
use Rattle.json_out.specs.NoMissing.{HasNoMissing, HaveNoMissing, PairsHaveNoMissing, IsMissingAtMostAtTop}

mutual
  none_missing : (v : Val) → HasStoredParts v → HasNoMissing v
  none_missing missing h = h
  none_missing null h = tt
  none_missing (truth b) h = tt
  none_missing (int n) h = tt
  none_missing (time t) h = tt
  none_missing (text s) h = tt
  none_missing (list vs) h = none_missing_in vs h
  none_missing (struct fs) h = no_pair_missing fs h

  none_missing_in : (vs : Vals) → HaveStoredParts vs → HaveNoMissing vs
  none_missing_in no_vals h = tt
  none_missing_in (val v vs) h = (none_missing v h.0, none_missing_in vs h.1)

  no_pair_missing : (fs : Fields) → PairsHaveStoredParts fs → PairsHaveNoMissing fs
  no_pair_missing no_fields h = tt
  no_pair_missing (field n v fs) h = (none_missing v h.0, no_pair_missing fs h.1)

pub stored_has_text : (v : Val) → IsStored v → HasTimesInRange v × HasNoMissing v
stored_has_text v h = (stored_times v h, none_missing v h.parts)

at_top : (v : Val) → HasNoMissing v → IsMissingAtMostAtTop v
at_top missing h = tt
at_top null h = h
at_top (truth b) h = h
at_top (int n) h = h
at_top (time t) h = h
at_top (text s) h = h
at_top (list vs) h = h
at_top (struct fs) h = h

pub stored_is_taken : (v : Val) → IsStored v → HasTimesInRange v × IsMissingAtMostAtTop v
stored_is_taken v h = let t = stored_has_text v h in (t.0, at_top v t.1)
