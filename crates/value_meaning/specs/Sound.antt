-- Values as they may stand in memory: texts and names are UTF-8, and the names of a struct strictly increase, at every depth.
use Rattle.std.specs.Prelude.{ℕ, List}
use Rattle.std.specs.Str.{IsUtf8}
use Rattle.value_meaning.specs.Val.{Val, Vals, Fields, missing, null, truth, int, time, text, list, struct, no_vals, val, no_fields, field}
use Rattle.value_meaning.specs.Pairs.{IsBelow}

abbrev pub IsBelowFirst : List ℕ → Fields → Type 0
IsBelowFirst n no_fields = Unit {0}
IsBelowFirst n (field m v fs) = IsBelow n m

abbrev mutual
  pub IsSound : Val → Type 0
  IsSound missing = Unit {0}
  IsSound null = Unit {0}
  IsSound (truth b) = Unit {0}
  IsSound (int n) = Unit {0}
  IsSound (time t) = Unit {0}
  IsSound (text s) = IsUtf8 s
  IsSound (list vs) = AreSound vs
  IsSound (struct fs) = HasSoundFields fs

  pub AreSound : Vals → Type 0
  AreSound no_vals = Unit {0}
  AreSound (val v vs) = IsSound v × AreSound vs

  pub HasSoundFields : Fields → Type 0
  HasSoundFields no_fields = Unit {0}
  HasSoundFields (field n v fs) = IsUtf8 n × IsBelowFirst n fs × IsSound v × HasSoundFields fs
