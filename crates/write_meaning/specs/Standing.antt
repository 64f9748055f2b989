-- Which values may stand in a block.
use Rattle.std.specs.Prelude.{◌≡◌, ℕ, suc, ◌^◌, ◌<◌, true, ℤ, pos, negsuc, List, [], ◌∷◌, Some, IsTrue}
use Rattle.std.specs.Str.{IsUtf8}
use Rattle.time_meaning.specs.Moments.{is_time}
use Rattle.value_meaning.specs.Val.{Val, Vals, Fields, missing, null, truth, int, time, text, list, struct, no_vals, val, no_fields, field}
use Rattle.value_meaning.specs.Sound.{IsBelowFirst}
use Rattle.block_meaning.specs.Tables.{Table}
use Rattle.block_meaning.specs.Blocks.{is_struct}
use Rattle.write_meaning.specs.Encoding.{number_of}

-- The value may stand within so many lists and structs: it has no MISSING, is in range and not too deep.
abbrev mutual
  pub IsWritable : ℕ → Val → Type 0
  IsWritable depth missing = ⊥
  IsWritable depth null = Unit {0}
  IsWritable depth (truth b) = Unit {0}
  IsWritable depth (int (pos n)) = n < 2 ^ 63
  IsWritable depth (int (negsuc n)) = n < 2 ^ 63
  IsWritable depth (time t) = IsTrue (is_time t)
  IsWritable depth (text s) = Unit {0}
  IsWritable depth (list vs) = (depth < 128) × AreWritable (suc depth) vs
  IsWritable depth (struct fs) = (depth < 128) × PairsAreWritable (suc depth) fs

  pub AreWritable : ℕ → Vals → Type 0
  AreWritable depth no_vals = Unit {0}
  AreWritable depth (val v vs) = IsWritable depth v × AreWritable depth vs

  pub PairsAreWritable : ℕ → Fields → Type 0
  PairsAreWritable depth no_fields = Unit {0}
  PairsAreWritable depth (field name v fs) = IsWritable depth v × PairsAreWritable depth fs

-- the value may be a row
unfoldable pub IsWritableRow : Val → Type 0
IsWritableRow v = (is_struct v ≡ true) × IsWritable 0 v

abbrev pub AreWritableRows : List Val → Type 0
AreWritableRows [] = Unit {0}
AreWritableRows (v ∷ vs) = IsWritableRow v × AreWritableRows vs

-- the table has the text
abbrev pub IsNumbered : Table → List ℕ → Type 0
IsNumbered table s = (n : ℕ) × (number_of table s ≡ Some n)

-- the table has each name of the value's structs, at every depth
abbrev mutual
  pub HasNames : Table → Val → Type 0
  HasNames table missing = Unit {0}
  HasNames table null = Unit {0}
  HasNames table (truth b) = Unit {0}
  HasNames table (int n) = Unit {0}
  HasNames table (time t) = Unit {0}
  HasNames table (text s) = Unit {0}
  HasNames table (list vs) = HaveNames table vs
  HasNames table (struct fs) = PairsHaveNames table fs

  pub HaveNames : Table → Vals → Type 0
  HaveNames table no_vals = Unit {0}
  HaveNames table (val v vs) = HasNames table v × HaveNames table vs

  pub PairsHaveNames : Table → Fields → Type 0
  PairsHaveNames table no_fields = Unit {0}
  PairsHaveNames table (field name v fs) = IsNumbered table name × HasNames table v × PairsHaveNames table fs
