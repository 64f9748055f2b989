-- What a map from names to bytes holds.
use Rattle.std.specs.Prelude.{ℕ, Vec, String}
use Rattle.std.specs.Option.{option_map}
use Rattle.std.specs.BTreeMap.{BTreeMap, get_by_text}
use Rattle.std.specs.declared.alloc.Global.{Global}
use Rattle.snel_device.specs.Contents.{Contents}

-- the files that are held
abbrev pub held_in : BTreeMap (String Global) (Vec ℕ Global) → Contents
held_in files name = option_map (λ v. v.items) (get_by_text files name)
