-- What files that never fail stand for.
use Rattle.std.specs.Prelude.{◌++◌, ℕ, List, [], take, drop, replicate, unwrap_or}
use Rattle.snel_device.specs.Contents.{Contents}
use Rattle.snel_device.specs.MemFiles.{stored}
use Rattle.snel_device.specs.declared.steady_files.SteadyFiles.{SteadyFiles}

-- the files that were lent
abbrev pub lent : SteadyFiles → Contents
lent files = stored files.files.now

-- how many bytes were appended
abbrev pub appended_count : SteadyFiles → ℕ
appended_count files = files.appended

-- n bytes of these from a place on, with zeros past the end
abbrev pub padded : List ℕ → ℕ → ℕ → List ℕ
padded bytes at n = take n (drop at bytes ++ replicate n 0)

-- the bytes of the lent file of this name, or none
abbrev pub lent_bytes : SteadyFiles → List ℕ → List ℕ
lent_bytes files name = unwrap_or (lent files name) []
