-- What an object tells that tells nothing.
use Rattle.std.specs.Prelude.{ℕ, List, Option, None}
use Rattle.snel_device.specs.Contents.{Contents}

abbrev pub untold_files : Option Contents
untold_files = None

abbrev pub untold_bytes : Option (List ℕ)
untold_bytes = None
