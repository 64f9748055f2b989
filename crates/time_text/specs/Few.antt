-- Digits that are few enough for a fraction of a second.
use Rattle.std.specs.Prelude.{ℕ, List, Option, Some, None, nat_le, if◌then◌else◌}

abbrev pub if_few : ℕ × ℕ × List ℕ → Option (ℕ × ℕ × List ℕ)
if_few d = if nat_le d.0 9 then Some d else None
