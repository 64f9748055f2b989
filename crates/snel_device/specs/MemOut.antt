-- What a sink in memory stands for.
use Rattle.std.specs.Prelude.{◌≡◌, ◌⊎◌, ◌++◌, ℕ, ◌==◌, List, take, Option}
use Rattle.std.specs.List.{find}
use Rattle.std.specs.Option.{option_map}
use Rattle.snel_device.specs.Causes.{raised}
use Rattle.snel_device.specs.declared.mem_out.MemOut.{MemOut}

-- the bytes that were put
abbrev pub put_bytes : MemOut → List ℕ
put_bytes out = out.held.items

-- how many calls were made
abbrev pub calls_made : MemOut → ℕ
calls_made out = out.calls

-- the number of each call that fails, counted from 1, and how many bytes it keeps
abbrev pub failing_calls : MemOut → List (ℕ × ℕ)
failing_calls out = out.failing.items

-- how many bytes the next call keeps, if it fails
abbrev pub kept_next : MemOut → Option ℕ
kept_next out = option_map (λ pair. pair.1) (find (λ pair. pair.0 == raised (calls_made out) 1) (failing_calls out))

-- it holds so many bytes more of the piece, or where it found no memory none
abbrev pub Keeps : MemOut → MemOut → ℕ → List ℕ → Type 0
Keeps old new n piece = (put_bytes new ≡ put_bytes old ++ take n piece) ⊎ (put_bytes new ≡ put_bytes old)
