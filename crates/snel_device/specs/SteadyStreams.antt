-- What an input and a sink that never fail stand for.
use Rattle.std.specs.Prelude.{ℕ, List}
use Rattle.snel_device.specs.declared.steady_streams.SteadyInput.{SteadyInput}
use Rattle.snel_device.specs.declared.steady_streams.SteadyOut.{SteadyOut}

-- the bytes that are still to come
abbrev pub unread : SteadyInput → List ℕ
unread input = input.bytes.now

-- how many bytes were put
abbrev pub put_count : SteadyOut → ℕ
put_count out = out.count
