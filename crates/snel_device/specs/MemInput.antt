-- What an input in memory stands for.
use Rattle.std.specs.Prelude.{ℕ, List, drop}
use Rattle.snel_device.specs.declared.schedule.Schedule.{Schedule}
use Rattle.snel_device.specs.declared.mem_input.MemInput.{MemInput}

-- the bytes that are still to come
abbrev pub unread : MemInput → List ℕ
unread input = drop input.at input.bytes.items

-- how many bytes a call gives at most
abbrev pub most_per_call : MemInput → ℕ
most_per_call input = input.most

-- which calls fail
abbrev pub schedule : MemInput → Schedule
schedule input = input.schedule
