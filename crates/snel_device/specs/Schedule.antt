-- Which calls of an object in memory fail, by their numbers, counted from 1.
use Rattle.std.specs.Prelude.{ℕ, Bool, ◌==◌, List}
use Rattle.std.specs.List.{list_any}
use Rattle.snel_device.specs.Causes.{raised}
use Rattle.snel_device.specs.declared.schedule.Schedule.{Schedule}

-- how many calls were made
abbrev pub calls_made : Schedule → ℕ
calls_made schedule = schedule.calls

-- the numbers of the calls that fail
abbrev pub failing_calls : Schedule → List ℕ
failing_calls schedule = schedule.failing.items

-- the next call fails
abbrev pub fails_next : Schedule → Bool
fails_next schedule = list_any (λ n. n == raised (calls_made schedule) 1) (failing_calls schedule)

-- the same schedule after one more call
abbrev pub after_call : Schedule → Schedule
after_call schedule = record schedule { calls = raised schedule.calls 1 }
