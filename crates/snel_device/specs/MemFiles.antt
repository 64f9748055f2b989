-- What files in memory stand for.
use Rattle.std.specs.Prelude.{◌≡◌}
use Rattle.snel_device.specs.Contents.{Contents}
use Rattle.snel_device.specs.Stored.{held_in}
use Rattle.snel_device.specs.declared.schedule.Schedule.{Schedule}
use Rattle.snel_device.specs.declared.mem_files.MemFiles.{MemFiles}

-- the files that are there
abbrev pub stored : MemFiles → Contents
stored files = held_in files.files

-- which calls fail
abbrev pub schedule : MemFiles → Schedule
schedule files = files.schedule

-- at most the files changed: the schedule and each count stand as they stood
abbrev pub ChangesFilesOnly : MemFiles → MemFiles → Type 0
ChangesFilesOnly old new = new ≡ record old { files = new.files }
