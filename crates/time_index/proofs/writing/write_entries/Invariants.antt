use Rattle.std.proofs.Common.{◌≡◌, ◌++◌, drop}
use Rattle.std.specs.Prelude.{flat_map}
use Rattle.file_meaning.specs.Files.{entry_bytes}
use Rattle.time_index.proofs.writing.write_entries.Given as goal

abbrev pub invariant-loop-entry : goal.invariant-loop-entry
invariant-loop-entry l = l.into ++ flat_map entry_bytes (drop l.entry-index l.entries) ≡ l.fn.into ++ flat_map entry_bytes l.entries
