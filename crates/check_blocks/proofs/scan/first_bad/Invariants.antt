use Rattle.std.proofs.Common.{◌≡◌, ◌≤◌, ℕ, List, take, Some, None}
use Rattle.std.specs.Option.{ForSome}
use Rattle.scan_meaning.specs.Batches as batches
use Rattle.scan_meaning.specs.Opened.{blocks_of}
use Rattle.scan_files.specs.Places.{file_at}
use Rattle.check_blocks.proofs.scan.first_bad.Given as goal

abbrev pub invariant-loop-number : goal.invariant-loop-number
invariant-loop-number g l = record {
  told : g.F.Files.told l.files ≡ g.F.Files.told l.fn.files;
  same_misses : g.F.Files.misses l.files ≡ g.F.Files.misses l.fn.files;
  same_write_faults : g.F.Files.write_faults l.files ≡ g.F.Files.write_faults l.fn.files;
  faults : g.F.Files.read_faults l.fn.files ≤ g.F.Files.read_faults l.files;
  good : ForSome (g.F.Files.told l.fn.files) (λ told. (bytes : List ℕ) → file_at told l.names l.file ≡ Some bytes
      → batches.first_bad (blocks_of l.file record { bytes = bytes; field = l.field; entries = take l.number l.entries }) ≡ None);
}
