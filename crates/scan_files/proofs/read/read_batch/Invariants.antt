use Rattle.std.proofs.Common.{◌≡◌, ◌+◌, ◌≤◌, ℕ, List, length, take}
use Rattle.std.specs.Option.{ForSome}
use Rattle.scan_files.specs.Places.{blocks_at, blocks_held, room_of}
use Rattle.scan_files.proofs.read.read_batch.Given as goal

abbrev pub invariant-loop-place : goal.invariant-loop-place
invariant-loop-place g l = record {
  told : g.F.Files.told l.files ≡ g.F.Files.told l.fn.files;
  same_misses : g.F.Files.misses l.files ≡ g.F.Files.misses l.fn.files;
  same_write_faults : g.F.Files.write_faults l.files ≡ g.F.Files.write_faults l.fn.files;
  faults : g.F.Files.read_faults l.fn.files ≤ g.F.Files.read_faults l.files;
  later : g.F.Files.taken l.fn.files ≤ g.F.Files.taken l.files;
  most : g.F.Files.taken l.files ≤ g.F.Files.taken l.fn.files + room_of (take l.place-index l.places);
  blocks : ForSome (g.F.Files.told l.fn.files) (λ told. (fields : List (List ℕ)) → blocks_held fields l.blocks.items ≡ blocks_at told l.names fields (take l.place-index l.places));
  count : length l.blocks.items ≡ l.place-index;
}
