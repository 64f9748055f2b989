use Rattle.std.proofs.Common.{◌≡◌, ◌+◌, ◌*◌, ◌≤◌, take}
use Rattle.query_tree.specs.Queries.{query_view}
use Rattle.scan_files.specs.Places.{room_of}
use Rattle.scan_batches.proofs.Rounds.{Underway}
use Rattle.batch_lines.proofs.scan.scan_all.Given as goal

abbrev pub invariant-loop-number : goal.invariant-loop-number
invariant-loop-number g l = record {
  told : g.F.Files.told l.files ≡ g.F.Files.told l.fn.files;
  same_misses : g.F.Files.misses l.files ≡ g.F.Files.misses l.fn.files;
  same_write_faults : g.F.Files.write_faults l.files ≡ g.F.Files.write_faults l.fn.files;
  faults : g.F.Files.read_faults l.fn.files ≤ g.F.Files.read_faults l.files;
  later : g.F.Files.taken l.fn.files ≤ g.F.Files.taken l.files;
  put_faults : g.O.Out.faults l.fn.out ≤ g.O.Out.faults l.out;
  most : g.F.Files.taken l.files ≤ g.F.Files.taken l.fn.files + room_of (take (64 * l.number) l.places);
  underway : Underway (g.F.Files.told l.fn.files) (query_view l.query) l.names l.fields l.places l.number l.left.skip l.left.take l.put l.ran.chunks l.ran.kept (g.O.Out.holds l.fn.out) (g.O.Out.holds l.out);
}
