use Rattle.std.proofs.Common.{◌≡◌, ◌≤◌}
use Rattle.std.specs.Option.{ForSome}
use Rattle.query_run.proofs.CheckedFiles.{Progress}
use Rattle.query_run.proofs.checking.check_files.Given as goal

abbrev pub invariant-loop-number : goal.invariant-loop-number
invariant-loop-number g l = record {
  told : g.F.Files.told l.files ≡ g.F.Files.told l.fn.files;
  same_write_faults : g.F.Files.write_faults l.files ≡ g.F.Files.write_faults l.fn.files;
  misses : g.F.Files.misses l.fn.files ≤ g.F.Files.misses l.files;
  read_faults : g.F.Files.read_faults l.fn.files ≤ g.F.Files.read_faults l.files;
  faults : g.O.Out.faults l.fn.out ≤ g.O.Out.faults l.out;
  progress : ForSome (g.F.Files.told l.fn.files) (λ told. Progress told l.names l.number (g.O.Out.holds l.fn.out) (g.O.Out.holds l.out));
}
