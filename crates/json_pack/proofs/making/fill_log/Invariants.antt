use Rattle.std.proofs.Common.{◌≡◌, ◌≤◌, ◌-◌}
use Rattle.json_pack.specs.Making.{IsMaking}
use Rattle.json_pack.proofs.making.fill_log.Given as goal

abbrev pub invariant-loop-made : goal.invariant-loop-made
invariant-loop-made g l = record {
  log : l.log ≡ (l.start, l.made);
  low : l.made ≤ l.rows;
  making : IsMaking l.start l.made (g.F.Files.told l.fn.files) (g.F.Files.told l.files) l.name l.packed;
  later : g.F.Files.write_faults l.fn.files ≤ g.F.Files.write_faults l.files;
  misses : g.F.Files.misses l.files ≡ g.F.Files.misses l.fn.files;
  read_faults : g.F.Files.read_faults l.files ≡ g.F.Files.read_faults l.fn.files;
  taken : g.F.Files.taken l.files ≡ g.F.Files.taken l.fn.files;
}

abbrev pub decreases-loop-made : goal.decreases-loop-made
decreases-loop-made g l = l.rows - l.made
