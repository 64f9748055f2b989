use Rattle.std.proofs.Common.{◌≡◌, ◌≤◌, ◌-◌, ◌+◌, ◌^◌}
use Rattle.json_rows.specs.LineViews.{settings_view}
use Rattle.json_pack.specs.Reading.{IsReady, ahead}
use Rattle.json_pack.specs.Packing.{IsFilling}
use Rattle.json_pack.proofs.packing.fill.Given as goal

abbrev pub invariant-loop-packer : goal.invariant-loop-packer
invariant-loop-packer g l = record {
  ready : IsReady l.reader;
  filling : IsFilling (settings_view l.settings) (g.I.Input.left l.fn.input) (ahead l.reader (g.I.Input.left l.input)) (g.F.Files.told l.fn.files) (g.F.Files.told l.files) l.name l.packer;
  within : l.packer.at ≤ 2 ^ 42;
  read_later : g.I.Input.faults l.fn.input ≤ g.I.Input.faults l.input;
  write_later : g.F.Files.write_faults l.fn.files ≤ g.F.Files.write_faults l.files;
  misses : g.F.Files.misses l.files ≡ g.F.Files.misses l.fn.files;
  read_faults : g.F.Files.read_faults l.files ≡ g.F.Files.read_faults l.fn.files;
  taken : g.F.Files.taken l.files ≡ g.F.Files.taken l.fn.files;
}

abbrev pub decreases-loop-packer : goal.decreases-loop-packer
decreases-loop-packer g l = 2 ^ 42 + 1 - l.packer.at
