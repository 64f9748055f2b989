use Rattle.std.proofs.Common.{◌≡◌, ◌+◌, ◌*◌, ◌^◌, ◌<◌, ◌≤◌, length, take, All}
use Rattle.std.specs.Option.{ForSome}
use Rattle.query_tree.specs.Queries.{query_view}
use Rattle.scan_meaning.specs.Causes.{index_costs}
use Rattle.scan_files.specs.Surveys.{Surveys}
use Rattle.scan_files.proofs.survey.find_places.Given as goal

abbrev pub invariant-loop-number : goal.invariant-loop-number
invariant-loop-number g l = record {
  told : g.F.Files.told l.files ≡ g.F.Files.told l.fn.files;
  same_write_faults : g.F.Files.write_faults l.files ≡ g.F.Files.write_faults l.fn.files;
  faults : g.F.Files.read_faults l.fn.files ≤ g.F.Files.read_faults l.files;
  missed : g.F.Files.misses l.fn.files ≤ g.F.Files.misses l.files;
  later : g.F.Files.taken l.fn.files ≤ g.F.Files.taken l.files;
  cost : ForSome (g.F.Files.told l.fn.files) (λ told. g.F.Files.taken l.files ≤ g.F.Files.taken l.fn.files + index_costs told (take l.number l.names));
  few : length l.places.items ≤ 2 ^ 20 * l.number;
  skips : l.skipped ≤ 2 ^ 20 * l.number;
  named : All (λ p. p.file < l.number) l.places.items;
  surveyed : ForSome (g.F.Files.told l.fn.files) (λ told. Surveys (query_view l.query) l.names l.number told l.fields l.places.items l.skipped);
}
