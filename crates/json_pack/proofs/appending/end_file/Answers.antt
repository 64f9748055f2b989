use Rattle.std.proofs.Common.{refl}
use Rattle.json_pack.proofs.Fronts.{ends_file, breaks_none, breaks_file, sums_up}
use Rattle.json_pack.proofs.appending.end_file.Goals as goal

pub returns-in-Err-clause-broken : goal.returns-in-Err-clause-broken
returns-in-Err-clause-broken g c = breaks_none _ c.args.rows.writer (g.F.Files.told c.args.files.now) c.args.name.now

pub returns-in-Ok-append-clause-file : goal.returns-in-Ok-append-clause-file
returns-in-Ok-append-clause-file g c =
    ends_file _ c.args.rows.writer c.in-Ok.last (g.F.Files.told c.args.files.now) (g.F.Files.told c.append.new.self) c.args.name.now c.as_slice.result.now c.in-Ok.ensures c.as_slice.ensures c.in-Ok-append.ensures.grown

pub returns-in-Ok-append-clause-sum : goal.returns-in-Ok-append-clause-sum
returns-in-Ok-append-clause-sum g c = sums_up _ c.args.rows c.in-Ok.last _ c.in-Ok.ensures refl refl refl refl

pub returns-clause-broken : goal.returns-clause-broken
returns-clause-broken g c =
    breaks_file _ c.args.rows.writer c.in-Ok.last (g.F.Files.told c.args.files.now) (g.F.Files.told c.append.new.self) c.args.name.now c.as_slice.result.now c.in-Ok.ensures c.as_slice.ensures c.in-Err-append.ensures.cut
