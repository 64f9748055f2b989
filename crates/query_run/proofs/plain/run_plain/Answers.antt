use Rattle.std.proofs.Common.{refl, sym, ap, subst}
use Rattle.std.specs.Prelude.{Err, Ok}
use Rattle.query_tree.specs.Queries.{query_view}
use Rattle.query_run.specs.Runs.{RunsTo}
use Rattle.query_run.specs.declared.sum.QuerySum.{QuerySum}
use Rattle.query_run.specs.declared.query_fault.QueryFault.{QueryFault}
use Rattle.query_run.proofs.Refusing.{memory_run}
use Rattle.query_run.proofs.Surveyed.{all_placed}
use Rattle.query_run.proofs.PlainEnding.{came_to, read_most, plain_done, plain_stopped}
use Rattle.query_run.proofs.plain.run_plain.Goals as goal

pub scan_all-requires-clause-placed : goal.scan_all-requires-clause-placed
scan_all-requires-clause-placed g c = λ κs into.
    all_placed (query_view c.args.query.now) c.args.names.now (g.F.Files.told c.args.files.now) _ _ _ c.requires.surveyed _ c.deref.result.now refl c.deref.ensures.value

pub returns-in_default-clause-ran : goal.returns-in_default-clause-ran
returns-in_default-clause-ran g c = λ start le most.
    memory_run (query_view c.args.query.now) c.args.settings.now.groups c.args.names.now (g.F.Files.told c.args.files.now) start (g.F.Files.taken c.args.files.now) (g.O.Out.holds c.args.out.now) le most

pub returns-in-Ok-scan_all-clause-ran : goal.returns-in-Ok-scan_all-clause-ran
returns-in-Ok-scan_all-clause-ran g c = λ start le most.
    plain_done (query_view c.args.query.now) c.requires.plain c.args.settings.now.groups c.args.names.now (g.F.Files.told c.args.files.now) c.args.found.now.fields c.args.found.now.places.items c.args.found.now.skipped c.requires.surveyed c.requires.some
    start (g.F.Files.taken c.args.files.now) (g.F.Files.taken c.scan_all.new.files) c.scan_all.new.ran.chunks c.scan_all.new.ran.kept (g.O.Out.holds c.args.out.now) (g.O.Out.holds c.scan_all.new.out) le c.scan_all.ensures.later most
    record { lines = c.in-Ok-scan_all.done.lines; read = c.in-Ok-scan_all.done.read; skipped = c.args.found.now.skipped; ran = c.scan_all.new.ran } c.in-Ok-scan_all.done refl refl refl refl refl
    (came_to c.args.names.now c.args.found.now.fields (g.F.Files.told c.args.files.now) (g.F.Files.told c.args.files.now) (query_view c.args.query.now) (query_view c.args.query.now) c.args.found.now.places.items c.deref.result.now refl refl c.deref.ensures.value
    (Ok c.in-Ok-scan_all.done) (g.F.Files.taken c.args.files.now) (g.F.Files.taken c.scan_all.new.files) c.scan_all.new.ran.chunks c.scan_all.new.ran.kept (g.O.Out.holds c.args.out.now) (g.O.Out.holds c.scan_all.new.out) c.in-Ok-scan_all.ensures.outcome)
    (read_most c.args.names.now c.args.found.now.fields (g.F.Files.told c.args.files.now) (g.F.Files.told c.args.files.now) (query_view c.args.query.now) (query_view c.args.query.now) c.args.found.now.places.items c.deref.result.now refl refl c.deref.ensures.value
    (g.F.Files.taken c.args.files.now) (g.F.Files.taken c.scan_all.new.files) c.scan_all.ensures.cost)
    c.scan_all.ensures.some

pub returns-clause-ran : goal.returns-clause-ran
returns-clause-ran g c = λ start le most.
    subst (λ (r : QueryFault). RunsTo (query_view c.args.query.now) c.args.settings.now.groups c.args.names.now (g.F.Files.told c.args.files.now) (Err r) start (g.F.Files.taken c.scan_all.new.files) (g.O.Out.holds c.args.out.now) (g.O.Out.holds c.scan_all.new.out)) (sym c.of_scan.ensures)
    (plain_stopped (query_view c.args.query.now) c.requires.plain c.args.settings.now.groups c.args.names.now (g.F.Files.told c.args.files.now) c.args.found.now.fields c.args.found.now.places.items c.args.found.now.skipped c.requires.surveyed c.requires.some
    start (g.F.Files.taken c.args.files.now) (g.F.Files.taken c.scan_all.new.files) c.scan_all.new.ran.chunks c.scan_all.new.ran.kept (g.O.Out.holds c.args.out.now) (g.O.Out.holds c.scan_all.new.out) le c.scan_all.ensures.later most
    c.in-Err.fault
    (came_to c.args.names.now c.args.found.now.fields (g.F.Files.told c.args.files.now) (g.F.Files.told c.args.files.now) (query_view c.args.query.now) (query_view c.args.query.now) c.args.found.now.places.items c.deref.result.now refl refl c.deref.ensures.value
    (Err c.in-Err.fault) (g.F.Files.taken c.args.files.now) (g.F.Files.taken c.scan_all.new.files) c.scan_all.new.ran.chunks c.scan_all.new.ran.kept (g.O.Out.holds c.args.out.now) (g.O.Out.holds c.scan_all.new.out) c.in-Err.ensures.outcome)
    (read_most c.args.names.now c.args.found.now.fields (g.F.Files.told c.args.files.now) (g.F.Files.told c.args.files.now) (query_view c.args.query.now) (query_view c.args.query.now) c.args.found.now.places.items c.deref.result.now refl refl c.deref.ensures.value
    (g.F.Files.taken c.args.files.now) (g.F.Files.taken c.scan_all.new.files) c.scan_all.ensures.cost)
    c.scan_all.ensures.some)
