use Rattle.std.proofs.Common.{Option, sym, subst, ◌∙◌}
use Rattle.snel_device.specs.Contents.{Contents}
use Rattle.std.specs.Prelude.{length, Err}
use Rattle.tree_meaning.specs.Tree.{Query}
use Rattle.query_tree.specs.Queries.{query_view}
use Rattle.scan_files.specs.Surveys.{Surveys}
use Rattle.query_run.specs.Runs.{RunsTo}
use Rattle.query_run.specs.declared.query_fault.QueryFault.{QueryFault}
use Rattle.query_run.proofs.Refusing.{files_run}
use Rattle.query_run.proofs.query.run_job.Goals as goal

pub returns-in-Err-clause-ran : goal.returns-in-Err-clause-ran
returns-in-Err-clause-ran g c =
    subst (λ (p : Query). RunsTo p c.args.settings.now.groups c.args.names.now (g.F.Files.told c.args.files.now) (Err c.of_files.result) (g.F.Files.taken c.args.files.now) (g.F.Files.taken c.find_places.new.files) (g.O.Out.holds c.args.out.now) (g.O.Out.holds c.args.out.now)) c.query.ensures.is
    (subst (λ (r : QueryFault). RunsTo (query_view c.query.result.now) c.args.settings.now.groups c.args.names.now (g.F.Files.told c.args.files.now) (Err r) (g.F.Files.taken c.args.files.now) (g.F.Files.taken c.find_places.new.files) (g.O.Out.holds c.args.out.now) (g.O.Out.holds c.args.out.now)) (sym c.of_files.ensures)
    (files_run (query_view c.query.result.now) c.args.settings.now.groups c.args.names.now (g.F.Files.told c.args.files.now) (g.F.Files.taken c.args.files.now) (g.F.Files.taken c.find_places.new.files) (g.O.Out.holds c.args.out.now) c.find_places.ensures.later c.find_places.ensures.cost c.in-Err.fault c.in-Err.ensures.refused))

pub run_found-requires-clause-surveyed : goal.run_found-requires-clause-surveyed
run_found-requires-clause-surveyed g c = λ κs into files is.
    subst (λ (p : Query). Surveys p c.args.names.now (length c.args.names.now) files c.in-Ok.found.fields c.in-Ok.found.places.items c.in-Ok.found.skipped) c.query.ensures.is
    (c.in-Ok.ensures.surveyed files (sym c.find_places.ensures.told ∙ is))

pub returns-clause-ran : goal.returns-clause-ran
returns-clause-ran g c =
    subst (λ (t : Option Contents). RunsTo c.args.checked.now c.args.settings.now.groups c.args.names.now t c.run_found.result (g.F.Files.taken c.args.files.now) (g.F.Files.taken c.run_found.new.files) (g.O.Out.holds c.args.out.now) (g.O.Out.holds c.run_found.new.out)) c.find_places.ensures.told
    (c.run_found.ensures.ran (g.F.Files.taken c.args.files.now) c.find_places.ensures.later (λ files is. c.find_places.ensures.cost files (sym c.find_places.ensures.told ∙ is)))

pub returns-clause-absent : goal.returns-clause-absent
returns-clause-absent g c e = absurd (c.run_found.ensures.present e)
