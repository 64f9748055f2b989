use Rattle.std.proofs.Common.{sym, subst}
use Rattle.std.specs.Prelude.{length}
use Rattle.tree_meaning.specs.Tree.{Query}
use Rattle.program_meaning.specs.Simulation.{Simulates}
use Rattle.scan_files.specs.Surveys.{Surveys}
use Rattle.query_run.specs.Runs.{RunsTo}
use Rattle.query_run.proofs.query.run_found.Goals as goal

pub run_plain-requires-clause-simulates : goal.run_plain-requires-clause-simulates
run_plain-requires-clause-simulates g c = λ κs into.
    subst (λ (p : Query). Simulates c.args.job.now p) (sym c.query-then-len-eq0.ensures.is) c.requires.simulates

pub run_plain-requires-clause-surveyed : goal.run_plain-requires-clause-surveyed
run_plain-requires-clause-surveyed g c = λ κs into files is.
    subst (λ (p : Query). Surveys p c.args.names.now (length c.args.names.now) files c.args.found.now.fields c.args.found.now.places.items c.args.found.now.skipped) (sym c.query-then-len-eq0.ensures.is) (c.requires.surveyed files is)

pub returns-then-len-eq0-clause-ran : goal.returns-then-len-eq0-clause-ran
returns-then-len-eq0-clause-ran g c = λ start le indexes.
    subst (λ (p : Query). RunsTo p c.args.settings.now.groups c.args.names.now (g.F.Files.told c.args.files.now) c.run_plain.result start (g.F.Files.taken c.run_plain.new.files) (g.O.Out.holds c.args.out.now) (g.O.Out.holds c.run_plain.new.out)) c.query-then-len-eq0.ensures.is
    (c.run_plain.ensures.ran start le indexes)
