use Rattle.std.proofs.Common.{◌≡◌, List, length, refl, sym, ap, ◌∙◌, subst}
use Rattle.std.specs.Prelude.{Err, Some}
use Rattle.scan_meaning.specs.Blocks.{Place, Block}
use Rattle.scan_meaning.specs.Batches.{rows_of, first_bad}
use Rattle.scan_batches.specs.Scans.{NamesBlock}
use Rattle.scan_batches.specs.Gathers.{StopsGathering}
use Rattle.tree_meaning.specs.Tree.{Query}
use Rattle.sorted_rows.specs.Sorted.{AreSorted}
use Rattle.query_run.specs.Runs.{RunsTo}
use Rattle.query_run.specs.declared.sum.QuerySum.{QuerySum}
use Rattle.query_run.specs.declared.query_fault.QueryFault.{QueryFault}
use Rattle.query_run.proofs.Refusing.{never_absent}
use Rattle.query_run.proofs.Surveyed.{all_placed}
use Rattle.query_run.proofs.GatheredEnding.{stopped_run, done_run, cut_run}
use Rattle.query_run.proofs.GroupsEnding.{told_before, read_all}
use Rattle.query_run.proofs.SortedEnding.{none_over_ungrouped, sorted_prints}
use Rattle.query_run.proofs.sorted.run_sorted.Goals as goal

pub sort_rows-requires-clause-placed : goal.sort_rows-requires-clause-placed
sort_rows-requires-clause-placed g c = λ κs into.
    all_placed c.args.checked.now c.args.names.now (g.F.Files.told c.args.files.now) _ _ _ c.requires.surveyed _ c.deref.result.now refl c.deref.ensures.value

pub returns-in-Err-clause-ran : goal.returns-in-Err-clause-ran
returns-in-Err-clause-ran g c = λ start le indexes.
    subst (λ (r : QueryFault). RunsTo c.args.checked.now c.args.settings.now.groups c.args.names.now (g.F.Files.told c.args.files.now) (Err r) start (g.F.Files.taken c.sort_rows.new.files) (g.O.Out.holds c.args.out.now) (g.O.Out.holds c.args.out.now)) (sym c.of_scan.ensures)
    (stopped_run c.args.checked.now c.requires.sorts c.args.settings.now.groups c.args.names.now (g.F.Files.told c.args.files.now) c.args.found.now.fields c.args.found.now.places.items c.args.found.now.skipped c.requires.surveyed c.requires.some
    start (g.F.Files.taken c.args.files.now) (g.F.Files.taken c.sort_rows.new.files) le c.sort_rows.ensures.later indexes (read_all (g.F.Files.taken c.args.files.now) (g.F.Files.taken c.sort_rows.new.files) c.args.found.now.places.items c.deref.result.now c.deref.ensures.value c.sort_rows.ensures.most)
    (g.O.Out.holds c.args.out.now) c.in-Err.fault c.in-Err.ensures.reading
    (told_before c.args.names.now c.args.found.now.fields (g.F.Files.told c.args.files.now) (g.F.Files.told c.args.files.now) c.args.found.now.places.items c.deref.result.now refl c.deref.ensures.value (λ (l : List Block). NamesBlock c.in-Err.fault (λ b. first_bad l ≡ Some b)) c.in-Err.ensures.bad)
    (told_before c.args.names.now c.args.found.now.fields (g.F.Files.told c.args.files.now) (g.F.Files.told c.args.files.now) c.args.found.now.places.items c.deref.result.now refl c.deref.ensures.value (λ (l : List Block). StopsGathering c.in-Err.fault l (g.F.Files.taken c.args.files.now) (g.F.Files.taken c.sort_rows.new.files)) c.in-Err.ensures.stopped))

pub returns-in-Ok-put_rows-clause-ran : goal.returns-in-Ok-put_rows-clause-ran
returns-in-Ok-put_rows-clause-ran g c = λ start le indexes.
    let got = c.in-Ok.ensures.sorted in
    let rows = c.in-Ok.sorted.rows in
    let ran = c.in-Ok.sorted.ran in
    let own : AreSorted c.args.checked.now got.0 c.in-Ok.sorted.rows c.in-Ok.sorted.ran.chunks c.in-Ok.sorted.ran.kept = subst (λ (p : Query). AreSorted p got.0 c.in-Ok.sorted.rows c.in-Ok.sorted.ran.chunks c.in-Ok.sorted.ran.kept) c.query.ensures.is got.2 in
    let are = told_before c.args.names.now c.args.found.now.fields (g.F.Files.told c.args.files.now) (g.F.Files.told c.args.files.now) c.args.found.now.places.items c.deref.result.now refl c.deref.ensures.value (λ (l : List Block). got.0 ≡ l) got.1 in
    let printed = sorted_prints c.args.checked.now got.0 rows ran.chunks ran.kept own in
    let within = none_over_ungrouped c.args.checked.now c.requires.ungrouped c.args.settings.now.groups (rows_of got.0) in
    done_run c.args.checked.now c.requires.sorts c.args.settings.now.groups c.args.names.now (g.F.Files.told c.args.files.now) c.args.found.now.fields c.args.found.now.places.items c.args.found.now.skipped c.requires.surveyed c.requires.some
    start (g.F.Files.taken c.args.files.now) (g.F.Files.taken c.sort_rows.new.files) le c.sort_rows.ensures.later indexes (read_all (g.F.Files.taken c.args.files.now) (g.F.Files.taken c.sort_rows.new.files) c.args.found.now.places.items c.deref.result.now c.deref.ensures.value c.sort_rows.ensures.most)
    got.0 are own.good within rows printed (g.O.Out.holds c.args.out.now) (g.O.Out.holds c.put_rows.new.out)
    record { lines = c.len.result; read = c.len-in-Ok-put_rows.result; skipped = c.args.found.now.skipped; ran = c.in-Ok.sorted.ran }
    c.len.ensures (c.len-in-Ok-put_rows.ensures ∙ sym c.deref.ensures.len ∙ ap (λ (l : List Place). length l) c.deref.ensures.value) refl own.chunks_are own.kept_are c.in-Ok-put_rows.ensures.put

pub returns-clause-ran : goal.returns-clause-ran
returns-clause-ran g c = λ start le indexes.
    let got = c.in-Ok.ensures.sorted in
    let rows = c.in-Ok.sorted.rows in
    let ran = c.in-Ok.sorted.ran in
    let own : AreSorted c.args.checked.now got.0 c.in-Ok.sorted.rows c.in-Ok.sorted.ran.chunks c.in-Ok.sorted.ran.kept = subst (λ (p : Query). AreSorted p got.0 c.in-Ok.sorted.rows c.in-Ok.sorted.ran.chunks c.in-Ok.sorted.ran.kept) c.query.ensures.is got.2 in
    let are = told_before c.args.names.now c.args.found.now.fields (g.F.Files.told c.args.files.now) (g.F.Files.told c.args.files.now) c.args.found.now.places.items c.deref.result.now refl c.deref.ensures.value (λ (l : List Block). got.0 ≡ l) got.1 in
    let printed = sorted_prints c.args.checked.now got.0 rows ran.chunks ran.kept own in
    let within = none_over_ungrouped c.args.checked.now c.requires.ungrouped c.args.settings.now.groups (rows_of got.0) in
    cut_run c.args.checked.now c.requires.sorts c.args.settings.now.groups c.args.names.now (g.F.Files.told c.args.files.now) c.args.found.now.fields c.args.found.now.places.items c.args.found.now.skipped c.requires.surveyed c.requires.some
    start (g.F.Files.taken c.args.files.now) (g.F.Files.taken c.sort_rows.new.files) le c.sort_rows.ensures.later indexes (read_all (g.F.Files.taken c.args.files.now) (g.F.Files.taken c.sort_rows.new.files) c.args.found.now.places.items c.deref.result.now c.deref.ensures.value c.sort_rows.ensures.most)
    got.0 are own.good within rows printed (g.O.Out.holds c.args.out.now) (g.O.Out.holds c.put_rows.new.out)
    c.in-Err-put_rows.ensures.part

pub returns-in-Err-clause-present : goal.returns-in-Err-clause-present
returns-in-Err-clause-present g c = never_absent QuerySum c.in-Err.fault c.of_scan.result c.of_scan.ensures
