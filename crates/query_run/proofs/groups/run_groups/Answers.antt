use Rattle.std.proofs.Common.{◌≡◌, List, length, refl, sym, ap, ◌∙◌, subst}
use Rattle.std.specs.Prelude.{Err, Some}
use Rattle.scan_meaning.specs.Blocks.{Place, Block}
use Rattle.scan_meaning.specs.Batches.{rows_of, first_bad, count_passed}
use Rattle.scan_batches.specs.Scans.{NamesBlock}
use Rattle.scan_batches.specs.Gathers.{StopsGathering}
use Rattle.tree_meaning.specs.Tree.{Query}
use Rattle.query_run.specs.Runs.{RunsTo}
use Rattle.query_run.specs.declared.sum.QuerySum.{QuerySum}
use Rattle.query_run.specs.declared.query_fault.QueryFault.{QueryFault}
use Rattle.query_run.proofs.Refusing.{memory_run, never_absent}
use Rattle.query_run.proofs.Surveyed.{all_placed}
use Rattle.query_run.proofs.GatheredEnding.{stopped_run, late_memory_run, over_run, done_run, cut_run}
use Rattle.query_run.proofs.GroupsEnding.{groups_plain, are_within, none_is_over, some_is_all, told_before, read_all}
use Rattle.query_run.proofs.groups.run_groups.Goals as goal

pub returns-in_default-clause-ran : goal.returns-in_default-clause-ran
returns-in_default-clause-ran g c = λ start le indexes.
    memory_run c.args.checked.now c.args.settings.now.groups c.args.names.now (g.F.Files.told c.args.files.now) start (g.F.Files.taken c.args.files.now) (g.O.Out.holds c.args.out.now) le indexes

pub returns-in_default-new-clause-ran : goal.returns-in_default-new-clause-ran
returns-in_default-new-clause-ran g c = λ start le indexes.
    memory_run c.args.checked.now c.args.settings.now.groups c.args.names.now (g.F.Files.told c.args.files.now) start (g.F.Files.taken c.args.files.now) (g.O.Out.holds c.args.out.now) le indexes

pub gather_all-requires-clause-placed : goal.gather_all-requires-clause-placed
gather_all-requires-clause-placed g c κs within =
    all_placed c.args.checked.now c.args.names.now (g.F.Files.told c.args.files.now) _ _ _ c.requires.surveyed _ c.deref.result.now refl c.deref.ensures.value

pub returns-in-Err-clause-ran : goal.returns-in-Err-clause-ran
returns-in-Err-clause-ran g c = λ start le indexes.
    subst (λ (r : QueryFault). RunsTo c.args.checked.now c.args.settings.now.groups c.args.names.now (g.F.Files.told c.args.files.now) (Err r) start (g.F.Files.taken c.gather_all.new.files) (g.O.Out.holds c.args.out.now) (g.O.Out.holds c.args.out.now)) (sym c.of_scan.ensures)
    (stopped_run c.args.checked.now (groups_plain c.args.checked.now c.requires.grouped) c.args.settings.now.groups c.args.names.now (g.F.Files.told c.args.files.now) c.args.found.now.fields c.args.found.now.places.items c.args.found.now.skipped c.requires.surveyed c.requires.some
    start (g.F.Files.taken c.args.files.now) (g.F.Files.taken c.gather_all.new.files) le c.gather_all.ensures.later indexes (read_all (g.F.Files.taken c.args.files.now) (g.F.Files.taken c.gather_all.new.files) c.args.found.now.places.items c.deref.result.now c.deref.ensures.value c.gather_all.ensures.most)
    (g.O.Out.holds c.args.out.now) c.in-Err.fault c.in-Err.ensures.reading
    (told_before c.args.names.now c.args.found.now.fields (g.F.Files.told c.args.files.now) (g.F.Files.told c.args.files.now) c.args.found.now.places.items c.deref.result.now refl c.deref.ensures.value (λ (l : List Block). NamesBlock c.in-Err.fault (λ b. first_bad l ≡ Some b)) c.in-Err.ensures.bad)
    (told_before c.args.names.now c.args.found.now.fields (g.F.Files.told c.args.files.now) (g.F.Files.told c.args.files.now) c.args.found.now.places.items c.deref.result.now refl c.deref.ensures.value (λ (l : List Block). StopsGathering c.in-Err.fault l (g.F.Files.taken c.args.files.now) (g.F.Files.taken c.gather_all.new.files)) c.in-Err.ensures.stopped))

pub returns-in_default-finish-clause-ran : goal.returns-in_default-finish-clause-ran
returns-in_default-finish-clause-ran g c = λ start le indexes.
    late_memory_run c.args.checked.now (groups_plain c.args.checked.now c.requires.grouped) c.args.settings.now.groups c.args.names.now (g.F.Files.told c.args.files.now) c.args.found.now.fields c.args.found.now.places.items c.args.found.now.skipped c.requires.surveyed c.requires.some
    start (g.F.Files.taken c.args.files.now) (g.F.Files.taken c.gather_all.new.files) le c.gather_all.ensures.later indexes (read_all (g.F.Files.taken c.args.files.now) (g.F.Files.taken c.gather_all.new.files) c.args.found.now.places.items c.deref.result.now c.deref.ensures.value c.gather_all.ensures.most)
    (g.O.Out.holds c.args.out.now)

pub returns-in_default-finished-clause-ran : goal.returns-in_default-finished-clause-ran
returns-in_default-finished-clause-ran g c = λ start le indexes.
    let got = c.in-Ok-gather_all.ensures.gathered in
    let own = c.gather_all.new.sink.groups.limit in
    let same = got.2.stand.grew_by.limit ∙ c.in-Ok-new.ensures.limit in
    let makes = c.in-Ok-finish.ensures.rows c.args.checked.now c.in-Ok-new.sink (rows_of got.0) c.requires.simulates c.requires.grouped c.in-Ok-new.ensures.empty got.2.stand in
    let are = told_before c.args.names.now c.args.found.now.fields (g.F.Files.told c.args.files.now) (g.F.Files.told c.args.files.now) c.args.found.now.places.items c.deref.result.now refl c.deref.ensures.value (λ (l : List Block). got.0 ≡ l) got.1 in
    over_run c.args.checked.now (groups_plain c.args.checked.now c.requires.grouped) c.args.settings.now.groups c.args.names.now (g.F.Files.told c.args.files.now) c.args.found.now.fields c.args.found.now.places.items c.args.found.now.skipped c.requires.surveyed c.requires.some
    start (g.F.Files.taken c.args.files.now) (g.F.Files.taken c.gather_all.new.files) le c.gather_all.ensures.later indexes (read_all (g.F.Files.taken c.args.files.now) (g.F.Files.taken c.gather_all.new.files) c.args.found.now.places.items c.deref.result.now c.deref.ensures.value c.gather_all.ensures.most)
    got.0 are got.2.good (g.O.Out.holds c.args.out.now)
    (none_is_over c.args.checked.now c.requires.grouped c.args.settings.now.groups own same (rows_of got.0) c.in-Ok-finish.finished c.in_default-finished.is makes)

pub returns-in_default-answer_of_groups-clause-ran : goal.returns-in_default-answer_of_groups-clause-ran
returns-in_default-answer_of_groups-clause-ran g c = λ start le indexes.
    late_memory_run c.args.checked.now (groups_plain c.args.checked.now c.requires.grouped) c.args.settings.now.groups c.args.names.now (g.F.Files.told c.args.files.now) c.args.found.now.fields c.args.found.now.places.items c.args.found.now.skipped c.requires.surveyed c.requires.some
    start (g.F.Files.taken c.args.files.now) (g.F.Files.taken c.gather_all.new.files) le c.gather_all.ensures.later indexes (read_all (g.F.Files.taken c.args.files.now) (g.F.Files.taken c.gather_all.new.files) c.args.found.now.places.items c.deref.result.now c.deref.ensures.value c.gather_all.ensures.most)
    (g.O.Out.holds c.args.out.now)

pub returns-in-Ok-put_rows-clause-ran : goal.returns-in-Ok-put_rows-clause-ran
returns-in-Ok-put_rows-clause-ran g c = λ start le indexes.
    let got = c.in-Ok-gather_all.ensures.gathered in
    let own = c.gather_all.new.sink.groups.limit in
    let same = got.2.stand.grew_by.limit ∙ c.in-Ok-new.ensures.limit in
    let makes = c.in-Ok-finish.ensures.rows c.args.checked.now c.in-Ok-new.sink (rows_of got.0) c.requires.simulates c.requires.grouped c.in-Ok-new.ensures.empty got.2.stand in
    let are = told_before c.args.names.now c.args.found.now.fields (g.F.Files.told c.args.files.now) (g.F.Files.told c.args.files.now) c.args.found.now.places.items c.deref.result.now refl c.deref.ensures.value (λ (l : List Block). got.0 ≡ l) got.1 in
    let all = some_is_all c.args.checked.now c.args.settings.now.groups own same (rows_of got.0) c.in-Ok-finish.finished c.in-Some.groups c.in-Some.is makes in
    let printed = c.in-Ok-answer_of_groups.ensures (rows_of got.0) all.members c.requires.grouped all.permutes all.each in
    let within = are_within c.args.checked.now c.args.settings.now.groups (rows_of got.0) all.few in
    done_run c.args.checked.now (groups_plain c.args.checked.now c.requires.grouped) c.args.settings.now.groups c.args.names.now (g.F.Files.told c.args.files.now) c.args.found.now.fields c.args.found.now.places.items c.args.found.now.skipped c.requires.surveyed c.requires.some
    start (g.F.Files.taken c.args.files.now) (g.F.Files.taken c.gather_all.new.files) le c.gather_all.ensures.later indexes (read_all (g.F.Files.taken c.args.files.now) (g.F.Files.taken c.gather_all.new.files) c.args.found.now.places.items c.deref.result.now c.deref.ensures.value c.gather_all.ensures.most)
    got.0 are got.2.good within c.in-Ok-answer_of_groups.rows printed (g.O.Out.holds c.args.out.now) (g.O.Out.holds c.put_rows.new.out)
    record { lines = c.len.result; read = c.len-in-Ok-put_rows.result; skipped = c.args.found.now.skipped; ran = c.gather_all.new.ran }
    c.len.ensures (c.len-in-Ok-put_rows.ensures ∙ sym c.deref.ensures.len ∙ ap (λ (l : List Place). length l) c.deref.ensures.value) refl got.2.chunks_are (got.2.kept_are ∙ ap (λ (p : Query). count_passed p got.0) c.query.ensures.is) c.in-Ok-put_rows.ensures.put

pub returns-clause-ran : goal.returns-clause-ran
returns-clause-ran g c = λ start le indexes.
    let got = c.in-Ok-gather_all.ensures.gathered in
    let own = c.gather_all.new.sink.groups.limit in
    let same = got.2.stand.grew_by.limit ∙ c.in-Ok-new.ensures.limit in
    let makes = c.in-Ok-finish.ensures.rows c.args.checked.now c.in-Ok-new.sink (rows_of got.0) c.requires.simulates c.requires.grouped c.in-Ok-new.ensures.empty got.2.stand in
    let are = told_before c.args.names.now c.args.found.now.fields (g.F.Files.told c.args.files.now) (g.F.Files.told c.args.files.now) c.args.found.now.places.items c.deref.result.now refl c.deref.ensures.value (λ (l : List Block). got.0 ≡ l) got.1 in
    let all = some_is_all c.args.checked.now c.args.settings.now.groups own same (rows_of got.0) c.in-Ok-finish.finished c.in-Some.groups c.in-Some.is makes in
    let printed = c.in-Ok-answer_of_groups.ensures (rows_of got.0) all.members c.requires.grouped all.permutes all.each in
    let within = are_within c.args.checked.now c.args.settings.now.groups (rows_of got.0) all.few in
    cut_run c.args.checked.now (groups_plain c.args.checked.now c.requires.grouped) c.args.settings.now.groups c.args.names.now (g.F.Files.told c.args.files.now) c.args.found.now.fields c.args.found.now.places.items c.args.found.now.skipped c.requires.surveyed c.requires.some
    start (g.F.Files.taken c.args.files.now) (g.F.Files.taken c.gather_all.new.files) le c.gather_all.ensures.later indexes (read_all (g.F.Files.taken c.args.files.now) (g.F.Files.taken c.gather_all.new.files) c.args.found.now.places.items c.deref.result.now c.deref.ensures.value c.gather_all.ensures.most)
    got.0 are got.2.good within c.in-Ok-answer_of_groups.rows printed (g.O.Out.holds c.args.out.now) (g.O.Out.holds c.put_rows.new.out)
    c.in-Err-put_rows.ensures.part

pub returns-in-Err-clause-present : goal.returns-in-Err-clause-present
returns-in-Err-clause-present g c = never_absent QuerySum c.in-Err.fault c.of_scan.result c.of_scan.ensures
