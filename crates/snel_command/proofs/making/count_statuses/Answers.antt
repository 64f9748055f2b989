use Rattle.std.proofs.Common.{◌∷◌, [], ◌++◌, Ok, Err, List, ℕ, ap, ◌∙◌}
use Rattle.snel_command.proofs.LogQueried.{nothing_queried, queried}
use Rattle.snel_command.proofs.making.count_statuses.Goals as goal

pub returns-in-Err-clause-queried : goal.returns-in-Err-clause-queried
returns-in-Err-clause-queried g c = nothing_queried c.args.name.now (g.F.Files.told c.args.files.now) (g.O.Out.holds c.args.out.now)

pub returns-in-Ok-run_query-clause-queried : goal.returns-in-Ok-run_query-clause-queried
returns-in-Ok-run_query-clause-queried g c =
    let e = c.in-Ok-run_query.ensures in
    queried c.args.name.now (g.F.Files.told c.args.files.now) (g.O.Out.holds c.args.out.now) (g.O.Out.holds c.run_query.new.out) (g.F.Files.taken c.args.files.now) (g.F.Files.taken c.run_query.new.files) (Ok c.in-Ok-run_query.field-0) _
    (c.in-Ok.ensures.ok ∙ ap (λ (l : List (List ℕ)). l ++ c.args.name.now ∷ []) c.new-names.ensures) e.ends e.cause e.quiet e.stopped

pub returns-clause-queried : goal.returns-clause-queried
returns-clause-queried g c =
    let e = c.in-Err-run_query.ensures in
    queried c.args.name.now (g.F.Files.told c.args.files.now) (g.O.Out.holds c.args.out.now) (g.O.Out.holds c.run_query.new.out) (g.F.Files.taken c.args.files.now) (g.F.Files.taken c.run_query.new.files) (Err c.in-Err-run_query.fault) _
    (c.in-Ok.ensures.ok ∙ ap (λ (l : List (List ℕ)). l ++ c.args.name.now ∷ []) c.new-names.ensures) e.ends e.cause e.quiet e.stopped
