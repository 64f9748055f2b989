use Rattle.std.proofs.Common.{Err, refl, ℕ, List, subst, ap, sym, ◌∙◌, take, arith}
use Rattle.std.specs.Io.KnownBytes.{Appends}
use Rattle.pack_meaning.specs.Packing.{Sum}
use Rattle.query_run.specs.declared.query_fault.QueryFault.{QueryFault}
use Rattle.query_run.specs.Statuses as statuses
use Rattle.snel_command.specs.Outcomes.{status_of_pack}
use Rattle.snel_command.specs.Makes.{made_line}
use Rattle.snel_command.proofs.Commands.{is_write_fault}
use Rattle.snel_command.proofs.MadeSo.{unmade_headline, unmade_comes, cut_headline, cut_never, made_makes, never_exists, asked_headline, asked_ends, asked_says, asked_comes}
use Rattle.snel_command.proofs.making.make_log.Goals as goal

pub returns-in-Err-clause-headline : goal.returns-in-Err-clause-headline
returns-in-Err-clause-headline g c = unmade_headline c.args.start c.args.rows c.args.name.now (g.F.Files.told c.args.files.now) c.in-Err.fault (g.O.Out.holds c.args.out.now)

pub returns-in-Err-clause-packs : goal.returns-in-Err-clause-packs
returns-in-Err-clause-packs g c = unmade_comes c.args.start c.args.rows c.args.name.now (g.F.Files.told c.args.files.now) _ _ _ _ c.in-Err.fault c.in-Err.ensures.only c.in-Err.ensures.exists c.in-Err.ensures.write_fault

pub returns-in-Err-put_made-clause-headline : goal.returns-in-Err-put_made-clause-headline
returns-in-Err-put_made-clause-headline g c =
    let front = c.in-Err-put_made.ensures.front in
    cut_headline c.args.start c.args.rows c.args.name.now (g.F.Files.told c.args.files.now) c.in-Err-put_made.fault front.0 (g.O.Out.holds c.args.out.now) (g.O.Out.holds c.put_made.new.out)
    (subst (λ (s : Sum). Appends (g.O.Out.holds c.args.out.now) (g.O.Out.holds c.put_made.new.out) (take front.0 (made_line s))) c.in-Ok.ensures.sum front.1)

pub returns-in-Err-put_made-clause-told : goal.returns-in-Err-put_made-clause-told
returns-in-Err-put_made-clause-told g c =
    made_makes c.args.start c.args.rows c.args.name.now (g.F.Files.told c.args.files.now) (status_of_pack c.in-Err-put_made.fault) (g.F.Files.told c.args.files.now) (g.F.Files.told c.make.new.files)
    (cut_never c.args.start c.args.rows c.args.name.now (g.F.Files.told c.args.files.now) c.in-Err-put_made.fault c.in-Err-put_made.ensures.only) c.in-Ok.ensures.file c.in-Ok.ensures.holds

pub returns-in-Ok-count_statuses-clause-headline : goal.returns-in-Ok-count_statuses-clause-headline
returns-in-Ok-count_statuses-clause-headline g c = asked_headline c.args.start c.args.rows c.args.name.now (g.F.Files.told c.args.files.now) (g.F.Files.told c.make.new.files) 0 (g.O.Out.holds c.args.out.now) (g.O.Out.holds c.put_made.new.out) (g.O.Out.holds c.count_statuses.new.out) c.in-Ok.ensures.file c.in-Ok.ensures.holds c.requires.few
    (subst (λ (s : Sum). Appends (g.O.Out.holds c.args.out.now) (g.O.Out.holds c.put_made.new.out) (made_line s)) c.in-Ok.ensures.sum c.in-Ok-put_made.ensures.line) c.in-Ok-count_statuses.ensures.queried

pub returns-in-Ok-count_statuses-clause-ends : goal.returns-in-Ok-count_statuses-clause-ends
returns-in-Ok-count_statuses-clause-ends g c = asked_ends c.args.start c.args.rows c.args.name.now (g.F.Files.told c.args.files.now) (g.F.Files.told c.make.new.files) 0 (g.O.Out.holds c.args.out.now) (g.O.Out.holds c.put_made.new.out) (g.O.Out.holds c.count_statuses.new.out) c.in-Ok.ensures.file c.in-Ok.ensures.holds c.requires.few
    (subst (λ (s : Sum). Appends (g.O.Out.holds c.args.out.now) (g.O.Out.holds c.put_made.new.out) (made_line s)) c.in-Ok.ensures.sum c.in-Ok-put_made.ensures.line) c.in-Ok-count_statuses.ensures.queried

pub returns-in-Ok-count_statuses-clause-told : goal.returns-in-Ok-count_statuses-clause-told
returns-in-Ok-count_statuses-clause-told g c =
    made_makes c.args.start c.args.rows c.args.name.now (g.F.Files.told c.args.files.now) 0 (g.F.Files.told c.args.files.now) (g.F.Files.told c.count_statuses.new.files)
    (λ e. omega (arith, e)) (c.in-Ok-count_statuses.ensures.told ∙ c.in-Ok.ensures.file) c.in-Ok.ensures.holds

pub returns-in-Err-count_statuses-clause-headline : goal.returns-in-Err-count_statuses-clause-headline
returns-in-Err-count_statuses-clause-headline g c = asked_headline c.args.start c.args.rows c.args.name.now (g.F.Files.told c.args.files.now) (g.F.Files.told c.make.new.files) (statuses.status_of c.in-Err-count_statuses.fault) (g.O.Out.holds c.args.out.now) (g.O.Out.holds c.put_made.new.out) (g.O.Out.holds c.count_statuses.new.out) c.in-Ok.ensures.file c.in-Ok.ensures.holds c.requires.few
    (subst (λ (s : Sum). Appends (g.O.Out.holds c.args.out.now) (g.O.Out.holds c.put_made.new.out) (made_line s)) c.in-Ok.ensures.sum c.in-Ok-put_made.ensures.line) c.in-Err-count_statuses.ensures.queried

pub returns-in-Err-count_statuses-clause-ends : goal.returns-in-Err-count_statuses-clause-ends
returns-in-Err-count_statuses-clause-ends g c = asked_ends c.args.start c.args.rows c.args.name.now (g.F.Files.told c.args.files.now) (g.F.Files.told c.make.new.files) (statuses.status_of c.in-Err-count_statuses.fault) (g.O.Out.holds c.args.out.now) (g.O.Out.holds c.put_made.new.out) (g.O.Out.holds c.count_statuses.new.out) c.in-Ok.ensures.file c.in-Ok.ensures.holds c.requires.few
    (subst (λ (s : Sum). Appends (g.O.Out.holds c.args.out.now) (g.O.Out.holds c.put_made.new.out) (made_line s)) c.in-Ok.ensures.sum c.in-Ok-put_made.ensures.line) c.in-Err-count_statuses.ensures.queried

pub returns-in-Err-count_statuses-clause-cause : goal.returns-in-Err-count_statuses-clause-cause
returns-in-Err-count_statuses-clause-cause g c = asked_says c.args.start c.args.rows c.args.name.now (g.F.Files.told c.args.files.now) (g.F.Files.told c.make.new.files) (statuses.status_of c.in-Err-count_statuses.fault) (g.O.Out.holds c.args.out.now) (g.O.Out.holds c.put_made.new.out) (g.O.Out.holds c.count_statuses.new.out) c.in-Ok.ensures.file c.in-Ok.ensures.holds c.requires.few
    (subst (λ (s : Sum). Appends (g.O.Out.holds c.args.out.now) (g.O.Out.holds c.put_made.new.out) (made_line s)) c.in-Ok.ensures.sum c.in-Ok-put_made.ensures.line) c.in-Err-count_statuses.ensures.queried c.in-Err-count_statuses.fault refl

pub returns-in-Err-count_statuses-clause-packs : goal.returns-in-Err-count_statuses-clause-packs
returns-in-Err-count_statuses-clause-packs g c =
    asked_comes c.args.start c.args.rows c.args.name.now (g.F.Files.told c.args.files.now) (g.F.Files.told c.make.new.files) (statuses.status_of c.in-Err-count_statuses.fault) (g.O.Out.holds c.args.out.now) (g.O.Out.holds c.put_made.new.out) (g.O.Out.holds c.count_statuses.new.out) c.in-Ok.ensures.file c.in-Ok.ensures.holds c.requires.few
    (subst (λ (s : Sum). Appends (g.O.Out.holds c.args.out.now) (g.O.Out.holds c.put_made.new.out) (made_line s)) c.in-Ok.ensures.sum c.in-Ok-put_made.ensures.line) c.in-Err-count_statuses.ensures.queried _ _ _ _ _ c.in-Ok.sum c.in-Ok.ensures.exists c.in-Ok-put_made.ensures.fault.later
    (λ e. c.in-Err-count_statuses.ensures.write_fault (ap (λ (f : QueryFault). Err f) (is_write_fault c.in-Err-count_statuses.fault e)))

pub returns-in-Err-count_statuses-clause-told : goal.returns-in-Err-count_statuses-clause-told
returns-in-Err-count_statuses-clause-told g c =
    made_makes c.args.start c.args.rows c.args.name.now (g.F.Files.told c.args.files.now) (statuses.status_of c.in-Err-count_statuses.fault) (g.F.Files.told c.args.files.now) (g.F.Files.told c.count_statuses.new.files)
    (never_exists c.args.start c.args.rows c.args.name.now (g.F.Files.told c.args.files.now) (g.F.Files.told c.make.new.files) (statuses.status_of c.in-Err-count_statuses.fault) (g.O.Out.holds c.args.out.now) (g.O.Out.holds c.put_made.new.out) (g.O.Out.holds c.count_statuses.new.out) c.in-Ok.ensures.file c.in-Ok.ensures.holds c.requires.few
    (subst (λ (s : Sum). Appends (g.O.Out.holds c.args.out.now) (g.O.Out.holds c.put_made.new.out) (made_line s)) c.in-Ok.ensures.sum c.in-Ok-put_made.ensures.line) c.in-Err-count_statuses.ensures.queried)
    (c.in-Err-count_statuses.ensures.told ∙ c.in-Ok.ensures.file) c.in-Ok.ensures.holds
