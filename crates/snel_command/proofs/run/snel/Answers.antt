use Rattle.std.proofs.Common.{◌≡◌, ℕ, Err, sym, subst, ◌∙◌, arith}
use Rattle.std.specs.Io.KnownBytes.{Appends}
use Rattle.snel_device.specs.Causes.{Rose}
use Rattle.query_run.specs.declared.query_fault.QueryFault.TheVariants.{OutOfMemory}
use Rattle.snel_command.specs.declared.outcome.Refusal.TheVariants.{Query}
use Rattle.snel_words.specs.Words.{Ask, asked}
use Rattle.snel_words.specs.Asked.{ask_view}
use Rattle.snel_words.specs.NamedFiles.{HasNames}
use Rattle.snel_words.proofs.NamedFiles.{asked_has_names}
use Rattle.snel_command.specs.Outcomes.{status_after}
use Rattle.snel_command.specs.Lines.{limit_of, names_of, line_of}
use Rattle.snel_command.specs.Causes.{Says}
use Rattle.snel_command.specs.Ends.{Ends}
use Rattle.snel_command.specs.Effects.{ReadsBytes, ChangesFiles, WritesFiles, TakesInput, ReadFailed, WriteFailed}
use Rattle.snel_command.specs.Comes.{ComesPacked}
use Rattle.snel_command.specs.Headline.{Headline}
use Rattle.snel_command.specs.Stops.{Stops, StaysQuiet}
use Rattle.snel_command.proofs.Asked.{moved}
use Rattle.snel_command.proofs.Memory as memory
use Rattle.snel_command.proofs.Comes.{comes}
use Rattle.snel_command.proofs.run.snel.Goals as goal

pub obey-outcome-requires-clause-asked : goal.obey-outcome-requires-clause-asked
obey-outcome-requires-clause-asked g c = λ κs into. subst HasNames (sym c.in-Ok.ensures) (asked_has_names c.args.words.now)

pub returns-in-Ok-clause-headline : goal.returns-in-Ok-clause-headline
returns-in-Ok-clause-headline g c =
    let told = g.F.Files.told c.args.files.now in
    let old = g.O.Out.holds c.args.out.now in
    let new = g.O.Out.holds c.obey-outcome.new.out in
    moved (λ (a : Ask) (n : ℕ). Headline a told n old new)
    (ask_view c.in-Ok.ask) (asked c.args.words.now) (status_after c.obey-outcome.result) c.end.result c.in-Ok.ensures c.end.ensures.status c.obey-outcome.ensures.headline

pub returns-in-Ok-clause-ends : goal.returns-in-Ok-clause-ends
returns-in-Ok-clause-ends g c =
    let told = g.F.Files.told c.args.files.now in
    let old = g.O.Out.holds c.args.out.now in
    let new = g.O.Out.holds c.obey-outcome.new.out in
    moved (λ (a : Ask) (n : ℕ). Ends a told (g.I.Input.left c.args.input.now) n old new)
    (ask_view c.in-Ok.ask) (asked c.args.words.now) (status_after c.obey-outcome.result) c.end.result c.in-Ok.ensures c.end.ensures.status c.obey-outcome.ensures.ends

pub returns-in-Ok-clause-stopped : goal.returns-in-Ok-clause-stopped
returns-in-Ok-clause-stopped g c =
    let told = g.F.Files.told c.args.files.now in
    let old = g.O.Out.holds c.args.out.now in
    let new = g.O.Out.holds c.obey-outcome.new.out in
    moved (λ (a : Ask) (n : ℕ). Stops a told n (g.F.Files.taken c.args.files.now) (g.F.Files.taken c.obey-outcome.new.files) old new)
    (ask_view c.in-Ok.ask) (asked c.args.words.now) (status_after c.obey-outcome.result) c.end.result c.in-Ok.ensures c.end.ensures.status c.obey-outcome.ensures.stopped

pub returns-in-Ok-clause-cause : goal.returns-in-Ok-clause-cause
returns-in-Ok-clause-cause g c =
    record {
      outcome = c.obey-outcome.result;
      is = c.end.ensures.status;
      says = subst (λ (a : Ask). Says a (g.F.Files.told c.args.files.now) (g.I.Input.left c.args.input.now) c.obey-outcome.result) c.in-Ok.ensures c.obey-outcome.ensures.cause;
      line = subst (λ (a : Ask). ¬ Rose (g.E.Out.faults c.args.err.now) (g.E.Out.faults c.end.new.err)
          → Appends (g.E.Out.holds c.args.err.now) (g.E.Out.holds c.end.new.err) (line_of (limit_of a) (names_of a) c.obey-outcome.result)) c.in-Ok.ensures c.end.ensures.line;
    }

pub returns-in-Ok-clause-absent : goal.returns-in-Ok-clause-absent
returns-in-Ok-clause-absent g c e =
    c.obey-outcome.ensures.absent (sym c.end.ensures.status ∙ e)

pub returns-in-Ok-clause-read_fault : goal.returns-in-Ok-clause-read_fault
returns-in-Ok-clause-read_fault g c =
    moved (λ (a : Ask) (n : ℕ). n ≡ 8 → ReadFailed a (g.F.Files.read_faults c.args.files.now) (g.F.Files.read_faults c.obey-outcome.new.files) (g.I.Input.faults c.args.input.now) (g.I.Input.faults c.obey-outcome.new.input))
    (ask_view c.in-Ok.ask) (asked c.args.words.now) (status_after c.obey-outcome.result) c.end.result c.in-Ok.ensures c.end.ensures.status c.obey-outcome.ensures.read_fault

pub returns-in-Ok-clause-write_fault : goal.returns-in-Ok-clause-write_fault
returns-in-Ok-clause-write_fault g c =
    moved (λ (a : Ask) (n : ℕ). n ≡ 9 → WriteFailed a (g.F.Files.write_faults c.args.files.now) (g.F.Files.write_faults c.obey-outcome.new.files) (g.O.Out.faults c.args.out.now) (g.O.Out.faults c.obey-outcome.new.out))
    (ask_view c.in-Ok.ask) (asked c.args.words.now) (status_after c.obey-outcome.result) c.end.result c.in-Ok.ensures c.end.ensures.status c.obey-outcome.ensures.write_fault

pub returns-in-Ok-clause-taken : goal.returns-in-Ok-clause-taken
returns-in-Ok-clause-taken g c =
    moved (λ (a : Ask) (n : ℕ). ReadsBytes a (g.F.Files.told c.args.files.now) (g.F.Files.taken c.args.files.now) (g.F.Files.taken c.obey-outcome.new.files))
    (ask_view c.in-Ok.ask) (asked c.args.words.now) (status_after c.obey-outcome.result) c.end.result c.in-Ok.ensures c.end.ensures.status c.obey-outcome.ensures.taken

pub returns-in-Ok-clause-comes : goal.returns-in-Ok-clause-comes
returns-in-Ok-clause-comes g c =
    comes (asked c.args.words.now) (g.F.Files.told c.args.files.now) (g.I.Input.left c.args.input.now) c.end.result _ _ _ _ _ _ _ _ _ _ _ _ _ _
    (returns-in-Ok-clause-ends g c) (returns-in-Ok-clause-cause g c) (returns-in-Ok-clause-read_fault g c) (returns-in-Ok-clause-write_fault g c)

pub returns-in-Err-clause-headline : goal.returns-in-Err-clause-headline
returns-in-Err-clause-headline g c =
    subst (λ (n : ℕ). Headline (asked c.args.words.now) (g.F.Files.told c.args.files.now) n (g.O.Out.holds c.args.out.now) (g.O.Out.holds c.args.out.now)) (sym c.end-in-Err.ensures.status) (memory.headline (asked c.args.words.now) (g.F.Files.told c.args.files.now) (g.O.Out.holds c.args.out.now))

pub returns-in-Err-clause-ends : goal.returns-in-Err-clause-ends
returns-in-Err-clause-ends g c =
    subst (λ (n : ℕ). Ends (asked c.args.words.now) (g.F.Files.told c.args.files.now) (g.I.Input.left c.args.input.now) n (g.O.Out.holds c.args.out.now) (g.O.Out.holds c.args.out.now)) (sym c.end-in-Err.ensures.status) (memory.ends (asked c.args.words.now) (g.F.Files.told c.args.files.now) (g.I.Input.left c.args.input.now) (g.O.Out.holds c.args.out.now))

pub returns-in-Err-clause-stopped : goal.returns-in-Err-clause-stopped
returns-in-Err-clause-stopped g c =
    subst (λ (n : ℕ). Stops (asked c.args.words.now) (g.F.Files.told c.args.files.now) n (g.F.Files.taken c.args.files.now) (g.F.Files.taken c.args.files.now) (g.O.Out.holds c.args.out.now) (g.O.Out.holds c.args.out.now)) (sym c.end-in-Err.ensures.status) (memory.stops (asked c.args.words.now) (g.F.Files.told c.args.files.now) (g.F.Files.taken c.args.files.now) (g.F.Files.taken c.args.files.now) (g.O.Out.holds c.args.out.now) (g.O.Out.holds c.args.out.now))

pub returns-in-Err-clause-cause : goal.returns-in-Err-clause-cause
returns-in-Err-clause-cause g c =
    record {
      outcome = Err (Query OutOfMemory);
      is = c.end-in-Err.ensures.status;
      says = memory.says (asked c.args.words.now) (g.F.Files.told c.args.files.now) (g.I.Input.left c.args.input.now);
      line = c.end-in-Err.ensures.line;
    }

pub returns-in-Err-clause-absent : goal.returns-in-Err-clause-absent
returns-in-Err-clause-absent g c e =
    absurd (omega (arith, e, c.end-in-Err.ensures.status))

pub returns-in-Err-clause-read_fault : goal.returns-in-Err-clause-read_fault
returns-in-Err-clause-read_fault g c e =
    absurd (omega (arith, e, c.end-in-Err.ensures.status))

pub returns-in-Err-clause-write_fault : goal.returns-in-Err-clause-write_fault
returns-in-Err-clause-write_fault g c e =
    absurd (omega (arith, e, c.end-in-Err.ensures.status))

pub returns-in-Err-clause-taken : goal.returns-in-Err-clause-taken
returns-in-Err-clause-taken g c =
    memory.reads (asked c.args.words.now) (g.F.Files.told c.args.files.now) (g.F.Files.taken c.args.files.now)

pub returns-in-Err-clause-comes : goal.returns-in-Err-clause-comes
returns-in-Err-clause-comes g c =
    comes (asked c.args.words.now) (g.F.Files.told c.args.files.now) (g.I.Input.left c.args.input.now) c.end-in-Err.result _ _ _ _ _ _ _ _ _ _ _ _ _ _
    (returns-in-Err-clause-ends g c) (returns-in-Err-clause-cause g c) (returns-in-Err-clause-read_fault g c) (returns-in-Err-clause-write_fault g c)

pub returns-in-Ok-clause-quiet : goal.returns-in-Ok-clause-quiet
returns-in-Ok-clause-quiet g c =
    let old = g.O.Out.holds c.args.out.now in
    let new = g.O.Out.holds c.obey-outcome.new.out in
    moved (λ (a : Ask) (n : ℕ). StaysQuiet a n old new)
    (ask_view c.in-Ok.ask) (asked c.args.words.now) (status_after c.obey-outcome.result) c.end.result c.in-Ok.ensures c.end.ensures.status c.obey-outcome.ensures.quiet

pub returns-in-Err-clause-quiet : goal.returns-in-Err-clause-quiet
returns-in-Err-clause-quiet g c =
    subst (λ (n : ℕ). StaysQuiet (asked c.args.words.now) n (g.O.Out.holds c.args.out.now) (g.O.Out.holds c.args.out.now)) (sym c.end-in-Err.ensures.status)
    (memory.quiet (asked c.args.words.now) (g.O.Out.holds c.args.out.now))

pub returns-in-Ok-clause-exists : goal.returns-in-Ok-clause-exists
returns-in-Ok-clause-exists g c e =
    c.obey-outcome.ensures.exists (sym c.end.ensures.status ∙ e)

pub returns-in-Ok-clause-packs : goal.returns-in-Ok-clause-packs
returns-in-Ok-clause-packs g c =
    moved (λ (a : Ask) (n : ℕ). ComesPacked a (g.F.Files.told c.args.files.now) (g.I.Input.left c.args.input.now) n (g.F.Files.write_faults c.args.files.now) (g.F.Files.write_faults c.obey-outcome.new.files) (g.I.Input.faults c.args.input.now) (g.I.Input.faults c.obey-outcome.new.input) (g.O.Out.faults c.args.out.now) (g.O.Out.faults c.obey-outcome.new.out))
    (ask_view c.in-Ok.ask) (asked c.args.words.now) (status_after c.obey-outcome.result) c.end.result c.in-Ok.ensures c.end.ensures.status c.obey-outcome.ensures.packs

pub returns-in-Ok-clause-told : goal.returns-in-Ok-clause-told
returns-in-Ok-clause-told g c =
    moved (λ (a : Ask) (n : ℕ). ChangesFiles a (g.I.Input.left c.args.input.now) n (g.F.Files.told c.args.files.now) (g.F.Files.told c.obey-outcome.new.files))
    (ask_view c.in-Ok.ask) (asked c.args.words.now) (status_after c.obey-outcome.result) c.end.result c.in-Ok.ensures c.end.ensures.status c.obey-outcome.ensures.told

pub returns-in-Ok-clause-written : goal.returns-in-Ok-clause-written
returns-in-Ok-clause-written g c =
    moved (λ (a : Ask) (n : ℕ). WritesFiles a (g.F.Files.write_faults c.args.files.now) (g.F.Files.write_faults c.obey-outcome.new.files))
    (ask_view c.in-Ok.ask) (asked c.args.words.now) (status_after c.obey-outcome.result) c.end.result c.in-Ok.ensures c.end.ensures.status c.obey-outcome.ensures.written

pub returns-in-Ok-clause-input : goal.returns-in-Ok-clause-input
returns-in-Ok-clause-input g c =
    moved (λ (a : Ask) (n : ℕ). TakesInput a n (g.I.Input.left c.args.input.now) (g.I.Input.left c.obey-outcome.new.input))
    (ask_view c.in-Ok.ask) (asked c.args.words.now) (status_after c.obey-outcome.result) c.end.result c.in-Ok.ensures c.end.ensures.status c.obey-outcome.ensures.input

pub returns-in-Err-clause-exists : goal.returns-in-Err-clause-exists
returns-in-Err-clause-exists g c e =
    absurd (omega (arith, e, c.end-in-Err.ensures.status))

pub returns-in-Err-clause-packs : goal.returns-in-Err-clause-packs
returns-in-Err-clause-packs g c =
    subst (λ (n : ℕ). ComesPacked (asked c.args.words.now) (g.F.Files.told c.args.files.now) (g.I.Input.left c.args.input.now) n (g.F.Files.write_faults c.args.files.now) (g.F.Files.write_faults c.args.files.now) (g.I.Input.faults c.args.input.now) (g.I.Input.faults c.args.input.now) (g.O.Out.faults c.args.out.now) (g.O.Out.faults c.args.out.now)) (sym c.end-in-Err.ensures.status)
    (memory.packs (asked c.args.words.now) (g.F.Files.told c.args.files.now) (g.I.Input.left c.args.input.now) (g.F.Files.write_faults c.args.files.now) (g.F.Files.write_faults c.args.files.now) (g.I.Input.faults c.args.input.now) (g.I.Input.faults c.args.input.now) (g.O.Out.faults c.args.out.now) (g.O.Out.faults c.args.out.now))

pub returns-in-Err-clause-told : goal.returns-in-Err-clause-told
returns-in-Err-clause-told g c =
    subst (λ (n : ℕ). ChangesFiles (asked c.args.words.now) (g.I.Input.left c.args.input.now) n (g.F.Files.told c.args.files.now) (g.F.Files.told c.args.files.now)) (sym c.end-in-Err.ensures.status) (memory.changes (asked c.args.words.now) (g.I.Input.left c.args.input.now) (g.F.Files.told c.args.files.now))

pub returns-in-Err-clause-written : goal.returns-in-Err-clause-written
returns-in-Err-clause-written g c = memory.writes (asked c.args.words.now) (g.F.Files.write_faults c.args.files.now)

pub returns-in-Err-clause-input : goal.returns-in-Err-clause-input
returns-in-Err-clause-input g c =
    subst (λ (n : ℕ). TakesInput (asked c.args.words.now) n (g.I.Input.left c.args.input.now) (g.I.Input.left c.args.input.now)) (sym c.end-in-Err.ensures.status) (memory.takes (asked c.args.words.now) (g.I.Input.left c.args.input.now))
