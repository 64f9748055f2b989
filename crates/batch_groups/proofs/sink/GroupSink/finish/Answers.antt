use Rattle.std.proofs.Common.{List, Option, subst}
use Rattle.std.specs.Prelude.{All, IfSome}
use Rattle.value_meaning.specs.Val.{Val}
use Rattle.group_out.specs.Summaries.{IsPrintableRow}
use Rattle.batch_groups.specs.OfQuery.{keyed_pairs, FinishesAs}
use Rattle.batch_groups.proofs.Summaries.{stand_for, makes_rows, makes_none}
use Rattle.batch_groups.proofs.sink.GroupSink.finish.Goals as goal

pub returns-in_ok-rows-in-Some-clause-rows : goal.returns-in_ok-rows-in-Some-clause-rows
returns-in_ok-rows-in-Some-clause-rows c q empty rows simulates grouped fresh grew =
    let held = c.args.self in
    let finishes = c.in_ok-rows.ensures.rows (keyed_pairs q rows) (stand_for q c.args.job.now empty held rows simulates grouped fresh grew) in
    makes_rows q c.args.job.now empty held rows simulates grouped fresh grew _ _ (subst (FinishesAs held.groups.limit held.groups.names (keyed_pairs q rows)) c.in-Some.is finishes) c.in_ok-rows-in-Some.ensures.rows

pub returns-in-None-clause-rows : goal.returns-in-None-clause-rows
returns-in-None-clause-rows c q empty rows simulates grouped fresh grew =
    let held = c.args.self in
    let finishes = c.in_ok-rows.ensures.rows (keyed_pairs q rows) (stand_for q c.args.job.now empty held rows simulates grouped fresh grew) in
    makes_none q c.args.job.now empty held rows simulates grouped fresh grew (subst (FinishesAs held.groups.limit held.groups.names (keyed_pairs q rows)) c.in-None.is finishes)

pub returns-in_ok-rows-in-Some-clause-printable : goal.returns-in_ok-rows-in-Some-clause-printable
returns-in_ok-rows-in-Some-clause-printable c =
    c.in_ok-rows-in-Some.ensures.printable (subst (λ (o : Option (List (List Val × List Val))). IfSome o (λ rows. All IsPrintableRow rows)) c.in-Some.is c.in_ok-rows.ensures.printable)
