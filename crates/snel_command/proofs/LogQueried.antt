-- What the query over a log's file says of how it ended.
use Rattle.std.proofs.Common.{◌≡◌, ℕ, ◌≤◌, Bool, true, false, List, [], ◌∷◌, Option, Some, None, Result, Ok, Err, refl, sym, ap, subst, ◌∙◌, arith}
use Rattle.std.specs.Prelude.{not, ◌&&◌}
use Rattle.std.specs.Io.KnownBytes.{Keeps, Appends}
use Rattle.snel_device.specs.Contents.{Contents}
use Rattle.tree_meaning.specs.Tree.{Query}
use Rattle.query_meaning.specs.Faults.{Verdict, is_query, ComesTo}
use Rattle.query_meaning.proofs.Verdicts.{verdict-one}
use Rattle.check_meaning.specs.Fault.{Fault}
use Rattle.check_meaning.specs.Verdict.{fault_of}
use Rattle.check_meaning.specs.Aggregates.{is_grouped}
use Rattle.scan_meaning.specs.Batches.{is_plain}
use Rattle.scan_meaning.specs.Verdicts.{untold, Finds, IsAmong}
use Rattle.make_meaning.specs.LogQuery.{text, query}
use Rattle.make_meaning.proofs.Accepted.{log_query_is_accepted}
use Rattle.make_meaning.proofs.GoodFiles.{log_query_ends}
use Rattle.query_run.specs.declared.query_fault.QueryFault.{QueryFault}
use Rattle.query_run.specs.declared.query_fault.QueryFault.TheVariants.{Text, Absent, NotAFile, Damaged, Groups, ReadFault, WriteFault, OutOfMemory}
use Rattle.query_run.specs.declared.sum.QuerySum.{QuerySum}
use Rattle.query_run.specs.Queries.{Refused, unread, unchecked, Accepts, IsTextFault, Refuses, by_reading, by_checking}
use Rattle.query_run.specs.TextFaults.{refused_view}
use Rattle.query_run.specs.Statuses.{status_after}
use Rattle.query_run.specs.Ends as query_ends
use Rattle.query_run.specs.Faults.{HasItsCause, IsQuiet, StopsSo}
use Rattle.scan_meaning.proofs.Arranged.{adds_nothing}
use Rattle.snel_command.proofs.Sink.{Keeps-same}
use Rattle.snel_command.proofs.PackedSo.{adds_none}
use Rattle.snel_command.specs.Makes.{most_groups, QueriesLog}

accepts : Accepts text query
accepts = record { comes = log_query_is_accepted.comes; faultless = log_query_is_accepted.faultless }

inside : (p q : Query) → is_query p ≡ is_query q → p ≡ q
inside p q e = cc

never_refused : (r : Refused) → Refuses text r → ⊥
never_refused (unread v) (by_reading comes fault) = subst IsTextFault (verdict-one text v (is_query query) comes accepts.comes) fault
never_refused (unchecked f) (by_checking {q = q} comes fault) =
    let same : q ≡ query = inside q query (verdict-one text (is_query q) (is_query query) comes accepts.comes) in
    let none : fault_of query ≡ None = accepts.faultless in
    let some : fault_of query ≡ Some f = sym (ap fault_of same) ∙ fault in
    cc

and_false : (b : Bool) → (b && false) ≡ false
and_false true = refl
and_false false = refl

isnt_plain : is_plain query ≡ false
isnt_plain = and_false (not (is_grouped query))

-- no file was looked at
pub nothing_queried : (name : List ℕ) (told : Option Contents) (a : Option (List ℕ)) → QueriesLog name told 10 a a
nothing_queried name told a = record {
  allowed = refl;
  over = λ field bytes rows files is holds there few. record { allowed = refl; wrote = adds_nothing query rows 10 a a (λ e. omega (arith, e)) (Keeps-same a) };
  untold = λ none. ([], adds_none a);
  stopped = λ least most. absurd (omega (arith, most));
}

module _ (name : List ℕ) (told : Option Contents) (old new : Option (List ℕ)) (before now : ℕ) where
  abbrev names : List (List ℕ)
  names = name ∷ []

  allowed_by : (r : Result QuerySum QueryFault) → HasItsCause {A = QuerySum} text most_groups names told r → IsAmong (status_after r) (4 ∷ 8 ∷ 5 ∷ 6 ∷ 7 ∷ 9 ∷ 0 ∷ 10 ∷ [])
  allowed_by (Ok s) h = refl
  allowed_by (Err (Text f)) h = absurd (never_refused (refused_view f) h)
  allowed_by (Err (Absent k)) h = refl
  allowed_by (Err (NotAFile k)) h = refl
  allowed_by (Err (Damaged file block)) h = refl
  allowed_by (Err Groups) h = refl
  allowed_by (Err ReadFault) h = refl
  allowed_by (Err WriteFault) h = refl
  allowed_by (Err OutOfMemory) h = refl

  stopped_by : (r : Result QuerySum QueryFault) → IsQuiet {A = QuerySum} r old new → StopsSo {A = QuerySum} query names told r before now old new → 4 ≤ status_after r → status_after r ≤ 8 → Keeps old new
  stopped_by (Ok s) quiet stops least most = absurd (omega (arith, least))
  stopped_by (Err (Text f)) quiet stops least most = absurd (omega (arith, least))
  stopped_by (Err (Absent k)) quiet stops least most = quiet
  stopped_by (Err (NotAFile k)) quiet stops least most = quiet
  stopped_by (Err (Damaged file block)) quiet stops least most = stops.1 isnt_plain
  stopped_by (Err Groups) quiet stops least most = stops
  stopped_by (Err ReadFault) quiet stops least most = stops.1 isnt_plain
  stopped_by (Err WriteFault) quiet stops least most = absurd (omega (arith, most))
  stopped_by (Err OutOfMemory) quiet stops least most = absurd (omega (arith, most))

  pub queried : (r : Result QuerySum QueryFault) (ns : List (List ℕ)) → ns ≡ name ∷ [] → query_ends.Ends text most_groups ns told (status_after r) old new → HasItsCause {A = QuerySum} text most_groups ns told r → IsQuiet {A = QuerySum} r old new
      → ((q : Query) → Accepts text q → StopsSo {A = QuerySum} q ns told r before now old new) → QueriesLog name told (status_after r) old new
  queried r ns e all_ends all_cause quiet all_stops =
      let ends = subst (λ (l : List (List ℕ)). query_ends.Ends text most_groups l told (status_after r) old new) e all_ends in
      let cause = subst (λ (l : List (List ℕ)). HasItsCause {A = QuerySum} text most_groups l told r) e all_cause in
      let stops = subst (λ (l : List (List ℕ)). StopsSo {A = QuerySum} query l told r before now old new) e (all_stops query accepts) in
      record {
        allowed = allowed_by r cause;
        over = λ field bytes rows files is holds there few.
            log_query_ends most_groups field bytes name rows files (status_after r) old new holds there few
            (λ v found. ends.accepted query v accepts (subst (λ (t : Option Contents). Finds query names t v) (sym is) found));
        untold = λ none. (ends.accepted query untold accepts (subst (λ (t : Option Contents). Finds query names t untold) (sym none) refl)).wrote;
        stopped = stopped_by r quiet stops;
      }
