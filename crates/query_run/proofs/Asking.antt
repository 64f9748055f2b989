-- From a text to its query: what a text gives rise to that is refused, and what its one query gives rise to that is accepted.
use Rattle.std.proofs.Common.{◌≡◌, ℕ, true, ◌≤◌, List, Option, None, refl, subst, arith}
use Rattle.std.specs.Prelude.{Result, Ok, Err}
use Rattle.snel_device.specs.Contents.{Contents}
use Rattle.tree_meaning.specs.Tree.{Query}
use Rattle.query_meaning.specs.Faults.{ComesTo, is_query}
use Rattle.program_meaning.specs.Jobs.{Job}
use Rattle.program_meaning.specs.Simulation.{Simulates}
use Rattle.scan_meaning.specs.Verdicts.{Verdict, Finds}
use Rattle.scan_meaning.specs.Answers.{EndsAs}
use Rattle.scan_meaning.specs.Causes.{StaysWithin}
use Rattle.scan_meaning.proofs.Ended.{ended_is_answered}
use Rattle.query_run.specs.Queries.{Accepts, IsRefused}
use Rattle.query_run.specs.TextFaults.{refused_view}
use Rattle.query_run.specs.Jobs.{Compiles}
use Rattle.query_run.specs.Statuses.{status_of}
use Rattle.query_run.specs.Headline.{Headline}
use Rattle.query_run.specs.Ends.{Ends, Reads}
use Rattle.query_run.specs.Faults.{SaysOfText, SaysOfQuery, HasItsCause, IsQuiet, StopsSo}
use Rattle.query_run.specs.declared.query_fault.QueryFault.{QueryFault}
use Rattle.query_run.specs.declared.query_fault.QueryFault.TheVariants.{Text, Absent, NotAFile, Damaged, Groups, ReadFault, WriteFault, OutOfMemory}
use Rattle.query_run.proofs.Accepted.{one_accepted, not_both, same_query}
use Rattle.check_meaning.specs.Verdict.{fault_of}
use Rattle.query_run.proofs.Sink.{Keeps-same}
use Rattle.query_run.proofs.Refusing.{memory_end}

pub text_ends : (sql : List ℕ) (limit : ℕ) (names : List (List ℕ)) (told : Option Contents) (fault : QueryFault) (a : Option (List ℕ)) → SaysOfText sql fault → Ends sql limit names told (status_of fault) a a
text_ends sql limit names told (Text f) a h = record {
  refused = λ r. refl;
  unwritten = λ r. Keeps-same a;
  accepted = λ q v accepts found. absurd (not_both sql (refused_view f) (q, accepts) h);
}
text_ends sql limit names told OutOfMemory a h = record {
  refused = λ r. refl;
  unwritten = λ r. Keeps-same a;
  accepted = λ q v accepts found. memory_end q limit v a;
}
text_ends sql limit names told (Absent k) a h = absurd h
text_ends sql limit names told (NotAFile k) a h = absurd h
text_ends sql limit names told (Damaged f b) a h = absurd h
text_ends sql limit names told Groups a h = absurd h
text_ends sql limit names told ReadFault a h = absurd h
text_ends sql limit names told WriteFault a h = absurd h

pub text_cause : (A : Type 0) (sql : List ℕ) (limit : ℕ) (names : List (List ℕ)) (told : Option Contents) (fault : QueryFault) → SaysOfText sql fault → HasItsCause {A = A} sql limit names told (Err fault)
text_cause A sql limit names told (Text f) h = h
text_cause A sql limit names told OutOfMemory h = tt
text_cause A sql limit names told (Absent k) h = absurd h
text_cause A sql limit names told (NotAFile k) h = absurd h
text_cause A sql limit names told (Damaged f b) h = absurd h
text_cause A sql limit names told Groups h = absurd h
text_cause A sql limit names told ReadFault h = absurd h
text_cause A sql limit names told WriteFault h = absurd h

pub text_quiet : (A : Type 0) (sql : List ℕ) (fault : QueryFault) (a : Option (List ℕ)) → SaysOfText sql fault → IsQuiet {A = A} (Err fault) a a
text_quiet A sql (Text f) a h = Keeps-same a
text_quiet A sql OutOfMemory a h = tt
text_quiet A sql (Absent k) a h = absurd h
text_quiet A sql (NotAFile k) a h = absurd h
text_quiet A sql (Damaged f b) a h = absurd h
text_quiet A sql Groups a h = absurd h
text_quiet A sql ReadFault a h = absurd h
text_quiet A sql WriteFault a h = absurd h

pub text_stops : (A : Type 0) (sql : List ℕ) (names : List (List ℕ)) (told : Option Contents) (fault : QueryFault) (before now : ℕ) (a : Option (List ℕ)) → SaysOfText sql fault → (q : Query) → Accepts sql q → StopsSo {A = A} q names told (Err fault) before now a a
text_stops A sql names told (Text f) before now a h q accepts = tt
text_stops A sql names told OutOfMemory before now a h q accepts = tt
text_stops A sql names told (Absent k) before now a h q accepts = absurd h
text_stops A sql names told (NotAFile k) before now a h q accepts = absurd h
text_stops A sql names told (Damaged f b) before now a h q accepts = absurd h
text_stops A sql names told Groups before now a h q accepts = absurd h
text_stops A sql names told ReadFault before now a h q accepts = absurd h
text_stops A sql names told WriteFault before now a h q accepts = absurd h

pub text_reads : (sql : List ℕ) (names : List (List ℕ)) (told : Option Contents) (n : ℕ) → Reads sql names told n n
text_reads sql names told n = record { later = omega arith; refused = λ r. refl; accepted = λ q accepts files is v cost found costs. omega arith }

-- the headline follows from how the query ends
pub headline : (sql : List ℕ) (limit : ℕ) (names : List (List ℕ)) (told : Option Contents) (status : ℕ) (old new : Option (List ℕ)) → Ends sql limit names told status old new → Headline sql limit names told status old new
headline sql limit names told status old new ends = record {
  of_query = λ q accepts. ended_is_answered q limit names told status old new (λ v found. ends.accepted q v accepts found);
}

-- the one query of an accepted text
module _ (sql : List ℕ) (q : Query) (comes : ComesTo sql (is_query q)) (job : Job) (compiles : Compiles sql job) where
  pub accepts_it : Accepts sql q
  accepts_it = record { comes = comes; faultless = subst (λ (p : Query). fault_of p ≡ None) same compiles.accepts.faultless }
    where
      same : compiles.q ≡ q
      same = same_query sql compiles.q q compiles.accepts.comes comes

  pub simulates_it : Simulates job q
  simulates_it = subst (λ (p : Query). Simulates job p) (one_accepted sql compiles.q q compiles.accepts accepts_it) compiles.simulates

  pub only_it : (P : Query → Type 0) → P q → (p : Query) → Accepts sql p → P p
  only_it P h p accepts = subst P (one_accepted sql q p accepts_it accepts) h

  pub not_refused : {X : Type 0} → IsRefused sql → X
  not_refused r = absurd (not_both sql r.0 (q, accepts_it) r.1)

  pub asked_ends : (limit : ℕ) (names : List (List ℕ)) (told : Option Contents) (status : ℕ) (old new : Option (List ℕ)) → ((v : Verdict) → Finds q names told v → EndsAs q limit v status old new) → Ends sql limit names told status old new
  asked_ends limit names told status old new ends = record {
    refused = λ r. not_refused r;
    unwritten = λ r. not_refused r;
    accepted = λ p v accepts found. only_it (λ p. (v : Verdict) → Finds p names told v → EndsAs p limit v status old new) ends p accepts v found;
  }

  pub asked_reads : (names : List (List ℕ)) (told : Option Contents) (before now : ℕ) → before ≤ now → StaysWithin q names told before now → Reads sql names told before now
  asked_reads names told before now le within = record {
    later = le;
    refused = λ r. not_refused r;
    accepted = λ p accepts. only_it (λ p. StaysWithin p names told before now) within p accepts;
  }

  pub asked_cause : {A : Type 0} (limit : ℕ) (names : List (List ℕ)) (told : Option Contents) (r : Result A QueryFault) → SaysOfQuery q limit names told r → HasItsCause sql limit names told r
  asked_cause {A} limit names told (Ok a) h = ((q, accepts_it), λ p accepts. only_it (λ p. SaysOfQuery {A = A} p limit names told (Ok a)) h p accepts)
  asked_cause {A} limit names told (Err (Absent k)) h = ((q, accepts_it), λ p accepts. only_it (λ p. SaysOfQuery {A = A} p limit names told (Err (Absent k))) h p accepts)
  asked_cause {A} limit names told (Err (NotAFile k)) h = ((q, accepts_it), λ p accepts. only_it (λ p. SaysOfQuery {A = A} p limit names told (Err (NotAFile k))) h p accepts)
  asked_cause {A} limit names told (Err (Damaged f b)) h = ((q, accepts_it), λ p accepts. only_it (λ p. SaysOfQuery {A = A} p limit names told (Err (Damaged f b))) h p accepts)
  asked_cause {A} limit names told (Err Groups) h = ((q, accepts_it), λ p accepts. only_it (λ p. SaysOfQuery {A = A} p limit names told (Err Groups)) h p accepts)
  asked_cause {A} limit names told (Err ReadFault) h = ((q, accepts_it), λ p accepts. only_it (λ p. SaysOfQuery {A = A} p limit names told (Err ReadFault)) h p accepts)
  asked_cause {A} limit names told (Err WriteFault) h = ((q, accepts_it), λ p accepts. only_it (λ p. SaysOfQuery {A = A} p limit names told (Err WriteFault)) h p accepts)
  asked_cause limit names told (Err OutOfMemory) h = tt
  asked_cause limit names told (Err (Text f)) h = absurd h
