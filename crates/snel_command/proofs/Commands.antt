-- What each command's own call says of how it came out.
use Rattle.std.proofs.Common.{◌≡◌, ℕ, Bool, true, false, List, Option, None, Result, Ok, Err, ◌<◌, ◌≤◌, refl, sym, ap, subst, ◌∙◌, arith}
use Rattle.std.proofs.Math.Logic.{⊎_elim}
use Rattle.std.proofs.lemmas.Bool.{cases_lt}
use Rattle.std.specs.Prelude.{length}
use Rattle.snel_device.specs.Contents.{Contents}
use Rattle.tree_meaning.specs.Tree.{Query as QueryTree}
use Rattle.scan_meaning.specs.Batches.{front}
use Rattle.scan_meaning.specs.Headline.{AnswersFiles}
use Rattle.query_run.specs.declared.query_fault.QueryFault.{QueryFault}
use Rattle.query_run.specs.declared.query_fault.QueryFault.TheVariants.{Text, Absent, NotAFile, Damaged, Groups, ReadFault, WriteFault, OutOfMemory}
use Rattle.query_run.specs.declared.sum.QuerySum.{QuerySum}
use Rattle.query_run.specs.Queries.{Accepts}
use Rattle.query_run.specs.Statuses as of_query
use Rattle.query_run.specs.Statuses.{IsAbsent}
use Rattle.query_run.specs.Faults.{HasItsCause, IsQuiet, StopsSo}
use Rattle.std.specs.Io.KnownBytes.{Keeps}
use Rattle.query_run.specs.Checking.{HasCheckCause}
use Rattle.query_run.specs.Sums.{SumsUp}
use Rattle.query_run.specs.Headline as query_headline
use Rattle.snel_words.specs.declared.ask.Settings.{Settings}
use Rattle.snel_words.specs.Words.{Packing, nothing, query, check, pack, explain, make}
use Rattle.snel_command.specs.declared.outcome.Refusal.{Refusal}
use Rattle.snel_command.specs.declared.outcome.Refusal.TheVariants.{Words, Query, Pack}
use Rattle.snel_command.specs.declared.outcome.Done.{Done}
use Rattle.snel_command.specs.declared.outcome.Done.TheVariants.{All, Counted}
use Rattle.snel_command.specs.Outcomes.{is_counted, done_of}
use Rattle.snel_command.specs.Causes.{Says, TellsCounts}
use Rattle.snel_command.specs.Headline.{Headline}
use Rattle.snel_command.specs.Stops.{StopsScan}

-- a fault by its status
pub is_absent : (A : Type 0) (f : QueryFault) → of_query.status_of f ≡ 4 → IsAbsent {A = A} (Err f)
is_absent A (Absent k) e = tt
is_absent A (Text q) e = absurd (omega (arith, e))
is_absent A (NotAFile k) e = absurd (omega (arith, e))
is_absent A (Damaged file block) e = absurd (omega (arith, e))
is_absent A Groups e = absurd (omega (arith, e))
is_absent A ReadFault e = absurd (omega (arith, e))
is_absent A WriteFault e = absurd (omega (arith, e))
is_absent A OutOfMemory e = absurd (omega (arith, e))

pub is_read_fault : (f : QueryFault) → of_query.status_of f ≡ 8 → f ≡ ReadFault
is_read_fault ReadFault e = refl
is_read_fault (Text q) e = absurd (omega (arith, e))
is_read_fault (Absent k) e = absurd (omega (arith, e))
is_read_fault (NotAFile k) e = absurd (omega (arith, e))
is_read_fault (Damaged file block) e = absurd (omega (arith, e))
is_read_fault Groups e = absurd (omega (arith, e))
is_read_fault WriteFault e = absurd (omega (arith, e))
is_read_fault OutOfMemory e = absurd (omega (arith, e))

pub is_write_fault : (f : QueryFault) → of_query.status_of f ≡ 9 → f ≡ WriteFault
is_write_fault WriteFault e = refl
is_write_fault (Text q) e = absurd (omega (arith, e))
is_write_fault (Absent k) e = absurd (omega (arith, e))
is_write_fault (NotAFile k) e = absurd (omega (arith, e))
is_write_fault (Damaged file block) e = absurd (omega (arith, e))
is_write_fault Groups e = absurd (omega (arith, e))
is_write_fault ReadFault e = absurd (omega (arith, e))
is_write_fault OutOfMemory e = absurd (omega (arith, e))

-- what a fault says, whatever the answer at Ok
pub query_cause : (A B : Type 0) (sql : List ℕ) (limit : ℕ) (names : List (List ℕ)) (told : Option Contents) (f : QueryFault) → HasItsCause {A = A} sql limit names told (Err f) → HasItsCause {A = B} sql limit names told (Err f)
query_cause A B sql limit names told (Text q) h = h
query_cause A B sql limit names told (Absent k) h = h
query_cause A B sql limit names told (NotAFile k) h = h
query_cause A B sql limit names told (Damaged file block) h = h
query_cause A B sql limit names told Groups h = h
query_cause A B sql limit names told ReadFault h = h
query_cause A B sql limit names told WriteFault h = h
query_cause A B sql limit names told OutOfMemory h = h

pub check_cause : (A B : Type 0) (names : List (List ℕ)) (told : Option Contents) (f : QueryFault) → HasCheckCause {A = A} names told (Err f) → HasCheckCause {A = B} names told (Err f)
check_cause A B names told (Text q) h = h
check_cause A B names told (Absent k) h = h
check_cause A B names told (NotAFile k) h = h
check_cause A B names told (Damaged file block) h = h
check_cause A B names told Groups h = h
check_cause A B names told ReadFault h = h
check_cause A B names told WriteFault h = h
check_cause A B names told OutOfMemory h = h

-- a text is explained without looking at files
pub explain_cause : (sql : List ℕ) (told : Option Contents) (left : Option (List ℕ)) (r : Result Done Refusal) → Says (explain sql) None None r → Says (explain sql) told left r
explain_cause sql told left (Ok All) h = h
explain_cause sql told left (Ok (Counted r s)) h = h
explain_cause sql told left (Err Words) h = h
explain_cause sql told left (Err (Query f)) h = h
explain_cause sql told left (Err (Pack f)) h = h

-- no input is looked at but by packing
pub query_says : (settings : Settings) (sql : List ℕ) (names : List (List ℕ)) (told : Option Contents) (left : Option (List ℕ)) (r : Result Done Refusal) → Says (query settings sql names) told None r → Says (query settings sql names) told left r
query_says settings sql names told left (Ok d) h = h
query_says settings sql names told left (Err Words) h = h
query_says settings sql names told left (Err (Query f)) h = h
query_says settings sql names told left (Err (Pack f)) h = h

pub check_says : (names : List (List ℕ)) (told : Option Contents) (left : Option (List ℕ)) (r : Result Done Refusal) → Says (check names) told None r → Says (check names) told left r
check_says names told left (Ok All) h = h
check_says names told left (Ok (Counted r s)) h = h
check_says names told left (Err Words) h = h
check_says names told left (Err (Query f)) h = h
check_says names told left (Err (Pack f)) h = h

pub make_says : (start count : ℕ) (name : List ℕ) (told : Option Contents) (left : Option (List ℕ)) (r : Result Done Refusal) → Says (make start count name) told None r → Says (make start count name) told left r
make_says start count name told left (Ok All) h = h
make_says start count name told left (Ok (Counted r s)) h = h
make_says start count name told left (Err Words) h = h
make_says start count name told left (Err (Query f)) h = h
make_says start count name told left (Err (Pack f)) h = h

-- no fault of a query says that a file is there already
pub never_exists : (f : QueryFault) → of_query.status_of f ≡ 12 → ⊥
never_exists (Text q) e = omega (arith, e)
never_exists (Absent k) e = omega (arith, e)
never_exists (NotAFile k) e = omega (arith, e)
never_exists (Damaged file block) e = omega (arith, e)
never_exists Groups e = omega (arith, e)
never_exists ReadFault e = omega (arith, e)
never_exists WriteFault e = omega (arith, e)
never_exists OutOfMemory e = omega (arith, e)

-- the counts of a query
pub is_counted_so : (stats : Bool) (r s : ℕ) → is_counted (done_of stats r s) ≡ stats
is_counted_so true r s = refl
is_counted_so false r s = refl

pub tells_counts : (stats : Bool) (sql : List ℕ) (names : List (List ℕ)) (told : Option Contents) (sum : QuerySum) → ((q : QueryTree) → Accepts sql q → SumsUp q names told sum) → TellsCounts stats sql names told (done_of stats sum.read sum.skipped)
tells_counts stats sql names told sum h = record {
  asked = is_counted_so stats sum.read sum.skipped;
  right = λ q accepts files tells bs n count finds counts.
      let s = h q accepts files tells bs n finds in
      ap (λ (r : ℕ). done_of stats r sum.skipped) (s.done count counts).read ∙ ap (λ (k : ℕ). done_of stats (length (front count bs)) k) s.skipped;
}

-- the headline of what is asked
same_text : (s t : Settings) (a b : List ℕ) (c d : List (List ℕ)) → query s a c ≡ query t b d → a ≡ b
same_text s t a b c d e = cc

same_settings : (s t : Settings) (a b : List ℕ) (c d : List (List ℕ)) → query s a c ≡ query t b d → s ≡ t
same_settings s t a b c d e = cc

same_names : (s t : Settings) (a b : List ℕ) (c d : List (List ℕ)) → query s a c ≡ query t b d → c ≡ d
same_names s t a b c d e = cc

module _ (told : Option Contents) (status : ℕ) (old new : Option (List ℕ)) where
  pub of_files : (settings : Settings) (sql : List ℕ) (names : List (List ℕ)) → query_headline.Headline sql settings.groups names told status old new → Headline (query settings sql names) told status old new
  of_files settings sql names h = record {
    answers = λ others text files q asks accepts.
        let text_is = same_text settings others sql text names files asks in
        let here : AnswersFiles q settings.groups names told status old new = h.of_query q (subst (λ (t : List ℕ). Accepts t q) (sym text_is) accepts) in
        subst (λ (n : List (List ℕ)). AnswersFiles q others.groups n told status old new) (same_names settings others sql text names files asks)
        (subst (λ (k : ℕ). AnswersFiles q k names told status old new) (ap (λ (s : Settings). s.groups) (same_settings settings others sql text names files asks)) here);
    made = λ start count name e. absurd (cc);
  }

  pub of_nothing : Headline nothing told status old new
  of_nothing = record { answers = λ settings sql names q asks accepts. absurd (cc); made = λ start count made e. absurd (cc) }

  pub of_check : (names : List (List ℕ)) → Headline (check names) told status old new
  of_check files = record { answers = λ settings sql names q asks accepts. absurd (cc); made = λ start count made e. absurd (cc) }

  pub of_pack : (p : Packing) (name : List ℕ) → Headline (pack p name) told status old new
  of_pack p name = record { answers = λ settings sql names q asks accepts. absurd (cc); made = λ start count made e. absurd (cc) }

  pub of_explain : (sql : List ℕ) → Headline (explain sql) told status old new
  of_explain text = record { answers = λ settings sql names q asks accepts. absurd (cc); made = λ start count made e. absurd (cc) }

-- what is written where a scan stops
module _ (sql : List ℕ) (names : List (List ℕ)) (before now : ℕ) (old new : Option (List ℕ)) where
  pub stops_not : (told : Option Contents) (status : ℕ) → (status ≡ 6 → ⊥) → (status ≡ 7 → ⊥) → (status ≡ 8 → ⊥) → (status ≡ 9 → ⊥) → StopsScan sql names told status before now old new
  stops_not told status no_bad few no_fault uncut = record {
    bad = λ q e accepts plain. absurd (no_bad e);
    unread = λ q e accepts. absurd (no_fault e);
    cut = λ q e accepts plain. absurd (uncut e);
    unwritten = λ q least most accepts other. none status no_bad few no_fault least most;
  }
    where
      none : (n : ℕ) → (n ≡ 6 → ⊥) → (n ≡ 7 → ⊥) → (n ≡ 8 → ⊥) → 6 ≤ n → n ≤ 8 → Keeps old new
      none n a b c least most = ⊎_elim
          (λ (l : n < 7). absurd (a (omega arith)))
          (λ (g : 7 ≤ n). ⊎_elim (λ (l : n < 8). absurd (b (omega arith))) (λ (h : 8 ≤ n). absurd (c (omega arith))) (cases_lt n 8))
          (cases_lt n 7)

  pub stops : (A : Type 0) (told : Option Contents) (f : QueryFault) → ((q : QueryTree) → Accepts sql q → StopsSo {A = A} q names told (Err f) before now old new) → StopsScan sql names told (of_query.status_of f) before now old new
  stops A told (Damaged file block) h = record {
    bad = λ q e accepts plain files tells. let s = (h q accepts).0 plain files tells in (s.0, s.1, (s.2.0, s.2.2));
    unread = λ q e accepts. absurd (omega (arith, e));
    cut = λ q e accepts plain. absurd (omega (arith, e));
    unwritten = λ q least most accepts other. (h q accepts).1 other;
  }
  stops A told Groups h = record {
    bad = λ q e accepts plain. absurd (omega (arith, e));
    unread = λ q e accepts. absurd (omega (arith, e));
    cut = λ q e accepts plain. absurd (omega (arith, e));
    unwritten = λ q least most accepts other. h q accepts;
  }
  stops A told ReadFault h = record {
    bad = λ q e accepts plain. absurd (omega (arith, e));
    unread = λ q e accepts. (h q accepts).0;
    cut = λ q e accepts plain. absurd (omega (arith, e));
    unwritten = λ q least most accepts other. (h q accepts).1 other;
  }
  stops A told WriteFault h = record {
    bad = λ q e accepts plain. absurd (omega (arith, e));
    unread = λ q e accepts. absurd (omega (arith, e));
    cut = λ q e accepts plain. h q accepts plain;
    unwritten = λ q least most accepts other. absurd (omega (arith, most));
  }
  stops A told (Text q) h = stops_not told 3 (λ e. omega (arith, e)) (λ e. omega (arith, e)) (λ e. omega (arith, e)) (λ e. omega (arith, e))
  stops A told (Absent k) h = stops_not told 4 (λ e. omega (arith, e)) (λ e. omega (arith, e)) (λ e. omega (arith, e)) (λ e. omega (arith, e))
  stops A told (NotAFile k) h = stops_not told 5 (λ e. omega (arith, e)) (λ e. omega (arith, e)) (λ e. omega (arith, e)) (λ e. omega (arith, e))
  stops A told OutOfMemory h = stops_not told 10 (λ e. omega (arith, e)) (λ e. omega (arith, e)) (λ e. omega (arith, e)) (λ e. omega (arith, e))

-- a fault before the first batch leaves the sink as it was
pub quiet : (A : Type 0) (f : QueryFault) (old new : Option (List ℕ)) → IsQuiet {A = A} (Err f) old new → 2 ≤ of_query.status_of f → of_query.status_of f ≤ 5 → Keeps old new
quiet A (Text q) old new h least most = h
quiet A (Absent k) old new h least most = h
quiet A (NotAFile k) old new h least most = h
quiet A (Damaged file block) old new h least most = absurd (omega (arith, most))
quiet A Groups old new h least most = absurd (omega (arith, most))
quiet A ReadFault old new h least most = absurd (omega (arith, most))
quiet A WriteFault old new h least most = absurd (omega (arith, most))
quiet A OutOfMemory old new h least most = absurd (omega (arith, most))
