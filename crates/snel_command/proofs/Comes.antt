-- When statuses come.
use Rattle.std.proofs.Common.{◌≡◌, ◌⊎◌, inl, inr, ℕ, List, [], ◌∷◌, Bool, true, false, eqb, Option, Some, Result, Ok, Err, refl, ap, sym, subst, ◌∙◌, arith}
use Rattle.std.proofs.lemmas.Bool.Decides.{nat_tests}
use Rattle.std.specs.Prelude.{IsTrue, ◌==◌}
use Rattle.std.specs.List.{list_any}
use Rattle.snel_device.specs.Contents.{Contents}
use Rattle.scan_meaning.specs.Verdicts.{IsAmong}
use Rattle.scan_meaning.specs.Opened.{Named}
use Rattle.scan_meaning.specs.Checks.{Checked, sound, checked_from, check_statuses}
use Rattle.scan_meaning.proofs.Batches.{first_of_all}
use Rattle.scan_meaning.proofs.Named.{all_named}
use Rattle.query_run.specs.declared.text_fault.TextFault.{TextFault}
use Rattle.query_run.specs.declared.query_fault.QueryFault.{QueryFault}
use Rattle.query_run.specs.declared.query_fault.QueryFault.TheVariants.{Text, Absent, NotAFile, Damaged, Groups, ReadFault, WriteFault, OutOfMemory}
use Rattle.query_run.specs.Queries.{IsRefused}
use Rattle.query_run.specs.Statuses as of_query
use Rattle.query_run.specs.TextFaults.{refused_view}
use Rattle.snel_words.specs.Words.{Ask, nothing, query, check, pack, explain, make}
use Rattle.snel_command.specs.declared.outcome.Refusal.{Refusal}
use Rattle.snel_command.specs.declared.outcome.Refusal.TheVariants.{Words, Query, Pack}
use Rattle.snel_command.specs.declared.outcome.Done.{Done}
use Rattle.snel_command.specs.Outcomes.{status_after, status_of_pack}
use Rattle.json_pack.specs.declared.sums.PackFault.{PackFault}
use Rattle.json_pack.specs.declared.sums.PackFault.TheVariants as of_pack
use Rattle.snel_command.specs.Causes.{Says, CameOut}
use Rattle.snel_command.specs.Ends.{Ends}
use Rattle.snel_command.specs.Comes.{Comes, text_of}
use Rattle.snel_command.specs.Exactly.{Exactly}
use Rattle.snel_command.specs.Effects.{ReadFailed, WriteFailed}

-- an outcome by its status
no_words : (f : QueryFault) → of_query.status_of f ≡ 2 → ⊥
no_words (Text q) e = omega (arith, e)
no_words (Absent k) e = omega (arith, e)
no_words (NotAFile k) e = omega (arith, e)
no_words (Damaged file block) e = omega (arith, e)
no_words Groups e = omega (arith, e)
no_words ReadFault e = omega (arith, e)
no_words WriteFault e = omega (arith, e)
no_words OutOfMemory e = omega (arith, e)

pack_no_words : (f : PackFault) → status_of_pack f ≡ 2 → ⊥
pack_no_words of_pack.Exists e = omega (arith, e)
pack_no_words (of_pack.Line n why) e = omega (arith, e)
pack_no_words of_pack.ReadFault e = omega (arith, e)
pack_no_words of_pack.WriteFault e = omega (arith, e)
pack_no_words of_pack.OutOfMemory e = omega (arith, e)

pack_no_text : (f : PackFault) → status_of_pack f ≡ 3 → ⊥
pack_no_text of_pack.Exists e = omega (arith, e)
pack_no_text (of_pack.Line n why) e = omega (arith, e)
pack_no_text of_pack.ReadFault e = omega (arith, e)
pack_no_text of_pack.WriteFault e = omega (arith, e)
pack_no_text of_pack.OutOfMemory e = omega (arith, e)

words_refused : (o : Result Done Refusal) → status_after o ≡ 2 → o ≡ Err Words
words_refused (Ok d) e = absurd (omega (arith, e))
words_refused (Err Words) e = refl
words_refused (Err (Query f)) e = absurd (no_words f e)
words_refused (Err (Pack f)) e = absurd (pack_no_words f e)

text_fault : (f : QueryFault) → of_query.status_of f ≡ 3 → (t : TextFault) × (f ≡ Text t)
text_fault (Text q) e = (q, refl)
text_fault (Absent k) e = absurd (omega (arith, e))
text_fault (NotAFile k) e = absurd (omega (arith, e))
text_fault (Damaged file block) e = absurd (omega (arith, e))
text_fault Groups e = absurd (omega (arith, e))
text_fault ReadFault e = absurd (omega (arith, e))
text_fault WriteFault e = absurd (omega (arith, e))
text_fault OutOfMemory e = absurd (omega (arith, e))

text_refused : (o : Result Done Refusal) → status_after o ≡ 3 → (t : TextFault) × (o ≡ Err (Query (Text t)))
text_refused (Ok d) e = absurd (omega (arith, e))
text_refused (Err Words) e = absurd (omega (arith, e))
text_refused (Err (Pack f)) e = absurd (pack_no_text f e)
text_refused (Err (Query f)) e = let t = text_fault f e in (t.0, ap (λ (x : QueryFault). Err (Query x)) t.1)

-- a status among others
one_of : (n a : ℕ) (ss : List ℕ) → IsTrue (list_any (λ s. s == n) (a ∷ ss)) → (n ≡ a) ⊎ IsTrue (list_any (λ s. s == n) ss)
one_of n a ss h = go (eqb a n) refl
  where
    go : (b : Bool) → eqb a n ≡ b → (n ≡ a) ⊎ IsTrue (list_any (λ s. s == n) ss)
    go true e = inl (grind (arith, nat_tests))
    go false e = inr (rw e at h)

but : (n a : ℕ) (ss : List ℕ) → (n ≡ a → ⊥) → IsTrue (list_any (λ s. s == n) (a ∷ ss)) → IsTrue (list_any (λ s. s == n) ss)
but n a ss other h = elim (one_of n a ss h) [ inl e ↦ absurd (other e) | inr k ↦ k ]

one_of_two : (n a b : ℕ) → IsTrue (list_any (λ s. s == n) (a ∷ b ∷ [])) → (n ≡ a) ⊎ (n ≡ b)
one_of_two n a b h = elim (one_of n a (b ∷ []) h) [
  | inl x ↦ inl x
  | inr y ↦ elim (one_of n b [] y) [ inl z ↦ inr z | inr none ↦ absurd (cc) ]
]

-- 7 or 10 of the statuses of a scan behind its reads
moved_to : (n : ℕ) → IsTrue (list_any (λ s. s == n) (6 ∷ 7 ∷ 9 ∷ 0 ∷ 10 ∷ [])) → (n ≡ 6 → ⊥) → (n ≡ 9 → ⊥) → (n ≡ 0 → ⊥) → IsTrue (list_any (λ s. s == n) (7 ∷ 10 ∷ []))
moved_to n h a b c = elim (one_of n 7 (9 ∷ 0 ∷ 10 ∷ []) (but n 6 (7 ∷ 9 ∷ 0 ∷ 10 ∷ []) a h)) [
  | inl e ↦ rw e refl
  | inr k ↦ elim (one_of n 10 [] (but n 0 (10 ∷ []) c (but n 9 (0 ∷ 10 ∷ []) b k))) [ inl e ↦ rw e refl | inr none ↦ absurd (cc) ]
]

module _ (told : Option Contents) (left : Option (List ℕ)) (status faults now : ℕ) (old new told_old told_new : Option (List ℕ)) where
  words_exactly : (ask : Ask) → Ends ask told left status old new → CameOut ask told left status faults now told_old told_new → Exactly 2 status (ask ≡ nothing)
  words_exactly nothing ends came = record { only = λ e. refl; always = λ e. one_of_two status 2 10 ends.allowed }
  words_exactly (query settings sql names) ends came = record {
    only = λ e. absurd (subst (λ (o : Result Done Refusal). Says (query settings sql names) told left o) (words_refused came.outcome (sym came.is ∙ e)) came.says);
    always = λ e. absurd (cc);
  }
  words_exactly (check names) ends came = record {
    only = λ e. absurd (subst (λ (o : Result Done Refusal). Says (check names) told left o) (words_refused came.outcome (sym came.is ∙ e)) came.says);
    always = λ e. absurd (cc);
  }
  words_exactly (pack p name) ends came = record {
    only = λ e. absurd (subst (λ (o : Result Done Refusal). Says (pack p name) told left o) (words_refused came.outcome (sym came.is ∙ e)) came.says);
    always = λ e. absurd (cc);
  }
  words_exactly (make start count name) ends came = record {
    only = λ e. absurd (subst (λ (o : Result Done Refusal). Says (make start count name) told left o) (words_refused came.outcome (sym came.is ∙ e)) came.says);
    always = λ e. absurd (cc);
  }
  words_exactly (explain sql) ends came = record {
    only = λ e. absurd (subst (λ (o : Result Done Refusal). Says (explain sql) told left o) (words_refused came.outcome (sym came.is ∙ e)) came.says);
    always = λ e. absurd (cc);
  }

  text_exactly : (ask : Ask) → Ends ask told left status old new → CameOut ask told left status faults now told_old told_new → (sql : List ℕ) → text_of ask ≡ Some sql → Exactly 3 status (IsRefused sql)
  text_exactly nothing ends came sql is = absurd (cc)
  text_exactly (check names) ends came sql is = absurd (cc)
  text_exactly (pack p name) ends came sql is = absurd (cc)
  text_exactly (make start count name) ends came sql is = absurd (cc)
  text_exactly (query settings text names) ends came sql is =
      let same : text ≡ sql = cc in
      subst (λ (t : List ℕ). Exactly 3 status (IsRefused t)) same (record {
        only = λ e. let t = text_refused came.outcome (sym came.is ∙ e) in
            (refused_view t.0, subst (λ (o : Result Done Refusal). Says (query settings text names) told left o) t.1 came.says);
        always = λ refused. one_of_two status 3 10 (ends.refused refused);
      })
  text_exactly (explain text) ends came sql is =
      let same : text ≡ sql = cc in
      subst (λ (t : List ℕ). Exactly 3 status (IsRefused t)) same (record {
        only = λ e. let t = text_refused came.outcome (sym came.is ∙ e) in
            (refused_view t.0, subst (λ (o : Result Done Refusal). Says (explain text) told left o) t.1 came.says);
        always = λ refused. one_of_two status 3 10 (ends.refused refused);
      })

-- what the status of a check of sound files may be
sound_statuses : (names : List (List ℕ)) (files : Contents) (status : ℕ) (fs gs : List Named) → fs ≡ gs → sound ≡ checked_from 0 gs → IsAmong status (check_statuses (checked_from 0 fs)) → IsAmong status (8 ∷ 9 ∷ 0 ∷ 10 ∷ [])
sound_statuses names files status fs gs same is h =
    subst (λ (c : Checked). IsAmong status (check_statuses c)) (ap (checked_from 0) same ∙ sym is) h

pub comes : (ask : Ask) (told : Option Contents) (left : Option (List ℕ)) (status faults now reads_before reads_now writes_before writes_now files_before files_now input_before input_now : ℕ) (old new told_old told_new : Option (List ℕ)) → Ends ask told left status old new → CameOut ask told left status faults now told_old told_new → (status ≡ 8 → ReadFailed ask reads_before reads_now input_before input_now) → (status ≡ 9 → WriteFailed ask files_before files_now writes_before writes_now) → Comes ask told status reads_before reads_now writes_before writes_now
comes ask told left status faults now reads_before reads_now writes_before writes_now files_before files_now input_before input_now old new told_old told_new ends came reads writes = record {
  words = words_exactly told left status faults now old new told_old told_new ask ends came;
  text = text_exactly told left status faults now old new told_old told_new ask ends came;
  answered = λ settings sql names q bs n asks accepts finds good within no_read no_write.
      let here = subst (λ (a : Ask). Ends a told left status old new) asks ends in
      let read_failed = subst (λ (a : Ask). status ≡ 8 → ReadFailed a reads_before reads_now input_before input_now) asks reads in
      let write_failed = subst (λ (a : Ask). status ≡ 9 → WriteFailed a files_before files_now writes_before writes_now) asks writes in
      let so = here.accepted q _ accepts finds in
      let no_bad : status ≡ 6 → ⊥ = λ e. let b = so.wrote.bad e in let first = first_of_all q bs b.0 b.1 in cc in
      let few : status ≡ 7 → ⊥ = λ e. let over = (so.wrote.over e).1 in cc in
      one_of_two status 0 10 (but status 9 (0 ∷ 10 ∷ []) (λ e. no_write (write_failed e)) (but status 7 (9 ∷ 0 ∷ 10 ∷ []) few
      (but status 6 (7 ∷ 9 ∷ 0 ∷ 10 ∷ []) no_bad (but status 8 (6 ∷ 7 ∷ 9 ∷ 0 ∷ 10 ∷ []) (λ e. no_read (read_failed e)) so.allowed))));
  over = λ settings sql names q bs n asks accepts finds good over no_read.
      let here = subst (λ (a : Ask). Ends a told left status old new) asks ends in
      let read_failed = subst (λ (a : Ask). status ≡ 8 → ReadFailed a reads_before reads_now input_before input_now) asks reads in
      let so = here.accepted q _ accepts finds in
      let no_bad : status ≡ 6 → ⊥ = λ e. let b = so.wrote.bad e in let first = first_of_all q bs b.0 b.1 in cc in
      let undone : status ≡ 0 → ⊥ = λ e. let within = so.wrote.within (inl e) in cc in
      let uncut : status ≡ 9 → ⊥ = λ e. let within = so.wrote.within (inr e) in cc in
      one_of_two status 7 10 (moved_to status (but status 8 (6 ∷ 7 ∷ 9 ∷ 0 ∷ 10 ∷ []) (λ e. no_read (read_failed e)) so.allowed) no_bad uncut undone);
  checked = λ names files asks tells sounds no_read no_write.
      let here = subst (λ (a : Ask). Ends a told left status old new) asks ends in
      let read_failed = subst (λ (a : Ask). status ≡ 8 → ReadFailed a reads_before reads_now input_before input_now) asks reads in
      let write_failed = subst (λ (a : Ask). status ≡ 9 → WriteFailed a files_before files_now writes_before writes_now) asks writes in
      let ended = here files tells sound sounds in
      let among = sound_statuses names files status ended.files_are sounds.files_are
      (all_named files names ended.files_are sounds.files_are ended.are sounds.are) sounds.is ended.allowed in
      one_of_two status 0 10 (but status 9 (0 ∷ 10 ∷ []) (λ e. no_write (write_failed e)) (but status 8 (9 ∷ 0 ∷ 10 ∷ []) (λ e. no_read (read_failed e)) among));
  listed = λ sql asks accepted no_write.
      let here = subst (λ (a : Ask). Ends a told left status old new) asks ends in
      let read_failed = subst (λ (a : Ask). status ≡ 8 → ReadFailed a reads_before reads_now input_before input_now) asks reads in
      let write_failed = subst (λ (a : Ask). status ≡ 9 → WriteFailed a files_before files_now writes_before writes_now) asks writes in
      one_of_two status 0 10 (but status 9 (0 ∷ 10 ∷ []) (λ e. no_write (write_failed e)) (here.accepted accepted));
}
