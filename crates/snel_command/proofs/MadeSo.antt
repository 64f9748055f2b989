-- What a make's own calls say of how it came out.
use Rattle.std.proofs.Common.{◌≡◌, ◌⊎◌, inl, inr, ◌↔◌, ℕ, ◌+◌, ◌^◌, ◌-◌, ◌≤◌, suc, zero, eqb, Bool, true, false, List, [], ◌∷◌, ◌++◌, length, take, drop, Option, Some, None, Result, Ok, Err, refl, sym, ap, subst, ◌∙◌, append_assoc, arith}
use Rattle.std.specs.Prelude.{min, codes, IsTrue, ◌==◌, ◌||◌, IsSome, IsErrOf}
use Rattle.std.specs.List.{list_any}
use Rattle.std.specs.Option.{ForSome, option_map}
use Rattle.std.specs.Io.KnownBytes.{Appends, Keeps}
use Rattle.std.specs.Str.{bytes_eq}
use Rattle.std.proofs.lemmas.List.{take_all, take-append-drop, length-append}
use Rattle.std.proofs.lemmas.Bool.Decides.{nat_tests}
use Rattle.std.proofs.lemmas.Slice.Eq.{bytes_eq-Decides}
use Rattle.snel_device.specs.Causes.{Rose, HasCause}
use Rattle.snel_device.specs.Contents.{Contents, Sets, with_file}
use Rattle.snel_device.proofs.Told.{made_is_there}
use Rattle.answer_meaning.specs.Lines.{print}
use Rattle.scan_meaning.specs.Verdicts.{IsAmong}
use Rattle.scan_meaning.specs.Answers.{AddsAnswer}
use Rattle.scan_meaning.proofs.Arranged.{some_answer}
use Rattle.log_meaning.specs.Rows.{log_rows, log_row}
use Rattle.make_meaning.specs.LogQuery.{query, EndsOver}
use Rattle.query_run.specs.declared.query_fault.QueryFault.{QueryFault}
use Rattle.query_run.specs.declared.query_fault.QueryFault.TheVariants as of_query
use Rattle.query_run.specs.Statuses as statuses
use Rattle.json_pack.specs.declared.sums.PackFault.{PackFault}
use Rattle.json_pack.specs.declared.sums.PackFault.TheVariants.{Exists, Line, ReadFault, WriteFault, OutOfMemory}
use Rattle.json_pack.specs.declared.sums.PackSum.{PackSum}
use Rattle.json_pack.specs.Making.{made_file, HoldsLog, LeavesLogFront}
use Rattle.snel_words.specs.Words.{make}
use Rattle.snel_command.specs.Outcomes.{status_of_pack}
use Rattle.snel_command.specs.Headline.{Headline}
use Rattle.snel_command.specs.Makes.{log_line, most_groups, PutsLog, QueriesLog, EndsMake, SaysOfMaking, SaysOfLogQuery, MakesLog, ComesOfMake}
use Rattle.snel_command.proofs.Sink.{Keeps-same, Appends-both}
use Rattle.snel_command.proofs.PackedSo.{failed, never_done, is_exists, status_of_failed, none_is_not, adds_none}

-- a count that rose after a later place rose after an earlier one
pub rose_later : (a b c : ℕ) → a ≤ b → Rose b c → Rose a c
rose_later a b c h r = omega arith

-- a log has as many rows as it was asked for
pub rows_counted : (start count : ℕ) → length (log_rows start count) ≡ count
rows_counted start zero = refl
rows_counted start (suc count) = let h = rows_counted start count in length-append (log_rows start count) (log_row start count ∷ []) ∙ omega arith

-- the file that was set is there
pub with_same : (name bytes : List ℕ) (files : Contents) → with_file name bytes files name ≡ Some bytes
with_same name bytes files = made_is_there name bytes files

-- nothing more was put
keeps_line : (old mid new : Option (List ℕ)) (l : List ℕ) → Appends old mid l → Keeps mid new → Appends old new l
keeps_line None mid new l h k = tt
keeps_line (Some xs) None new l h k = absurd h
keeps_line (Some xs) (Some ys) None l h k = absurd k
keeps_line (Some xs) (Some ys) (Some zs) l h k = k ∙ h

-- a status among others
or_more : (b c : Bool) → IsTrue c → IsTrue (b || c)
or_more true c h = refl
or_more false c h = h

one_of : (n a : ℕ) (ss : List ℕ) → IsTrue (list_any (λ s. s == n) (a ∷ ss)) → (n ≡ a) ⊎ IsTrue (list_any (λ s. s == n) ss)
one_of n a ss h = go (eqb a n) refl
  where
    go : (b : Bool) → eqb a n ≡ b → (n ≡ a) ⊎ IsTrue (list_any (λ s. s == n) ss)
    go true e = inl (grind (arith, nat_tests))
    go false e = inr (rw e at h)

abbrev pub Only : PackFault → Type 0
Only f = (f ≡ Exists) ⊎ (f ≡ WriteFault) ⊎ (f ≡ OutOfMemory)

abbrev pub Cut : PackFault → Type 0
Cut f = (f ≡ WriteFault) ⊎ (f ≡ OutOfMemory)

module _ (start count : ℕ) where
  abbrev line : List ℕ
  line = log_line start count

  pub puts_front : (n status : ℕ) (old new : Option (List ℕ)) → (status ≡ 0 → ⊥) → Appends old new (take n line) → PutsLog start count status old new
  puts_front n status old new never front =
      let answer = some_answer query (log_rows start count) in
      record {
        outputs = answer.0;
        answer = answer.1;
        added = take n line;
        appends = front;
        whole = λ e. absurd (never e);
        front = (
          drop n line ++ print answer.0,
          ap (λ (l : List ℕ). l ++ print answer.0) (sym (take-append-drop n line)) ∙ append_assoc (take n line) (drop n line) (print answer.0),
        );
      }

  pub puts_none : (status : ℕ) (a : Option (List ℕ)) → (status ≡ 0 → ⊥) → PutsLog start count status a a
  puts_none status a never = puts_front 0 status a a never (adds_none a)

  puts_answer : (status : ℕ) (old mid new : Option (List ℕ)) → Appends old mid line → AddsAnswer query (log_rows start count) status mid new → PutsLog start count status old new
  puts_answer status old mid new lined w = record {
    outputs = w.outputs;
    answer = w.answer;
    added = line ++ w.added;
    appends = Appends-both old mid new line w.added lined w.appends;
    whole = λ e. ap (λ (l : List ℕ). line ++ l) (w.whole e);
    front = (w.front.0, ap (λ (l : List ℕ). line ++ l) w.front.1 ∙ sym (append_assoc line w.added w.front.0));
  }

  module _ (name : List ℕ) (told : Option Contents) where
    headline : (status : ℕ) (old new : Option (List ℕ)) → ForSome told (λ files. PutsLog start count status old new) → Headline (make start count name) told status old new
    headline status old new puts = record {
      answers = λ settings sql names q asks accepts. absurd (cc);
      made = λ s c n asks files is.
          subst (λ (k : ℕ). PutsLog k c status old new) (same_start asks) (subst (λ (k : ℕ). PutsLog start k status old new) (same_count asks) (puts files is));
    }
      where
        same_start : {s c : ℕ} {n : List ℕ} → make start count name ≡ make s c n → start ≡ s
        same_start e = cc

        same_count : {s c : ℕ} {n : List ℕ} → make start count name ≡ make s c n → count ≡ c
        same_count e = cc

    abbrev IsThere : Result PackSum PackFault → Type 0
    IsThere r = ForSome told (λ files. IsErrOf r Exists ↔ IsSome (files name))

    -- where no file was made
    pub unmade_headline : (f : PackFault) (a : Option (List ℕ)) → Headline (make start count name) told (status_of_pack f) a a
    unmade_headline f a = headline (status_of_pack f) a a (λ files is. puts_none (status_of_pack f) a (never_done f))

    pub unmade_ends : (f : PackFault) (a : Option (List ℕ)) → Only f → EndsMake start count told (status_of_pack f) a a
    unmade_ends Exists a only = record { allowed = refl; found = λ files is. refl; done = λ e. absurd (omega (arith, e)); lined = λ least most. absurd (omega (arith, most)); quiet = λ e. Keeps-same a }
    unmade_ends WriteFault a only = record { allowed = refl; found = λ files is. refl; done = λ e. absurd (omega (arith, e)); lined = λ least most. absurd (omega (arith, most)); quiet = λ e. Keeps-same a }
    unmade_ends OutOfMemory a only = record { allowed = refl; found = λ files is. refl; done = λ e. absurd (omega (arith, e)); lined = λ least most. absurd (omega (arith, most)); quiet = λ e. Keeps-same a }
    unmade_ends (Line n why) a only = absurd (elim only [ inl e ↦ cc | inr k ↦ elim k [ inl e ↦ cc | inr e ↦ cc ] ])
    unmade_ends ReadFault a only = absurd (elim only [ inl e ↦ cc | inr k ↦ elim k [ inl e ↦ cc | inr e ↦ cc ] ])

    pub unmade_says : (f : PackFault) → Only f → IsThere (failed f) → SaysOfMaking name told f
    unmade_says Exists only there = λ files is. (there files is).0 refl
    unmade_says WriteFault only there = tt
    unmade_says OutOfMemory only there = tt
    unmade_says (Line n why) only there = absurd (elim only [ inl e ↦ cc | inr k ↦ elim k [ inl e ↦ cc | inr e ↦ cc ] ])
    unmade_says ReadFault only there = absurd (elim only [ inl e ↦ cc | inr k ↦ elim k [ inl e ↦ cc | inr e ↦ cc ] ])

    not_stopped : (f : PackFault) → Only f → 4 ≤ status_of_pack f → status_of_pack f ≤ 8 → ⊥
    not_stopped Exists only least most = omega (arith, most)
    not_stopped WriteFault only least most = omega (arith, most)
    not_stopped OutOfMemory only least most = omega (arith, most)
    not_stopped (Line n why) only least most = omega (arith, most)
    not_stopped ReadFault only least most = elim only [ inl e ↦ cc | inr k ↦ elim k [ inl e ↦ cc | inr e ↦ cc ] ]

    pub unmade_makes : (f : PackFault) (old new : Option Contents) → Only f → LeavesLogFront start count old new name → (IsErrOf (failed f) Exists → new ≡ old) → MakesLog start count name (status_of_pack f) old new
    unmade_makes f old new only leaves kept = record {
      whole = λ e. absurd (never_done f e);
      holds = λ e. absurd (never_done f e);
      queried = λ least most. absurd (not_stopped f only least most);
      front = leaves;
      kept = λ e. kept (is_exists f e);
    }

    module _ (files_before files_now out_before out_now : ℕ) where
      pub unmade_comes : (f : PackFault) → Only f → IsThere (failed f) → HasCause files_before files_now (IsErrOf (failed f) WriteFault) → ComesOfMake name told (status_of_pack f) files_before files_now out_before out_now
      unmade_comes f only there write = record {
        exists = λ files is. record { only = λ e. (there files is).0 (is_exists f e); always = λ some. inl (status_of_failed f Exists ((there files is).1 some)) };
        done = λ files is none no_write no_put. elim only [
          | inl e ↦ absurd (none_is_not (List ℕ) (files name) none ((there files is).0 (ap failed e)))
          | inr k ↦ elim k [ inl e ↦ absurd (no_write (write.rose (ap failed e))) | inr e ↦ inr (inr (ap status_of_pack e)) ]
        ];
      }

      made_comes : (n : ℕ) (sum : PackSum) → (n ≡ 12 → ⊥) → IsThere (Ok sum) → (ForSome told (λ files. ¬ Rose files_before files_now → ¬ Rose out_before out_now → (n ≡ 0) ⊎ ((n ≡ 8) ⊎ (n ≡ 10)))) → ComesOfMake name told n files_before files_now out_before out_now
      made_comes n sum never there done = record {
        exists = λ files is. record { only = λ e. absurd (never e); always = λ some. let no = (there files is).1 some in absurd (cc) };
        done = λ files is none no_write no_put. done files is no_write no_put;
      }

      pub cut_comes : (f : PackFault) (sum : PackSum) → Cut f → IsThere (Ok sum) → HasCause out_before out_now (IsErrOf {T = Unit {0}} (Err f) WriteFault) → ComesOfMake name told (status_of_pack f) files_before files_now out_before out_now
      cut_comes f sum only there put =
          made_comes (status_of_pack f) sum
          (λ e. elim only [ inl w ↦ let s = ap status_of_pack w in omega (arith, e, s) | inr m ↦ let s = ap status_of_pack m in omega (arith, e, s) ]) there
          (λ files is no_write no_put. elim only [ inl e ↦ absurd (no_put (put.rose (ap (λ (g : PackFault). Err g) e))) | inr e ↦ inr (inr (ap status_of_pack e)) ])

    -- the file of the log was made
    pub made_makes : (n : ℕ) (old new : Option Contents) → (n ≡ 12 → ⊥) → Sets old new name (made_file start count) → HoldsLog start count → MakesLog start count name n old new
    made_makes n old new never sets holds = record {
      whole = λ e. sets;
      holds = λ e. holds;
      queried = λ least most. sets;
      front =
          let file = made_file start count in
          let whole : take (length file) file ≡ file = take_all (length file) file (omega arith) in
          inr (length file, subst (λ (b : List ℕ). Sets old new name b) (sym whole) sets);
      kept = λ e. absurd (never e);
    }

    -- where the line couldn't be put
    pub cut_never : (f : PackFault) → Cut f → status_of_pack f ≡ 12 → ⊥
    cut_never f only e = elim only [ inl w ↦ let s = ap status_of_pack w in omega (arith, e, s) | inr m ↦ let s = ap status_of_pack m in omega (arith, e, s) ]

    pub cut_headline : (f : PackFault) (n : ℕ) (old new : Option (List ℕ)) → Appends old new (take n line) → Headline (make start count name) told (status_of_pack f) old new
    cut_headline f n old new front = headline (status_of_pack f) old new (λ files is. puts_front n (status_of_pack f) old new (never_done f) front)

    pub cut_ends : (f : PackFault) (old new : Option (List ℕ)) → Cut f → EndsMake start count told (status_of_pack f) old new
    cut_ends WriteFault old new only = record { allowed = refl; found = λ files is. refl; done = λ e. absurd (omega (arith, e)); lined = λ least most. absurd (omega (arith, most)); quiet = λ e. absurd (omega (arith, e)) }
    cut_ends OutOfMemory old new only = record { allowed = refl; found = λ files is. refl; done = λ e. absurd (omega (arith, e)); lined = λ least most. absurd (omega (arith, most)); quiet = λ e. absurd (omega (arith, e)) }
    cut_ends Exists old new only = absurd (elim only [ inl e ↦ cc | inr e ↦ cc ])
    cut_ends (Line n why) old new only = absurd (elim only [ inl e ↦ cc | inr e ↦ cc ])
    cut_ends ReadFault old new only = absurd (elim only [ inl e ↦ cc | inr e ↦ cc ])

    pub cut_says : (f : PackFault) → Cut f → SaysOfMaking name told f
    cut_says WriteFault only = tt
    cut_says OutOfMemory only = tt
    cut_says Exists only = absurd (elim only [ inl e ↦ cc | inr e ↦ cc ])
    cut_says (Line n why) only = absurd (elim only [ inl e ↦ cc | inr e ↦ cc ])
    cut_says ReadFault only = absurd (elim only [ inl e ↦ cc | inr e ↦ cc ])

    -- the query over the made file
    module _ (after : Option Contents) (n : ℕ) (old mid new : Option (List ℕ)) (sets : Sets told after name (made_file start count)) (holds : HoldsLog start count) (few : count ≤ 1_000_000) (lined : Appends old mid line) (q : QueriesLog name after n mid new) where
      over : (files : Contents) → told ≡ Some files → EndsOver (log_rows start count) n mid new
      over files is =
          let counted = rows_counted start count in
          q.over (codes "time") (made_file start count) (log_rows start count) (with_file name (made_file start count) files)
          (sets ∙ ap (λ (t : Option Contents). option_map (with_file name (made_file start count)) t) is) holds (with_same name (made_file start count) files) (omega arith)

      pub never_exists : n ≡ 12 → ⊥
      never_exists e = let h = subst (λ (k : ℕ). IsAmong k (4 ∷ 8 ∷ 5 ∷ 6 ∷ 7 ∷ 9 ∷ 0 ∷ 10 ∷ [])) e q.allowed in absurd (cc)

      pub asked_headline : Headline (make start count name) told n old new
      asked_headline = headline n old new (λ files is. puts_answer n old mid new lined (over files is).wrote)

      some_lines : (t : Option Contents) → told ≡ t → (lines : List ℕ) × Appends mid new lines
      some_lines None is = q.untold (sets ∙ ap (λ (t : Option Contents). option_map (with_file name (made_file start count)) t) is)
      some_lines (Some files) is = let w = (over files is).wrote in (w.added, w.appends)

      pub asked_ends : EndsMake start count told n old new
      asked_ends = record {
        allowed = or_more (12 == n) (list_any (λ s. s == n) (4 ∷ 8 ∷ 5 ∷ 6 ∷ 7 ∷ 9 ∷ 0 ∷ 10 ∷ [])) q.allowed;
        found = λ files is. or_more (12 == n) (list_any (λ s. s == n) (8 ∷ 9 ∷ 0 ∷ 10 ∷ [])) (over files is).allowed;
        done = λ e. let l = some_lines told refl in (l.0, Appends-both old mid new line l.0 lined l.1);
        lined = λ least most. keeps_line old mid new line lined (q.stopped least most);
        quiet = λ e. absurd (never_exists e);
      }

      untold_by : (t : Option Contents) → told ≡ t → (IsAmong n (8 ∷ 9 ∷ 0 ∷ 10 ∷ []) → ⊥) → t ≡ None
      untold_by None is never = refl
      untold_by (Some files) is never = absurd (never (over files is).allowed)

      pub asked_says : (f : QueryFault) → n ≡ statuses.status_of f → SaysOfLogQuery told f
      asked_says (of_query.Text t) e = let h = subst (λ (k : ℕ). IsAmong k (4 ∷ 8 ∷ 5 ∷ 6 ∷ 7 ∷ 9 ∷ 0 ∷ 10 ∷ [])) e q.allowed in absurd (cc)
      asked_says (of_query.Absent k) e = untold_by told refl (λ h. let g = subst (λ (k : ℕ). IsAmong k (8 ∷ 9 ∷ 0 ∷ 10 ∷ [])) e h in absurd (cc))
      asked_says (of_query.NotAFile k) e = untold_by told refl (λ h. let g = subst (λ (k : ℕ). IsAmong k (8 ∷ 9 ∷ 0 ∷ 10 ∷ [])) e h in absurd (cc))
      asked_says (of_query.Damaged file block) e = untold_by told refl (λ h. let g = subst (λ (k : ℕ). IsAmong k (8 ∷ 9 ∷ 0 ∷ 10 ∷ [])) e h in absurd (cc))
      asked_says of_query.Groups e = untold_by told refl (λ h. let g = subst (λ (k : ℕ). IsAmong k (8 ∷ 9 ∷ 0 ∷ 10 ∷ [])) e h in absurd (cc))
      asked_says of_query.ReadFault e = tt
      asked_says of_query.WriteFault e = tt
      asked_says of_query.OutOfMemory e = tt

      pub asked_comes : (files_before files_now out_before out_mid out_now : ℕ) (sum : PackSum) → IsThere (Ok sum) → out_before ≤ out_mid → (n ≡ 9 → Rose out_mid out_now) → ComesOfMake name told n files_before files_now out_before out_now
      asked_comes files_before files_now out_before out_mid out_now sum there later put =
          made_comes files_before files_now out_before out_now n sum never_exists there
          (λ files is no_write no_put. elim (one_of n 8 (9 ∷ 0 ∷ 10 ∷ []) (over files is).allowed) [
            | inl e ↦ inr (inl e)
            | inr k ↦ elim (one_of n 9 (0 ∷ 10 ∷ []) k) [
              | inl e ↦ absurd (no_put (rose_later out_before out_mid out_now later (put e)))
              | inr l ↦ elim (one_of n 0 (10 ∷ []) l) [
                | inl e ↦ inl e
                | inr m ↦ elim (one_of n 10 [] m) [ inl e ↦ inr (inr e) | inr none ↦ absurd (cc) ]
              ]
            ]
          ])
