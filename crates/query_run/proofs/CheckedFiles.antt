-- Files that are checked one after the other.
use Rattle.std.proofs.Common.{◌≡◌, ℕ, zero, suc, ◌+◌, ◌≤◌, List, [], ◌∷◌, ◌++◌, length, take, drop, Option, Some, None, refl, sym, ap, ◌∙◌, subst, arith, append_assoc}
use Rattle.std.specs.Prelude.{slice_get, Result, Ok, Err}
use Rattle.std.specs.Option.{ForSome}
use Rattle.std.specs.Io.KnownBytes.{Appends}
use Rattle.std.proofs.lemmas.List.{append-nil, take_all}
use Rattle.snel_device.specs.Contents.{Contents}
use Rattle.scan_meaning.specs.Blocks.{Place, Block}
use Rattle.scan_meaning.specs.Batches.{first_bad}
use Rattle.scan_meaning.specs.Opened.{Opened, Named, absent, no_file, opened, IsNamed, AreNamed, blocks_of}
use Rattle.scan_meaning.specs.Verdicts.{IsAmong}
use Rattle.scan_meaning.specs.Answers.{IsPrefix}
use Rattle.scan_meaning.specs.Checks.{Checked, sound, absent_file, other_file, bad_block, or_bad, checked_from, ChecksAs, check_line, check_lines, before_refused, check_statuses, EndsCheck}
use Rattle.scan_meaning.proofs.Named.{one_named, named_count}
use Rattle.query_run.specs.declared.query_fault.QueryFault.{QueryFault}
use Rattle.query_run.specs.declared.query_fault.QueryFault.TheVariants.{Text, Absent, NotAFile, Damaged, Groups, ReadFault, WriteFault, OutOfMemory}
use Rattle.query_run.specs.Statuses.{status_of}
use Rattle.query_run.specs.Checking.{HasCheckCause, SaysOfOne, IsOfFiles}
use Rattle.query_run.proofs.SomeNamed.{all_some}

-- bytes that were added, and then more
more_added : (a b c : Option (List ℕ)) (x y : List ℕ) → Appends a b x → Appends b c y → Appends a c (x ++ y)
more_added None b c x y h k = tt
more_added (Some a) None c x y h k = absurd h
more_added (Some a) (Some b) None x y h k = absurd k
more_added (Some a) (Some b) (Some c) x y h k = k ∙ ap (λ (l : List ℕ). l ++ y) h ∙ append_assoc a x y

none_added : (a b c : Option (List ℕ)) (x : List ℕ) → Appends a b x → Appends b c [] → Appends a c x
none_added a b c x h k = subst (λ (l : List ℕ). Appends a c l) (append-nil x) (more_added a b c x [] h k)

pub nothing : (a : Option (List ℕ)) → Appends a a []
nothing None = tt
nothing (Some xs) = sym (append-nil xs)

-- the lines of no files
no_lines : (names : List (List ℕ)) → check_lines names [] ≡ []
no_lines [] = refl
no_lines (n ∷ ns) = refl

-- the first so many files are block files
abbrev AreOpen : ℕ → List Named → Type 0
AreOpen zero fs = Unit {0}
AreOpen (suc k) (opened o ∷ fs) = AreOpen k fs
AreOpen (suc k) fs = ⊥

-- one more block file, and its line
one_line : (names : List (List ℕ)) (fs : List Named) (k : ℕ) (name : List ℕ) (o : Opened) → AreOpen k fs → slice_get names k ≡ Some name → slice_get fs k ≡ Some (opened o)
    → AreOpen (suc k) fs × (check_lines names (take (suc k) fs) ≡ check_lines names (take k fs) ++ check_line name o.entries)
one_line [] fs k name o opens at is = absurd (cc)
one_line (n ∷ ns) [] k name o opens at is = absurd (cc)
one_line (n ∷ ns) (f ∷ fs) zero name o opens at is =
    let same : f ≡ opened o = cc in
    let named : n ≡ name = cc in (
      subst (λ (g : Named). AreOpen 1 (g ∷ fs)) (sym same) tt,
      ap (λ (g : Named). check_lines (n ∷ ns) (g ∷ [])) same ∙ ap (λ (l : List ℕ). check_line n o.entries ++ l) (no_lines ns) ∙ append-nil (check_line n o.entries)
          ∙ ap (λ (m : List ℕ). check_line m o.entries) named,
    )
one_line (n ∷ ns) (absent ∷ fs) (suc k) name o opens at is = absurd opens
one_line (n ∷ ns) (no_file ∷ fs) (suc k) name o opens at is = absurd opens
one_line (n ∷ ns) (opened p ∷ fs) (suc k) name o opens at is =
    let rest = one_line ns fs k name o opens at is in
    (rest.0, ap (λ (l : List ℕ). check_line n p.entries ++ l) rest.1 ∙ sym (append_assoc (check_line n p.entries) (check_lines ns (take k fs)) (check_line name o.entries)))

-- the file of a name
record IsAt (files : Contents) (name : List ℕ) (fs : List Named) (k : ℕ) : Type 0 where
  pub file : Named
  pub at : slice_get fs k ≡ Some file
  pub is : IsNamed (files name) file
  pub here : drop k fs ≡ file ∷ drop (suc k) fs

named_at : (files : Contents) (names : List (List ℕ)) (fs : List Named) (k : ℕ) (name : List ℕ) → AreNamed files names fs → slice_get names k ≡ Some name → IsAt files name fs k
named_at files [] fs k name are at = absurd (cc)
named_at files (n ∷ ns) [] k name are at = absurd are
named_at files (n ∷ ns) (f ∷ fs) zero name are at =
    let same : n ≡ name = cc in
    record { file = f; at = refl; is = subst (λ (m : List ℕ). IsNamed (files m) f) same are.0; here = refl }
named_at files (n ∷ ns) (f ∷ fs) (suc k) name are at =
    let r = named_at files ns fs k name are.1 at in
    record { file = r.file; at = r.at; is = r.is; here = r.here }

-- fewer files have a prefix of the lines
fewer_lines : (names : List (List ℕ)) (fs : List Named) (m n : ℕ) → m ≤ n → IsPrefix (check_lines names (take m fs)) (check_lines names (take n fs))
fewer_lines names fs zero n le = (check_lines names (take n fs), ap (λ (l : List ℕ). l ++ check_lines names (take n fs)) (sym (no_lines names)))
fewer_lines names fs (suc m) zero le = absurd (omega arith)
fewer_lines names [] (suc m) (suc n) le = ([], sym (append-nil (check_lines names [])))
fewer_lines [] (f ∷ fs) (suc m) (suc n) le = ([], refl)
fewer_lines (x ∷ ns) (absent ∷ fs) (suc m) (suc n) le = ([], refl)
fewer_lines (x ∷ ns) (no_file ∷ fs) (suc m) (suc n) le = ([], refl)
fewer_lines (x ∷ ns) (opened o ∷ fs) (suc m) (suc n) le =
    let rest = fewer_lines ns fs m n (omega arith) in
    (rest.0, ap (λ (l : List ℕ). check_line x o.entries ++ l) rest.1 ∙ sym (append_assoc (check_line x o.entries) (check_lines ns (take m fs)) rest.0))

-- what stands against later files stands late
late : (names : List (List ℕ)) (k : ℕ) (fs : List Named) → k + length fs ≤ length names → k ≤ before_refused names (checked_from k fs)
late names k [] le = omega arith
late names k (absent ∷ fs) le = omega arith
late names k (no_file ∷ fs) le = omega arith
late names k (opened o ∷ fs) le = on (first_bad (blocks_of k o)) (late names (suc k) fs (omega arith))
  where
    on : (b : Option Block) → suc k ≤ before_refused names (checked_from (suc k) fs) → k ≤ before_refused names (or_bad k b (checked_from (suc k) fs))
    on (Some b) rest = omega arith
    on None rest = omega arith

-- a failed read and a failed put are allowed
abbrev AreAllowed : Checked → Type 0
AreAllowed c = IsAmong 8 (check_statuses c) × IsAmong 9 (check_statuses c)

late_allowed : (k : ℕ) (fs : List Named) → AreAllowed (checked_from (suc k) fs)
late_allowed k [] = (refl, refl)
late_allowed k (absent ∷ fs) = (refl, refl)
late_allowed k (no_file ∷ fs) = (refl, refl)
late_allowed k (opened o ∷ fs) = on (first_bad (blocks_of (suc k) o)) (late_allowed (suc k) fs)
  where
    on : (b : Option Block) → AreAllowed (checked_from (suc (suc k)) fs) → AreAllowed (or_bad (suc k) b (checked_from (suc (suc k)) fs))
    on (Some b) rest = (refl, refl)
    on None rest = rest

-- a file that is there can fail to be read
there_allowed : (file : Option (List ℕ)) (k : ℕ) (f : Named) (fs : List Named) → (file ≡ None → ⊥) → IsNamed file f → IsAmong 8 (check_statuses (checked_from k (f ∷ fs)))
there_allowed None k f fs there is = absurd (there refl)
there_allowed (Some b) k absent fs there is = absurd is
there_allowed (Some b) k no_file fs there is = refl
there_allowed (Some b) k (opened o) fs there is = on (first_bad (blocks_of k o))
  where
    on : (x : Option Block) → IsAmong 8 (check_statuses (or_bad k x (checked_from (suc k) fs)))
    on (Some x) = refl
    on None = (late_allowed k fs).0

absent_allowed : (k : ℕ) → IsAmong 4 (check_statuses (absent_file k))
absent_allowed zero = refl
absent_allowed (suc k) = refl

memory_allowed : (c : Checked) → IsAmong 10 (check_statuses c)
memory_allowed sound = refl
memory_allowed (absent_file zero) = refl
memory_allowed (absent_file (suc k)) = refl
memory_allowed (other_file k) = refl
memory_allowed (bad_block k p) = refl

-- the files of the names
abbrev Fs : Contents → List (List ℕ) → List Named
Fs files names = (all_some files names).0

-- The first so many files are sound, and their lines are written.
pub record Progress (files : Contents) (names : List (List ℕ)) (k : ℕ) (old now : Option (List ℕ)) : Type 0 where
  pub few : k ≤ length names
  pub opens : AreOpen k (Fs files names)
  pub same : checked_from 0 (Fs files names) ≡ checked_from k (drop k (Fs files names))
  pub wrote : Appends old now (check_lines names (take k (Fs files names)))

pub begins : (files : Contents) (names : List (List ℕ)) (a : Option (List ℕ)) → Progress files names 0 a a
begins files names a = record {
  few = omega arith;
  opens = tt;
  same = refl;
  wrote = subst (λ (l : List ℕ). Appends a a l) (sym (no_lines names)) (nothing a);
}

some_here : (names : List (List ℕ)) (k : ℕ) (name : List ℕ) → slice_get names k ≡ Some name → suc k ≤ length names
some_here [] k name at = absurd (cc)
some_here (n ∷ ns) zero name at = omega arith
some_here (n ∷ ns) (suc k) name at = let r = some_here ns k name at in omega arith

left_over : (k : ℕ) (fs : List Named) → k ≤ length fs → k + length (drop k fs) ≡ length fs
left_over zero fs le = omega arith
left_over (suc k) [] le = absurd (omega arith)
left_over (suc k) (f ∷ fs) le = let r = left_over k fs (omega arith) in omega arith

module _ (files : Contents) (names : List (List ℕ)) (k : ℕ) (name : List ℕ) (at : slice_get names k ≡ Some name) (old now new : Option (List ℕ)) (p : Progress files names k old now) where
  abbrev All : List Named
  All = Fs files names

  are : AreNamed files names All
  are = (all_some files names).1

  count : length All ≡ length names
  count = named_count files names All are

  own : IsAt files name All k
  own = named_at files names All k name are at

  -- what stands against the files, as this one tells
  against : (f : Named) → IsNamed (files name) f → checked_from 0 All ≡ checked_from k (f ∷ drop (suc k) All)
  against f is = p.same ∙ ap (λ (l : List Named). checked_from k l) own.here ∙ ap (λ (g : Named). checked_from k (g ∷ drop (suc k) All)) (one_named (files name) own.file f own.is is)

  good : (o : Opened) → IsNamed (files name) (opened o) → first_bad (blocks_of k o) ≡ None → checked_from 0 All ≡ checked_from (suc k) (drop (suc k) All)
  good o is none = against (opened o) is ∙ ap (λ (b : Option Block). or_bad k b (checked_from (suc k) (drop (suc k) All))) none

  line : (o : Opened) → IsNamed (files name) (opened o) → AreOpen (suc k) All × (check_lines names (take (suc k) All) ≡ check_lines names (take k All) ++ check_line name o.entries)
  line o is = one_line names All k name o p.opens at (own.at ∙ ap (λ (g : Named). Some g) (one_named (files name) own.file (opened o) own.is is))

  late_here : (j : ℕ) → j ≤ length names → checked_from 0 All ≡ checked_from j (drop j All) → j ≤ before_refused names (checked_from 0 All)
  late_here j le same =
      let long = count in
      let rest = left_over j All (omega arith) in
      subst (λ (c : Checked). j ≤ before_refused names c) (sym same) (late names j (drop j All) (omega arith))

  -- an end at this file, all lines before it written
  at_file : (c : Checked) (status : ℕ) → checked_from 0 All ≡ c → IsAmong status (check_statuses c) → before_refused names c ≡ k → Appends now new [] → EndsCheck names files status old new
  at_file c status same allowed stops none =
      let lines : check_lines names (take k All) ≡ check_lines names (take (before_refused names (checked_from 0 All)) All) =
      ap (λ (n : ℕ). check_lines names (take n All)) (sym stops) ∙ ap (λ (d : Checked). check_lines names (take (before_refused names d) All)) (sym same) in
      record {
        files_are = All;
        are = are;
        allowed = subst (λ (d : Checked). IsAmong status (check_statuses d)) (sym same) allowed;
        added = check_lines names (take k All);
        appends = none_added old now new (check_lines names (take k All)) p.wrote none;
        front = ([], sym lines ∙ sym (append-nil (check_lines names (take k All))));
        whole = λ among. lines;
      }

  -- an end that no refusal brings, with a part of the lines written
  with_part : (status j : ℕ) (added : List ℕ) → (IsAmong status (0 ∷ 4 ∷ 5 ∷ 6 ∷ []) → ⊥) → IsAmong status (check_statuses (checked_from 0 All)) → Appends old new added → IsPrefix added (check_lines names (take j All))
      → j ≤ before_refused names (checked_from 0 All) → EndsCheck names files status old new
  with_part status j added other allowed appends part le =
      let more = fewer_lines names All j (before_refused names (checked_from 0 All)) le in
      record {
        files_are = All;
        are = are;
        allowed = allowed;
        added = added;
        appends = appends;
        front = (part.0 ++ more.0, more.1 ∙ ap (λ (l : List ℕ). l ++ more.0) part.1 ∙ append_assoc added part.0 more.0);
        whole = λ among. absurd (other among);
      }

  abbrev Says : Result (Unit {0}) QueryFault → Type 0
  Says r = SaysOfOne (files name) name k r now new

  -- a sound file more
  pub goes_on : Says (Ok tt) → Progress files names (suc k) old new
  goes_on s =
      let own_line = line s.0 s.1 in
      record {
        few = some_here names k name at;
        opens = own_line.0;
        same = good s.0 s.1 s.2;
        wrote = subst (λ (l : List ℕ). Appends old new l) (sym own_line.1) (more_added old now new (check_lines names (take k All)) (check_line name s.0.entries) p.wrote s.3);
      }

  pub ends_here : (fault : QueryFault) → Says (Err fault) → EndsCheck names files (status_of fault) old new
  ends_here (Absent j) s = at_file (absent_file k) 4 (against absent s.1) (absent_allowed k) refl s.2
  ends_here (NotAFile j) s = at_file (other_file k) 5 (against no_file s.1) refl refl s.2
  ends_here (Damaged j block) s =
      let o = s.0 in
      let b = s.1 in
      at_file (bad_block k b.place) 6 (against (opened o) s.3 ∙ ap (λ (x : Option Block). or_bad k x (checked_from (suc k) (drop (suc k) All))) s.4) refl refl s.6
  ends_here ReadFault s =
      with_part 8 k (check_lines names (take k All)) (λ among. absurd (cc))
      (subst (λ (c : Checked). IsAmong 8 (check_statuses c)) (sym (against own.file own.is)) (there_allowed (files name) k own.file (drop (suc k) All) s.0 own.is))
      (none_added old now new (check_lines names (take k All)) p.wrote s.1) ([], sym (append-nil (check_lines names (take k All))))
      (late_here k p.few p.same)
  ends_here WriteFault s =
      let o = s.0 in
      let added = s.1 in
      let is = s.2 in
      let none = s.3 in
      let part = s.5 in
      with_part 9 (suc k) (check_lines names (take k All) ++ added) (λ among. absurd (cc))
      (subst (λ (c : Checked). IsAmong 9 (check_statuses c)) (sym (good o is none)) (late_allowed k (drop (suc k) All)).1)
      (more_added old now new (check_lines names (take k All)) added p.wrote s.4)
      (part.0, (line o is).1 ∙ ap (λ (l : List ℕ). check_lines names (take k All) ++ l) part.1 ∙ sym (append_assoc (check_lines names (take k All)) added part.0))
      (late_here (suc k) (some_here names k name at) (good o is none))
  ends_here OutOfMemory s =
      with_part 10 k (check_lines names (take k All)) (λ among. absurd (cc)) (memory_allowed (checked_from 0 All))
      (none_added old now new (check_lines names (take k All)) p.wrote s) ([], sym (append-nil (check_lines names (take k All))))
      (late_here k p.few p.same)
  ends_here (Text f) s = absurd s
  ends_here Groups s = absurd s

  pub absent_here : (j : ℕ) → Says (Err (Absent j)) → ChecksAs names files (absent_file j)
  absent_here j s = record { files_are = All; are = are; is = ap absent_file s.0 ∙ sym (against absent s.1) }

  pub other_here : (j : ℕ) → Says (Err (NotAFile j)) → ChecksAs names files (other_file j)
  other_here j s = record { files_are = All; are = are; is = ap other_file s.0 ∙ sym (against no_file s.1) }

  pub bad_here : (j block : ℕ) → Says (Err (Damaged j block)) → (x : Place) × (x.block ≡ block) × ChecksAs names files (bad_block j x)
  bad_here j block s =
      let o = s.0 in
      let b = s.1 in
      let same = against (opened o) s.3 ∙ ap (λ (x : Option Block). or_bad k x (checked_from (suc k) (drop (suc k) All))) s.4 in
      (b.place, s.5, record { files_are = All; are = are; is = ap (λ (i : ℕ). bad_block i b.place) s.2 ∙ sym same })

-- no file is left
pub all_sound : (files : Contents) (names : List (List ℕ)) (k : ℕ) (old now : Option (List ℕ)) → length names ≤ k → Progress files names k old now → ChecksAs names files sound × EndsCheck names files 0 old now
all_sound files names k old now done p =
    let all = all_some files names in
    let count = named_count files names all.0 all.1 in
    let none : drop k all.0 ≡ [] = nothing_left k all.0 (omega arith) in
    let same : checked_from 0 all.0 ≡ sound = p.same ∙ ap (λ (l : List Named). checked_from k l) none in
    let whole : take k all.0 ≡ all.0 = take_all k all.0 (omega arith) in
    let also : take (length names) all.0 ≡ all.0 = take_all (length names) all.0 (omega arith) in
    let lines : check_lines names (take k all.0) ≡ check_lines names (take (before_refused names (checked_from 0 all.0)) all.0) =
    ap (λ (l : List Named). check_lines names l) (whole ∙ sym also) ∙ ap (λ (d : Checked). check_lines names (take (before_refused names d) all.0)) (sym same) in (
      record { files_are = all.0; are = all.1; is = sym same },
      record {
        files_are = all.0;
        are = all.1;
        allowed = subst (λ (d : Checked). IsAmong 0 (check_statuses d)) (sym same) refl;
        added = check_lines names (take k all.0);
        appends = p.wrote;
        front = ([], sym lines ∙ sym (append-nil (check_lines names (take k all.0))));
        whole = λ among. lines;
      },
    )
  where
    nothing_left : (n : ℕ) (fs : List Named) → length fs ≤ n → drop n fs ≡ []
    nothing_left zero [] le = refl
    nothing_left zero (f ∷ fs) le = absurd (omega arith)
    nothing_left (suc n) [] le = refl
    nothing_left (suc n) (f ∷ fs) le = nothing_left n fs (omega arith)

-- what the fault of this file says of all
pub caused_here : (A : Type 0) (names : List (List ℕ)) (told : Option Contents) (k : ℕ) (name : List ℕ) → slice_get names k ≡ Some name → (old now new : Option (List ℕ)) → ForSome told (λ files. Progress files names k old now)
    → (fault : QueryFault) → IsOfFiles {A = A} (Err fault) → ForSome told (λ files. SaysOfOne {A = Unit {0}} (files name) name k (Err fault) now new) → HasCheckCause {A = A} names told (Err fault)
caused_here A names told k name at old now new p (Absent j) of_files s = λ files is. absent_here files names k name at old now new (p files is) j (s files is)
caused_here A names told k name at old now new p (NotAFile j) of_files s = λ files is. other_here files names k name at old now new (p files is) j (s files is)
caused_here A names told k name at old now new p (Damaged j block) of_files s = λ files is. bad_here files names k name at old now new (p files is) j block (s files is)
caused_here A names told k name at old now new p ReadFault of_files s = tt
caused_here A names told k name at old now new p WriteFault of_files s = λ files is. let put = s files is in (k, name, put.0, at, put.2, put.3)
caused_here A names told k name at old now new p OutOfMemory of_files s = tt
caused_here A names told k name at old now new p (Text f) of_files s = absurd of_files
caused_here A names told k name at old now new p Groups of_files s = absurd of_files
