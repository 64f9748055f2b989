-- What stands against the named files, and want of memory before anything was written.
use Rattle.std.proofs.Common.{◌≡◌, ℕ, zero, suc, ◌+◌, ◌≤◌, true, List, [], ◌∷◌, Option, Some, None, refl, sym, ap, ◌∙◌, subst, arith}
use Rattle.std.specs.Prelude.{◌≢◌, unwrap_or, Err}
use Rattle.std.specs.Option.{ForSome}
use Rattle.std.specs.Io.KnownBytes.{Appends}
use Rattle.std.proofs.Math.Logic.{⊎_elim}
use Rattle.snel_device.specs.Contents.{Contents}
use Rattle.tree_meaning.specs.Tree.{Query}
use Rattle.scan_meaning.specs.Blocks.{Block}
use Rattle.scan_meaning.specs.Batches.{rows_of, is_plain}
use Rattle.scan_meaning.specs.Opened.{Named, absent, no_file, opened, IsNamed, AreNamed, blocks_from}
use Rattle.scan_meaning.specs.Verdicts.{Verdict, no_such_file, no_block_file, scan, untold, refusal, wanted, skipped, FindsInFiles, Finds, statuses, IsAmong}
use Rattle.scan_meaning.specs.Answers.{AddsWhole, EndsScan, EndsAs}
use Rattle.scan_meaning.specs.Causes.{IsFirst, index_costs, Costs, StaysWithin}
use Rattle.scan_meaning.proofs.Named.{first_refused, IsRefused}
use Rattle.scan_meaning.proofs.Arranged.{adds_nothing}
use Rattle.scan_meaning.proofs.Plain.{cut_none}
use Rattle.scan_files.specs.Surveys.{FirstIsThere, SaysOfFiles}
use Rattle.scan_files.specs.declared.fault.FilesFault.{FilesFault}
use Rattle.scan_files.specs.declared.fault.FilesFault.TheVariants as against
use Rattle.scan_batches.specs.Lines.{made_lines, text_of, let_through}
use Rattle.scan_batches.proofs.Texts.{adds_whole}
use Rattle.scan_batches.proofs.Progress.{makes_nothing}
use Rattle.scan_batches.specs.declared.fault.ScanFault.{ScanFault}
use Rattle.scan_batches.specs.declared.fault.ScanFault.TheVariants as stops
use Rattle.query_run.specs.Statuses.{status_of, status_after, IsAbsent}
use Rattle.query_run.specs.Faults as says
use Rattle.query_run.specs.Faults.{IsQuiet, StopsSo, query_fault, scan_fault}
use Rattle.query_run.specs.Runs.{RunsTo}
use Rattle.query_run.specs.declared.sum.QuerySum.{QuerySum}
use Rattle.query_run.specs.declared.query_fault.QueryFault.{QueryFault}
use Rattle.query_run.specs.declared.query_fault.QueryFault.TheVariants.{OutOfMemory}
use Rattle.query_run.proofs.Sink.{Keeps-same, Appends-nothing}

pub memory_allowed : (v : Verdict) → IsAmong 10 (statuses v)
memory_allowed (no_such_file zero) = refl
memory_allowed (no_such_file (suc k)) = refl
memory_allowed (no_block_file k) = refl
memory_allowed (scan bs n) = refl
memory_allowed untold = refl

absent_allowed : (k : ℕ) → IsAmong 4 (statuses (no_such_file k))
absent_allowed zero = refl
absent_allowed (suc k) = refl

-- a refusal that a verdict allows, before anything was written
pub record IsBefore (status : ℕ) : Type 0 where
  pub undone : status ≢ 0
  pub unscanned : status ≢ 6
  pub uncounted : status ≢ 7
  pub unput : status ≢ 9

unwritten : (q : Query) (limit : ℕ) (bs : List Block) (status : ℕ) (a : Option (List ℕ)) → IsBefore status → EndsScan q limit bs status a a
unwritten q limit bs status a h = record {
  bad = λ e. absurd (h.unscanned e);
  passed = λ e. absurd (h.undone e);
  over = λ e. absurd (h.uncounted e);
  within = λ e. absurd (⊎_elim (λ (x : status ≡ 0). h.undone x) (λ (x : status ≡ 9). h.unput x) e);
  put = λ e. absurd (h.unput e);
  quiet = λ other x y. Keeps-same a;
  wrote = adds_nothing q (rows_of bs) status a a h.undone (Keeps-same a);
}

refused : (q : Query) (limit : ℕ) (v : Verdict) (status : ℕ) (a : Option (List ℕ)) → IsBefore status → IsAmong status (statuses v) → EndsAs q limit v status a a
refused q limit (no_such_file k) status a h allowed = record { allowed = allowed; wrote = Keeps-same a }
refused q limit (no_block_file k) status a h allowed = record { allowed = allowed; wrote = Keeps-same a }
refused q limit (scan bs n) status a h allowed = record { allowed = allowed; wrote = unwritten q limit bs status a h }
refused q limit untold status a h allowed = record { allowed = allowed; wrote = ([], Appends-nothing a) }

-- a verdict that names a file names one that isn't before the first of the list
inside : (v w : Verdict) → Some v ≡ Some w → v ≡ w
inside v w h = cc

number_is : (i k : ℕ) → no_such_file i ≡ no_such_file k → i ≡ k
number_is i k h = cc

number_above : (i : ℕ) (fs : List Named) (k : ℕ) → refusal i fs ≡ Some (no_such_file k) → i ≤ k
number_above i [] k e = absurd (cc)
number_above i (absent ∷ fs) k e = let same : i ≡ k = number_is i k (inside (no_such_file i) (no_such_file k) e) in omega arith
number_above i (no_file ∷ fs) k e = absurd (cc)
number_above i (opened o ∷ fs) k e = let h = number_above (suc i) fs k e in omega arith

refused_first : (files : Contents) (names : List (List ℕ)) (fs : List Named) → AreNamed files names fs → FirstIsThere files names → refusal 0 fs ≡ Some (no_such_file 0) → ⊥
refused_first files [] fs are first e = let at = first.1 in cc
refused_first files (n ∷ ns) [] are first e = are
refused_first files (n ∷ ns) (absent ∷ fs) are first e = gone (files n) refl are.0
  where
    gone : (f : Option (List ℕ)) → files n ≡ f → IsNamed f absent → ⊥
    gone None is h = let at = first.1 in first.2 (let same : first.0 ≡ n = cc in ap files same ∙ is)
    gone (Some b) is h = h
refused_first files (n ∷ ns) (no_file ∷ fs) are first e = cc
refused_first files (n ∷ ns) (opened o ∷ fs) are first e = let h : 1 ≤ 0 = number_above 1 fs 0 e in omega arith

is_refusal : (o : Option Verdict) (bs : List Block) (n : ℕ) → unwrap_or o (scan bs n) ≡ no_such_file 0 → o ≡ Some (no_such_file 0)
is_refusal None bs n e = absurd (cc)
is_refusal (Some v) bs n e = ap (λ (w : Verdict). Some w) e

not_first : (q : Query) (names : List (List ℕ)) (files : Contents) (v : Verdict) → FindsInFiles q names files v → FirstIsThere files names → v ≡ no_such_file 0 → ⊥
not_first q names files v found first e =
    refused_first files names found.files_are found.are first (is_refusal (refusal 0 found.files_are) _ _ (sym found.is ∙ e))

read_allowed : (v : Verdict) → (v ≡ no_such_file 0 → ⊥) → IsAmong 8 (statuses v)
read_allowed (no_such_file zero) other = absurd (other refl)
read_allowed (no_such_file (suc k)) other = refl
read_allowed (no_block_file k) other = refl
read_allowed (scan bs n) other = refl
read_allowed untold other = refl

names_file : (q : Query) (names : List (List ℕ)) (files : Contents) (k : ℕ) (f : Named) (w v : Verdict) → IsFirst files names k f → IsRefused f → refusal (0 + k) (f ∷ []) ≡ Some w → FindsInFiles q names files v → v ≡ w
names_file q names files k f w v first ref is found =
    found.is ∙ ap (λ o. unwrap_or o (scan (wanted q (blocks_from 0 found.files_are)) (skipped q (blocks_from 0 found.files_are)))) (first_refused files names k 0 first.before first.name f found.files_are first.are first.at first.is ref found.are ∙ is)

-- what stands against the files is the verdict
file_allowed : (q : Query) (names : List (List ℕ)) (files : Contents) (fault : FilesFault) → SaysOfFiles (Some files) names fault → (v : Verdict) → FindsInFiles q names files v → IsAmong (status_of (query_fault fault)) (statuses v)
file_allowed q names files (against.Absent k) h v found =
    let z : 0 + k ≡ k = omega arith in
    let e : v ≡ no_such_file k = names_file q names files k absent (no_such_file k) v (h files refl) tt (ap (λ (n : ℕ). Some (no_such_file n)) z) found in
    subst (λ (w : Verdict). IsAmong 4 (statuses w)) (sym e) (absent_allowed k)
file_allowed q names files (against.NotAFile k) h v found =
    let z : 0 + k ≡ k = omega arith in
    let e : v ≡ no_block_file k = names_file q names files k no_file (no_block_file k) v (h files refl) tt (ap (λ (n : ℕ). Some (no_block_file n)) z) found in
    subst (λ (w : Verdict). IsAmong 5 (statuses w)) (sym e) refl
file_allowed q names files against.ReadFault h v found = read_allowed v (not_first q names files v found (h files refl))
file_allowed q names files against.OutOfMemory h v found = memory_allowed v

untold_allowed : (fault : FilesFault) → IsAmong (status_of (query_fault fault)) (statuses untold)
untold_allowed (against.Absent k) = refl
untold_allowed (against.NotAFile k) = refl
untold_allowed against.ReadFault = refl
untold_allowed against.OutOfMemory = refl

is_before : (fault : FilesFault) → IsBefore (status_of (query_fault fault))
is_before (against.Absent k) = record { undone = λ e. omega arith; unscanned = λ e. omega arith; uncounted = λ e. omega arith; unput = λ e. omega arith }
is_before (against.NotAFile k) = record { undone = λ e. omega arith; unscanned = λ e. omega arith; uncounted = λ e. omega arith; unput = λ e. omega arith }
is_before against.ReadFault = record { undone = λ e. omega arith; unscanned = λ e. omega arith; uncounted = λ e. omega arith; unput = λ e. omega arith }
is_before against.OutOfMemory = record { undone = λ e. omega arith; unscanned = λ e. omega arith; uncounted = λ e. omega arith; unput = λ e. omega arith }

-- a query ends so where a file can't be opened
files_end : (q : Query) (limit : ℕ) (names : List (List ℕ)) (told : Option Contents) (fault : FilesFault) (a : Option (List ℕ)) → SaysOfFiles told names fault → (v : Verdict) → Finds q names told v → EndsAs q limit v (status_of (query_fault fault)) a a
files_end q limit names None fault a h v found =
    subst (λ (w : Verdict). EndsAs q limit w (status_of (query_fault fault)) a a) (sym found)
    (refused q limit untold (status_of (query_fault fault)) a (is_before fault) (untold_allowed fault))
files_end q limit names (Some files) fault a h v found =
    refused q limit v (status_of (query_fault fault)) a (is_before fault) (file_allowed q names files fault h v found)

pub memory_end : (q : Query) (limit : ℕ) (v : Verdict) (a : Option (List ℕ)) → EndsAs q limit v 10 a a
memory_end q limit v a = refused q limit v 10 a record { undone = λ e. omega arith; unscanned = λ e. omega arith; uncounted = λ e. omega arith; unput = λ e. omega arith } (memory_allowed v)

files_cause : (q : Query) (limit : ℕ) (names : List (List ℕ)) (told : Option Contents) (fault : FilesFault) → SaysOfFiles told names fault → says.SaysOfFiles q limit names told (query_fault fault)
files_cause q limit names told (against.Absent k) h = h
files_cause q limit names told (against.NotAFile k) h = h
files_cause q limit names told against.ReadFault h = h
files_cause q limit names told against.OutOfMemory h = tt

files_quiet : (A : Type 0) (fault : FilesFault) (a : Option (List ℕ)) → IsQuiet {A = A} (Err (query_fault fault)) a a
files_quiet A (against.Absent k) a = Keeps-same a
files_quiet A (against.NotAFile k) a = Keeps-same a
files_quiet A against.ReadFault a = tt
files_quiet A against.OutOfMemory a = tt

-- the bytes of tails and indexes alone are within each cost
pub files_cost : (q : Query) (names : List (List ℕ)) (told : Option Contents) (before now : ℕ) → ForSome told (λ files. now ≤ before + index_costs files names) → StaysWithin q names told before now
files_cost q names told before now most = λ files is v cost found costs. on files v cost costs (most files is)
  where
    on : (files : Contents) (v : Verdict) (cost : ℕ) → Costs q files names v cost → now ≤ before + index_costs files names → now ≤ before + cost
    on files (no_such_file k) cost costs le = omega arith
    on files (no_block_file k) cost costs le = omega arith
    on files (scan bs n) cost costs le = let e = costs.2 in omega arith
    on files untold cost costs le = omega arith

-- nothing was scanned where the indexes couldn't be read
none_whole : (q : Query) → is_plain q ≡ true → (a : Option (List ℕ)) → AddsWhole q [] a a
none_whole q plain a =
    let none : let_through q.skip q.take (made_lines q []) ≡ [] = cut_none q.skip q.take (made_lines q []) (makes_nothing q plain) in
    adds_whole q plain [] (made_lines q []) a a refl (subst (λ (l : List (List ℕ)). Appends a a (text_of l)) (sym none) (Appends-nothing a))

files_stop : (A : Type 0) (q : Query) (names : List (List ℕ)) (told : Option Contents) (fault : FilesFault) (before now : ℕ) (a : Option (List ℕ)) → ForSome told (λ files. now ≤ before + index_costs files names) → StopsSo {A = A} q names told (Err (query_fault fault)) before now a a
files_stop A q names told (against.Absent k) before now a most = tt
files_stop A q names told (against.NotAFile k) before now a most = tt
files_stop A q names told against.OutOfMemory before now a most = tt
files_stop A q names told against.ReadFault before now a most = (
  λ files is bs n found.
      let le = most files is in
      record { batches = 0; told = λ i grown. absurd (omega arith); good = refl; wrote = λ plain. none_whole q plain a },
  λ other. Keeps-same a,
)

-- the answer where a file can't be opened, and where memory wants before anything was written
module _ (q : Query) (limit : ℕ) (names : List (List ℕ)) (told : Option Contents) (before now : ℕ) (a : Option (List ℕ)) (le : before ≤ now) (most : ForSome told (λ files. now ≤ before + index_costs files names)) where
  pub files_run : (fault : FilesFault) → SaysOfFiles told names fault → RunsTo q limit names told (Err (query_fault fault)) before now a a
  files_run fault h = record {
    ends = ends_so;
    cause = files_cause q limit names told fault h;
    quiet = files_quiet QuerySum fault a;
    stopped = files_stop QuerySum q names told fault before now a most;
    later = le;
    taken = files_cost q names told before now most;
    sum = tt;
  }
    where
      ends_so : (v : Verdict) → Finds q names told v → EndsAs q limit v (status_after {A = QuerySum} (Err (query_fault fault))) a a
      ends_so v found = files_end q limit names told fault a h v found

  pub memory_run : RunsTo q limit names told (Err OutOfMemory) before now a a
  memory_run = record {
    ends = λ v found. memory_end q limit v a;
    cause = tt;
    quiet = tt;
    stopped = tt;
    later = le;
    taken = files_cost q names told before now most;
    sum = tt;
  }

-- no fault of the blocks says that a file is absent
pub never_absent : (A : Type 0) (fault : ScanFault) (r : QueryFault) → r ≡ scan_fault fault → IsAbsent {A = A} (Err r) → ⊥
never_absent A fault r is h = none fault (subst (λ (x : QueryFault). IsAbsent {A = A} (Err x)) is h)
  where
    none : (f : ScanFault) → IsAbsent {A = A} (Err (scan_fault f)) → ⊥
    none (stops.Damaged file block) h = h
    none stops.ReadFault h = h
    none stops.WriteFault h = h
    none stops.OutOfMemory h = h
