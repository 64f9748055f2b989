-- How a query ends that is accepted and plain.
use Rattle.std.proofs.Common.{◌≡◌, ◌⊎◌, inl, inr, ℕ, ◌+◌, ◌*◌, ◌≤◌, true, false, List, [], ◌∷◌, ◌++◌, length, drop, Option, Some, None, refl, sym, ap, ◌∙◌, subst, arith, take-append-drop}
use Rattle.std.specs.Prelude.{IsPermutation, Result, Ok, Err}
use Rattle.std.specs.Option.{ForSome}
use Rattle.std.specs.Io.KnownBytes.{Appends}
use Rattle.std.proofs.Math.Logic.{⊎_elim}
use Rattle.std.proofs.lemmas.List.{drop_all, length-drop, length-take}
use Rattle.std.proofs.lemmas.List.Sorted.{IsPermutation-refl}
use Rattle.snel_device.specs.Contents.{Contents}
use Rattle.value_meaning.specs.Val.{Val}
use Rattle.tree_meaning.specs.Tree.{Query}
use Rattle.answer_meaning.specs.Made.{Made}
use Rattle.answer_meaning.specs.Answers.{limited}
use Rattle.made_meaning.specs.MadeRows.{made}
use Rattle.scan_meaning.specs.Blocks.{Place, Block}
use Rattle.scan_meaning.specs.Batches.{rows_of, front, size_of, is_plain, need, count_passed, IsShort, Counts, IsFirstBad, MayPass, MayPut}
use Rattle.scan_meaning.specs.Limits.{is_over}
use Rattle.scan_meaning.specs.Verdicts.{Verdict, scan, untold, Finds, statuses, IsAmong}
use Rattle.scan_meaning.specs.Answers.{AddsAnswer, AddsWhole, EndsScan, EndsAs, StopsAt, StopsReading, StopsPutting}
use Rattle.scan_meaning.specs.Causes.{index_costs, StaysWithin}
use Rattle.scan_meaning.proofs.Batches.{one_count, rows-append}
use Rattle.scan_meaning.proofs.Ended.{none_over}
use Rattle.scan_meaning.proofs.Plain.{made-append, made_count, adds_more, whole_adds}
use Rattle.scan_files.specs.Places.{blocks_at}
use Rattle.scan_files.specs.Surveys.{Surveys}
use Rattle.scan_batches.specs.Lines.{made_lines}
use Rattle.scan_batches.proofs.Texts.{made_long}
use Rattle.scan_batches.specs.Scans.{IsNumbered}
use Rattle.scan_batches.specs.Outcome.{ScansTo, Finished}
use Rattle.scan_batches.specs.declared.done.Done.{Done}
use Rattle.scan_batches.specs.declared.fault.ScanFault.{ScanFault}
use Rattle.scan_batches.specs.declared.fault.ScanFault.TheVariants as stops
use Rattle.query_run.specs.Statuses.{status_of}
use Rattle.query_run.specs.Faults as says
use Rattle.query_run.specs.Faults.{OfScan, IsQuiet, StopsSo, scan_fault}
use Rattle.query_run.specs.Runs.{RunsTo}
use Rattle.query_run.specs.Sums.{SumsTo, SumsUp}
use Rattle.query_run.specs.declared.sum.QuerySum.{QuerySum}
use Rattle.query_run.proofs.Surveyed.{ends, found_scan, there, scan_is, scan_cost, Reading}

-- lines of the rows of the first batches are lines of an answer for all
module _ (q : Query) (plain : is_plain q ≡ true) (bs : List Block) (j : ℕ) where
  abbrev later : List Made
  later = made q (rows_of (drop (64 * j) bs))

  all_made : made q (rows_of (front j bs)) ++ later ≡ made q (rows_of bs)
  all_made =
      sym (made-append q plain (rows_of (front j bs)) (rows_of (drop (64 * j) bs)))
      ∙ ap (λ (l : List Val). made q l) (sym (rows-append (front j bs) (drop (64 * j) bs)) ∙ ap (λ (l : List Block). rows_of l) (take-append-drop (64 * j) bs))

  none_later : length bs ≤ 64 * j → later ≡ []
  none_later all = ap (λ (l : List Block). made q (rows_of l)) (drop_all (64 * j) bs all) ∙ makes_none
    where
      empty : (l : List Made) → length l ≡ 0 → l ≡ []
      empty [] h = refl
      empty (x ∷ xs) h = absurd (omega arith)

      makes_none : made q [] ≡ []
      makes_none = empty (made q []) (made_count q plain [])

  part_adds : (status : ℕ) (old new : Option (List ℕ)) → (status ≡ 0 → (length bs ≤ 64 * j) ⊎ ¬ IsShort (need q) (count_passed q (front j bs))) → AddsAnswer q (rows_of (front j bs)) status old new → AddsAnswer q (rows_of bs) status old new
  part_adds status old new last part =
      adds_more q plain (rows_of (front j bs)) (rows_of bs) later
      (subst (λ (l : List Made). IsPermutation l (made q (rows_of bs))) (sym all_made) (IsPermutation-refl (made q (rows_of bs))))
      status old new
      (λ e. ⊎_elim
      (λ (all : length bs ≤ 64 * j). inl (none_later all))
      (λ (full : ¬ IsShort (need q) (count_passed q (front j bs))). inr (subst (λ (n : ℕ). ¬ IsShort (need q) n) (sym (made_count q plain (rows_of (front j bs)))) full))
      (last e))
      part

  front_adds : (status : ℕ) (old new : Option (List ℕ)) → (status ≡ 0 → (length bs ≤ 64 * j) ⊎ ¬ IsShort (need q) (count_passed q (front j bs))) → AddsWhole q (rows_of (front j bs)) old new → AddsAnswer q (rows_of bs) status old new
  front_adds status old new last whole = part_adds status old new last (whole_adds q (rows_of (front j bs)) status old new whole)

abbrev stop_status : Result Done ScanFault → ℕ
stop_status (Ok d) = 0
stop_status (Err fault) = status_of (scan_fault fault)

may_pass : (q : Query) (bs : List Block) (lines read chunks kept : ℕ) (old new : Option (List ℕ)) → Finished q bs lines read chunks kept old new → MayPass q bs
may_pass q bs lines read chunks kept old new f = record { count = f.count; counts = f.counts; good = inl f.good }

not_plain : {X : Type 0} (q : Query) → is_plain q ≡ true → is_plain q ≡ false → X
not_plain q plain other = absurd (cc)

may_put : (q : Query) → is_plain q ≡ true → (bs : List Block) (old new : Option (List ℕ)) → StopsPutting q bs old new → MayPut q bs
may_put q plain bs old new h = record { before = h.before; counts = h.counts; good = h.good; all = λ other. not_plain q plain other }

-- lines of a batch that were put are lines of an answer for all rows
put_adds : (q : Query) → is_plain q ≡ true → (bs : List Block) (old new : Option (List ℕ)) → StopsPutting q bs old new → AddsAnswer q (rows_of bs) 9 old new
put_adds q plain bs old new h =
    part_adds q plain bs (h.before + 1) 9 old new (λ e. absurd (omega arith))
    record { outputs = h.more; answer = h.extended; added = h.added; appends = h.appends; whole = λ e. absurd (omega arith); front = h.some }

-- what a scan came to, as an end of the query
scan_ends : (q : Query) → is_plain q ≡ true → (limit : ℕ) (bs : List Block) (r : Result Done ScanFault) (before now chunks kept : ℕ) (old new : Option (List ℕ)) → ScansTo q bs r before now chunks kept old new → EndsScan q limit bs (stop_status r) old new
scan_ends q plain limit bs (Ok d) before now chunks kept old new h = record {
  bad = λ e. absurd (omega arith);
  passed = λ e. may_pass q bs d.lines d.read chunks kept old new h;
  over = λ e. absurd (omega arith);
  within = λ e. none_over q plain limit (rows_of bs);
  put = λ e. absurd (omega arith);
  quiet = λ other x y. not_plain q plain other;
  wrote = front_adds q plain bs h.count 0 old new (λ e. h.counts.last) h.wrote;
}
scan_ends q plain limit bs (Err (stops.Damaged file block)) before now chunks kept old new h = record {
  bad = λ e. (h.0, h.2.first);
  passed = λ e. absurd (omega arith);
  over = λ e. absurd (omega arith);
  within = λ e. none_over q plain limit (rows_of bs);
  put = λ e. absurd (omega arith);
  quiet = λ other x y. not_plain q plain other;
  wrote = front_adds q plain bs h.2.first.before 6 old new (λ e. absurd (omega arith)) h.2.wrote;
}
scan_ends q plain limit bs (Err stops.ReadFault) before now chunks kept old new h = record {
  bad = λ e. absurd (omega arith);
  passed = λ e. absurd (omega arith);
  over = λ e. absurd (omega arith);
  within = λ e. none_over q plain limit (rows_of bs);
  put = λ e. absurd (omega arith);
  quiet = λ other x y. not_plain q plain other;
  wrote = front_adds q plain bs h.batches 8 old new (λ e. absurd (omega arith)) (h.wrote plain);
}
scan_ends q plain limit bs (Err stops.WriteFault) before now chunks kept old new h = record {
  bad = λ e. absurd (omega arith);
  passed = λ e. absurd (omega arith);
  over = λ e. absurd (omega arith);
  within = λ e. none_over q plain limit (rows_of bs);
  put = λ e. may_put q plain bs old new h;
  quiet = λ other x y. not_plain q plain other;
  wrote = put_adds q plain bs old new h;
}
scan_ends q plain limit bs (Err stops.OutOfMemory) before now chunks kept old new h = record {
  bad = λ e. absurd (omega arith);
  passed = λ e. absurd (omega arith);
  over = λ e. absurd (omega arith);
  within = λ e. none_over q plain limit (rows_of bs);
  put = λ e. absurd (omega arith);
  quiet = λ other x y. not_plain q plain other;
  wrote = h;
}

allowed : (r : Result Done ScanFault) → IsAmong (stop_status r) (statuses (scan [] 0))
allowed (Ok d) = refl
allowed (Err (stops.Damaged file block)) = refl
allowed (Err stops.ReadFault) = refl
allowed (Err stops.WriteFault) = refl
allowed (Err stops.OutOfMemory) = refl

also : (r : Result Done ScanFault) → IsAmong (stop_status r) (statuses untold)
also (Ok d) = refl
also (Err (stops.Damaged file block)) = refl
also (Err stops.ReadFault) = refl
also (Err stops.WriteFault) = refl
also (Err stops.OutOfMemory) = refl

same_length : (skip : ℕ) (most : Option ℕ) (xs : List (List ℕ)) (ms : List Made) → length xs ≡ length ms → length (limited most (drop skip xs)) ≡ length (limited most (drop skip ms))
same_length skip None xs ms e = let a = length-drop skip xs in let b = length-drop skip ms in omega arith
same_length skip (Some m) xs ms e =
    let a = length-drop skip xs in
    let b = length-drop skip ms in
    let c = length-take m (drop skip xs) in
    let d = length-take m (drop skip ms) in
    omega arith

module _ (q : Query) (plain : is_plain q ≡ true) (limit : ℕ) (names : List (List ℕ)) (told : Option Contents) (fields : List (List ℕ)) (places : List Place) (left_out : ℕ) (surveyed : ForSome told (λ files. Surveys q names (length names) files fields places left_out)) (some : 1 ≤ length names) (start before now chunks kept : ℕ) (old new : Option (List ℕ)) (le : start ≤ before) (later : before ≤ now) (indexes : ForSome told (λ files. before ≤ start + index_costs files names)) where
  abbrev Outcome : Result Done ScanFault → Type 0
  Outcome r = ForSome told (λ files. ScansTo q (blocks_at files names fields places) r before now chunks kept old new)

  ends_so : (r : Result Done ScanFault) → Outcome r → ((added : List ℕ) × Appends old new added) → (v : Verdict) → Finds q names told v → EndsAs q limit v (stop_status r) old new
  ends_so r h took = ends q names told fields places left_out surveyed limit (stop_status r) old new (allowed r) (also r) (λ files is. scan_ends q plain limit (blocks_at files names fields places) r before now chunks kept old new (h files is)) took

  found : (P : List Block → Type 0) → ((files : Contents) → told ≡ Some files → P (blocks_at files names fields places)) → OfScan q names told P
  found P h = found_scan q names told fields places left_out surveyed P h

  fault_cause : (fault : ScanFault) → Outcome (Err fault) → says.SaysOfFiles q limit names told (scan_fault fault)
  fault_cause (stops.Damaged file block) h = found (λ bs. (b : Block) × IsNumbered b file block × IsFirstBad q bs b) (λ files is. let k = h files is in (k.0, k.1, k.2.first))
  fault_cause stops.ReadFault h = λ files is. there q names told fields places left_out surveyed some files is
  fault_cause stops.WriteFault h = found (λ bs. MayPut q bs × (is_over q limit (rows_of bs) ≡ false)) (λ files is. (may_put q plain (blocks_at files names fields places) old new (h files is), none_over q plain limit (rows_of (blocks_at files names fields places))))
  fault_cause stops.OutOfMemory h = tt

  fault_quiet : (fault : ScanFault) → IsQuiet {A = QuerySum} (Err (scan_fault fault)) old new
  fault_quiet (stops.Damaged file block) = tt
  fault_quiet stops.ReadFault = tt
  fault_quiet stops.WriteFault = tt
  fault_quiet stops.OutOfMemory = tt

  fault_stop : (fault : ScanFault) → Outcome (Err fault) → StopsSo {A = QuerySum} q names told (Err (scan_fault fault)) start now old new
  fault_stop (stops.Damaged file block) h = (λ t. found (λ bs. (b : Block) × IsNumbered b file block × StopsAt q bs b old new) (λ files is. h files is), λ other. not_plain q plain other)
  fault_stop stops.ReadFault h = (
    λ files is bs n finds.
        let same = (scan_is q names told fields places left_out surveyed files is bs n finds).0 in
        let k = h files is in
        let most = indexes files is in
        let own : StopsReading q (blocks_at files names fields places) (index_costs files names) start now old new = record { batches = k.batches; told = λ i grown. k.told i (omega arith); good = k.good; wrote = k.wrote } in
        subst (λ (l : List Block). StopsReading q l (index_costs files names) start now old new) (sym same) own,
    λ other. not_plain q plain other,
  )
  fault_stop stops.WriteFault h = λ t. found (λ bs. StopsPutting q bs old new) (λ files is. h files is)
  fault_stop stops.OutOfMemory h = tt

  sums : (sum : QuerySum) (d : Done) → sum.lines ≡ d.lines → sum.read ≡ d.read → sum.skipped ≡ left_out → sum.ran.chunks ≡ chunks → sum.ran.kept ≡ kept → Outcome (Ok d) → SumsUp q names told sum
  sums sum done l r s c k h = λ files is bs n finds.
      let same = scan_is q names told fields places left_out surveyed files is bs n finds in
      let all = blocks_at files names fields places in
      let f = h files is in
      let so : (count : ℕ) → Counts q (blocks_at files names fields places) count → SumsTo q (front count (blocks_at files names fields places)) sum = λ count counts.
      subst (λ (b : List Block). SumsTo q b sum) (one_count q (blocks_at files names fields places) f.count count f.counts counts)
      record {
        lines = l ∙ f.lines_are ∙ same_length q.skip q.take (made_lines q (rows_of (front f.count all))) (made q (rows_of (front f.count all))) (made_long q (rows_of (front f.count all)) (made_lines q (rows_of (front f.count all))) refl);
        read = r ∙ f.read_are;
        chunks = c ∙ f.chunks_are;
        kept = k ∙ f.kept_are;
      }
      in
      record {
        skipped = s ∙ sym same.1;
        done = subst (λ (b : List Block). (count : ℕ) → Counts q b count → SumsTo q (front count b) sum) (sym same.0) so;
      }

  within : Reading q names told fields places left_out surveyed before now → StaysWithin q names told start now
  within most = scan_cost q names told fields places left_out surveyed start before now indexes most

  pub plain_done : (sum : QuerySum) (d : Done) → sum.lines ≡ d.lines → sum.read ≡ d.read → sum.skipped ≡ left_out → sum.ran.chunks ≡ chunks → sum.ran.kept ≡ kept → Outcome (Ok d) → Reading q names told fields places left_out surveyed before now → ((added : List ℕ) × Appends old new added) → RunsTo q limit names told (Ok sum) start now old new
  plain_done sum d l r s c k h most took = record {
    ends = λ v finds. ends_so (Ok d) h took v finds;
    cause = found (λ bs. MayPass q bs × (is_over q limit (rows_of bs) ≡ false)) (λ files is. (may_pass q (blocks_at files names fields places) d.lines d.read chunks kept old new (h files is), none_over q plain limit (rows_of (blocks_at files names fields places))));
    quiet = tt;
    stopped = tt;
    later = omega arith;
    taken = within most;
    sum = sums sum d l r s c k h;
  }

  pub plain_stopped : (fault : ScanFault) → Outcome (Err fault) → Reading q names told fields places left_out surveyed before now → ((added : List ℕ) × Appends old new added) → RunsTo q limit names told (Err (scan_fault fault)) start now old new
  plain_stopped fault h most took = record {
    ends = λ v finds. ends_so (Err fault) h took v finds;
    cause = fault_cause fault h;
    quiet = fault_quiet fault;
    stopped = fault_stop fault h;
    later = omega arith;
    taken = within most;
    sum = tt;
  }

-- what a scan came to, told of the query, the files and the places as they were handed on
module _ (names fields : List (List ℕ)) (told mid : Option Contents) (q p : Query) (places seen : List Place) (asked : p ≡ q) (same : mid ≡ told) (lent : seen ≡ places) where
  pub came_to : (r : Result Done ScanFault) (before now chunks kept : ℕ) (old new : Option (List ℕ)) → ForSome mid (λ files. ScansTo p (blocks_at files names fields seen) r before now chunks kept old new) → ForSome told (λ files. ScansTo q (blocks_at files names fields places) r before now chunks kept old new)
  came_to r before now chunks kept old new outcome = λ files is.
      subst (λ (l : List Place). ScansTo q (blocks_at files names fields l) r before now chunks kept old new) lent
      (subst (λ (o : Query). ScansTo o (blocks_at files names fields seen) r before now chunks kept old new) asked (outcome files (same ∙ is)))

  pub read_most : (before now : ℕ) → ForSome mid (λ files. (count : ℕ) → Counts p (blocks_at files names fields seen) count → now ≤ before + size_of (front count (blocks_at files names fields seen))) → ForSome told (λ files. (count : ℕ) → Counts q (blocks_at files names fields places) count → now ≤ before + size_of (front count (blocks_at files names fields places)))
  read_most before now most = λ files is.
      subst (λ (l : List Place). (count : ℕ) → Counts q (blocks_at files names fields l) count → now ≤ before + size_of (front count (blocks_at files names fields l))) lent
      (subst (λ (o : Query). (count : ℕ) → Counts o (blocks_at files names fields seen) count → now ≤ before + size_of (front count (blocks_at files names fields seen))) asked (most files (same ∙ is)))
