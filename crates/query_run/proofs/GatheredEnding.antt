-- How a query ends that sorts or groups: nothing is put before all blocks are read.
use Rattle.std.proofs.Common.{◌≡◌, inl, ℕ, zero, suc, ◌+◌, ◌*◌, ◌≤◌, Bool, true, false, cond, List, [], ◌∷◌, ◌++◌, length, take, drop, map, Option, Some, None, refl, sym, ap, ◌∙◌, subst, arith}
use Rattle.std.specs.Prelude.{Ok, Err}
use Rattle.std.specs.Option.{ForSome}
use Rattle.std.specs.Io.KnownBytes.{Appends}
use Rattle.std.proofs.Math.Logic.{⊎_elim}
use Rattle.std.proofs.lemmas.List.{take_all, length-drop, length-take, length-map, append-nil}
use Rattle.std.proofs.lemmas.List.Sorted.{length_permutation}
use Rattle.snel_device.specs.Contents.{Contents}
use Rattle.value_meaning.specs.Val.{Val}
use Rattle.tree_meaning.specs.Tree.{Query}
use Rattle.answer_meaning.specs.Made.{Output, Made}
use Rattle.answer_meaning.specs.Answers.{limited}
use Rattle.answer_meaning.specs.Lines.{print, line_text}
use Rattle.made_meaning.specs.MadeRows.{made}
use Rattle.scan_meaning.specs.Blocks.{Place, Block}
use Rattle.scan_meaning.specs.Batches.{rows_of, is_bad, first_bad, front, batch, size_of, is_plain, need, count_passed, IsShort, BatchCounts, Counts, IsFirstBad, MayPass, MayPut}
use Rattle.scan_meaning.specs.Limits.{is_over}
use Rattle.scan_meaning.specs.Answers.{falling, EndsScan, StopsReading}
use Rattle.scan_meaning.specs.Causes.{index_costs, StaysWithin}
use Rattle.scan_meaning.proofs.Batches.{front_more, find_behind, find_before}
use Rattle.scan_meaning.proofs.Arranged.{adds_nothing}
use Rattle.scan_files.specs.Places.{block_at, blocks_at, room_of}
use Rattle.scan_files.specs.Surveys.{Surveys}
use Rattle.scan_files.proofs.Parts.{room_front}
use Rattle.scan_batches.specs.Lines.{text_of, TakesPart}
use Rattle.scan_batches.specs.Scans.{chunks_of, IsNumbered, NamesBlock, IsReading}
use Rattle.scan_batches.specs.Gathers.{StopsGathering, lines_of}
use Rattle.scan_batches.specs.declared.fault.ScanFault.{ScanFault}
use Rattle.scan_batches.specs.declared.fault.ScanFault.TheVariants as stops
use Rattle.order_limit.specs.Arranged.{Row}
use Rattle.order_limit.specs.Laws.{PrintsAnswer}
use Rattle.query_run.specs.Faults.{OfScan, scan_fault}
use Rattle.query_run.specs.Runs.{RunsTo}
use Rattle.query_run.specs.Sums.{SumsTo, SumsUp}
use Rattle.query_run.specs.declared.sum.QuerySum.{QuerySum}
use Rattle.query_run.specs.declared.query_fault.QueryFault.TheVariants.{Groups, WriteFault, OutOfMemory}
use Rattle.query_run.proofs.Sink.{Keeps-same, Appends-nothing}
use Rattle.query_run.proofs.Surveyed.{ends, found_scan, there, scan_is, scan_cost, Reading}

front_good : (n : ℕ) (bs : List Block) → first_bad bs ≡ None → first_bad (take n bs) ≡ None
front_good zero bs h = refl
front_good (suc n) [] h = refl
front_good (suc n) (b ∷ bs) h = on (is_bad b) h (λ k. front_good n bs k)
  where
    on : (t : Bool) → cond t (Some b) (first_bad bs) ≡ None → (first_bad bs ≡ None → first_bad (take n bs) ≡ None) → cond t (Some b) (first_bad (take n bs)) ≡ None
    on true h next = absurd (cc)
    on false h next = next h

-- the batch of the first bad block
batch_of : (bs : List Block) (b : Block) (n : ℕ) → first_bad (front n bs) ≡ Some b → (j : ℕ) × (first_bad (front j bs) ≡ None) × (first_bad (batch j bs) ≡ Some b)
batch_of bs b zero h = absurd (cc)
batch_of bs b (suc n) h = on (first_bad (front n bs)) refl (λ k. batch_of bs b n k)
  where
    whole : first_bad (front n bs ++ batch n bs) ≡ Some b
    whole = let e : n + 1 ≡ suc n = omega arith in ap (λ (l : List Block). first_bad l) (sym (front_more n bs)) ∙ ap (λ (m : ℕ). first_bad (front m bs)) e ∙ h

    on : (o : Option Block) → first_bad (front n bs) ≡ o → (first_bad (front n bs) ≡ Some b → (j : ℕ) × (first_bad (front j bs) ≡ None) × (first_bad (batch j bs) ≡ Some b)) → (j : ℕ) × (first_bad (front j bs) ≡ None) × (first_bad (batch j bs) ≡ Some b)
    on None e next = (n, e, sym (find_behind is_bad (front n bs) (batch n bs) e) ∙ whole)
    on (Some c) e next = next (e ∙ sym (find_before is_bad (front n bs) (batch n bs) c e) ∙ whole)

-- all blocks are needed
module _ (q : Query) (other : is_plain q ≡ false) where
  needs_all : need q ≡ None
  unfolding need
  needs_all = rw other refl

  all_short : (n : ℕ) → IsShort (need q) n
  all_short n = subst (λ (o : Option ℕ). IsShort o n) (sym needs_all) tt

  counts_any : (bs : List Block) (j : ℕ) → BatchCounts q bs j
  unfolding BatchCounts
  counts_any bs j = λ i le. all_short (count_passed q (front i bs))

  all_front : (bs : List Block) → front (length bs) bs ≡ bs
  all_front bs = take_all (64 * length bs) bs (omega arith)

  counts_all : (bs : List Block) → Counts q bs (length bs)
  counts_all bs = record { each = λ j lt. counts_any bs j; last = inl (omega arith) }

  -- whatever number of batches counts, all blocks stand in them
  count_is_all : (bs : List Block) (count : ℕ) → Counts q bs count → length bs ≤ 64 * count
  count_is_all bs count counts = ⊎_elim (λ (all : length bs ≤ 64 * count). all) (λ (full : ¬ IsShort (need q) (count_passed q (front count bs))). absurd (full (all_short _))) counts.last

  first_is : (bs : List Block) (b : Block) → first_bad bs ≡ Some b → IsFirstBad q bs b
  first_is bs b h =
      let k = batch_of bs b (length bs) (ap (λ (l : List Block). first_bad l) (all_front bs) ∙ h) in
      record { before = k.0; counts = counts_any bs k.0; good = k.1; bad = k.2 }

  may_pass : (bs : List Block) → first_bad bs ≡ None → MayPass q bs
  may_pass bs good = record { count = length bs; counts = counts_all bs; good = inl (ap (λ (l : List Block). first_bad l) (all_front bs) ∙ good) }

  may_put : (bs : List Block) → first_bad bs ≡ None → MayPut q bs
  may_put bs good = record { before = 0; counts = counts_any bs 0; good = front_good (64 * (0 + 1)) bs good; all = λ o. good }

  -- a scan that ended before anything was put
  unput : (limit : ℕ) (bs : List Block) (status : ℕ) (a : Option (List ℕ)) → (status ≡ 0 → ⊥) → (status ≡ 9 → ⊥) → (status ≡ 6 → (b : Block) × IsFirstBad q bs b) → (status ≡ 7 → (first_bad bs ≡ None) × (is_over q limit (rows_of bs) ≡ true)) → EndsScan q limit bs status a a
  unput limit bs status a undone uncut bad over = record {
    bad = bad;
    passed = λ e. absurd (undone e);
    over = over;
    within = λ e. absurd (⊎_elim (λ (x : status ≡ 0). undone x) (λ (x : status ≡ 9). uncut x) e);
    put = λ e. absurd (uncut e);
    quiet = λ o x y. Keeps-same a;
    wrote = adds_nothing q (rows_of bs) status a a undone (Keeps-same a);
  }

-- as many lines as made rows are let through
limited_long : (most : Option ℕ) (skip : ℕ) (xs : List Output) (ms : List Made) → length xs ≡ length ms → length (limited most (drop skip xs)) ≡ length (limited most (drop skip ms))
limited_long None skip xs ms e = let a = length-drop skip xs in let b = length-drop skip ms in omega arith
limited_long (Some m) skip xs ms e =
    let a = length-drop skip xs in
    let b = length-drop skip ms in
    let c = length-take m (drop skip xs) in
    let d = length-take m (drop skip ms) in
    omega arith

pub printed_long : (q : Query) (all : List Val) (rows : List Row) → PrintsAnswer (falling q) q.skip q.take (made q all) rows → length rows ≡ length (limited q.take (drop q.skip (made q all)))
printed_long q all rows p =
    let ms = p.answer.arrangement in
    let lines : length rows ≡ length p.outputs = sym (length-map rows (λ (r : Row). r.1)) ∙ ap (λ (l : List (List ℕ)). length l) p.lines ∙ length-map p.outputs line_text in
    let outputs : length p.outputs ≡ length (limited q.take (drop q.skip (map (λ (m : Made). m.output) ms))) = ap (λ (l : List Output). length l) p.answer.cut in
    let long : length (map (λ (m : Made). m.output) ms) ≡ length (made q all) = length-map ms (λ (m : Made). m.output) ∙ length_permutation (made q all) ms p.answer.permutes in
    lines ∙ outputs ∙ limited_long q.take q.skip (map (λ (m : Made). m.output) ms) (made q all) long

module _ (q : Query) (other : is_plain q ≡ false) (limit : ℕ) (names : List (List ℕ)) (told : Option Contents) (fields : List (List ℕ)) (places : List Place) (left_out : ℕ) (surveyed : ForSome told (λ files. Surveys q names (length names) files fields places left_out)) (some : 1 ≤ length names) (start before now : ℕ) (le : start ≤ before) (later : before ≤ now) (indexes : ForSome told (λ files. before ≤ start + index_costs files names)) (most : now ≤ before + room_of places) where
  found : (P : List Block → Type 0) → ((files : Contents) → told ≡ Some files → P (blocks_at files names fields places)) → OfScan q names told P
  found P h = found_scan q names told fields places left_out surveyed P h

  reading : Reading q names told fields places left_out surveyed before now
  reading = λ files is count counts.
      let bs = blocks_at files names fields places in
      let n : length (blocks_at files names fields places) ≡ length places = length-map places (block_at files names fields) in
      let all : length (blocks_at files names fields places) ≤ 64 * count = count_is_all q other (blocks_at files names fields places) count counts in
      let e : room_of (take (64 * count) places) ≡ size_of (front count (blocks_at files names fields places)) = room_front files names fields count places in
      let w : room_of (take (64 * count) places) ≡ room_of places = ap (λ (l : List Place). room_of l) (take_all (64 * count) places (omega arith)) in
      omega arith

  within_cost : StaysWithin q names told start now
  within_cost = scan_cost q names told fields places left_out surveyed start before now indexes reading

  -- blocks that couldn't all be gathered
  pub stopped_run : (a : Option (List ℕ)) (fault : ScanFault) → IsReading fault → ForSome told (λ files. NamesBlock fault (λ b. first_bad (blocks_at files names fields places) ≡ Some b)) → ForSome told (λ files. StopsGathering fault (blocks_at files names fields places) before now) → RunsTo q limit names told (Err (scan_fault fault)) start now a a
  stopped_run a (stops.Damaged file block) reading names_it came = record {
    ends = λ v finds. ends q names told fields places left_out surveyed limit 6 a a refl refl
        (λ files is. let h = names_it files is in unput q other limit (blocks_at files names fields places) 6 a (λ e. omega arith) (λ e. omega arith) (λ e. (h.0, first_is q other (blocks_at files names fields places) h.0 h.2)) (λ e. absurd (omega arith)))
        ([], Appends-nothing a) v finds;
    cause = found (λ bs. (b : Block) × IsNumbered b file block × IsFirstBad q bs b) (λ files is. let h = names_it files is in (h.0, h.1, first_is q other (blocks_at files names fields places) h.0 h.2));
    quiet = tt;
    stopped = (λ plain. absurd (never plain), λ o. Keeps-same a);
    later = omega arith;
    taken = within_cost;
    sum = tt;
  }
    where
      never : is_plain q ≡ true → ⊥
      never plain = cc
  stopped_run a stops.ReadFault reading names_it came = record {
    ends = λ v finds. ends q names told fields places left_out surveyed limit 8 a a refl refl
        (λ files is. unput q other limit (blocks_at files names fields places) 8 a (λ e. omega arith) (λ e. omega arith) (λ e. absurd (omega arith)) (λ e. absurd (omega arith)))
        ([], Appends-nothing a) v finds;
    cause = λ files is. there q names told fields places left_out surveyed some files is;
    quiet = tt;
    stopped = (
      λ files is bs n finds.
          let same = (scan_is q names told fields places left_out surveyed files is bs n finds).0 in
          let k = came files is in
          let least = indexes files is in
          let own : StopsReading q (blocks_at files names fields places) (index_costs files names) start now a a = record { batches = k.0; told = λ i grown. k.1 i (omega arith); good = k.2; wrote = λ plain. absurd (never plain) } in
          subst (λ (l : List Block). StopsReading q l (index_costs files names) start now a a) (sym same) own,
      λ o. Keeps-same a,
    );
    later = omega arith;
    taken = within_cost;
    sum = tt;
  }
    where
      never : is_plain q ≡ true → ⊥
      never plain = cc
  stopped_run a stops.WriteFault reading names_it came = absurd reading
  stopped_run a stops.OutOfMemory reading names_it came = record {
    ends = λ v finds. ends q names told fields places left_out surveyed limit 10 a a refl refl
        (λ files is. unput q other limit (blocks_at files names fields places) 10 a (λ e. omega arith) (λ e. omega arith) (λ e. absurd (omega arith)) (λ e. absurd (omega arith)))
        ([], Appends-nothing a) v finds;
    cause = tt;
    quiet = tt;
    stopped = tt;
    later = omega arith;
    taken = within_cost;
    sum = tt;
  }

  -- no memory behind the blocks
  pub late_memory_run : (a : Option (List ℕ)) → RunsTo q limit names told (Err OutOfMemory) start now a a
  late_memory_run a = stopped_run a stops.OutOfMemory tt (λ files is. tt) (λ files is. tt)

  -- all blocks were gathered, and none is bad
  module _ (bs : List Block) (are : ForSome told (λ files. bs ≡ blocks_at files names fields places)) (good : first_bad bs ≡ None) where
    -- what holds of the blocks that were read holds of those that are to be scanned
    of_them : (P : List Block → Type 0) → P bs → (files : Contents) → told ≡ Some files → P (blocks_at files names fields places)
    of_them P h files is = subst P (are files is) h

    pub over_run : (a : Option (List ℕ)) → is_over q limit (rows_of bs) ≡ true → RunsTo q limit names told (Err Groups) start now a a
    over_run a over = record {
      ends = λ v finds. ends q names told fields places left_out surveyed limit 7 a a refl refl
          (of_them (λ l. EndsScan q limit l 7 a a) (unput q other limit bs 7 a (λ e. omega arith) (λ e. omega arith) (λ e. absurd (omega arith)) (λ e. (good, over))))
          ([], Appends-nothing a) v finds;
      cause = found (λ l. (first_bad l ≡ None) × (is_over q limit (rows_of l) ≡ true)) (of_them (λ l. (first_bad l ≡ None) × (is_over q limit (rows_of l) ≡ true)) (good, over));
      quiet = tt;
      stopped = Keeps-same a;
      later = omega arith;
      taken = within_cost;
      sum = tt;
    }

    module _ (within : is_over q limit (rows_of bs) ≡ false) (rows : List Row) (printed : PrintsAnswer (falling q) q.skip q.take (made q (rows_of bs)) rows) (old new : Option (List ℕ)) where
      sums : (sum : QuerySum) → sum.lines ≡ length rows → sum.read ≡ length places → sum.skipped ≡ left_out → sum.ran.chunks ≡ chunks_of bs → sum.ran.kept ≡ count_passed q bs → SumsUp q names told sum
      sums sum l r s c k = λ files is all n finds.
          let same = scan_is q names told fields places left_out surveyed files is all n finds in
          let n_places : length (blocks_at files names fields places) ≡ length places = length-map places (block_at files names fields) in
          let long : length bs ≡ length (blocks_at files names fields places) = ap (λ (x : List Block). length x) (are files is) in
          let so : SumsTo q bs sum = record {
            lines = l ∙ printed_long q (rows_of bs) rows printed;
            read = r ∙ sym n_places ∙ sym long;
            chunks = c;
            kept = k;
          } in
          record {
            skipped = s ∙ sym same.1;
            done = λ count counts.
                let here : all ≡ bs = same.0 ∙ sym (are files is) in
                let whole : front count all ≡ all = take_all (64 * count) all (count_is_all q other all count counts) in
                subst (λ (b : List Block). SumsTo q b sum) (sym (whole ∙ here)) so;
          }

      -- all lines were put
      pub done_run : (sum : QuerySum) → sum.lines ≡ length rows → sum.read ≡ length places → sum.skipped ≡ left_out → sum.ran.chunks ≡ chunks_of bs → sum.ran.kept ≡ count_passed q bs → Appends old new (text_of (lines_of rows)) → RunsTo q limit names told (Ok sum) start now old new
      done_run sum l r s c k took =
          let took_print : Appends old new (print printed.outputs) = subst (λ (t : List ℕ). Appends old new t) printed.text took in
          record {
            ends = λ v finds. ends q names told fields places left_out surveyed limit 0 old new refl refl
                (of_them (λ b. EndsScan q limit b 0 old new) record {
                  bad = λ e. absurd (omega arith);
                  passed = λ e. may_pass q other bs good;
                  over = λ e. absurd (omega arith);
                  within = λ e. within;
                  put = λ e. absurd (omega arith);
                  quiet = λ o x y. absurd (x refl);
                  wrote = record { outputs = printed.outputs; answer = printed.answer; added = print printed.outputs; appends = took_print; whole = λ e. refl; front = ([], sym (append-nil (print printed.outputs))) };
                })
                (print printed.outputs, took_print) v finds;
            cause = found (λ b. MayPass q b × (is_over q limit (rows_of b) ≡ false)) (of_them (λ b. MayPass q b × (is_over q limit (rows_of b) ≡ false)) (may_pass q other bs good, within));
            quiet = tt;
            stopped = tt;
            later = omega arith;
            taken = within_cost;
            sum = sums sum l r s c k;
          }

      -- a put failed
      pub cut_run : TakesPart old new (text_of (lines_of rows)) → RunsTo q limit names told (Err WriteFault) start now old new
      cut_run part = record {
        ends = λ v finds. ends q names told fields places left_out surveyed limit 9 old new refl refl
            (of_them (λ b. EndsScan q limit b 9 old new) record {
              bad = λ e. absurd (omega arith);
              passed = λ e. absurd (omega arith);
              over = λ e. absurd (omega arith);
              within = λ e. within;
              put = λ e. may_put q other bs good;
              quiet = λ o x y. absurd (y refl);
              wrote = record { outputs = printed.outputs; answer = printed.answer; added = part.added; appends = part.appends; whole = λ e. absurd (omega arith); front = (part.front.0, sym printed.text ∙ part.front.1) };
            })
            (part.added, part.appends) v finds;
        cause = found (λ b. MayPut q b × (is_over q limit (rows_of b) ≡ false)) (of_them (λ b. MayPut q b × (is_over q limit (rows_of b) ≡ false)) (may_put q other bs good, within));
        quiet = tt;
        stopped = λ plain. absurd (never plain);
        later = omega arith;
        taken = within_cost;
        sum = tt;
      }
        where
          never : is_plain q ≡ true → ⊥
          never plain = cc
