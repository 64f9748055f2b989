-- A file of rows whose entries are sound has no bad block, and no more groups than rows.
use Rattle.std.proofs.Common.{◌≡◌, ◌⊎◌, inl, inr, ℕ, suc, ◌≤◌, Bool, true, false, cond, eqb, List, [], ◌∷◌, ◌++◌, length, map, Option, Some, None, refl, sym, ap, ◌∙◌, subst, arith}
use Rattle.std.specs.Prelude.{IsTrue, ◌==◌, ◌&&◌, ◌||◌, nat_lt, is_none, if◌then◌else◌}
use Rattle.std.specs.List.{list_any, filter, find, count_by}
use Rattle.std.specs.Option.{option_and_then}
use Rattle.std.proofs.lemmas.Bool.{le-ltb}
use Rattle.std.proofs.lemmas.Bool.Decides.{nat_tests}
use Rattle.std.proofs.lemmas.List.{append-nil, length-map}
use Rattle.std.proofs.lemmas.List.Sums.{length-filter, count_by-le-length}
use Rattle.snel_device.specs.Contents.{Contents}
use Rattle.value_meaning.specs.Val.{Val}
use Rattle.block_meaning.specs.Tables.{Table}
use Rattle.block_meaning.specs.Blocks.{IsBlock}
use Rattle.file_meaning.specs.Files.{Entry, bytes_at}
use Rattle.range_meaning.specs.Excluded.{IsSoundEntry}
use Rattle.check_meaning.specs.Aggregates.{is_grouped}
use Rattle.eval_meaning.specs.Pair.{Pair, alone}
use Rattle.eval_meaning.specs.Passed.{is_kept, pairs, passed}
use Rattle.agg_meaning.specs.Keys.{same_keys, with_keys, distinct_keys}
use Rattle.made_meaning.specs.OverGroups.{values_on}
use Rattle.scan_meaning.specs.Blocks.{Block, Place, places_from, block_of, good_rows, is_sound}
use Rattle.scan_meaning.specs.Wanted.{is_wanted}
use Rattle.scan_meaning.specs.Batches.{first_bad, is_bad}
use Rattle.scan_meaning.specs.Limits.{key_lists, is_over}
use Rattle.scan_meaning.specs.Opened.{Opened, opened, AreOpened, blocks_from}
use Rattle.scan_meaning.specs.Verdicts.{Verdict, scan, wanted, skipped, FindsInFiles, Finds, IsAmong}
use Rattle.scan_meaning.specs.Headline.{AreRowsOf, ExcludedAreSoundIn, ExcludedAreSound, AnswersFiles}
use Rattle.scan_meaning.specs.Answers.{EndsAs}
use Rattle.scan_meaning.proofs.Exact.{rows_exact, ranges_exact}
use Rattle.scan_meaning.proofs.Batches.{first_of_all}
use Rattle.scan_meaning.proofs.Ended.{ended_is_answered}
use Rattle.pack_meaning.specs.PackedFiles.{AreSoundEntries, HoldsRows}
use Rattle.make_meaning.specs.LogQuery.{query, EndsOver}
use Rattle.make_meaning.specs.Laws.{LogQueryEnds}

-- the block of a sound entry is good
module _ (field bytes : List ℕ) where
  good_block : (p : Place) (table : Table) (rows : List Val) → IsBlock table rows (bytes_at p.entry bytes) → length rows ≡ p.entry.rows → IsSoundEntry field p.entry rows → good_rows (block_of bytes field p) ≡ Some rows
  unfolding good_rows
  good_block p table rows block count sound =
      ap (option_and_then (λ (l : List Val). if is_sound field p.entry l then Some l else None)) ((rows_exact (block_of bytes field p) rows).1 (table, block, count))
      ∙ ap (λ (t : Bool). if t then Some rows else None) ((ranges_exact field p.entry rows).1 sound)

  -- no block is bad, and the query wants them all
  none_bad : (n : ℕ) (es : List Entry) → AreSoundEntries field es bytes → first_bad (wanted query (map (block_of bytes field) (places_from 0 n es) ++ [])) ≡ None
  unfolding is_wanted
  none_bad n [] sound = refl
  none_bad n (e ∷ es) sound =
      let p : Place = record { file = 0; block = n; entry = e } in
      let s = sound.0 in
      let good = good_block p s.0 s.1 s.2 s.3 s.4 in
      ap (λ (o : Option (List Val)). if is_none o then Some (block_of bytes field p) else first_bad (wanted query (map (block_of bytes field) (places_from 0 (suc n) es) ++ []))) good
      ∙ none_bad (suc n) es sound.1

  -- and none is excluded
  none_excluded : (all es : List Entry) → ExcludedAreSoundIn query (record { bytes = bytes; field = field; entries = all }) es
  none_excluded all [] = tt
  none_excluded all (e ∷ es) = (λ x rows are. absurd (x.bound refl), none_excluded all es)

-- there are no more lists of keys than rows
distinct_few : (all : List (List Val)) → length (distinct_keys all) ≤ length all
distinct_few [] = omega arith
distinct_few (keys ∷ all) = go (list_any (same_keys keys) (distinct_keys all)) (distinct_few all)
  where
    go : (b : Bool) → length (distinct_keys all) ≤ length all → length (if b then distinct_keys all else keys ∷ distinct_keys all) ≤ suc (length all)
    go true h = omega arith
    go false h = omega arith

lists_few : (rows : List Val) → length (key_lists query rows) ≤ length rows
lists_few rows =
    let all = passed query rows in
    let a = distinct_few (map (values_on query.keys) all) in
    let b : length (map (values_on query.keys) all) ≡ length all = length-map all (values_on query.keys) in
    let c : length all ≡ count_by (is_kept query.filter) (pairs query rows) = length-filter (is_kept query.filter) (pairs query rows) in
    let d : count_by (is_kept query.filter) (pairs query rows) ≤ length (pairs query rows) = count_by-le-length (is_kept query.filter) (pairs query rows) in
    let e : length (pairs query rows) ≡ length rows = length-map rows alone in
    omega arith

and_false : (b : Bool) → (b && false) ≡ false
and_false true = refl
and_false false = refl

none_over : (limit : ℕ) (rows : List Val) → length rows ≤ limit → is_over query limit rows ≡ false
unfolding is_over
none_over limit rows few =
    let h = lists_few rows in
    ap (λ (b : Bool). is_grouped query && b) (le-ltb limit (length (key_lists query rows)) (omega arith)) ∙ and_false (is_grouped query)

-- a status among others
one_of : (n a : ℕ) (ss : List ℕ) → IsTrue (list_any (λ s. s == n) (a ∷ ss)) → (n ≡ a) ⊎ IsTrue (list_any (λ s. s == n) ss)
one_of n a ss h = go (eqb a n) refl
  where
    go : (b : Bool) → eqb a n ≡ b → (n ≡ a) ⊎ IsTrue (list_any (λ s. s == n) ss)
    go true e = inl (grind (arith, nat_tests))
    go false e = inr (rw e at h)

or_more : (b c : Bool) → IsTrue c → IsTrue (b || c)
or_more true c h = refl
or_more false c h = h

left : (n : ℕ) → IsAmong n (8 ∷ 6 ∷ 7 ∷ 9 ∷ 0 ∷ 10 ∷ []) → (n ≡ 6 → ⊥) → (n ≡ 7 → ⊥) → IsAmong n (8 ∷ 9 ∷ 0 ∷ 10 ∷ [])
left n h no_bad few = elim (one_of n 8 (6 ∷ 7 ∷ 9 ∷ 0 ∷ 10 ∷ []) h) [
  | inl e ↦ rw e refl
  | inr k ↦ elim (one_of n 6 (7 ∷ 9 ∷ 0 ∷ 10 ∷ []) k) [
    | inl e ↦ absurd (no_bad e)
    | inr l ↦ elim (one_of n 7 (9 ∷ 0 ∷ 10 ∷ []) l) [ inl e ↦ absurd (few e) | inr m ↦ or_more (8 == n) (list_any (λ s. s == n) (9 ∷ 0 ∷ 10 ∷ [])) m ]
  ]
]

pub log_query_ends : LogQueryEnds
log_query_ends limit field bytes name rows files ended old new holds is few ends =
    let o : Opened = record { bytes = bytes; field = field; entries = holds.entries } in
    let bs = wanted query (blocks_from 0 (opened o ∷ [])) in
    let named : AreOpened files (name ∷ []) (o ∷ []) = (rw is (refl, holds.file), tt) in
    let found : FindsInFiles query (name ∷ []) files (scan bs (skipped query (blocks_from 0 (opened o ∷ [])))) =
    record { files_are = opened o ∷ []; are = named; is = refl } in
    let good : first_bad bs ≡ None = none_bad field bytes 0 holds.entries holds.sound in
    let so = ends _ found in
    let answered : AnswersFiles query limit (name ∷ []) (Some files) ended old new = ended_is_answered query limit (name ∷ []) (Some files) ended old new ends in
    let rows_are : AreRowsOf (o ∷ []) rows = (rows, [], sym (append-nil rows), holds.held, refl) in
    let sound : ExcludedAreSound query (o ∷ []) = (none_excluded field bytes holds.entries holds.entries, tt) in
    record {
      allowed = left ended so.allowed
          (λ e. let b = so.wrote.bad e in let first = first_of_all query bs b.0 b.1 in cc)
          (λ e. let over = answered.over e files (o ∷ []) rows refl named rows_are sound in let within = none_over limit rows few in cc);
      wrote = answered.answers files (o ∷ []) rows refl named rows_are sound;
    }
