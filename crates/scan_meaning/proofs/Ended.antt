-- A query that ended as its verdict allows has written lines of an answer for the rows of its files.
use Rattle.std.proofs.Common.{◌≡◌, ◌⊎◌, inl, inr, ℕ, suc, ◌+◌, ◌*◌, ◌<◌, ◌≤◌, Bool, true, false, List, [], ◌++◌, length, drop, map, Option, Some, None, refl, sym, ap, ◌∙◌, subst, arith}
use Rattle.std.specs.Prelude.{◌≢◌, ◌&&◌, nat_lt, IsPermutation, unwrap_or}
use Rattle.std.proofs.lemmas.Bool.{cases_lt}
use Rattle.std.proofs.Math.Logic.{⊎_elim}
use Rattle.std.proofs.lemmas.List.{append-nil, take_all, map-append, length-append}
use Rattle.std.proofs.lemmas.List.Sorted.{IsPermutation-map}
use Rattle.std.proofs.Common.{take-append-drop}
use Rattle.snel_device.specs.Contents.{Contents}
use Rattle.value_meaning.specs.Val.{Val}
use Rattle.tree_meaning.specs.Tree.{Query}
use Rattle.eval_meaning.specs.Pair.{Pair}
use Rattle.eval_meaning.specs.Passed.{passed}
use Rattle.answer_meaning.specs.Made.{Made}
use Rattle.made_meaning.specs.MadeRows.{made, made_row}
use Rattle.scan_meaning.specs.Blocks.{Block}
use Rattle.scan_meaning.specs.Batches.{rows_of, first_bad, front, is_plain, need, count_passed, IsShort, MayPass}
use Rattle.scan_meaning.specs.Opened.{Opened, opened, AreOpened, blocks_from}
use Rattle.scan_meaning.specs.Verdicts.{Verdict, scan, wanted, skipped, FindsInFiles, Finds}
use Rattle.scan_meaning.specs.Answers.{AddsAnswer, EndsScan}
use Rattle.scan_meaning.specs.Limits.{key_lists, is_over}
use Rattle.scan_meaning.specs.Headline.{AreRowsOf, ExcludedAreSound}
use Rattle.scan_meaning.specs.Laws.{EndedIsAnswered}
use Rattle.scan_meaning.proofs.Batches.{rows-append}
use Rattle.scan_meaning.proofs.Named.{no_refusal, all_blocks}
use Rattle.scan_meaning.proofs.Plain.{ungrouped, made_is, made_count, passed-append, adds_more}
use Rattle.scan_meaning.proofs.Arranged.{adds_nothing}
use Rattle.scan_meaning.proofs.Shuffled.{answer_moved, over_moved}
use Rattle.scan_meaning.proofs.Splits.{Splits, split_files}

pub same_or_other : (m n : ℕ) → (m ≡ n) ⊎ (m ≢ n)
same_or_other m n = ⊎_elim
    (λ (l : m < n). inr (λ (e : m ≡ n). omega arith))
    (λ (g : n ≤ m). ⊎_elim (λ (l : n < m). inr (λ (e : m ≡ n). omega arith)) (λ (h : m ≤ n). inl (omega arith)) (cases_lt n m))
    (cases_lt m n)

-- so many rows more don't make too few of enough
pub still_enough : (most : Option ℕ) (m n : ℕ) → m ≤ n → ¬ IsShort most m → ¬ IsShort most n
still_enough None m n le full = full
still_enough (Some limit) m n le full = λ (short : n < limit). full (omega arith)

pub fewer_pass : (q : Query) (bs : List Block) (j : ℕ) → count_passed q (front j bs) ≤ count_passed q bs
fewer_pass q bs j =
    let whole : rows_of (front j bs) ++ rows_of (drop (64 * j) bs) ≡ rows_of bs = sym (rows-append (front j bs) (drop (64 * j) bs)) ∙ ap (λ (l : List Block). rows_of l) (take-append-drop (64 * j) bs) in
    let parts : passed q (rows_of bs) ≡ passed q (rows_of (front j bs)) ++ passed q (rows_of (drop (64 * j) bs)) = ap (λ (l : List Val). passed q l) (sym whole) ∙ passed-append q (rows_of (front j bs)) (rows_of (drop (64 * j) bs)) in
    let long : length (passed q (rows_of bs)) ≡ length (passed q (rows_of (front j bs))) + length (passed q (rows_of (drop (64 * j) bs))) = ap (λ (l : List Pair). length l) parts ∙ length-append (passed q (rows_of (front j bs))) (passed q (rows_of (drop (64 * j) bs))) in
    omega arith

-- a plain query has no groups
pub none_over : (q : Query) → is_plain q ≡ true → (limit : ℕ) (rows : List Val) → is_over q limit rows ≡ false
unfolding is_over
none_over q plain limit rows = ap (λ (b : Bool). b && nat_lt limit (length (key_lists q rows))) (ungrouped q plain)

module _ (q : Query) (plain : is_plain q ≡ true) (bs : List Block) (rows : List Val) (s : Splits q bs rows) where
  abbrev extra : List Made
  extra = map (made_row q) (passed q s.rest)

  more : IsPermutation (made q (rows_of (wanted q bs)) ++ extra) (made q rows)
  more =
      let left : made q (rows_of (wanted q bs)) ++ extra ≡ map (made_row q) (passed q (rows_of (wanted q bs)) ++ passed q s.rest) =
      ap (λ (l : List Made). l ++ extra) (made_is q plain (rows_of (wanted q bs))) ∙ sym (map-append (made_row q) (passed q (rows_of (wanted q bs))) (passed q s.rest)) in
      let moved : IsPermutation (map (made_row q) (passed q (rows_of (wanted q bs)) ++ passed q s.rest)) (map (made_row q) (passed q rows)) =
      IsPermutation-map (made_row q) (passed q (rows_of (wanted q bs)) ++ passed q s.rest) (passed q rows) s.permutes in
      subst (λ (l : List Made). IsPermutation l (made q rows)) (sym left)
      (subst (λ (l : List Made). IsPermutation (map (made_row q) (passed q (rows_of (wanted q bs)) ++ passed q s.rest)) l) (sym (made_is q plain rows)) moved)

  -- a scan that came to its end left nothing out, or enough rows passed
  complete : MayPass q (wanted q bs) → (extra ≡ []) ⊎ ¬ IsShort (need q) (length (made q (rows_of (wanted q bs))))
  complete may = ⊎_elim
      (λ (good : first_bad (front may.count (wanted q bs)) ≡ None). ⊎_elim
      (λ (all : length (wanted q bs) ≤ 64 * may.count).
      let none : first_bad (wanted q bs) ≡ None = ap (λ (l : List Block). first_bad l) (sym (take_all (64 * may.count) (wanted q bs) all)) ∙ good in
      inl (ap (λ (l : List Pair). map (made_row q) l) (s.none none)))
      (λ (full : ¬ IsShort (need q) (count_passed q (front may.count (wanted q bs)))). inr (enough full))
      may.counts.last)
      (λ (h : (j : ℕ) × (may.count ≡ suc j) × (first_bad (front j (wanted q bs)) ≡ None) × ¬ IsShort (need q) (count_passed q (front may.count (wanted q bs)))). inr (enough h.3))
      may.good
    where
      enough : ¬ IsShort (need q) (count_passed q (front may.count (wanted q bs))) → ¬ IsShort (need q) (length (made q (rows_of (wanted q bs))))
      enough full = subst (λ (n : ℕ). ¬ IsShort (need q) n) (sym (made_count q plain (rows_of (wanted q bs)))) (still_enough (need q) _ _ (fewer_pass q (wanted q bs) may.count) full)

  plain_answered : (limit status : ℕ) (old new : Option (List ℕ)) → EndsScan q limit (wanted q bs) status old new → AddsAnswer q rows status old new
  plain_answered limit status old new e = adds_more q plain (rows_of (wanted q bs)) rows extra more status old new (λ z. complete (e.passed z)) e.wrote

-- a query that isn't plain needs all rows, and puts lines once no block is bad
module _ (q : Query) (other : is_plain q ≡ false) (bs : List Block) (rows : List Val) (s : Splits q bs rows) (limit status : ℕ) (old new : Option (List ℕ)) (e : EndsScan q limit (wanted q bs) status old new) where
  needs_all : need q ≡ None
  unfolding need
  needs_all = rw other refl

  all_needed : (n : ℕ) → ¬ IsShort (need q) n → ⊥
  all_needed n full = full (subst (λ (o : Option ℕ). IsShort o n) (sym needs_all) tt)

  all_good : MayPass q (wanted q bs) → first_bad (wanted q bs) ≡ None
  all_good may = ⊎_elim
      (λ (all : length (wanted q bs) ≤ 64 * may.count). ⊎_elim
      (λ (good : first_bad (front may.count (wanted q bs)) ≡ None). ap (λ (l : List Block). first_bad l) (sym (take_all (64 * may.count) (wanted q bs) all)) ∙ good)
      (λ (h : (j : ℕ) × (may.count ≡ suc j) × (first_bad (front j (wanted q bs)) ≡ None) × ¬ IsShort (need q) (count_passed q (front may.count (wanted q bs)))). absurd (all_needed _ h.3))
      may.good)
      (λ (full : ¬ IsShort (need q) (count_passed q (front may.count (wanted q bs)))). absurd (all_needed _ full))
      may.counts.last

  moved : first_bad (wanted q bs) ≡ None → IsPermutation (passed q (rows_of (wanted q bs))) (passed q rows)
  moved good =
      let all : passed q (rows_of (wanted q bs)) ++ passed q s.rest ≡ passed q (rows_of (wanted q bs)) =
      ap (λ (l : List Pair). passed q (rows_of (wanted q bs)) ++ l) (s.none good) ∙ append-nil (passed q (rows_of (wanted q bs))) in
      subst (λ (l : List Pair). IsPermutation l (passed q rows)) all s.permutes

  adds_moved : first_bad (wanted q bs) ≡ None → AddsAnswer q rows status old new
  adds_moved good = record {
    outputs = e.wrote.outputs;
    answer = answer_moved q (rows_of (wanted q bs)) rows (moved good) e.wrote.outputs e.wrote.answer;
    added = e.wrote.added;
    appends = e.wrote.appends;
    whole = e.wrote.whole;
    front = e.wrote.front;
  }

  all_answered : AddsAnswer q rows status old new
  all_answered = ⊎_elim
      (λ (done : status ≡ 0). adds_moved (all_good (e.passed done)))
      (λ (undone : status ≢ 0). ⊎_elim
      (λ (cut : status ≡ 9). adds_moved ((e.put cut).all other))
      (λ (uncut : status ≢ 9). adds_nothing q rows status old new undone (e.quiet other undone uncut))
      (same_or_other status 9))
      (same_or_other status 0)

  all_within : (status ≡ 0) ⊎ (status ≡ 9) → is_over q limit rows ≡ false
  all_within ended =
      let good : first_bad (wanted q bs) ≡ None = ⊎_elim (λ (done : status ≡ 0). all_good (e.passed done)) (λ (cut : status ≡ 9). (e.put cut).all other) ended in
      over_moved q (rows_of (wanted q bs)) rows (moved good) limit ∙ e.within ended

  all_over : status ≡ 7 → is_over q limit rows ≡ true
  all_over seven = let h = e.over seven in over_moved q (rows_of (wanted q bs)) rows (moved h.0) limit ∙ h.1

-- of both forms
module _ (q : Query) (bs : List Block) (rows : List Val) (s : Splits q bs rows) (limit status : ℕ) (old new : Option (List ℕ)) (e : EndsScan q limit (wanted q bs) status old new) where
  never_over : is_plain q ≡ true → status ≡ 7 → ⊥
  never_over plain seven = wrong (e.over seven).1 (none_over q plain limit (rows_of (wanted q bs)))
    where
      wrong : is_over q limit (rows_of (wanted q bs)) ≡ true → is_over q limit (rows_of (wanted q bs)) ≡ false → ⊥
      wrong h k = cc

  pub answered : AddsAnswer q rows status old new
  answered = on (is_plain q) refl
    where
      on : (t : Bool) → is_plain q ≡ t → AddsAnswer q rows status old new
      on true plain = plain_answered q plain bs rows s limit status old new e
      on false other = all_answered q other bs rows s limit status old new e

  pub is_within : (status ≡ 0) ⊎ (status ≡ 9) → is_over q limit rows ≡ false
  is_within ended = on (is_plain q) refl
    where
      on : (t : Bool) → is_plain q ≡ t → is_over q limit rows ≡ false
      on true plain = none_over q plain limit rows
      on false other = all_within q other bs rows s limit status old new e ended

  pub goes_over : status ≡ 7 → is_over q limit rows ≡ true
  goes_over seven = on (is_plain q) refl
    where
      on : (t : Bool) → is_plain q ≡ t → is_over q limit rows ≡ true
      on true plain = absurd (never_over plain seven)
      on false other = all_over q other bs rows s limit status old new e seven

finds_scan : (q : Query) (names : List (List ℕ)) (files : Contents) (os : List Opened) → AreOpened files names os → FindsInFiles q names files (scan (wanted q (all_blocks os)) (skipped q (all_blocks os)))
finds_scan q names files os are =
    let fs = map (λ o. opened o) os in
    record {
      files_are = fs;
      are = are;
      is = sym (ap (λ (o : Option Verdict). unwrap_or o (scan (wanted q (blocks_from 0 fs)) (skipped q (blocks_from 0 fs)))) (no_refusal 0 os));
    }

pub ended_is_answered : EndedIsAnswered
ended_is_answered q limit names told status old new ends = record {
  answers = λ files os rows tells are rows_are sound. let h = of files os rows tells are rows_are sound in answered q (all_blocks os) rows h.0 limit status old new h.1;
  over = λ seven files os rows tells are rows_are sound. let h = of files os rows tells are rows_are sound in goes_over q (all_blocks os) rows h.0 limit status old new h.1 seven;
  within = λ ended files os rows tells are rows_are sound. let h = of files os rows tells are rows_are sound in is_within q (all_blocks os) rows h.0 limit status old new h.1 ended;
}
  where
    of : (files : Contents) (os : List Opened) (rows : List Val) → told ≡ Some files → AreOpened files names os → AreRowsOf os rows → ExcludedAreSound q os
        → Splits q (all_blocks os) rows × EndsScan q limit (wanted q (all_blocks os)) status old new
    of files os rows tells are rows_are sound =
        let found : Finds q names told (scan (wanted q (all_blocks os)) (skipped q (all_blocks os))) = subst (λ (t : Option Contents). Finds q names t (scan (wanted q (all_blocks os)) (skipped q (all_blocks os)))) (sym tells) (finds_scan q names files os are) in
        let e = ends (scan (wanted q (all_blocks os)) (skipped q (all_blocks os))) found in
        (split_files q files names 0 os rows are rows_are sound, e.wrote)
