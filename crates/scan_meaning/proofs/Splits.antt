-- The rows of the blocks that are to be scanned, and those of all undamaged blocks.
use Rattle.std.proofs.Common.{◌≡◌, ◌⊎◌, inl, inr, ℕ, suc, ◌+◌, Bool, true, false, cond, List, [], ◌∷◌, ◌++◌, length, map, filter, Option, Some, None, refl, sym, ap, ◌∙◌, subst, arith, append_assoc}
use Rattle.std.specs.Prelude.{unwrap_or, IsPermutation}
use Rattle.std.specs.Option.{option_and_then}
use Rattle.std.proofs.Math.Logic.{⊎_elim}
use Rattle.std.proofs.lemmas.List.{append-nil}
use Rattle.std.proofs.lemmas.List.Elements.{filter-append}
use Rattle.std.proofs.lemmas.List.Sorted.{IsPermutation-refl, IsPermutation-trans, IsPermutation-append, IsPermutation-append_comm, IsPermutation-append_left, IsPermutation-append_right}
use Rattle.snel_device.specs.Contents.{Contents}
use Rattle.value_meaning.specs.Val.{Val}
use Rattle.file_meaning.specs.Files.{Entry, IsFile, StandEndToEnd, AreEntryRows, AreFileRows}
use Rattle.tree_meaning.specs.Tree.{Ex, Query}
use Rattle.eval_meaning.specs.Pair.{Pair, alone}
use Rattle.eval_meaning.specs.Passed.{passed, is_kept}
use Rattle.range_meaning.specs.Excluded.{IsExcluded, IsSoundEntry}
use Rattle.range_meaning.specs.Laws.{HasTimes}
use Rattle.range_meaning.proofs.Passing.{passes_not}
use Rattle.scan_meaning.specs.Blocks.{Place, Block, places_from, block_of, stored_rows, is_sound, good_rows}
use Rattle.scan_meaning.specs.Wanted.{bounds_by, is_wanted}
use Rattle.scan_meaning.specs.Batches.{rows_of, is_bad, first_bad}
use Rattle.scan_meaning.specs.Opened.{Opened, opened, IsNamed, AreOpened, blocks_of, blocks_from}
use Rattle.scan_meaning.specs.Verdicts.{wanted}
use Rattle.scan_meaning.specs.Headline.{AreRowsOf, ExcludedAreSoundIn, ExcludedAreSound}
use Rattle.scan_meaning.proofs.Exact.{rows_exact, damaged_exact, unwanted_excluded}
use Rattle.scan_meaning.proofs.Batches.{rows-append, find_behind}
use Rattle.scan_meaning.proofs.Plain.{passed-append}

-- the rows that pass are those of the blocks that are to be scanned, and some of bad ones
pub record Splits (q : Query) (bs : List Block) (rows : List Val) : Type 0 where
  pub rest : List Val
  pub permutes : IsPermutation (passed q (rows_of (wanted q bs)) ++ passed q rest) (passed q rows)
  pub none : first_bad (wanted q bs) ≡ None → passed q rest ≡ []

-- one of two parts each, in another order
shuffle : (a b r s : List Pair) → IsPermutation ((a ++ b) ++ (r ++ s)) ((a ++ r) ++ (b ++ s))
shuffle a b r s =
    let left : (a ++ b) ++ (r ++ s) ≡ a ++ ((b ++ r) ++ s) = append_assoc a b (r ++ s) ∙ ap (λ (l : List Pair). a ++ l) (sym (append_assoc b r s)) in
    let right : a ++ ((r ++ b) ++ s) ≡ (a ++ r) ++ (b ++ s) = ap (λ (l : List Pair). a ++ l) (append_assoc r b s) ∙ sym (append_assoc a r (b ++ s)) in
    let moved : IsPermutation (a ++ ((b ++ r) ++ s)) (a ++ ((r ++ b) ++ s)) = IsPermutation-append_right a ((b ++ r) ++ s) ((r ++ b) ++ s) (IsPermutation-append_left s (b ++ r) (r ++ b) (IsPermutation-append_comm b r)) in
    subst (λ (l : List Pair). IsPermutation l ((a ++ r) ++ (b ++ s))) (sym left) (subst (λ (l : List Pair). IsPermutation (a ++ ((b ++ r) ++ s)) l) right moved)

none_before : (xs ys : List Block) → first_bad (xs ++ ys) ≡ None → first_bad xs ≡ None
none_before [] ys h = refl
none_before (x ∷ xs) ys h = on (is_bad x) h (λ k. none_before xs ys k)
  where
    on : (t : Bool) → cond t (Some x) (first_bad (xs ++ ys)) ≡ None → (first_bad (xs ++ ys) ≡ None → first_bad xs ≡ None) → cond t (Some x) (first_bad xs) ≡ None
    on true h next = absurd (cc)
    on false h next = next h

module _ (q : Query) (bs cs : List Block) (rows others : List Val) (s : Splits q bs rows) (t : Splits q cs others) where
  all_wanted : wanted q (bs ++ cs) ≡ wanted q bs ++ wanted q cs
  all_wanted = filter-append (λ (b : Block). is_wanted q b.field b.place.entry) bs cs

  pub split_both : Splits q (bs ++ cs) (rows ++ others)
  split_both =
      let a = passed q (rows_of (wanted q bs)) in
      let b = passed q (rows_of (wanted q cs)) in
      let found : passed q (rows_of (wanted q (bs ++ cs))) ≡ a ++ b = ap (λ (l : List Block). passed q (rows_of l)) all_wanted ∙ ap (λ (l : List Val). passed q l) (rows-append (wanted q bs) (wanted q cs)) ∙ passed-append q (rows_of (wanted q bs)) (rows_of (wanted q cs)) in
      let left : passed q (rows_of (wanted q (bs ++ cs))) ++ passed q (s.rest ++ t.rest) ≡ (a ++ b) ++ (passed q s.rest ++ passed q t.rest) = ap (λ (l : List Pair). l ++ passed q (s.rest ++ t.rest)) found ∙ ap (λ (l : List Pair). (a ++ b) ++ l) (passed-append q s.rest t.rest) in
      let each : IsPermutation ((a ++ passed q s.rest) ++ (b ++ passed q t.rest)) (passed q rows ++ passed q others) = IsPermutation-append (a ++ passed q s.rest) (passed q rows) (b ++ passed q t.rest) (passed q others) s.permutes t.permutes in
      record {
        rest = s.rest ++ t.rest;
        permutes = subst (λ (l : List Pair). IsPermutation l (passed q (rows ++ others))) (sym left)
            (subst (λ (l : List Pair). IsPermutation ((a ++ b) ++ (passed q s.rest ++ passed q t.rest)) l) (sym (passed-append q rows others))
            (IsPermutation-trans ((a ++ b) ++ (passed q s.rest ++ passed q t.rest)) ((a ++ passed q s.rest) ++ (b ++ passed q t.rest)) (passed q rows ++ passed q others) (shuffle a b (passed q s.rest) (passed q t.rest)) each));
        none = λ good.
            let here : first_bad (wanted q bs ++ wanted q cs) ≡ None = ap (λ (l : List Block). first_bad l) (sym all_wanted) ∙ good in
            let one = none_before (wanted q bs) (wanted q cs) here in
            let two : first_bad (wanted q cs) ≡ None = sym (find_behind is_bad (wanted q bs) (wanted q cs) one) ∙ here in
            passed-append q s.rest t.rest ∙ ap (λ (l : List Pair). l ++ passed q t.rest) (s.none one) ∙ t.none two;
      }

-- the rows of a good block are its rows
module _ (bytes field : List ℕ) (p : Place) (rows : List Val) where
  if_sound : (t : Bool) → is_sound field p.entry rows ≡ t → stored_rows (block_of bytes field p) ≡ Some rows → (good_rows (block_of bytes field p) ≡ Some rows) ⊎ (good_rows (block_of bytes field p) ≡ None)
  unfolding good_rows
  if_sound true is stored = inl (ap (λ (o : Option (List Val)). option_and_then (λ r. cond (is_sound field p.entry r) (Some r) None) o) stored ∙ ap (λ (t : Bool). cond t (Some rows) None) is)
  if_sound false is stored = inr (ap (λ (o : Option (List Val)). option_and_then (λ r. cond (is_sound field p.entry r) (Some r) None) o) stored ∙ ap (λ (t : Bool). cond t (Some rows) None) is)

  if_damaged : stored_rows (block_of bytes field p) ≡ None → good_rows (block_of bytes field p) ≡ None
  unfolding good_rows
  if_damaged none = ap (λ (o : Option (List Val)). option_and_then (λ r. cond (is_sound field p.entry r) (Some r) None) o) none

  good_or_bad : AreEntryRows p.entry bytes rows → (good_rows (block_of bytes field p) ≡ Some rows) ⊎ (good_rows (block_of bytes field p) ≡ None)
  good_or_bad (inl h) = if_sound (is_sound field p.entry rows) refl ((rows_exact (block_of bytes field p) rows).1 h)
  good_or_bad (inr h) = inr (if_damaged ((damaged_exact (block_of bytes field p)).1 h.0))

-- no row of an excluded block passes
none_kept : (field : List ℕ) (e : Entry) → HasTimes e → (f : Option Ex) → IsExcluded e (bounds_by field f) → (rows : List Val) → IsSoundEntry field e rows → filter (is_kept f) (map alone rows) ≡ []
none_kept field e times None out rows sound = absurd (out.bound refl)
none_kept field e times (Some w) out [] sound = refl
none_kept field e times (Some w) out (r ∷ rs) sound =
    let not_this : is_kept (Some w) (alone r) ≡ false = passes_not field w r e (λ some. sound some 0 r (omega arith)) times out in
    ap (λ (t : Bool). cond t (alone r ∷ filter (is_kept (Some w)) (map alone rs)) (filter (is_kept (Some w)) (map alone rs))) not_this
    ∙ none_kept field e times (Some w) out rs (λ some k d lt. sound some (suc k) d (omega arith))

-- one block
module _ (q : Query) (bytes field : List ℕ) (p : Place) (rows : List Val) where
  abbrev one : Block
  one = block_of bytes field p

  abbrev Left : List Block → Type 0
  Left ws = (rest : List Val) × IsPermutation (passed q (rows_of ws) ++ passed q rest) (passed q rows) × (first_bad ws ≡ None → passed q rest ≡ [])

  one_good : good_rows one ≡ Some rows → Left (one ∷ [])
  one_good is =
      let own : rows_of (one ∷ []) ≡ rows = ap (λ (o : Option (List Val)). unwrap_or o [] ++ []) is ∙ append-nil rows in
      let same : passed q (rows_of (one ∷ [])) ++ passed q [] ≡ passed q rows = append-nil (passed q (rows_of (one ∷ []))) ∙ ap (λ (l : List Val). passed q l) own in
      ([], subst (λ (l : List Pair). IsPermutation l (passed q rows)) (sym same) (IsPermutation-refl (passed q rows)), λ good. refl)

  one_bad : good_rows one ≡ None → Left (one ∷ [])
  one_bad is =
      let own : rows_of (one ∷ []) ≡ [] = ap (λ (o : Option (List Val)). unwrap_or o [] ++ []) is in
      let same : passed q (rows_of (one ∷ [])) ++ passed q rows ≡ passed q rows = ap (λ (l : List Val). passed q l ++ passed q rows) own in
      (rows, subst (λ (l : List Pair). IsPermutation l (passed q rows)) (sym same) (IsPermutation-refl (passed q rows)), λ good. absurd (named is good))
    where
      named : good_rows one ≡ None → first_bad (one ∷ []) ≡ None → ⊥
      named is good = let found : first_bad (one ∷ []) ≡ Some one = rw is refl in cc

  one_out : passed q rows ≡ [] → Left []
  one_out none = ([], subst (λ (l : List Pair). IsPermutation [] l) (sym none) (IsPermutation-refl []), λ good. refl)

  one_split : (t : Bool) → is_wanted q field p.entry ≡ t → AreEntryRows p.entry bytes rows → HasTimes p.entry → (IsExcluded p.entry (bounds_by field q.filter) → IsSoundEntry field p.entry rows) → Left (cond t (one ∷ []) [])
  one_split true is are times sound = ⊎_elim one_good one_bad (good_or_bad bytes field p rows are)
  one_split false is are times sound =
      let out = (unwanted_excluded q field p.entry).0 is in
      one_out (none_kept field p.entry times q.filter out rows (sound out))

  pub split_one : AreEntryRows p.entry bytes rows → HasTimes p.entry → (IsExcluded p.entry (bounds_by field q.filter) → IsSoundEntry field p.entry rows) → Splits q (one ∷ []) rows
  split_one are times sound =
      let h = one_split (is_wanted q field p.entry) refl are times sound in
      record { rest = h.0; permutes = h.1; none = h.2 }

-- the blocks of a file
split_entries : (q : Query) (o : Opened) (i k from to : ℕ) (es : List Entry) (rows : List Val) → StandEndToEnd from es to → AreFileRows es o.bytes rows → ExcludedAreSoundIn q o es → Splits q (map (block_of o.bytes o.field) (places_from i k es)) rows
split_entries q o i k from to [] rows stand are sound = record { rest = []; permutes = subst (λ (l : List Val). IsPermutation [] (passed q l)) (sym are) (IsPermutation-refl []); none = λ good. refl }
split_entries q o i k from to (e ∷ es) rows stand are sound =
    let p : Place = record { file = i; block = k; entry = e } in
    let times : HasTimes e = record { least = stand.1.least; greatest = stand.1.greatest } in
    let first = split_one q o.bytes o.field p are.0 are.3 times (λ out. sound.0 out are.0 are.3) in
    let others = split_entries q o i (suc k) (from + e.length) to es are.1 stand.2 are.4 sound.1 in
    subst (λ (l : List Val). Splits q (block_of o.bytes o.field p ∷ map (block_of o.bytes o.field) (places_from i (suc k) es)) l) (sym are.2)
    (split_both q (block_of o.bytes o.field p ∷ []) (map (block_of o.bytes o.field) (places_from i (suc k) es)) are.0 are.1 first others)

-- the blocks of the files
pub split_files : (q : Query) (files : Contents) (names : List (List ℕ)) (i : ℕ) (os : List Opened) (rows : List Val) → AreOpened files names os → AreRowsOf os rows → ExcludedAreSound q os → Splits q (blocks_from i (map (λ o. opened o) os)) rows
split_files q files names i [] rows named are sound = record { rest = []; permutes = subst (λ (l : List Val). IsPermutation [] (passed q l)) (sym are) (IsPermutation-refl []); none = λ good. refl }
split_files q files [] i (o ∷ os) rows named are sound = absurd named
split_files q files (n ∷ ns) i (o ∷ os) rows named are sound =
    let file = is_file (files n) named.0 in
    let first = split_entries q o i 0 0 (length file.blocks) o.entries are.0 file.index.stand are.3 sound.0 in
    let others = split_files q files ns (suc i) os are.1 named.1 are.4 sound.1 in
    subst (λ (l : List Val). Splits q (blocks_of i o ++ blocks_from (suc i) (map (λ x. opened x) os)) l) (sym are.2)
    (split_both q (blocks_of i o) (blocks_from (suc i) (map (λ x. opened x) os)) are.0 are.1 first others)
  where
    is_file : (f : Option (List ℕ)) → IsNamed f (opened o) → IsFile o.bytes o.field o.entries
    is_file None h = absurd h
    is_file (Some b) h = subst (λ (l : List ℕ). IsFile l o.field o.entries) h.0 h.1
