-- A scan of blocks, batch by batch.
use Rattle.std.proofs.Common.{◌≡◌, ◌⊎◌, inl, inr, ℕ, zero, suc, ◌+◌, ◌-◌, ◌*◌, ◌^◌, ◌<◌, ◌≤◌, ◌/◌, true, List, [], ◌∷◌, ◌++◌, length, drop, map, Option, Some, None, refl, sym, ap, ◌∙◌, subst, arith, take-append-drop}
use Rattle.std.specs.Prelude.{◌≢◌, IsPermutation}
use Rattle.std.specs.Option.{option_map}
use Rattle.std.proofs.Math.Logic.{⊎_elim}
use Rattle.std.proofs.lemmas.Bool.{cases_lt}
use Rattle.std.proofs.lemmas.List.{length-append, length-drop, length-take, map-append}
use Rattle.answer_meaning.specs.Lines.{line_text, print}
use Rattle.std.proofs.lemmas.List.Sums.{sum_by-append}
use Rattle.std.proofs.lemmas.List.Sorted.{IsPermutation-refl}
use Rattle.std.specs.Io.KnownBytes.{Appends}
use Rattle.snel_device.specs.Causes.{raised}
use Rattle.value_meaning.specs.Val.{Val}
use Rattle.tree_meaning.specs.Tree.{Query}
use Rattle.eval_meaning.specs.Pair.{Pair}
use Rattle.eval_meaning.specs.Passed.{passed}
use Rattle.answer_meaning.specs.Made.{Made}
use Rattle.made_meaning.specs.MadeRows.{made}
use Rattle.scan_meaning.specs.Blocks.{Block}
use Rattle.scan_meaning.specs.Batches.{rows_of, first_bad, size_of, front, batch, is_plain, need, count_passed, IsShort, BatchCounts, Counts, IsFirstBad}
use Rattle.scan_meaning.specs.Answers.{AddsAnswer, AddsWhole, StopsAt, StopsReading, StopsPutting, IsPrefix}
use Rattle.scan_meaning.proofs.Batches.{front_more, rows-append, rows_more, good_more, among, size_within}
use Rattle.scan_meaning.proofs.Plain.{made-append, made_count, passed-append, needs, cut, outputs_of, unsorted, in_any_order, adds_more}
use Rattle.scan_batches.specs.Lines.{made_lines, text_of, let_through, left_of}
use Rattle.scan_batches.specs.Scans.{chunks_of, Scans}
use Rattle.scan_batches.specs.Outcome.{Finished}
use Rattle.scan_batches.proofs.Few.{rows_few, chunks_few, passed_few}
use Rattle.scan_batches.proofs.Texts.{text_through, adds_whole, adds_part, made_long}

-- After so many batches: each of them counts, none of their blocks is bad, and these are the lines and the counts of their rows.
pub record Scanned (q : Query) (bs : List Block) (j : ℕ) (lines : List (List ℕ)) (chunks kept : ℕ) : Type 0 where
  pub counted : (i : ℕ) → i < j → BatchCounts q bs i
  pub scans : Scans q (front j bs) lines 0 chunks 0 kept

pub nothing_scanned : (q : Query) (bs : List Block) (chunks kept : ℕ) → chunks ≡ 0 → kept ≡ 0 → made_lines q [] ≡ [] → Scanned q bs 0 [] chunks kept
nothing_scanned q bs chunks kept c k none = record {
  counted = λ i lt. absurd (omega arith);
  scans = record { good = refl; lines_are = sym none; chunks_are = c ∙ none_raised; kept_are = k ∙ none_raised };
}
  where
    none_raised : 0 ≡ raised 0 0
    none_raised = omega arith

-- what is let through of no line, and what a query makes of no row
pub makes_nothing : (q : Query) → is_plain q ≡ true → made_lines q [] ≡ []
makes_nothing q plain = let long = made_count q plain [] in empty (made_lines q []) (made_long q [] (made_lines q []) refl ∙ long)
  where
    empty : (l : List (List ℕ)) → length l ≡ 0 → l ≡ []
    empty [] h = refl
    empty (x ∷ xs) h = absurd (omega arith)

-- whether enough rows passed

full_is : (skip n : ℕ) (most : Option ℕ) → skip - n ≡ 0 → left_of most (n - skip) ≡ Some 0 → ¬ IsShort (option_map (λ m. skip + m) most) n
full_is skip n None s t = absurd (cc)
full_is skip n (Some m) s t = λ short. let z : m - (n - skip) ≡ 0 = value_is (m - (n - skip)) 0 t in omega arith
  where
    value_is : (a b : ℕ) → Some a ≡ Some b → a ≡ b
    value_is a b e = cc

short_is : (skip n : ℕ) (most : Option ℕ) → (skip - n ≡ 0 → left_of most (n - skip) ≢ Some 0) → IsShort (option_map (λ m. skip + m) most) n
short_is skip n None other = tt
short_is skip n (Some m) other = ⊎_elim
    (λ (lt : n < skip + m). lt)
    (λ (ge : skip + m ≤ n).
    let s : skip - n ≡ 0 = omega arith in
    let z : m - (n - skip) ≡ 0 = omega arith in
    absurd (other s (ap (λ (k : ℕ). Some k) z)))
    (cases_lt n (skip + m))

pub is_enough : (q : Query) → is_plain q ≡ true → (n : ℕ) → q.skip - n ≡ 0 → left_of q.take (n - q.skip) ≡ Some 0 → ¬ IsShort (need q) n
is_enough q plain n s t = subst (λ (o : Option ℕ). ¬ IsShort o n) (sym (needs q plain)) (full_is q.skip n q.take s t)

pub is_short : (q : Query) → is_plain q ≡ true → (n : ℕ) → (q.skip - n ≡ 0 → left_of q.take (n - q.skip) ≢ Some 0) → IsShort (need q) n
is_short q plain n other = subst (λ (o : Option ℕ). IsShort o n) (sym (needs q plain)) (short_is q.skip n q.take other)

all_counted : (q : Query) (bs : List Block) (j : ℕ) → ((i : ℕ) → i < j → BatchCounts q bs i) → IsShort (need q) (count_passed q (front j bs)) → BatchCounts q bs j
unfolding BatchCounts
all_counted q bs zero counted own = λ i le. let e : i ≡ 0 = omega arith in rw e own
all_counted q bs (suc k) counted own = λ i le. ⊎_elim
    (λ (l : i < suc k). counted k (omega arith) i (omega arith))
    (λ (g : suc k ≤ i). let e : i ≡ suc k = omega arith in rw e own)
    (cases_lt i (suc k))

below : (q : Query) (bs : List Block) (j : ℕ) → BatchCounts q bs j → (i : ℕ) → i < j + 1 → BatchCounts q bs i
unfolding BatchCounts
below q bs j counts i lt = λ k le. counts k (omega arith)

-- a count of few stands
exact : (n : ℕ) → n ≤ 2 ^ 42 → raised 0 n ≡ n
exact n few = omega arith

fewer_through : (skip : ℕ) (most : Option ℕ) (lines : List (List ℕ)) → length (let_through skip most lines) ≤ length lines
fewer_through skip None lines = let d = length-drop skip lines in omega arith
fewer_through skip (Some n) lines = let d = length-drop skip lines in let t = length-take n (drop skip lines) in omega arith

raised_twice : (a m n : ℕ) → raised (raised a m) n ≡ raised a (m + n)
raised_twice a m n = omega arith

module _ (q : Query) (plain : is_plain q ≡ true) (bs : List Block) (j : ℕ) (lines : List (List ℕ)) (chunks kept : ℕ) (s : Scanned q bs j lines chunks kept) where
  -- as many lines as rows passed
  pub long : length lines ≡ count_passed q (front j bs)
  long = made_long q (rows_of (front j bs)) lines s.scans.lines_are ∙ made_count q plain (rows_of (front j bs))

  pub opens : IsShort (need q) (length lines) → BatchCounts q bs j
  opens short = all_counted q bs j s.counted (subst (λ (n : ℕ). IsShort (need q) n) long short)

  -- a batch more
  pub steps : BatchCounts q bs j → (more : List (List ℕ)) (new_chunks new_kept : ℕ) → Scans q (batch j bs) more chunks new_chunks kept new_kept → Scanned q bs (j + 1) (lines ++ more) new_chunks new_kept
  steps counts more new_chunks new_kept h =
      let xs = rows_of (front j bs) in
      let ys = rows_of (batch j bs) in
      let rows : rows_of (front (j + 1) bs) ≡ xs ++ ys = rows_more j bs in
      let pass : passed q (rows_of (front (j + 1) bs)) ≡ passed q xs ++ passed q ys = ap (λ (l : List Val). passed q l) rows ∙ passed-append q xs ys in
      let count : count_passed q (front (j + 1) bs) ≡ count_passed q (front j bs) + count_passed q (batch j bs) = ap (λ (l : List Pair). length l) pass ∙ length-append (passed q xs) (passed q ys) in
      let ran : chunks_of (front (j + 1) bs) ≡ chunks_of (front j bs) + chunks_of (batch j bs) = ap (λ (l : List Block). chunks_of l) (front_more j bs) ∙ sum_by-append (λ b. (b.place.entry.rows + 15) / 16) (front j bs) (batch j bs) in
      record {
        counted = below q bs j counts;
        scans = record {
          good = good_more j bs s.scans.good h.good;
          lines_are = ap (λ (l : List (List ℕ)). l ++ more) s.scans.lines_are ∙ ap (λ (l : List (List ℕ)). made_lines q xs ++ l) h.lines_are
              ∙ sym (map-append (λ (m : Made). line_text m.output) (made q xs) (made q ys)) ∙ ap (λ (ms : List Made). map (λ (m : Made). line_text m.output) ms) (sym (made-append q plain xs ys))
              ∙ ap (λ (l : List Val). made_lines q l) (sym rows);
          chunks_are = h.chunks_are ∙ ap (λ (n : ℕ). raised n (chunks_of (batch j bs))) s.scans.chunks_are ∙ raised_twice 0 (chunks_of (front j bs)) (chunks_of (batch j bs)) ∙ ap (λ (n : ℕ). raised 0 n) (sym ran);
          kept_are = h.kept_are ∙ ap (λ (n : ℕ). raised n (count_passed q (batch j bs))) s.scans.kept_are ∙ raised_twice 0 (count_passed q (front j bs)) (count_passed q (batch j bs)) ∙ ap (λ (n : ℕ). raised 0 n) (sym count);
        };
      }

  pub first : BatchCounts q bs j → (b : Block) → first_bad (batch j bs) ≡ Some b → IsFirstBad q bs b
  first counts b bad = record { before = j; counts = counts; good = s.scans.good; bad = bad }

  -- what was put so far
  module _ (old now : Option (List ℕ)) (appends : Appends old now (text_of (let_through q.skip q.take lines))) where
    pub whole : AddsWhole q (rows_of (front j bs)) old now
    whole = adds_whole q plain (rows_of (front j bs)) lines old now s.scans.lines_are appends

    pub finished : length bs ≤ 2 ^ 26 → (length bs ≤ 64 * j) ⊎ ¬ IsShort (need q) (length lines) → (put read : ℕ) → put ≡ raised 0 (length (let_through q.skip q.take lines)) → read ≡ length (front j bs) → Finished q bs put read chunks kept old now
    finished few last put read put_is read_is = record {
      count = j;
      counts = record { each = s.counted; last = ⊎_elim (λ (all : length bs ≤ 64 * j). inl all) (λ (full : ¬ IsShort (need q) (length lines)). inr (subst (λ (n : ℕ). ¬ IsShort (need q) n) long full)) last };
      good = s.scans.good;
      wrote = whole;
      lines_are = put_is ∙ exact (length (let_through q.skip q.take lines)) few_put ∙ ap (λ (l : List (List ℕ)). length (let_through q.skip q.take l)) s.scans.lines_are;
      read_are = read_is;
      chunks_are = s.scans.chunks_are ∙ exact (chunks_of (front j bs)) few_chunks;
      kept_are = s.scans.kept_are ∙ exact (count_passed q (front j bs)) few_passed;
    }
      where
        front_few : length (front j bs) ≤ 2 ^ 26
        front_few = let e = length-take (64 * j) bs in omega arith

        few_rows : length (rows_of (front j bs)) ≤ 2 ^ 42
        few_rows = let e = rows_few (front j bs) in let f = front_few in omega arith

        few_passed : count_passed q (front j bs) ≤ 2 ^ 42
        few_passed = let e = passed_few q (front j bs) in let f = few_rows in omega arith

        few_chunks : chunks_of (front j bs) ≤ 2 ^ 42
        few_chunks = let e = chunks_few (front j bs) s.scans.good in let f = front_few in omega arith

        few_put : length (let_through q.skip q.take lines) ≤ 2 ^ 42
        few_put = let e = fewer_through q.skip q.take lines in let f : length lines ≡ count_passed q (front j bs) = long in let g = few_passed in omega arith

    pub stops_at : BatchCounts q bs j → (b : Block) → first_bad (batch j bs) ≡ Some b → StopsAt q bs b old now
    stops_at counts b bad = record { first = record { before = j; counts = counts; good = s.scans.good; bad = bad }; wrote = whole }

    pub stops_reading : (start taken : ℕ) → taken ≤ start + size_of (front (j + 1) bs) → StopsReading q bs 0 start taken old now
    stops_reading start taken most = record {
      batches = j;
      good = s.scans.good;
      told = λ i grown. ⊎_elim (λ (l : j < i). let within : size_of (front (j + 1) bs) ≤ size_of (front i bs) = size_within (j + 1) i bs (omega arith) in absurd (omega arith)) (λ (g : i ≤ j). g) (cases_lt j i);
      wrote = λ p. whole;
    }

  -- lines of the batch behind these were put, but not all
  pub stops_putting : BatchCounts q bs j → (more : List (List ℕ)) (new_chunks new_kept : ℕ) → Scans q (batch j bs) more chunks new_chunks kept new_kept → (old new : Option (List ℕ)) (part : List ℕ) → Appends old new (text_of (let_through q.skip q.take lines) ++ part) → IsPrefix (text_of (let_through q.skip q.take lines) ++ part) (text_of (let_through q.skip q.take (lines ++ more))) → StopsPutting q bs old new
  stops_putting counts more new_chunks new_kept h old new part took prefix =
      let next = steps counts more new_chunks new_kept h in
      let xs = rows_of (front j bs) in
      let ys = rows_of (front (j + 1) bs) in
      let here : text_of (let_through q.skip q.take lines) ≡ print (cut q.skip q.take (outputs_of (made q xs))) = text_through q xs lines s.scans.lines_are in
      let there : text_of (let_through q.skip q.take (lines ++ more)) ≡ print (cut q.skip q.take (outputs_of (made q ys))) = text_through q ys (lines ++ more) next.scans.lines_are in
      record {
        before = j;
        counts = counts;
        good = next.scans.good;
        outputs = cut q.skip q.take (outputs_of (made q xs));
        answer = in_any_order q (unsorted q plain) xs (made q xs) (IsPermutation-refl (made q xs));
        more = cut q.skip q.take (outputs_of (made q ys));
        extended = in_any_order q (unsorted q plain) ys (made q ys) (IsPermutation-refl (made q ys));
        added = text_of (let_through q.skip q.take lines) ++ part;
        appends = took;
        whole = (part, ap (λ (l : List ℕ). l ++ part) here);
        some = (prefix.0, sym there ∙ prefix.1);
      }

  -- all rows are those so far and what follows
  all_made : made q (rows_of (front j bs)) ++ made q (rows_of (drop (64 * j) bs)) ≡ made q (rows_of bs)
  all_made =
      sym (made-append q plain (rows_of (front j bs)) (rows_of (drop (64 * j) bs)))
      ∙ ap (λ (l : List Val). made q l) (sym (rows-append (front j bs) (drop (64 * j) bs)) ∙ ap (λ (l : List Block). rows_of l) (take-append-drop (64 * j) bs))

  -- some of the lines so far
  pub cut_lines : (status : ℕ) → (status ≡ 0 → ⊥) → (old new : Option (List ℕ)) (added : List ℕ) → Appends old new added → IsPrefix added (text_of (let_through q.skip q.take lines)) → AddsAnswer q (rows_of bs) status old new
  cut_lines status other old new added took part =
      adds_more q plain (rows_of (front j bs)) (rows_of bs) (made q (rows_of (drop (64 * j) bs)))
      (subst (λ (l : List Made). IsPermutation l (made q (rows_of bs))) (sym all_made) (IsPermutation-refl (made q (rows_of bs))))
      status old new (λ e. absurd (other e))
      (adds_part q plain (rows_of (front j bs)) lines status old new added other s.scans.lines_are took part)

-- the bytes of the blocks so far are within those of the batches that count
pub cost_so_far : (q : Query) (bs : List Block) (j count : ℕ) → ((i : ℕ) → i < j → BatchCounts q bs i) → (0 < j → 64 * j < length bs + 64) → Counts q bs count → size_of (front j bs) ≤ size_of (front count bs)
cost_so_far q bs zero count counted room counts = size_within 0 count bs (omega arith)
cost_so_far q bs (suc k) count counted room counts =
    let within = room (omega arith) in
    let next : k < count = among q bs k count (counted k (omega arith)) (omega arith) counts in
    size_within (suc k) count bs (omega arith)
