-- The blocks that were drawn, and their rows.
use Rattle.std.proofs.Common.{◌≡◌, ℕ, zero, suc, ◌+◌, ◌/◌, ◌<◌, ◌≤◌, Bool, true, false, cond, List, [], ◌∷◌, ◌++◌, length, take, Option, Some, None, refl, sym, ap, ◌∙◌, subst, arith}
use Rattle.std.specs.Prelude.{slice_get, flat_map, is_none}
use Rattle.std.proofs.lemmas.List.{append-nil, take_all, map-append, length-append}
use Rattle.std.proofs.lemmas.List.Sums.{sum_by-append}
use Rattle.std.proofs.lemmas.List.Sorted.{IsPermutation-trans, length_permutation}
use Rattle.std.proofs.lemmas.List.Elements.{filter-append}
use Rattle.std.proofs.lemmas.Grind.{flat_map-append}
use Rattle.std.specs.List.Sorted.{IsPermutation}
use Rattle.snel_device.specs.Causes.{raised}
use Rattle.value_meaning.specs.Val.{Val}
use Rattle.program_meaning.specs.Jobs.{Job}
use Rattle.scan_core.specs.Times.{times, total}
use Rattle.scan_core.specs.Board.{once_below}
use Rattle.scan_meaning.specs.Blocks.{Block, good_rows}
use Rattle.scan_meaning.specs.Batches.{rows_of, is_bad, first_bad}
use Rattle.scan_meaning.proofs.Batches.{rows-append, find_behind}
use Rattle.block_lines.specs.RowLines.{keeps, kept_rows}
use Rattle.scan_files.specs.Places.{Held, block_held, blocks_held}
use Rattle.scan_batches.specs.Scans.{chunks_of, SaysOfBatch}
use Rattle.scan_batches.specs.declared.fault.BatchFault.TheVariants.{Bad}
use Rattle.worker_merge.specs.Growing.{GrewSomehow}
use Rattle.worker_merge.specs.Hands.{HandsRows, HandsInOrder, AddsOf, IsTested}
use Rattle.worker_merge.specs.Draws.{one_held, drawn, IsGoodAt, IsBadAt}
use Rattle.worker_merge.proofs.Counting.{same_parts, same_total, below, times_below}
use Rattle.worker_merge.proofs.More.{take_one, good_next, bad_here, hands_more}
use Rattle.worker_merge.proofs.Places.{there}

pub drawn-append : (hs : List Held) (xs ys : List ℕ) → drawn hs (xs ++ ys) ≡ drawn hs xs ++ drawn hs ys
drawn-append hs xs ys = flat_map-append (λ n. one_held (slice_get hs n)) xs ys

drawn-one : (hs : List Held) (n : ℕ) (h : Held) → slice_get hs n ≡ Some h → drawn hs (n ∷ []) ≡ h ∷ []
drawn-one hs n h at = ap (λ (o : Option Held). one_held o ++ []) at

pub drawn-more : (hs : List Held) (cs : List ℕ) (n : ℕ) (h : Held) → slice_get hs n ≡ Some h → drawn hs (cs ++ n ∷ []) ≡ drawn hs cs ++ h ∷ []
drawn-more hs cs n h at = drawn-append hs cs (n ∷ []) ∙ ap (λ (l : List Held). drawn hs cs ++ l) (drawn-one hs n h at)

-- the numbers below k draw the first k blocks
drawn_below : (hs : List Held) (k : ℕ) → k ≤ length hs → drawn hs (below k) ≡ take k hs
drawn_below hs zero le = refl
drawn_below hs (suc k) le =
    let at = there hs k (omega arith) in
    drawn-more hs (below k) k at.0 at.1 ∙ ap (λ (l : List Held). l ++ at.0 ∷ []) (drawn_below hs k (omega arith)) ∙ sym (take_one hs k at.0 at.1)

drawn_all : (hs : List Held) → drawn hs (below (length hs)) ≡ hs
drawn_all hs = drawn_below hs (length hs) (omega arith) ∙ take_all (length hs) hs (omega arith)

module _ (job : Job) (fields : List (List ℕ)) (hs : List Held) where
  abbrev kept_at : ℕ → List Val
  kept_at n = kept_rows job (rows_of (blocks_held fields (one_held (slice_get hs n))))

  abbrev chunks_at : ℕ → ℕ
  chunks_at n = chunks_of (blocks_held fields (one_held (slice_get hs n)))

  kept_drawn : (cs : List ℕ) → kept_rows job (rows_of (blocks_held fields (drawn hs cs))) ≡ flat_map kept_at cs
  kept_drawn [] = refl
  kept_drawn (n ∷ cs) =
      let own = one_held (slice_get hs n) in
      let blocks : blocks_held fields (own ++ drawn hs cs) ≡ blocks_held fields own ++ blocks_held fields (drawn hs cs) = map-append (block_held fields) own (drawn hs cs) in
      ap (λ (l : List Block). kept_rows job (rows_of l)) blocks
      ∙ ap (λ (r : List Val). kept_rows job r) (rows-append (blocks_held fields own) (blocks_held fields (drawn hs cs)))
      ∙ filter-append (keeps job) (rows_of (blocks_held fields own)) (rows_of (blocks_held fields (drawn hs cs)))
      ∙ ap (λ (r : List Val). kept_at n ++ r) (kept_drawn cs)

  chunks_drawn : (cs : List ℕ) → chunks_of (blocks_held fields (drawn hs cs)) ≡ total chunks_at cs
  chunks_drawn [] = refl
  chunks_drawn (n ∷ cs) =
      let own = one_held (slice_get hs n) in
      let blocks : blocks_held fields (own ++ drawn hs cs) ≡ blocks_held fields own ++ blocks_held fields (drawn hs cs) = map-append (block_held fields) own (drawn hs cs) in
      ap (λ (l : List Block). chunks_of l) blocks
      ∙ sum_by-append (λ (b : Block). (b.place.entry.rows + 15) / 16) (blocks_held fields own) (blocks_held fields (drawn hs cs))
      ∙ ap (λ (k : ℕ). chunks_at n + k) (chunks_drawn cs)

  -- blocks that are drawn once each are all blocks
  module _ (cs : List ℕ) (each : (x : ℕ) → times x cs ≡ once_below x (length hs)) where
    as_often : (x : ℕ) → times x (below (length hs)) ≡ times x cs
    as_often x = times_below x (length hs) ∙ sym (each x)

    all_rows : IsPermutation (kept_rows job (rows_of (blocks_held fields hs))) (kept_rows job (rows_of (blocks_held fields (drawn hs cs))))
    all_rows =
        let these : kept_rows job (rows_of (blocks_held fields hs)) ≡ flat_map kept_at (below (length hs)) =
        ap (λ (l : List Held). kept_rows job (rows_of (blocks_held fields l))) (sym (drawn_all hs)) ∙ kept_drawn (below (length hs)) in
        subst (λ (l : List Val). IsPermutation l (kept_rows job (rows_of (blocks_held fields (drawn hs cs))))) (sym these)
        (subst (IsPermutation (flat_map kept_at (below (length hs)))) (sym (kept_drawn cs)) (same_parts kept_at (below (length hs)) cs as_often))

    all_chunks : chunks_of (blocks_held fields hs) ≡ chunks_of (blocks_held fields (drawn hs cs))
    all_chunks =
        ap (λ (l : List Held). chunks_of (blocks_held fields l)) (sym (drawn_all hs)) ∙ chunks_drawn (below (length hs))
        ∙ same_total chunks_at (below (length hs)) cs as_often ∙ sym (chunks_drawn cs)

    pub all_handed : {A : Type 0} (grew : A → A → Job → List Val → Type 0) (old new : A) (a c b k : ℕ) → first_bad (blocks_held fields hs) ≡ None
        → HandsRows grew job (blocks_held fields (drawn hs cs)) old new a c b k → HandsRows grew job (blocks_held fields hs) old new a c b k
    all_handed grew old new a c b k good h = record {
      good = good;
      rows = h.rows;
      permutes = IsPermutation-trans (kept_rows job (rows_of (blocks_held fields hs))) (kept_rows job (rows_of (blocks_held fields (drawn hs cs)))) h.rows all_rows h.permutes;
      grew_by = h.grew_by;
      chunks_are = h.chunks_are ∙ ap (λ (n : ℕ). raised a n) (sym all_chunks);
      kept_are = h.kept_are ∙ ap (λ (n : ℕ). raised b n) (length_permutation (kept_rows job (rows_of (blocks_held fields hs))) (kept_rows job (rows_of (blocks_held fields (drawn hs cs)))) all_rows);
    }

-- no bad block in two lists is none in either
none_bad_step : (b : Block) (bs cs : List Block) → (first_bad (bs ++ cs) ≡ None → (first_bad bs ≡ None) × (first_bad cs ≡ None)) → first_bad (b ∷ (bs ++ cs)) ≡ None → (t : Bool) → is_bad b ≡ t
    → (first_bad (b ∷ bs) ≡ None) × (first_bad cs ≡ None)
none_bad_step b bs cs rest none true is =
    absurd (let some : first_bad (b ∷ (bs ++ cs)) ≡ Some b = ap (λ (t : Bool). cond t (Some b) (first_bad (bs ++ cs))) is in let no : Some b ≡ None = sym some ∙ none in cc)
none_bad_step b bs cs rest none false is =
    let both = rest (sym (ap (λ (t : Bool). cond t (Some b) (first_bad (bs ++ cs))) is) ∙ none) in
    (ap (λ (t : Bool). cond t (Some b) (first_bad bs)) is ∙ both.0, both.1)

none_bad : (bs cs : List Block) → first_bad (bs ++ cs) ≡ None → (first_bad bs ≡ None) × (first_bad cs ≡ None)
none_bad [] cs none = (refl, none)
none_bad (b ∷ bs) cs none = none_bad_step b bs cs (λ rest. none_bad bs cs rest) none (is_bad b) refl

tested_good : (b : Block) → first_bad (b ∷ []) ≡ None → IsTested (good_rows b) true
tested_good b none = by_rows (good_rows b) refl
  where
    by_rows : (o : Option (List Val)) → good_rows b ≡ o → IsTested o true
    by_rows (Some rows) is = tt
    by_rows None is = absurd (let some : first_bad (b ∷ []) ≡ Some b = ap (λ (o : Option (List Val)). cond (is_none o) (Some b) None) is in let no : Some b ≡ None = sym some ∙ none in cc)

module _ (fields : List (List ℕ)) (hs : List Held) where
  -- the blocks that were drawn are good, where none is bad
  pub drawn_good : (cs : List ℕ) → first_bad (blocks_held fields (drawn hs cs)) ≡ None → (b : ℕ) → 0 < times b cs → IsGoodAt fields hs b
  drawn_good cs none b in_cs h at =
      let a = Rattle.worker_merge.proofs.Counting.around b cs in_cs in
      let parts = ap (λ (l : List ℕ). drawn hs l) a.whole ∙ drawn-append hs a.before (b ∷ a.behind) ∙ ap (λ (o : Option Held). drawn hs a.before ++ (one_held o ++ drawn hs a.behind)) at in
      let blocks = ap (λ (l : List Held). blocks_held fields l) parts ∙ map-append (block_held fields) (drawn hs a.before) (h ∷ drawn hs a.behind) in
      let behind = (none_bad (blocks_held fields (drawn hs a.before)) (block_held fields h ∷ blocks_held fields (drawn hs a.behind)) (sym (ap (λ (l : List Block). first_bad l) blocks) ∙ none)).1 in
      tested_good (block_held fields h) (none_bad (block_held fields h ∷ []) (blocks_held fields (drawn hs a.behind)) behind).0

  goods : (k : ℕ) → k ≤ length hs → ((b : ℕ) → b < k → IsGoodAt fields hs b) → first_bad (blocks_held fields (take k hs)) ≡ None
  goods zero le each = refl
  goods (suc k) le each =
      let at = there hs k (omega arith) in
      let so_far = goods k (omega arith) (λ b lt. each b (omega arith)) in
      ap (λ (n : ℕ). first_bad (blocks_held fields (take n hs))) (let e : suc k ≡ k + 1 = omega arith in e) ∙ good_next fields hs k at.0 at.1 so_far (each k (omega arith) at.0 at.1)

  pub all_good : ((b : ℕ) → b < length hs → IsGoodAt fields hs b) → first_bad (blocks_held fields hs) ≡ None
  all_good each = ap (λ (l : List Held). first_bad (blocks_held fields l)) (sym (take_all (length hs) hs (omega arith))) ∙ goods (length hs) (omega arith) each

  pub bad_named : (k : ℕ) → k ≤ length hs → IsBadAt fields hs k → ((b : ℕ) → b < k → IsGoodAt fields hs b) → SaysOfBatch (blocks_held fields hs) (Bad k)
  bad_named k le bad each = bad_here fields hs k bad.0 bad.1 (goods k le each) bad.2

  module _ {A : Type 0} (grew : A → A → Job → List Val → Type 0) (both : (a b c : A) (job : Job) (xs ys : List Val) → grew a b job xs → grew b c job ys → grew a c job (xs ++ ys)) (job : Job) where
    -- the rows of one more block that was drawn
    pub hands_drawn : (cs : List ℕ) (n : ℕ) (h : Held) → slice_get hs n ≡ Some h → (first old new : A) (c d k l : ℕ) → HandsInOrder grew job (blocks_held fields (drawn hs cs)) first old 0 c 0 k
        → AddsOf grew job h.place.entry.rows (good_rows (block_held fields h)) true old new c d k l → HandsInOrder grew job (blocks_held fields (drawn hs (cs ++ n ∷ []))) first new 0 d 0 l
    hands_drawn cs n h at first old new c d k l so_far added =
        let blocks = ap (λ (x : List Held). blocks_held fields x) (drawn-more hs cs n h at) ∙ map-append (block_held fields) (drawn hs cs) (h ∷ []) in
        subst (λ (x : List Block). HandsInOrder grew job x first new 0 d 0 l) (sym blocks) (hands_more grew both job (blocks_held fields (drawn hs cs)) (block_held fields h) first old new c d k l so_far added)

    -- the rows of a worker that has ended, behind those of others
    pub joined_more : (cs ds : List ℕ) (first old new empty other : A) (c e l m x y : ℕ) → HandsRows grew job (blocks_held fields (drawn hs cs)) first old 0 c 0 l
        → HandsInOrder grew job (blocks_held fields (drawn hs ds)) empty other 0 x 0 y → GrewSomehow grew old new job (kept_rows job (rows_of (blocks_held fields (drawn hs ds)))) → e ≡ raised c x → m ≡ raised l y
        → HandsRows grew job (blocks_held fields (drawn hs (cs ++ ds))) first new 0 e 0 m
    joined_more cs ds first old new empty other c e l m x y joined own grown is js =
        let bs = blocks_held fields (drawn hs cs) in
        let ts = blocks_held fields (drawn hs ds) in
        let blocks : blocks_held fields (drawn hs (cs ++ ds)) ≡ bs ++ ts = ap (λ (z : List Held). blocks_held fields z) (drawn-append hs cs ds) ∙ map-append (block_held fields) (drawn hs cs) (drawn hs ds) in
        let pass : kept_rows job (rows_of (bs ++ ts)) ≡ kept_rows job (rows_of bs) ++ kept_rows job (rows_of ts) =
        ap (λ (r : List Val). kept_rows job r) (rows-append bs ts) ∙ filter-append (keeps job) (rows_of bs) (rows_of ts) in
        let count : length (kept_rows job (rows_of (bs ++ ts))) ≡ length (kept_rows job (rows_of bs)) + length (kept_rows job (rows_of ts)) =
        ap (λ (r : List Val). length r) pass ∙ length-append (kept_rows job (rows_of bs)) (kept_rows job (rows_of ts)) in
        let ran : chunks_of (bs ++ ts) ≡ chunks_of bs + chunks_of ts = sum_by-append (λ (b : Block). (b.place.entry.rows + 15) / 16) bs ts in
        subst (λ (z : List Block). HandsRows grew job z first new 0 e 0 m) (sym blocks)
        record {
          good = find_behind is_bad bs ts joined.good ∙ own.good;
          rows = joined.rows ++ grown.order;
          permutes = subst (λ (r : List Val). IsPermutation r (joined.rows ++ grown.order)) (sym pass)
              (Rattle.std.proofs.lemmas.List.Sorted.IsPermutation-append (kept_rows job (rows_of bs)) joined.rows (kept_rows job (rows_of ts)) grown.order joined.permutes grown.permutes);
          grew_by = both first old new job joined.rows grown.order joined.grew_by grown.grew_by;
          chunks_are = is ∙ ap (λ (n : ℕ). raised n x) joined.chunks_are ∙ ap (λ (n : ℕ). raised (raised 0 (chunks_of bs)) n) own.chunks_are ∙ twice (chunks_of bs) (chunks_of ts) ∙ ap (λ (n : ℕ). raised 0 n) (sym ran);
          kept_are = js ∙ ap (λ (n : ℕ). raised n y) joined.kept_are ∙ ap (λ (n : ℕ). raised (raised 0 (length (kept_rows job (rows_of bs)))) n) own.kept_are ∙ twice (length (kept_rows job (rows_of bs))) (length (kept_rows job (rows_of ts)))
              ∙ ap (λ (n : ℕ). raised 0 n) (sym count);
        }
      where
        twice : (p q : ℕ) → raised (raised 0 p) (raised 0 q) ≡ raised 0 (p + q)
        twice p q = omega arith

-- no worker's rows were joined yet
pub none_joined : {A : Type 0} (grew : A → A → Job → List Val → Type 0) (job : Job) (sink : A) → grew sink sink job [] → (c k : ℕ) → c ≡ 0 → k ≡ 0 → HandsRows grew job [] sink sink 0 c 0 k
none_joined grew job sink none c k no_chunks no_rows = record {
  good = refl;
  rows = [];
  permutes = Rattle.std.proofs.lemmas.List.Sorted.IsPermutation-refl [];
  grew_by = none;
  chunks_are = omega arith;
  kept_are = omega arith;
}

-- the counts of all workers, taken into those of before
pub counts_after : {A : Type 0} (grew : A → A → Job → List Val → Type 0) (job : Job) (bs : List Block) (old new : A) (c m a b x y : ℕ) → HandsRows grew job bs old new 0 c 0 m → x ≡ raised a c → y ≡ raised b m → HandsRows grew job bs old new a x b y
counts_after grew job bs old new c m a b x y h is js = let p = h.chunks_are in let q = h.kept_are in record {
  good = h.good;
  rows = h.rows;
  permutes = h.permutes;
  grew_by = h.grew_by;
  chunks_are = omega arith;
  kept_are = omega arith;
}
