-- Blocks that are scanned one after the other.
use Rattle.std.proofs.Common.{◌≡◌, ℕ, zero, suc, ◌+◌, ◌/◌, ◌<◌, ◌≤◌, Bool, true, false, cond, List, [], ◌∷◌, ◌++◌, length, take, drop, Option, Some, None, refl, sym, ap, ◌∙◌, subst, arith, take-append-drop, get_or}
use Rattle.std.specs.Prelude.{slice_get, is_none, unwrap_or}
use Rattle.std.proofs.lemmas.List.{append-nil, take_all, map-append, length-append}
use Rattle.std.proofs.lemmas.List.Sums.{sum_by-append, sum_by-cons}
use Rattle.snel_device.specs.Causes.{raised}
use Rattle.value_meaning.specs.Val.{Val}
use Rattle.tree_meaning.specs.Tree.{Query}
use Rattle.program_meaning.specs.Jobs.{Job}
use Rattle.program_meaning.specs.Simulation.{Simulates}
use Rattle.scan_meaning.specs.Blocks.{Block, good_rows}
use Rattle.scan_meaning.specs.Batches.{rows_of, is_bad, first_bad, is_plain}
use Rattle.scan_meaning.proofs.Batches.{rows-append, find_behind, find_before}
use Rattle.scan_meaning.proofs.Plain.{ungrouped}
use Rattle.block_lines.specs.RowLines.{keeps, kept_rows, lines_of}
use Rattle.block_lines.proofs.Simulated.{added_lines, kept_many}
use Rattle.scan_files.specs.Places.{Held, block_held, blocks_held}
use Rattle.scan_batches.specs.Lines.{made_lines}
use Rattle.scan_batches.specs.Scans.{Scans, chunks_of, SaysOfBatch}
use Rattle.scan_batches.specs.declared.fault.BatchFault.TheVariants.{Bad}
use Rattle.worker_merge.specs.Hands.{HandsRows, HandsInOrder, AddsRows, AddsOf, IsTested}
use Rattle.std.proofs.lemmas.List.Elements.{filter-append}
use Rattle.std.proofs.lemmas.List.Sorted.{IsPermutation-refl}

pub take_one : {A : Type 0} (xs : List A) (i : ℕ) (x : A) → slice_get xs i ≡ Some x → take (suc i) xs ≡ take i xs ++ x ∷ []
take_one [] i x at = absurd (cc)
take_one {A} (y ∷ ys) zero x at = let same : y ≡ x = cc in ap (λ (z : A). z ∷ []) same
take_one {A} (y ∷ ys) (suc i) x at = ap (λ (l : List A). y ∷ l) (take_one ys i x at)

held_one : (fields : List (List ℕ)) (hs : List Held) (k : ℕ) (h : Held) → slice_get hs k ≡ Some h → slice_get (blocks_held fields hs) k ≡ Some (block_held fields h)
held_one fields [] k h at = absurd (cc)
held_one fields (g ∷ hs) zero h at = let same : g ≡ h = cc in ap (λ (x : Held). Some (block_held fields x)) same
held_one fields (g ∷ hs) (suc k) h at = held_one fields hs k h at

is_good_block : (b : Block) (o : Option (List Val)) → good_rows b ≡ o → IsTested o true → is_bad b ≡ false
is_good_block b (Some rows) is t = ap (λ (o : Option (List Val)). is_none o) is
is_good_block b None is t = absurd t

is_bad_block : (b : Block) (o : Option (List Val)) → good_rows b ≡ o → IsTested o false → is_bad b ≡ true
is_bad_block b (Some rows) is t = absurd t
is_bad_block b None is t = ap (λ (o : Option (List Val)). is_none o) is

one_good : (b : Block) → is_bad b ≡ false → first_bad (b ∷ []) ≡ None
one_good b is = ap (λ (t : Bool). cond t (Some b) None) is

one_bad : (b : Block) → is_bad b ≡ true → first_bad (b ∷ []) ≡ Some b
one_bad b is = ap (λ (t : Bool). cond t (Some b) None) is

pub raised_twice : (a m n : ℕ) → raised (raised a m) n ≡ raised a (m + n)
raised_twice a m n = omega arith

-- a good block more
module _ {A : Type 0} (grew : A → A → Job → List Val → Type 0) (both : (a b c : A) (job : Job) (xs ys : List Val) → grew a b job xs → grew b c job ys → grew a c job (xs ++ ys))
    (job : Job) (bs : List Block) (b : Block) (first old new : A) (c d k l : ℕ) (so_far : HandsInOrder grew job bs first old 0 c 0 k) where
  with_rows : (rows : List Val) → good_rows b ≡ Some rows → AddsRows grew job b.place.entry.rows rows old new c d k l → HandsInOrder grew job (bs ++ b ∷ []) first new 0 d 0 l
  with_rows rows is added =
      let own : rows_of (b ∷ []) ≡ rows = ap (λ (o : Option (List Val)). unwrap_or o [] ++ []) is ∙ append-nil rows in
      let all : rows_of (bs ++ b ∷ []) ≡ rows_of bs ++ rows = rows-append bs (b ∷ []) ∙ ap (λ (r : List Val). rows_of bs ++ r) own in
      let good_one : is_bad b ≡ false = ap (λ (o : Option (List Val)). is_none o) is in
      let pass : kept_rows job (rows_of (bs ++ b ∷ [])) ≡ kept_rows job (rows_of bs) ++ kept_rows job rows = ap (λ (r : List Val). kept_rows job r) all ∙ filter-append (keeps job) (rows_of bs) rows in
      let count : length (kept_rows job (rows_of (bs ++ b ∷ []))) ≡ length (kept_rows job (rows_of bs)) + length (kept_rows job rows) =
      ap (λ (p : List Val). length p) pass ∙ length-append (kept_rows job (rows_of bs)) (kept_rows job rows) in
      let one_run : chunks_of (b ∷ []) ≡ (b.place.entry.rows + 15) / 16 + 0 = sum_by-cons (λ (x : Block). (x.place.entry.rows + 15) / 16) b [] in
      let ran : chunks_of (bs ++ b ∷ []) ≡ chunks_of bs + (b.place.entry.rows + 15) / 16 = sum_by-append (λ (x : Block). (x.place.entry.rows + 15) / 16) bs (b ∷ []) ∙ omega arith in
      record {
        good = find_behind is_bad bs (b ∷ []) so_far.good ∙ one_good b good_one;
        grew_by = subst (λ (r : List Val). grew first new job r) (sym pass) (both first old new job (kept_rows job (rows_of bs)) (kept_rows job rows) so_far.grew_by added.grew_by);
        chunks_are = added.chunks_are ∙ ap (λ (n : ℕ). raised n ((b.place.entry.rows + 15) / 16)) so_far.chunks_are ∙ raised_twice 0 (chunks_of bs) ((b.place.entry.rows + 15) / 16) ∙ ap (λ (n : ℕ). raised 0 n) (sym ran);
        kept_are = added.kept_are ∙ ap (λ (n : ℕ). raised n (length (kept_rows job rows))) so_far.kept_are ∙ raised_twice 0 (length (kept_rows job (rows_of bs))) (length (kept_rows job rows)) ∙ ap (λ (n : ℕ). raised 0 n) (sym count);
      }

  with_block : (o : Option (List Val)) → good_rows b ≡ o → AddsOf grew job b.place.entry.rows o true old new c d k l → HandsInOrder grew job (bs ++ b ∷ []) first new 0 d 0 l
  with_block (Some rows) is added = with_rows rows is added
  with_block None is added = absurd added

  pub hands_more : AddsOf grew job b.place.entry.rows (good_rows b) true old new c d k l → HandsInOrder grew job (bs ++ b ∷ []) first new 0 d 0 l
  hands_more added = with_block (good_rows b) refl added

module _ (fields : List (List ℕ)) (hs : List Held) (k : ℕ) (h : Held) (at : slice_get hs k ≡ Some h) (so_far : first_bad (blocks_held fields (take k hs)) ≡ None) where
  pub next_blocks : blocks_held fields (take (k + 1) hs) ≡ blocks_held fields (take k hs) ++ block_held fields h ∷ []
  next_blocks =
      let e : k + 1 ≡ suc k = omega arith in
      ap (λ (n : ℕ). blocks_held fields (take n hs)) e ∙ ap (λ (l : List Held). blocks_held fields l) (take_one hs k h at) ∙ map-append (block_held fields) (take k hs) (h ∷ [])

  pub good_next : IsTested (good_rows (block_held fields h)) true → first_bad (blocks_held fields (take (k + 1) hs)) ≡ None
  good_next t =
      ap (λ (l : List Block). first_bad l) next_blocks ∙ find_behind is_bad (blocks_held fields (take k hs)) (block_held fields h ∷ []) so_far
      ∙ one_good (block_held fields h) (is_good_block (block_held fields h) (good_rows (block_held fields h)) refl t)

  pub bad_here : IsTested (good_rows (block_held fields h)) false → SaysOfBatch (blocks_held fields hs) (Bad k)
  bad_here t =
      let b = block_held fields h in
      let own : first_bad (blocks_held fields (take (k + 1) hs)) ≡ Some b =
      ap (λ (l : List Block). first_bad l) next_blocks ∙ find_behind is_bad (blocks_held fields (take k hs)) (b ∷ []) so_far
      ∙ one_bad b (is_bad_block b (good_rows b) refl t) in
      let whole : blocks_held fields (take (k + 1) hs) ++ blocks_held fields (drop (k + 1) hs) ≡ blocks_held fields hs =
      sym (map-append (block_held fields) (take (k + 1) hs) (drop (k + 1) hs)) ∙ ap (λ (l : List Held). blocks_held fields l) (take-append-drop (k + 1) hs) in
      (b, held_one fields hs k h at, ap (λ (l : List Block). first_bad l) (sym whole) ∙ find_before is_bad (blocks_held fields (take (k + 1) hs)) (blocks_held fields (drop (k + 1) hs)) b own)

  pub hands_next : {A : Type 0} (grew : A → A → Job → List Val → Type 0) → ((a b c : A) (job : Job) (xs ys : List Val) → grew a b job xs → grew b c job ys → grew a c job (xs ++ ys))
      → (job : Job) (first old new : A) (c d m n : ℕ) → HandsInOrder grew job (blocks_held fields (take k hs)) first old 0 c 0 m
      → AddsOf grew job h.place.entry.rows (good_rows (block_held fields h)) true old new c d m n → HandsInOrder grew job (blocks_held fields (take (k + 1) hs)) first new 0 d 0 n
  hands_next grew both job first old new c d m n before added =
      subst (λ (l : List Block). HandsInOrder grew job l first new 0 d 0 n) (sym next_blocks)
      (hands_more grew both job (blocks_held fields (take k hs)) (block_held fields h) first old new c d m n before added)

-- the counts of a frame that began with none, taken into those of before
pub hands_after : {A : Type 0} (grew : A → A → Job → List Val → Type 0) (job : Job) (fields : List (List ℕ)) (hs : List Held) (k : ℕ) (old new : A) (c m a b x y : ℕ) → length hs ≤ k
    → HandsInOrder grew job (blocks_held fields (take k hs)) old new 0 c 0 m → x ≡ raised a c → y ≡ raised b m → HandsInOrder grew job (blocks_held fields hs) old new a x b y
hands_after grew job fields hs k old new c m a b x y le s is js =
    let whole : take k hs ≡ hs = take_all k hs le in
    let t : HandsInOrder grew job (blocks_held fields hs) old new 0 c 0 m = subst (λ (l : List Held). HandsInOrder grew job (blocks_held fields l) old new 0 c 0 m) whole s in
    record {
      good = t.good;
      grew_by = t.grew_by;
      chunks_are = is ∙ ap (λ (n : ℕ). raised a n) t.chunks_are ∙ after_none a (chunks_of (blocks_held fields hs));
      kept_are = js ∙ ap (λ (n : ℕ). raised b n) t.kept_are ∙ after_none b (length (kept_rows job (rows_of (blocks_held fields hs))));
    }
  where
    after_none : (p n : ℕ) → raised p (raised 0 n) ≡ raised p n
    after_none p n = omega arith

-- the block that was looked at
pub at_is : (hs : List Held) (i : ℕ) (d h : Held) → i < length hs → h ≡ get_or hs i d → slice_get hs i ≡ Some h
at_is [] i d h lt is = absurd (omega arith)
at_is (x ∷ xs) zero d h lt is = let same : h ≡ x = is in cc
at_is (x ∷ xs) (suc i) d h lt is = at_is xs i d h (omega arith) is

-- before the first block
pub starts : {A : Type 0} (grew : A → A → Job → List Val → Type 0) (job : Job) (sink : A) → grew sink sink job [] → (c k : ℕ) → c ≡ 0 → k ≡ 0 → HandsInOrder grew job [] sink sink 0 c 0 k
starts grew job sink none c k no_chunks no_rows = record { good = refl; grew_by = none; chunks_are = no_chunks ∙ zero_raised; kept_are = no_rows ∙ zero_raised }
  where
    zero_raised : 0 ≡ raised 0 0
    zero_raised = omega arith

-- in order is in some order
pub in_some_order : {A : Type 0} (grew : A → A → Job → List Val → Type 0) (job : Job) (bs : List Block) (old new : A) (a b c d : ℕ) → HandsInOrder grew job bs old new a b c d → HandsRows grew job bs old new a b c d
in_some_order grew job bs old new a b c d h = record {
  good = h.good;
  rows = kept_rows job (rows_of bs);
  permutes = IsPermutation-refl (kept_rows job (rows_of bs));
  grew_by = h.grew_by;
  chunks_are = h.chunks_are;
  kept_are = h.kept_are;
}

-- the lines in order, where the job simulates a plain query
pub lines_scanned : (job : Job) (q : Query) → Simulates job q → is_plain q ≡ true → (bs : List Block) (old new : List (List ℕ)) (a b c d : ℕ) → old ≡ []
    → HandsInOrder (λ x y j rows. y ≡ x ++ lines_of j rows) job bs old new a b c d → Scans q bs new a b c d
lines_scanned job q simulates plain bs old new a b c d empty h = record {
  good = h.good;
  lines_are = added_lines job q simulates (ungrouped q plain) (rows_of bs) old new h.grew_by ∙ ap (λ (l : List (List ℕ)). l ++ made_lines q (rows_of bs)) empty;
  chunks_are = h.chunks_are;
  kept_are = h.kept_are ∙ ap (λ (n : ℕ). raised c n) (kept_many job q simulates (rows_of bs));
}
