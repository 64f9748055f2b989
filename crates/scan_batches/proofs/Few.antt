-- How many rows and chunks blocks have at most.
use Rattle.std.proofs.Common.{◌≡◌, ◌+◌, ◌*◌, ◌≤◌, ◌/◌, Bool, true, false, cond, List, [], ◌∷◌, length, Option, Some, None, refl, ◌∙◌, arith}
use Rattle.std.specs.Prelude.{unwrap_or, count_by}
use Rattle.std.specs.Option.{option_and_then}
use Rattle.std.proofs.lemmas.List.{length-append, length-map}
use Rattle.std.proofs.lemmas.List.Sums.{sum_by-cons, length-filter, count_by-le-length}
use Rattle.value_meaning.specs.Val.{Val}
use Rattle.block_meaning.specs.declared.TheConstants.{MOST_BLOCK_ROWS}
use Rattle.tree_meaning.specs.Tree.{Query}
use Rattle.eval_meaning.specs.Pair.{alone}
use Rattle.eval_meaning.specs.Passed.{pairs, is_kept}
use Rattle.scan_meaning.specs.Blocks.{Block, stored_rows, is_sound, good_rows}
use Rattle.scan_meaning.specs.Batches.{rows_of, is_bad, first_bad, count_passed}
use Rattle.scan_meaning.proofs.Exact.{rows_exact}
use Rattle.scan_batches.specs.Scans.{chunks_of}

taken : (t : Bool) (r rows : List Val) → cond t (Some r) None ≡ Some rows → Some r ≡ Some rows
taken true r rows e = e
taken false r rows e = absurd (cc)

stored_of : (b : Block) (rows : List Val) → good_rows b ≡ Some rows → stored_rows b ≡ Some rows
unfolding good_rows
stored_of b rows e = on (stored_rows b) refl e
  where
    on : (o : Option (List Val)) → stored_rows b ≡ o → option_and_then (λ r. cond (is_sound b.field b.place.entry r) (Some r) None) o ≡ Some rows → stored_rows b ≡ Some rows
    on None is e = absurd (cc)
    on (Some r) is e = is ∙ taken (is_sound b.field b.place.entry r) r rows e

-- a good block has as many rows as its entry says, and few
pub good_few : (b : Block) (rows : List Val) → good_rows b ≡ Some rows → (length rows ≡ b.place.entry.rows) × (length rows ≤ 65536)
good_few b rows e =
    let h = (rows_exact b rows).0 (stored_of b rows e) in
    let few : length rows ≤ MOST_BLOCK_ROWS = h.1.few in
    (h.2, few)

one_few : (b : Block) → length (unwrap_or (good_rows b) []) ≤ 65536
one_few b = on (good_rows b) refl
  where
    on : (o : Option (List Val)) → good_rows b ≡ o → length (unwrap_or o []) ≤ 65536
    on None e = omega arith
    on (Some rows) e = (good_few b rows e).1

pub rows_few : (bs : List Block) → length (rows_of bs) ≤ 65536 * length bs
rows_few [] = omega arith
rows_few (b ∷ bs) =
    let own = one_few b in
    let others = rows_few bs in
    let all : length (rows_of (b ∷ bs)) ≡ length (unwrap_or (good_rows b) []) + length (rows_of bs) = length-append (unwrap_or (good_rows b) []) (rows_of bs) in
    omega arith

one_chunks : (b : Block) → is_bad b ≡ false → (b.place.entry.rows + 15) / 16 ≤ 65536
one_chunks b good = on (good_rows b) refl
  where
    on : (o : Option (List Val)) → good_rows b ≡ o → (b.place.entry.rows + 15) / 16 ≤ 65536
    on None e = absurd (wrong e good)
      where
        wrong : good_rows b ≡ None → is_bad b ≡ false → ⊥
        wrong e good = let bad : is_bad b ≡ true = rw e refl in cc
    on (Some rows) e = let h = good_few b rows e in omega arith

first_good : (b : Block) (bs : List Block) → first_bad (b ∷ bs) ≡ None → (is_bad b ≡ false) × (first_bad bs ≡ None)
first_good b bs h = on (is_bad b) h
  where
    on : (t : Bool) → cond t (Some b) (first_bad bs) ≡ None → (t ≡ false) × (first_bad bs ≡ None)
    on true h = absurd (cc)
    on false h = (refl, h)

pub chunks_few : (bs : List Block) → first_bad bs ≡ None → chunks_of bs ≤ 65536 * length bs
chunks_few [] good = omega arith
chunks_few (b ∷ bs) good =
    let h = first_good b bs good in
    let own = one_chunks b h.0 in
    let others = chunks_few bs h.1 in
    let all : chunks_of (b ∷ bs) ≡ (b.place.entry.rows + 15) / 16 + chunks_of bs = sum_by-cons (λ (x : Block). (x.place.entry.rows + 15) / 16) b bs in
    omega arith

pub passed_few : (q : Query) (bs : List Block) → count_passed q bs ≤ length (rows_of bs)
passed_few q bs =
    let e : count_passed q bs ≡ count_by (is_kept q.filter) (pairs q (rows_of bs)) = length-filter (is_kept q.filter) (pairs q (rows_of bs)) in
    let most : count_by (is_kept q.filter) (pairs q (rows_of bs)) ≤ length (pairs q (rows_of bs)) = count_by-le-length (is_kept q.filter) (pairs q (rows_of bs)) in
    let long : length (pairs q (rows_of bs)) ≡ length (rows_of bs) = length-map (rows_of bs) alone in
    omega arith
