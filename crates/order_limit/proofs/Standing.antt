-- What adding a row to the first rows does to the rows for which they stand.
use Rattle.std.proofs.Common.{◌≡◌, ℕ, ◌+◌, ◌-◌, ◌<◌, ◌≤◌, List, [], ◌∷◌, ◌++◌, length, get_or, map, drop, Some, Bool, true, false, refl, sym, ap, ◌∙◌, subst, arith, append_assoc, append-nil}
use Rattle.std.specs.Cmp.{IsStrictWeakOrder}
use Rattle.std.specs.Ordering.{is_lt}
use Rattle.std.specs.List.{All}
use Rattle.std.specs.List.Sorted.{IsPermutation, IsSortedBy, IsSortedByKey}
use Rattle.std.proofs.lemmas.List.{length-map, map-append, get_or-map, get_or_default, drop-map}
use Rattle.std.proofs.lemmas.List.Sorted.{ranks_by, IsPermutation-refl, IsPermutation-sym, IsPermutation-cons, IsPermutation-trans, IsPermutation-middle, IsPermutation-to_front, IsPermutation-append, IsPermutation-append_left, IsPermutation-map, All-permutation, length_permutation}
use Rattle.std.proofs.lemmas.List.Elements.{All-nil, All-cons, All-head, All-tail, All-push, All-weaker, All-map}
use Rattle.value_meaning.specs.Val.{Val}
use Rattle.answer_meaning.specs.Answers.{keys_cmp}
use Rattle.snel_values.specs.declared.made.MadeRow.{MadeRow}
use Rattle.snel_values.specs.Made.{row_view}
use Rattle.order_limit.specs.Arranged.{Row, AreKeyed, IsArranged}
use Rattle.order_limit.specs.Padded.{padded_cmp}
use Rattle.order_limit.specs.Heaps.{row_before, IsHeap, Adds, fills, drops, replaces}
use Rattle.order_limit.specs.Top.{is_before, StandsFor}
use Rattle.order_limit.proofs.Keys.{padded_total, padded_is}
use Rattle.order_limit.proofs.Heaps.{below_none}
use Rattle.order_limit.proofs.Sorting.{sorted, sorted_is, sorted_rises, is_sorted, rises, rises_on, front_less}

-- the order of rows by their keys
pub rows_ranked : (falling : List Bool) → IsStrictWeakOrder (is_before falling)
rows_ranked falling = ranks_by (padded_total falling) (λ (r : Row). r.0)

pub made_ranked : (falling : List Bool) → IsStrictWeakOrder (row_before falling)
made_ranked falling = ranks_by (padded_total falling) (λ (r : MadeRow). r.keys)

-- the same as seen
pub seen_adds : (falling : List Bool) (most : ℕ) (old : List MadeRow) (x : MadeRow) (new : List MadeRow) → Adds (row_before falling) most old x new → Adds (is_before falling) most (map row_view old) (row_view x) (map row_view new)
seen_adds falling most old x new (fills room p) = fills (subst (λ (n : ℕ). n < most) (sym (length-map old row_view)) room) (subst (λ l. IsPermutation l (map row_view new)) (map-append row_view old (x ∷ [])) (IsPermutation-map row_view (old ++ x ∷ []) new p))
seen_adds falling most old x new (drops full all same) = drops (length-map old row_view ∙ full) (All-map (λ y. is_before falling (row_view x) y ≡ false) row_view old all) (ap (map row_view) same)
seen_adds falling most old x new (replaces out rest full p q all less) =
    replaces (row_view out) (map row_view rest) (length-map old row_view ∙ full) (IsPermutation-map row_view old (out ∷ rest) p) (IsPermutation-map row_view (x ∷ rest) new q) (All-map (λ y. is_before falling (row_view out) y ≡ false) row_view old all) less

module _ (falling : List Bool) (most : ℕ) (held : List Row) (rows : List Row) (h : StandsFor (record { falling = falling; most = most; held = held }) rows) (row : Row) (keyed : length row.0 ≡ length falling) where
  now_keyed : AreKeyed falling (rows ++ row ∷ [])
  now_keyed = All-push (λ (r : Row). length r.0 ≡ length falling) rows row h.keyed keyed

  -- the new row stands behind the others
  behind_others : IsPermutation (rows ++ row ∷ []) ((held ++ h.dropped) ++ row ∷ [])
  behind_others = IsPermutation-append_left (row ∷ []) rows (held ++ h.dropped) h.permutes

  -- it is dropped
  pub stands_dropped : length held ≡ most → All (λ r. is_before falling row r ≡ false) held → StandsFor (record { falling = falling; most = most; held = held }) (rows ++ row ∷ [])
  stands_dropped full last = record {
    keyed = now_keyed;
    dropped = h.dropped ++ row ∷ [];
    permutes = subst (IsPermutation (rows ++ row ∷ [])) (append_assoc held h.dropped (row ∷ [])) behind_others;
    room = λ less. absurd (omega (arith, less, full));
    behind = All-push (λ s. All (λ r. is_before falling s r ≡ false) held) h.dropped row h.behind last;
  }

  -- there was room for it
  stands_filled : (new : List Row) → length held < most → IsPermutation (held ++ row ∷ []) new → StandsFor (record { falling = falling; most = most; held = new }) (rows ++ row ∷ [])
  stands_filled new room p =
      let all : (held ++ h.dropped) ++ row ∷ [] ≡ held ++ row ∷ [] = ap (λ l. (held ++ l) ++ row ∷ []) (h.room room) ∙ ap (λ l. l ++ row ∷ []) (append-nil held) in
      record {
        keyed = now_keyed;
        dropped = [];
        permutes = subst (IsPermutation (rows ++ row ∷ [])) (sym (append-nil new)) (IsPermutation-trans (rows ++ row ∷ []) (held ++ row ∷ []) new (subst (IsPermutation (rows ++ row ∷ [])) all behind_others) p);
        room = λ less. refl;
        behind = All-nil (λ s. All (λ r. is_before falling s r ≡ false) new);
      }

  -- it took the place of another
  module _ (out : Row) (rest new : List Row) (full : length held ≡ most) (p : IsPermutation held (out ∷ rest)) (q : IsPermutation (row ∷ rest) new) (last : All (λ r. is_before falling out r ≡ false) held) (less : is_before falling row out ≡ true) where
    o : IsStrictWeakOrder (is_before falling)
    o = rows_ranked falling

    exchanged : IsPermutation (rows ++ row ∷ []) (new ++ out ∷ h.dropped)
    exchanged =
        let others = h.dropped in
        let a = IsPermutation-append_left (row ∷ []) (held ++ others) (out ∷ (rest ++ others)) (IsPermutation-append_left others held (out ∷ rest) p) in
        let b = IsPermutation-to_front (out ∷ (rest ++ others)) row in
        let c = IsPermutation-cons row (out ∷ (rest ++ others)) (rest ++ out ∷ others) (IsPermutation-sym (rest ++ out ∷ others) (out ∷ (rest ++ others)) (IsPermutation-middle rest out others)) in
        let d = IsPermutation-append_left (out ∷ others) (row ∷ rest) new q in
        IsPermutation-trans (rows ++ row ∷ []) ((held ++ others) ++ row ∷ []) (new ++ out ∷ others) behind_others
        (IsPermutation-trans ((held ++ others) ++ row ∷ []) ((out ∷ (rest ++ others)) ++ row ∷ []) (new ++ out ∷ others) a
        (IsPermutation-trans ((out ∷ (rest ++ others)) ++ row ∷ []) (row ∷ out ∷ (rest ++ others)) (new ++ out ∷ others) b
        (IsPermutation-trans (row ∷ out ∷ (rest ++ others)) (row ∷ (rest ++ out ∷ others)) (new ++ out ∷ others) c d)))

    -- what is behind all that was held, and behind the new row, is behind all that is
    behind_new : (s : Row) → All (λ r. is_before falling s r ≡ false) held → is_before falling s row ≡ false → All (λ r. is_before falling s r ≡ false) new
    behind_new s all first =
        let P : Row → Type 0 = λ r. is_before falling s r ≡ false in
        All-permutation P (row ∷ rest) new q (All-cons P row rest first (All-tail P out rest (All-permutation P held (out ∷ rest) p all)))

    out_behind : is_before falling out row ≡ false
    out_behind = o.one_way row out less

    dropped_behind : (s : Row) → All (λ r. is_before falling s r ≡ false) held → All (λ r. is_before falling s r ≡ false) new
    dropped_behind s all =
        let P : Row → Type 0 = λ r. is_before falling s r ≡ false in
        behind_new s all (o.chain s out row (All-head P out rest (All-permutation P held (out ∷ rest) p all)) out_behind)

    same_length : length new ≡ length held
    same_length = length_permutation (row ∷ rest) new q ∙ length_permutation held (out ∷ rest) p

    stands_replaced : StandsFor (record { falling = falling; most = most; held = new }) (rows ++ row ∷ [])
    stands_replaced = record {
      keyed = now_keyed;
      dropped = out ∷ h.dropped;
      permutes = exchanged;
      room = λ short. absurd (omega (arith, short, same_length, full));
      behind = All-cons (λ s. All (λ r. is_before falling s r ≡ false) new) out h.dropped (behind_new out last out_behind) (All-weaker (λ s. All (λ r. is_before falling s r ≡ false) held) (λ s. All (λ r. is_before falling s r ≡ false) new) dropped_behind h.dropped h.behind);
    }

  pub stands_added : (new : List Row) → Adds (is_before falling) most held row new → StandsFor (record { falling = falling; most = most; held = new }) (rows ++ row ∷ [])
  stands_added new (fills room p) = stands_filled new room p
  stands_added new (drops full last same) = subst (λ l. StandsFor (record { falling = falling; most = most; held = l }) (rows ++ row ∷ [])) (sym same) (stands_dropped full last)
  stands_added new (replaces out rest full p q last less) = stands_replaced out rest new full p q last less

-- sorted by keys of which there is one for each flag
sorted_by_keys : (falling : List Bool) (rows : List Row) → AreKeyed falling rows → IsSortedBy (is_before falling) rows → IsSortedByKey (λ (r : Row). r.0) (keys_cmp falling) rows
sorted_by_keys falling rows keyed up k d low high =
    ap is_lt (padded_is falling (get_or rows (k + 1) d).0 (get_or rows k d).0 (keyed (k + 1) d high) (keyed k d (omega (arith, high)))) ∙ up k d low high

-- those that are held, sorted, are the first of an arrangement of all
pub stands_arranged : (falling : List Bool) (most skip : ℕ) (held ordered rows : List Row) → length held ≤ most → IsPermutation held ordered → IsSortedBy (is_before falling) ordered → StandsFor (record { falling = falling; most = most; held = held }) rows → IsArranged falling skip (Some (most - skip)) rows (drop skip ordered)
stands_arranged falling most skip held ordered rows few p up h =
    let lt = is_before falling in
    let o = rows_ranked falling in
    let rest = sorted lt o h.dropped in
    let all = ordered ++ rest in
    let moved = IsPermutation-trans rows (held ++ h.dropped) all h.permutes (IsPermutation-append held ordered h.dropped rest p (sorted_is lt o h.dropped)) in
    let behind : All (λ s. All (λ r. lt s r ≡ false) ordered) rest =
    All-permutation (λ s. All (λ r. lt s r ≡ false) ordered) h.dropped rest (sorted_is lt o h.dropped)
    (All-weaker (λ s. All (λ r. lt s r ≡ false) held) (λ s. All (λ r. lt s r ≡ false) ordered) (λ s g. All-permutation (λ r. lt s r ≡ false) held ordered p g) h.dropped h.behind) in
    let same = length_permutation held ordered p in
    record {
      arrangement = all;
      permutes = moved;
      sorted = sorted_by_keys falling all (All-permutation (λ (r : Row). length r.0 ≡ length falling) rows all moved h.keyed) (is_sorted lt o all (rises_on lt o ordered rest (rises lt o ordered up) (sorted_rises lt o h.dropped) behind));
      cut = front_less most skip ordered rest (omega (arith, few, same)) (λ less. ap (sorted lt o) (h.room (omega (arith, less, same))));
    }

-- sorted as made, and as seen
seen_sorted : (falling : List Bool) (items : List MadeRow) → IsSortedBy (row_before falling) items → IsSortedBy (is_before falling) (map row_view items)
seen_sorted falling [] up k d low below = absurd (omega arith)
seen_sorted falling (x ∷ xs) up k d low below =
    let items = x ∷ xs in
    let l = length-map items row_view in
    let h : k < length items = omega arith in
    let n : k + 1 < length items = omega arith in
    let here = get_or_default (map row_view items) k d (row_view x) (omega arith) ∙ get_or-map row_view items k x (row_view x) h in
    let next = get_or_default (map row_view items) (k + 1) d (row_view x) (omega arith) ∙ get_or-map row_view items (k + 1) x (row_view x) n in
    (λ j. is_before falling (next j) (here j)) ∙ up k x low n

-- the rows that are held, sorted, less the first `skip` many
pub finished : (falling : List Bool) (most skip : ℕ) (items ordered : List MadeRow) (out : List Row) → length items ≤ most → IsPermutation items ordered → IsSortedBy (row_before falling) ordered → out ≡ map row_view (drop skip ordered)
    → (rows : List Row) → StandsFor (record { falling = falling; most = most; held = map row_view items }) rows → IsArranged falling skip (Some (most - skip)) rows out
finished falling most skip items ordered out few p up is rows h =
    subst (IsArranged falling skip (Some (most - skip)) rows) (drop-map row_view skip ordered ∙ sym is)
    (stands_arranged falling most skip (map row_view items) (map row_view ordered) rows (omega (arith, few, length-map items row_view)) (IsPermutation-map row_view items ordered p) (seen_sorted falling ordered up) h)

-- none is held
pub standing_first : (falling : List Bool) (most : ℕ) → StandsFor (record { falling = falling; most = most; held = [] }) []
standing_first falling most = record {
  keyed = All-nil (λ (r : Row). length r.0 ≡ length falling);
  dropped = [];
  permutes = IsPermutation-refl [];
  room = λ less. refl;
  behind = All-nil (λ s. All (λ r. is_before falling s r ≡ false) []);
}

-- a heap as made, and as seen
seen_heap : (falling : List Bool) (items : List MadeRow) → IsHeap (row_before falling) items → IsHeap (is_before falling) (map row_view items)
seen_heap falling [] heap p k d low high there = absurd (omega (arith, there))
seen_heap falling (x ∷ xs) heap p k d low high there =
    let items = x ∷ xs in
    let l = length-map items row_view in
    let inside : k < length items = omega (arith, there, l) in
    let above : p < length items = omega (arith, low, inside) in
    let here = get_or_default (map row_view items) p d (row_view x) (omega (arith, low, there)) ∙ get_or-map row_view items p x (row_view x) above in
    let next = get_or_default (map row_view items) k d (row_view x) there ∙ get_or-map row_view items k x (row_view x) inside in
    (λ j. is_before falling (here j) (next j)) ∙ heap p k x low high inside

seen_first : (falling : List Bool) (items : List MadeRow) (keys : List Val) → 0 < length items → ((m : MadeRow) → is_lt (padded_cmp falling keys (get_or items 0 m).keys) ≡ false) → (d : Row) → is_lt (padded_cmp falling keys (get_or (map row_view items) 0 d).0) ≡ false
seen_first falling [] keys some h d = absurd (omega (arith, some))
seen_first falling (x ∷ xs) keys some h d = h x

-- a row that doesn't come before the first of a full heap is dropped
pub unwanted : (falling : List Bool) (most : ℕ) (items : List MadeRow) (keys : List Val) → 0 < most → length items ≡ most → IsHeap (row_before falling) items → ((m : MadeRow) → is_lt (padded_cmp falling keys (get_or items 0 m).keys) ≡ false) → length keys ≡ length falling
    → (rows : List Row) (line : List ℕ) → StandsFor (record { falling = falling; most = most; held = map row_view items }) rows → StandsFor (record { falling = falling; most = most; held = map row_view items }) (rows ++ (keys, line) ∷ [])
unwanted falling most items keys some full heap last keyed rows line h =
    stands_dropped falling most (map row_view items) rows h (keys, line) keyed (length-map items row_view ∙ full)
    (below_none (is_before falling) (rows_ranked falling) (map row_view items) (keys, line) (seen_heap falling items heap) (seen_first falling items keys (omega (arith, some, full)) last))
