-- An index covers entries: it goes on to do so when they change, and finds what it covers.
use Rattle.std.proofs.Common.{◌≡◌, ℕ, zero, suc, ◌+◌, ◌<◌, ◌≤◌, List, [], ◌∷◌, ◌++◌, length, get_or, set, take, None, false, refl, sym, ap, subst, ◌∙◌, arith, ⊎_elim, length-append}
use Rattle.std.proofs.lemmas.Bool.{cases_eq, cases_lt}
use Rattle.std.proofs.lemmas.List.{length-set, get_or-set_same, get_or-set_other, get_or_append_left, get_or_default}
use Rattle.std.proofs.lemmas.Grind.{get_or_at_push}
use Rattle.value_meaning.specs.Val.{Val}
use Rattle.agg_meaning.specs.Partials.{Partial}
use Rattle.agg_meaning.specs.Keys.{same_keys}
use Rattle.agg_meaning.proofs.Keys.{same_keys-exact}
use Rattle.key_places.specs.declared.row.PlaceRow.{PlaceRow}
use Rattle.key_places.specs.Placed.{IsFull, IsReached, row_at}
use Rattle.key_places.specs.Hashes.{hash_of}
use Rattle.hash_agg.specs.Groups.{Entry, partials_at}
use Rattle.hash_agg.specs.declared.index.Index.{Index}
use Rattle.hash_agg.specs.Covers.{Covers, HasNone}
use Rattle.hash_agg.proofs.Places.{by_test, miss}

-- rows in which all is found that was
pub covers_rows : (x y : Index) (es : List Entry) → y.seed ≡ x.seed → y.hashes.items ≡ x.hashes.items → ((h n : ℕ) → IsReached x.rows.items h n → IsReached y.rows.items h n) → Covers x es → Covers y es
covers_rows x y es seed hashes stay c =
    record {
      few = subst (λ hs. length hs ≤ length es) (sym hashes) c.few;
      hashed = λ i d e b.
          let before : i < length x.hashes.items = subst (λ hs. i < length hs) hashes b in
          ap (λ hs. get_or hs i d) hashes ∙ c.hashed i d e before ∙ ap (λ s. hash_of s (get_or es i e).0) (sym seed);
      reached = λ i d b.
          let before : i < length x.hashes.items = subst (λ hs. i < length hs) hashes b in
          subst (λ hs. IsReached y.rows.items (get_or hs i d) i) (sym hashes) (stay _ _ (c.reached i d before));
    }

-- one entry more is covered
pub covers_more : (x y : Index) (es : List Entry) (hash number : ℕ) → y.seed ≡ x.seed → y.hashes.items ≡ x.hashes.items ++ hash ∷ [] → ((h n : ℕ) → IsReached x.rows.items h n → IsReached y.rows.items h n) → IsReached y.rows.items hash number → number ≡ length x.hashes.items
    → length x.hashes.items < length es → ((e : Entry) → hash ≡ hash_of x.seed (get_or es (length x.hashes.items) e).0) → Covers x es → Covers y es
covers_more x y es hash number seed hashes stay now num below is c =
    let long : length y.hashes.items ≡ length x.hashes.items + 1 = ap length hashes ∙ length-append x.hashes.items (hash ∷ []) in
    record {
      few = omega arith;
      hashed = λ i d e b.
          ⊎_elim
          (λ (q : i ≡ length x.hashes.items).
          ap (λ hs. get_or hs i d) hashes ∙ ap (λ k. get_or (x.hashes.items ++ hash ∷ []) k d) q ∙ last d ∙ is e ∙ ap (λ k. hash_of x.seed (get_or es k e).0) (sym q) ∙ ap (λ s. hash_of s (get_or es i e).0) (sym seed))
          (λ ne.
          let before : i < length x.hashes.items = omega arith in
          ap (λ hs. get_or hs i d) hashes ∙ get_or_append_left x.hashes.items (hash ∷ []) d i before ∙ c.hashed i d e before ∙ ap (λ s. hash_of s (get_or es i e).0) (sym seed))
          (cases_eq i (length x.hashes.items));
      reached = λ i d b.
          ⊎_elim
          (λ (q : i ≡ length x.hashes.items).
          let h : hash ≡ get_or y.hashes.items i d = sym (ap (λ hs. get_or hs i d) hashes ∙ ap (λ k. get_or (x.hashes.items ++ hash ∷ []) k d) q ∙ last d) in
          subst (λ (z : ℕ × ℕ). IsReached y.rows.items z.0 z.1) (λ k. (h k, (num ∙ sym q) k)) now)
          (λ ne.
          let before : i < length x.hashes.items = omega arith in
          let h : get_or x.hashes.items i d ≡ get_or y.hashes.items i d = sym (ap (λ hs. get_or hs i d) hashes ∙ get_or_append_left x.hashes.items (hash ∷ []) d i before) in
          subst (λ z. IsReached y.rows.items z i) h (stay _ _ (c.reached i d before)))
          (cases_eq i (length x.hashes.items));
    }
  where
    last : (d : ℕ) → get_or (x.hashes.items ++ hash ∷ []) (length x.hashes.items) d ≡ hash
    last d =
        let long : length (x.hashes.items ++ hash ∷ []) ≡ length x.hashes.items + 1 = length-append x.hashes.items (hash ∷ []) in
        get_or_default (x.hashes.items ++ hash ∷ []) (length x.hashes.items) d hash (omega arith) ∙ (get_or_at_push x.hashes.items hash).1

-- further entries
pub covers_longer : (x : Index) (es fs : List Entry) → Covers x es → Covers x (es ++ fs)
covers_longer x es fs c =
    let long = length-append es fs in
    let few = c.few in
    record {
      few = omega arith;
      hashed = λ i d e b.
          c.hashed i d e b ∙ ap (λ (f : Entry). hash_of x.seed f.0) (sym (get_or_append_left es fs e i (omega arith)));
      reached = c.reached;
    }

-- an entry changes, and keeps its keys
pub covers_set : (x : Index) (es : List Entry) (at : ℕ) (ks : List Val) (ss : List Partial) → at < length es → ((e : Entry) → (get_or es at e).0 ≡ ks) → Covers x es → Covers x (set es at (ks, ss))
covers_set x es at ks ss below place c =
    record {
      few = subst (λ n. length x.hashes.items ≤ n) (sym (length-set es at (ks, ss))) c.few;
      hashed = λ i d e b. c.hashed i d e b ∙ ap (hash_of x.seed) (sym (keys_stay i e));
      reached = c.reached;
    }
  where
    keys_stay : (i : ℕ) (e : Entry) → (get_or (set es at (ks, ss)) i e).0 ≡ (get_or es i e).0
    keys_stay i e =
        ⊎_elim
        (λ (q : i ≡ at).
        ap (λ k. (get_or (set es at (ks, ss)) k e).0) q ∙ ap (λ (f : Entry). f.0) (get_or-set_same es at (ks, ss) e below) ∙ sym (place e) ∙ ap (λ k. (get_or es k e).0) (sym q))
        (λ ne. ap (λ (f : Entry). f.0) (get_or-set_other es at i (ks, ss) e ne))
        (cases_eq i at)

-- none of the first entries has the keys
none_before : (m : ℕ) (es : List Entry) (ks : List Val) → ((i : ℕ) (e : Entry) → i < m → same_keys ks (get_or es i e).0 ≡ false) → partials_at ks (take m es) ≡ None
none_before zero es ks h = refl
none_before (suc m) [] ks h = refl
none_before (suc m) (f ∷ fs) ks h = miss ks f (take m fs) (h 0 f (omega arith)) ∙ none_before m fs ks (λ i e b. h (suc i) e (omega arith))

-- a search that passed n rows in vain, and found none or a free place then
pub none_covered : (x : Index) (es : List Entry) (ks : List Val) (hash n : ℕ) → Covers x es → hash ≡ hash_of x.seed ks
    → ((t : ℕ) (r : PlaceRow) → t < n → HasNone hash x.hashes.items ks es (get_or x.rows.items (row_at hash (length x.rows.items) t) r))
    → ((s : ℕ) → n ≤ s → s < length x.rows.items → ((t : ℕ) (r : PlaceRow) → t < s → IsFull (get_or x.rows.items (row_at hash (length x.rows.items) t) r)) → ⊥)
    → partials_at ks (take (length x.hashes.items) es) ≡ None
none_covered x es ks hash n c is passed stop = none_before (length x.hashes.items) es ks (λ i e b.
    by_test (same_keys ks (get_or es i e).0)
    (λ t.
    let same : ks ≡ (get_or es i e).0 = same_keys-exact ks (get_or es i e).0 t in
    let hashed : get_or x.hashes.items i 0 ≡ hash = c.hashed i 0 e b ∙ ap (hash_of x.seed) (sym same) ∙ sym is in
    let r : IsReached x.rows.items hash i = subst (λ h. IsReached x.rows.items h i) hashed (c.reached i 0 b) in
    ⊎_elim
    (λ (early : r.step < n).
    passed r.step default_row early i (r.held default_row) b 0 hashed e)
    (λ (late : n ≤ r.step). absurd (stop r.step late r.within r.full))
    (cases_lt r.step n))
    (λ f. f))
  where
    default_row : PlaceRow
    default_row = record { tags = []; numbers = [] }

-- one row more is passed
passed_more : (x : Index) (es : List Entry) (ks : List Val) (hash step : ℕ) (row : PlaceRow) → row_at hash (length x.rows.items) step < length x.rows.items → row ≡ get_or x.rows.items (row_at hash (length x.rows.items) step) row → HasNone hash x.hashes.items ks es row
    → ((t : ℕ) (r : PlaceRow) → t < step → HasNone hash x.hashes.items ks es (get_or x.rows.items (row_at hash (length x.rows.items) t) r))
    → (t : ℕ) (r : PlaceRow) → t < step + 1 → HasNone hash x.hashes.items ks es (get_or x.rows.items (row_at hash (length x.rows.items) t) r)
passed_more x es ks hash step row below is none sofar t r b =
    ⊎_elim
    (λ (e : t ≡ step).
    let same : row ≡ get_or x.rows.items (row_at hash (length x.rows.items) t) r = is ∙ get_or_default x.rows.items (row_at hash (length x.rows.items) step) row r below ∙ ap (λ k. get_or x.rows.items (row_at hash (length x.rows.items) k) r) (sym e) in
    subst (HasNone hash x.hashes.items ks es) same none)
    (λ ne. sofar t r (omega arith))
    (cases_eq t step)

-- the row that a search looks at, by the slices of the index
module _ (x : Index) (es : List Entry) (ks : List Val) (hash step at : ℕ) (hs : List ℕ) (rs : List PlaceRow) (row : PlaceRow) (none : HasNone hash hs ks es row) (hashes : hs ≡ x.hashes.items) (rows : rs ≡ x.rows.items) (place : at ≡ row_at hash (length rs) step) (below : at < length rs) (is : row ≡ get_or rs at row)
    (sofar : (t : ℕ) (r : PlaceRow) → t < step → HasNone hash x.hashes.items ks es (get_or x.rows.items (row_at hash (length x.rows.items) t) r)) where
  place_here : at ≡ row_at hash (length x.rows.items) step
  place_here = place ∙ ap (λ r. row_at hash (length r) step) rows

  below_here : row_at hash (length x.rows.items) step < length x.rows.items
  below_here = subst (λ (z : ℕ × ℕ). z.0 < z.1) (λ i. (place_here i, length (rows i))) below

  row_here : row ≡ get_or x.rows.items (row_at hash (length x.rows.items) step) row
  row_here = is ∙ (λ i. get_or (rows i) (place_here i) row)

  pub row_passed : (t : ℕ) (r : PlaceRow) → t < step + 1 → HasNone hash x.hashes.items ks es (get_or x.rows.items (row_at hash (length x.rows.items) t) r)
  row_passed = passed_more x es ks hash step row below_here row_here (subst (λ h. HasNone hash h ks es row) hashes none) sofar

  -- it has a free place, and the search ends
  pub row_ends : (free : ℕ) → free < 16 → get_or row.tags free 0 ≡ 0 → Covers x es → hash ≡ hash_of x.seed ks → partials_at ks (take (length x.hashes.items) es) ≡ None
  row_ends free within e c of =
      none_covered x es ks hash (step + 1) c of row_passed (λ s late before full.
      subst IsFull (sym row_here) (full step row (omega arith)) free within e)
