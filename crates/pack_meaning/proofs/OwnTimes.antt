-- The times of a block's rows lie in the range of times, and from the least to the greatest of them.
use Rattle.std.proofs.Common.{◌≡◌, ◌⊎◌, inl, inr, ℕ, ◌^◌, ◌≤◌, Bool, true, false, ◌&&◌, ℤ, pos, negsuc, neg_ℤ, ◌≤ℤ◌, List, [], ◌∷◌, fold, Option, Some, None, IsTrue, refl, sym, ap, subst, ◌∙◌, arith}
use Rattle.std.specs.Prelude.{nat_eq, unwrap_or, int_le, FitsSigned}
use Rattle.std.specs.Cmp.Lexicographic.{pointwise}
use Rattle.std.specs.Int.{int_min, int_max, w64}
use Rattle.std.specs.List.{All, AllByRecursion, Contains, filter_map, cons_option}
use Rattle.std.proofs.lemmas.Int.{fold-int_min_bounds, fold-int_min_reached, fold-int_max_bounds, fold-int_max_reached, ints}
use Rattle.std.proofs.lemmas.List.Elements.{recursion_from_All, All-from_recursion}
use Rattle.time_meaning.specs.Moments.{is_time}
use Rattle.value_meaning.specs.Val.{Val, Fields, missing, null, truth, int, time, text, list, struct, no_fields, field, pairs}
use Rattle.value_meaning.specs.Pairs.{value_of}
use Rattle.tree_meaning.specs.Tree.{name}
use Rattle.eval_meaning.specs.Paths.{step_of}
use Rattle.file_meaning.specs.Files.{Entry}
use Rattle.range_meaning.specs.Excluded.{LiesWithin, HoldsWithin, IsSoundEntry}
use Rattle.write_meaning.specs.Standing.{IsWritable, PairsAreWritable, IsWritableRow, AreWritableRows}
use Rattle.pack_meaning.specs.Cuts.{Rows}
use Rattle.pack_meaning.specs.PackedFiles.{as_moment, times_in, least_of, greatest_of}

-- the time that is the value is in range, where the value may be written
moment_in : (depth : ℕ) (v : Val) (t : ℤ) → IsWritable depth v → as_moment v ≡ Some t → is_time t ≡ true
moment_in depth (time u) t w e = let same : u ≡ t = cc in ap is_time (sym same) ∙ w
moment_in depth missing t w e = cc
moment_in depth null t w e = cc
moment_in depth (truth b) t w e = cc
moment_in depth (int n) t w e = cc
moment_in depth (text s) t w e = cc
moment_in depth (list vs) t w e = cc
moment_in depth (struct fs) t w e = cc

pair_in : (depth : ℕ) (n : List ℕ) (fs : Fields) (t : ℤ) → PairsAreWritable depth fs → as_moment (unwrap_or (value_of n (pairs fs)) missing) ≡ Some t → is_time t ≡ true
pair_in depth n no_fields t w e = cc
pair_in depth n (field m v fs) t w e = at (pointwise nat_eq m n) refl (pair_in depth n fs t w.1) e
  where
    at : (b : Bool) → pointwise nat_eq m n ≡ b → (as_moment (unwrap_or (value_of n (pairs fs)) missing) ≡ Some t → is_time t ≡ true)
        → as_moment (unwrap_or (value_of n (pairs (field m v fs))) missing) ≡ Some t → is_time t ≡ true
    at true same later k = moment_in depth v t w.0 (rw same at k)
    at false same later k = later (rw same at k)

own_in : (n : List ℕ) (row : Val) (t : ℤ) → IsWritableRow row → as_moment (step_of (name n) row) ≡ Some t → is_time t ≡ true
unfolding IsWritableRow
own_in n (struct fs) t w e = pair_in 1 n fs t w.1.1 e
own_in n missing t w e = cc
own_in n null t w e = cc
own_in n (truth b) t w e = cc
own_in n (int i) t w e = cc
own_in n (time u) t w e = cc
own_in n (text s) t w e = cc
own_in n (list vs) t w e = cc

abbrev pub AreTimes : List ℤ → Type 0
AreTimes = AllByRecursion (λ t. is_time t ≡ true)

with_own : (o : Option ℤ) (ts : List ℤ) → ((t : ℤ) → o ≡ Some t → is_time t ≡ true) → AreTimes ts → AreTimes (cons_option o ts)
with_own None ts h k = k
with_own (Some t) ts h k = (h t refl, k)

times_of : (n : List ℕ) (rows : Rows) → AreWritableRows rows → AreTimes (times_in (Some n) rows)
times_of n [] w = tt
times_of n (r ∷ rs) w = with_own _ _ (λ t e. own_in n r t w.0 e) (times_of n rs w.1)

pub are_times : (tf : Option (List ℕ)) (rows : Rows) → AreWritableRows rows → AreTimes (times_in tf rows)
are_times None rows w = tt
are_times (Some n) rows w = times_of n rows w

both : (a b : Bool) → (a && b) ≡ true → (a ≡ true) × (b ≡ true)
both true true e = (refl, refl)
both true false e = cc
both false b e = cc

low_in : (t : ℤ) → is_time t ≡ true → neg_ℤ (pos 62_135_596_800_000_000) ≤ℤ t
low_in t e = let range = both (int_le (neg_ℤ (pos 62_135_596_800_000_000)) t) (int_le t (pos 253_402_300_799_999_999)) e in omega (arith, ints, range.0)

high_in : (t : ℤ) → is_time t ≡ true → t ≤ℤ pos 253_402_300_799_999_999
high_in t e = let range = both (int_le (neg_ℤ (pos 62_135_596_800_000_000)) t) (int_le t (pos 253_402_300_799_999_999)) e in omega (arith, ints, range.1)

fits : (t : ℤ) → is_time t ≡ true → FitsSigned w64 t
fits (pos n) e = let high = high_in (pos n) e in record { sfits = let is : n ≤ 253_402_300_799_999_999 = omega (arith, ints) in omega arith }
fits (negsuc n) e = let low = low_in (negsuc n) e in record { sfits = let is : n ≤ 62_135_596_800_000_000 = omega (arith, ints) in omega arith }

contained : (ts : List ℤ) (r : ℤ) → AreTimes ts → Contains ts r → is_time r ≡ true
contained ts r h c = ap is_time (sym c.2) ∙ All-from_recursion _ ts h c.0 r c.1

pub least_fits : (ts : List ℤ) → AreTimes ts → FitsSigned w64 (least_of ts)
least_fits [] h = record { sfits = omega arith }
least_fits (t ∷ ts) h = at (fold-int_min_reached t ts _ refl)
  where
    at : (fold int_min t ts ≡ t) ⊎ Contains ts (fold int_min t ts) → FitsSigned w64 (fold int_min t ts)
    at (inl e) = fits _ (ap is_time e ∙ h.0)
    at (inr c) = fits _ (contained ts _ h.1 c)

pub greatest_fits : (ts : List ℤ) → AreTimes ts → FitsSigned w64 (greatest_of ts)
greatest_fits [] h = record { sfits = omega arith }
greatest_fits (t ∷ ts) h = at (fold-int_max_reached t ts _ refl)
  where
    at : (fold int_max t ts ≡ t) ⊎ Contains ts (fold int_max t ts) → FitsSigned w64 (fold int_max t ts)
    at (inl e) = fits _ (ap is_time e ∙ h.0)
    at (inr c) = fits _ (contained ts _ h.1 c)

-- the number is one of these
abbrev pub IsOne : ℤ → List ℤ → Type 0
IsOne t [] = ⊥
IsOne t (u ∷ us) = (t ≡ u) ⊎ IsOne t us

picked : (P : ℤ → Type 0) (ts : List ℤ) (t : ℤ) → AllByRecursion P ts → IsOne t ts → P t
picked P [] t h k = absurd k
picked P (u ∷ us) t h (inl e) = subst P (sym e) h.0
picked P (u ∷ us) t h (inr k) = picked P us t h.1 k

not_below : (ts : List ℤ) (t : ℤ) → IsOne t ts → least_of ts ≤ℤ t
not_below [] t k = absurd k
not_below (u ∷ us) t k =
    let b = fold-int_min_bounds u us (fold int_min u us) refl in
    picked (λ x. fold int_min u us ≤ℤ x) (u ∷ us) t (b.0, recursion_from_All _ us b.1) k

not_above : (ts : List ℤ) (t : ℤ) → IsOne t ts → t ≤ℤ greatest_of ts
not_above [] t k = absurd k
not_above (u ∷ us) t k =
    let b = fold-int_max_bounds u us (fold int_max u us) refl in
    picked (λ x. x ≤ℤ fold int_max u us) (u ∷ us) t (b.0, recursion_from_All _ us b.1) k

first_one : (o : Option ℤ) (ts : List ℤ) (t : ℤ) → o ≡ Some t → IsOne t (cons_option o ts)
first_one None ts t e = cc
first_one (Some u) ts t e = let same : t ≡ u = cc in inl same

later_one : (o : Option ℤ) (ts : List ℤ) (t : ℤ) → IsOne t ts → IsOne t (cons_option o ts)
later_one None ts t k = k
later_one (Some u) ts t k = inr k

holds : (n : List ℕ) (e : Entry) (rows : Rows) → ((t : ℤ) → IsOne t (times_in (Some n) rows) → LiesWithin e t) → AllByRecursion (HoldsWithin n e) rows
holds n e [] h = tt
holds n e (r ∷ rs) h =
    (λ t is. h t (first_one _ _ t (ap as_moment is)), holds n e rs (λ t k. h t (later_one _ _ t k)))

-- an entry with the least and the greatest of the times is sound
pub sound_entry : (tf : Option (List ℕ)) (e : Entry) (rows : Rows) → e.least ≡ least_of (times_in tf rows) → e.greatest ≡ greatest_of (times_in tf rows)
    → IsSoundEntry (unwrap_or tf []) e rows
sound_entry None e rows low high = λ some. absurd (some refl)
sound_entry (Some n) e rows low high = λ some. All-from_recursion _ rows (holds n e rows (λ t k. record {
  not_below = rw low (not_below _ t k);
  not_above = rw high (not_above _ t k);
}))
