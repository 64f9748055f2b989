-- Rows of lines may stand in a block.
use Rattle.std.proofs.Common.{◌≡◌, ℕ, suc, ◌+◌, ◌^◌, ◌<◌, ◌≤◌, max, Bool, true, false, ℤ, pos, negsuc, ◌-ℤ◌, ◌*ℤ◌, List, [], ◌∷◌, ◌++◌, Option, Some, None, bytes_eq, IsTrue, refl, sym, ap, subst, ◌∙◌, arith}
use Rattle.std.specs.Prelude.{unwrap_or, FitsSigned, if◌then◌else◌}
use Rattle.std.specs.Int.{w64}
use Rattle.std.specs.Option.{option_map, option_and_then}
use Rattle.time_meaning.specs.Moments.{is_time, is_real, moment}
use Rattle.time_meaning.specs.Texts.{time_of, local_time, in_range, date_at, behind_date, clock_at, fraction_at, zone_at}
use Rattle.serde_json.specs.Data.{Data, null as json_null, boolean, number, string, array, object, Items, no_items, item, Members, no_members, member, depth as nesting, items_depth, members_depth}
use Rattle.serde_json.specs.Find.{as_i64, as_object}
use Rattle.value_meaning.specs.Val.{Val, Vals, Fields, missing, null, truth, int, time, text, list, struct, no_vals, val, no_fields, field, vals, fields, depth, vals_depth, fields_depth}
use Rattle.value_meaning.specs.Pairs.{Pairs}
use Rattle.block_meaning.specs.Stored.{HasStoredParts, HaveStoredParts, PairsHaveStoredParts}
use Rattle.write_meaning.specs.Standing.{IsWritable, AreWritable, PairsAreWritable, IsWritableRow}
use Rattle.pack_meaning.specs.Rows.{value_in, values_in, pairs_in, with_pair, as_time, in_field, with_time, timed, timed_value}

each : {T U : Type 0} (P : Type 0) (f : T → Option U) (o : Option T) (u : U) → ((x : T) → f x ≡ Some u → P) → option_and_then f o ≡ Some u → P
each P f None u h e = cc
each P f (Some x) u h e = h x e

ranged : (z t : ℤ) → in_range z ≡ Some t → is_time t ≡ true
ranged z t e = at (is_time z) refl e
  where
    at : (b : Bool) → is_time z ≡ b → in_range z ≡ Some t → is_time t ≡ true
    at true h k = let same : z ≡ t = cc in ap is_time (sym same) ∙ h
    at false h k = cc

-- one more item, one more pair
pub stored_item : (vs : List Val) (v : Val) → HaveStoredParts (vals vs) → HasStoredParts v → HaveStoredParts (vals (vs ++ v ∷ []))
stored_item [] v h k = (k, tt)
stored_item (w ∷ vs) v h k = (h.0, stored_item vs v h.1 k)

pub stored_pair : (fs : Pairs) (n : List ℕ) (v : Val) → PairsHaveStoredParts (fields fs) → HasStoredParts v → PairsHaveStoredParts (fields (fs ++ (n, v) ∷ []))
stored_pair [] n v h k = (k, tt)
stored_pair (f ∷ fs) n v h k = (h.0, stored_pair fs n v h.1 k)

real : (b : Bool) (m t : ℤ) → (if b then in_range m else None) ≡ Some t → is_time t ≡ true
real true m t e = ranged m t e
real false m t e = cc

-- the steps of reading a time, from the last
abbrev Date : Type 0
Date = ℕ × ℕ × ℕ × List ℕ

abbrev with_zone : Date → Date → ℕ × List ℕ → ℤ → Option ℤ
with_zone d c f z = local_time d.0 d.1 d.2 c.0 c.1 c.2 f.0 z

abbrev with_fraction : Date → Date → ℕ × List ℕ → Option ℤ
with_fraction d c f = option_and_then (with_zone d c f) (zone_at f.1)

abbrev with_clock : Date → Date → Option ℤ
with_clock d c = option_and_then (with_fraction d c) (fraction_at c.3)

abbrev with_sign : Date → List ℕ → Option ℤ
with_sign d r = option_and_then (with_clock d) (clock_at r)

abbrev with_date : Date → Option ℤ
with_date d = option_and_then (with_sign d) (behind_date d.3)

zone_in : (d c : Date) (f : ℕ × List ℕ) (z t : ℤ) → with_zone d c f z ≡ Some t → is_time t ≡ true
unfolding local_time
zone_in d c f z t e = real (is_real 0 d.0 d.1 d.2 c.0 c.1 c.2) (moment d.0 d.1 d.2 c.0 c.1 c.2 f.0 -ℤ z *ℤ pos 60_000_000) t e

fraction_in : (d c : Date) (f : ℕ × List ℕ) (t : ℤ) → with_fraction d c f ≡ Some t → is_time t ≡ true
fraction_in d c f t e = each (is_time t ≡ true) (with_zone d c f) (zone_at f.1) t (λ z h. zone_in d c f z t h) e

clock_in : (d c : Date) (t : ℤ) → with_clock d c ≡ Some t → is_time t ≡ true
clock_in d c t e = each (is_time t ≡ true) (with_fraction d c) (fraction_at c.3) t (λ f h. fraction_in d c f t h) e

sign_in : (d : Date) (r : List ℕ) (t : ℤ) → with_sign d r ≡ Some t → is_time t ≡ true
sign_in d r t e = each (is_time t ≡ true) (with_clock d) (clock_at r) t (λ c h. clock_in d c t h) e

date_in : (d : Date) (t : ℤ) → with_date d ≡ Some t → is_time t ≡ true
date_in d t e = each (is_time t ≡ true) (with_sign d) (behind_date d.3) t (λ r h. sign_in d r t h) e

-- a time that a text spells is in range
pub time_in_range : (s : List ℕ) (t : ℤ) → time_of s ≡ Some t → is_time t ≡ true
unfolding time_of
time_in_range s t e = each (is_time t ≡ true) with_date (date_at s) t (λ d h. date_in d t h) e

pub stored_as_time : (v : Val) → HasStoredParts v → HasStoredParts (as_time v)
stored_as_time (text s) h = at (time_of s) refl
  where
    at : (o : Option ℤ) → time_of s ≡ o → HasStoredParts (unwrap_or (option_map time o) (text s))
    at None e = tt
    at (Some t) e = time_in_range s t e
stored_as_time missing h = h
stored_as_time null h = h
stored_as_time (truth b) h = h
stored_as_time (int n) h = h
stored_as_time (time t) h = h
stored_as_time (list vs) h = h
stored_as_time (struct fs) h = h

pub stored_timed : (tf : Option (List ℕ)) (n : List ℕ) (v : Val) → HasStoredParts v → HasStoredParts (timed_value tf n v)
stored_timed None n v h = h
stored_timed (Some name) n v h = at (bytes_eq n name)
  where
    at : (b : Bool) → HasStoredParts (if b then as_time v else v)
    at true = stored_as_time v h
    at false = h

-- values nest at most as deep as what they are made of
with_pair_depth : (n : List ℕ) (o : Option Val) (fs : Fields) (k : ℕ) → ((v : Val) → o ≡ Some v → depth v ≤ k) → fields_depth (with_pair n o fs) ≤ max k (fields_depth fs)
with_pair_depth n None fs k h = omega arith
with_pair_depth n (Some v) fs k h = omega (arith, h v refl)

mutual
  value_depth : (d : Data) (v : Val) → value_in d ≡ Some v → depth v ≤ nesting d
  value_depth json_null v e = let same : null ≡ v = cc in omega (arith, ap depth same)
  value_depth (boolean b) v e = let same : truth b ≡ v = cc in omega (arith, ap depth same)
  value_depth (number n) v e = at (as_i64 n) e
    where
      at : (o : Option ℤ) → option_map int o ≡ Some v → depth v ≤ 0
      at None e = cc
      at (Some i) e = let same : int i ≡ v = cc in omega (arith, ap depth same)
  value_depth (string s) v e = let same : text s ≡ v = cc in omega (arith, ap depth same)
  value_depth (array ds) v e = let same : list (values_in ds) ≡ v = cc in omega (arith, ap depth same, values_depth ds)
  value_depth (object ms) v e = let same : struct (pairs_in ms) ≡ v = cc in omega (arith, ap depth same, pairs_depth ms)

  values_depth : (ds : Items) → vals_depth (values_in ds) ≤ items_depth ds
  values_depth no_items = omega arith
  values_depth (item d ds) = at (value_in d) refl (λ v e. value_depth d v e) (values_depth ds)
    where
      at : (o : Option Val) → value_in d ≡ o → ((v : Val) → value_in d ≡ Some v → depth v ≤ nesting d) → vals_depth (values_in ds) ≤ items_depth ds
          → max (depth (unwrap_or o null)) (vals_depth (values_in ds)) ≤ max (nesting d) (items_depth ds)
      at None e h k = omega (arith, k)
      at (Some v) e h k = omega (arith, k, h v e)

  pairs_depth : (ms : Members) → fields_depth (pairs_in ms) ≤ members_depth ms
  pairs_depth no_members = omega arith
  pairs_depth (member n d ms) = omega (arith, with_pair_depth n (value_in d) (pairs_in ms) (nesting d) (λ v e. value_depth d v e), pairs_depth ms)

timed_depth : (v : Val) → depth (as_time v) ≤ depth v
timed_depth (text s) = at (option_map time (time_of s)) (time_of s) refl
  where
    at : (p : Option Val) (o : Option ℤ) → option_map time o ≡ p → depth (unwrap_or (option_map time o) (text s)) ≤ 0
    at p None e = omega arith
    at p (Some t) e = omega arith
timed_depth missing = omega arith
timed_depth null = omega arith
timed_depth (truth b) = omega arith
timed_depth (int n) = omega arith
timed_depth (time t) = omega arith
timed_depth (list vs) = omega arith
timed_depth (struct fs) = omega arith

field_depth : (name n : List ℕ) (v : Val) (b : Bool) → depth (if b then as_time v else v) ≤ depth v
field_depth name n v true = timed_depth v
field_depth name n v false = omega arith

with_time_depth : (name : List ℕ) (fs : Fields) → fields_depth (with_time name fs) ≤ fields_depth fs
with_time_depth name no_fields = omega arith
with_time_depth name (field n v fs) = omega (arith, field_depth name n v (bytes_eq n name), with_time_depth name fs)

row_depth : (tf : Option (List ℕ)) (fs : Fields) → fields_depth (timed tf fs) ≤ fields_depth fs
row_depth None fs = omega arith
row_depth (Some name) fs = with_time_depth name fs

-- what is stored and not too deep may be written
int_writable : (k : ℕ) (n : ℤ) → FitsSigned w64 n → IsWritable k (int n)
int_writable k (pos n) h = omega (arith, h.sfits)
int_writable k (negsuc n) h = omega (arith, h.sfits)

mutual
  writable : (k : ℕ) (v : Val) → HasStoredParts v → k + depth v ≤ 128 → IsWritable k v
  writable k missing h d = absurd h
  writable k null h d = tt
  writable k (truth b) h d = tt
  writable k (int n) h d = int_writable k n h
  writable k (time t) h d = h
  writable k (text s) h d = tt
  writable k (list vs) h d = (omega (arith, d), vals_writable (suc k) vs h (omega (arith, d)))
  writable k (struct fs) h d = (omega (arith, d), pairs_writable (suc k) fs h (omega (arith, d)))

  vals_writable : (k : ℕ) (vs : Vals) → HaveStoredParts vs → k + vals_depth vs ≤ 128 → AreWritable k vs
  vals_writable k no_vals h d = tt
  vals_writable k (val v vs) h d = (writable k v h.0 (omega (arith, d)), vals_writable k vs h.1 (omega (arith, d)))

  pairs_writable : (k : ℕ) (fs : Fields) → PairsHaveStoredParts fs → k + fields_depth fs ≤ 128 → PairsAreWritable k fs
  pairs_writable k no_fields h d = tt
  pairs_writable k (field n v fs) h d = (writable k v h.0 (omega (arith, d)), pairs_writable k fs h.1 (omega (arith, d)))

-- the row of an object that isn't too deep may be written
pub row_writable : (tf : Option (List ℕ)) (ms : Members) (fs : Fields) → fs ≡ timed tf (pairs_in ms) → PairsHaveStoredParts fs → members_depth ms ≤ 126 → IsWritableRow (struct fs)
unfolding IsWritableRow
row_writable tf ms fs e h d =
    let low : fields_depth fs ≤ 126 = omega (arith, ap fields_depth e, row_depth tf (pairs_in ms), pairs_depth ms, d) in
    (refl, (omega arith, pairs_writable 1 fs h (omega (arith, low))))

-- the members of an object nest less than it
pub members_less : (d : Data) (ms : Members) → as_object d ≡ Some ms → nesting d ≤ 127 → members_depth ms ≤ 126
members_less (object ns) ms e h = let same : ns ≡ ms = cc in omega (arith, ap members_depth same, h)
members_less json_null ms e h = cc
members_less (boolean b) ms e h = cc
members_less (number n) ms e h = cc
members_less (string s) ms e h = cc
members_less (array ds) ms e h = cc
