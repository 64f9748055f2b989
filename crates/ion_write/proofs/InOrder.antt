-- What sorting and dropping repeats leaves of texts, and which of them stand twice.
use Rattle.std.proofs.Common.{◌≡◌, ◌↔◌, ◌⊎◌, ℕ, zero, suc, ◌+◌, ◌-◌, ◌<◌, ◌≤◌, Bool, true, false, cond, List, [], ◌∷◌, ◌++◌, length, map, get_or, drop, bytes_eq, Bor, Ordering, Less, Equal, Greater, nat_cmp, refl, sym, ap, subst, ◌∙◌, arith, inl, inr, true≢false}
use Rattle.std.specs.Prelude.{Contains, count_by, sum_by, if◌then◌else◌}
use Rattle.std.specs.Cmp.{IsTotalOrder, IsEquivalence}
use Rattle.std.specs.Cmp.Lexicographic.{slice_cmp}
use Rattle.std.specs.List.{dedup}
use Rattle.std.specs.List.Sorted.{IsPermutation, IsSorted, IsStrictlySortedBy}
use Rattle.std.specs.Ordering.{ordering_reverse, is_eq, is_lt}
use Rattle.std.proofs.lemmas.Cmp.{nat_list_cmp_total, nat_list_eq_equiv, tied_itself}
use Rattle.std.proofs.lemmas.List.{drop_more, drop_all}
use Rattle.std.proofs.lemmas.List.Kept.{Any-dedup, Contains-from_dedup, IsStrictlySortedBy-dedup}
use Rattle.std.proofs.lemmas.List.Sorted.{Contains-permutation, IsPermutation-sym, sum_by-IsPermutation}
use Rattle.std.proofs.lemmas.List.Sums.{sum_by-cons}
use Rattle.std.proofs.lemmas.Map.Text.{is_eq-slice_cmp}
use Rattle.std.proofs.lemmas.Slice.Eq.{bytes_eq-Decides}
use Rattle.block_meaning.specs.Tables.{TextsRise}
use Rattle.write_meaning.specs.BlockTables.{IsAmong}
use Rattle.write_meaning.proofs.Paying.{count, counts, counts_none, at_same, itself}
use Rattle.write_meaning.proofs.Bounded.{counted}
use Rattle.ion_write.specs.Mentions.{shown, repeats, AreInOrder, AreRepeated}

abbrev Texts : Type 0
Texts = List (Bor (List ℕ))

abbrev by_bytes : Bor (List ℕ) → Bor (List ℕ) → Ordering
by_bytes x y = slice_cmp nat_cmp x.now y.now

abbrev same_bytes : Bor (List ℕ) → Bor (List ℕ) → Bool
same_bytes x y = bytes_eq x.now y.now

total : IsTotalOrder by_bytes
total = record {
  antisymm = λ x y. nat_list_cmp_total.antisymm x.now y.now;
  trans = λ x y z. nat_list_cmp_total.trans x.now y.now z.now;
  congr = λ x y z. nat_list_cmp_total.congr x.now y.now z.now;
}

equivalence : IsEquivalence same_bytes
equivalence = record {
  refl = λ x. nat_list_eq_equiv.refl x.now;
  symm = λ x y. nat_list_eq_equiv.symm x.now y.now;
  congr = λ x y z. nat_list_eq_equiv.congr x.now y.now z.now;
}

among : (xs : Texts) (b : Bor (List ℕ)) (k : ℕ) → k < length xs → get_or xs k b ≡ b → IsAmong b.now (shown xs)
among [] b k h e = absurd (omega (arith, h))
among (x ∷ xs) b zero h e = inl (ap (λ (y : Bor (List ℕ)). y.now) (sym e))
among (x ∷ xs) b (suc k) h e = inr (among xs b k (omega arith) e)

record Held (xs : Texts) (s : List ℕ) : Type 0 where
  pub text : Bor (List ℕ)
  pub inside : Contains xs text
  pub shows : text.now ≡ s

held : (xs : Texts) (s : List ℕ) → IsAmong s (shown xs) → Held xs s
held [] s h = absurd h
held (x ∷ xs) s (inl e) = record { text = x; inside = (0, omega arith, refl); shows = sym e }
held (x ∷ xs) s (inr h) =
    let r = held xs s h in
    record { text = r.text; inside = (suc r.inside.0, omega (arith, r.inside.1), r.inside.2); shows = r.shows }

rises : (xs : Texts) → IsStrictlySortedBy by_bytes xs → TextsRise (shown xs)
unfolding IsStrictlySortedBy
rises [] h = tt
rises (x ∷ []) h = tt
rises (x ∷ y ∷ ys) h = (h.0.0, rises (y ∷ ys) h.1)

kept : (old sorted : Texts) (s : List ℕ) → IsPermutation old sorted → IsAmong s (shown old) → IsAmong s (shown (dedup same_bytes sorted))
kept old sorted s moved h =
    let b = held old s h in
    let a = Any-dedup equivalence sorted b.text (Contains-permutation old sorted b.text moved b.inside) in
    let same : b.text.now ≡ a.1.now = (bytes_eq-Decides b.text.now a.1.now).0 a.4 in
    subst (λ t. IsAmong t (shown (dedup same_bytes sorted))) (sym same ∙ b.shows) (among (dedup same_bytes sorted) a.1 a.0 a.2 a.3)

from_old : (old sorted : Texts) (s : List ℕ) → IsPermutation old sorted → IsAmong s (shown (dedup same_bytes sorted)) → IsAmong s (shown old)
from_old old sorted s moved h =
    let b = held (dedup same_bytes sorted) s h in
    let c = Contains-permutation sorted old b.text (IsPermutation-sym old sorted moved) (Contains-from_dedup same_bytes sorted b.text b.inside) in
    subst (λ t. IsAmong t (shown old)) b.shows (among old b.text c.0 c.1 c.2)

pub in_order : (old sorted new : Texts) → IsPermutation old sorted → IsSorted by_bytes sorted → new ≡ dedup same_bytes sorted → AreInOrder (shown old) (shown new)
in_order old sorted new moved up is = subst (λ xs. AreInOrder (shown old) (shown xs)) (sym is) (record {
  rise = rises (dedup same_bytes sorted) (IsStrictlySortedBy-dedup total (λ x y. sym (is_eq-slice_cmp x.now y.now)) sorted up);
  each = λ s. (from_old old sorted s moved, kept old sorted s moved);
})

-- ---- texts that stand twice

-- none is below the one before it
abbrev Climb : List (List ℕ) → Type 0
Climb [] = Unit {0}
Climb (s ∷ []) = Unit {0}
Climb (s ∷ t ∷ ts) = (is_lt (slice_cmp nat_cmp t s) ≡ false) × Climb (t ∷ ts)

climb_tail : (s : List ℕ) (ss : List (List ℕ)) → Climb (s ∷ ss) → Climb ss
climb_tail s [] h = tt
climb_tail s (t ∷ ts) h = h.1

climbs : (xs : Texts) → ((k : ℕ) (d : Bor (List ℕ)) → suc k < length xs → is_lt (by_bytes (get_or xs (suc k) d) (get_or xs k d)) ≡ false) → Climb (shown xs)
climbs [] up = tt
climbs (x ∷ []) up = tt
climbs (x ∷ y ∷ ys) up = (up 0 x (omega arith), climbs (y ∷ ys) (λ k d h. up (suc k) d (omega arith)))

sorted_climb : (xs : Texts) → IsSorted by_bytes xs → Climb (shown xs)
sorted_climb xs up = climbs xs (λ k d h. let e : k + 1 ≡ suc k = omega arith in rw e at (up k d (omega arith) (omega arith)))

not_less : (a b : List ℕ) → (slice_cmp nat_cmp a b ≡ Less → ⊥) → is_lt (slice_cmp nat_cmp a b) ≡ false
not_less a b h = at (slice_cmp nat_cmp a b) refl
  where
    at : (o : Ordering) → slice_cmp nat_cmp a b ≡ o → is_lt o ≡ false
    at Less e = absurd (h e)
    at Equal e = refl
    at Greater e = refl

less_not : (a b : List ℕ) → is_lt (slice_cmp nat_cmp a b) ≡ false → slice_cmp nat_cmp a b ≡ Less → ⊥
less_not a b h e = true≢false (sym (ap is_lt e) ∙ h)

equal_is : (s t : List ℕ) → slice_cmp nat_cmp s t ≡ Equal → s ≡ t
equal_is s t e = (bytes_eq-Decides s t).0 (sym (is_eq-slice_cmp s t) ∙ ap is_eq e)

-- a is not below b and b not below c, so a is not below c
not_below : (a b c : List ℕ) → is_lt (slice_cmp nat_cmp a b) ≡ false → is_lt (slice_cmp nat_cmp b c) ≡ false → is_lt (slice_cmp nat_cmp a c) ≡ false
not_below a b c h k = not_less a c (λ less. at less (slice_cmp nat_cmp b c) refl)
  where
    at : slice_cmp nat_cmp a c ≡ Less → (o : Ordering) → slice_cmp nat_cmp b c ≡ o → ⊥
    at less Less e = less_not b c k e
    at less Equal e = less_not a b h (rw (equal_is b c e) less)
    at less Greater e = less_not a b h (nat_list_cmp_total.trans a c b less (nat_list_cmp_total.antisymm c b ∙ ap ordering_reverse e))

floor : (u : List ℕ) (us : List (List ℕ)) (s : List ℕ) → Climb (u ∷ us) → IsAmong s (u ∷ us) → is_lt (slice_cmp nat_cmp s u) ≡ false
floor u us s h (inl e) = rw (ap (λ x. slice_cmp nat_cmp x u) e ∙ tied_itself nat_list_cmp_total u) refl
floor u [] s h (inr k) = absurd k
floor u (w ∷ ws) s h (inr k) = not_below s w u (floor w ws s h.1 k) h.0

level : (s u : List ℕ) → is_lt (slice_cmp nat_cmp s u) ≡ false → is_lt (slice_cmp nat_cmp u s) ≡ false → s ≡ u
level s u h k = at (slice_cmp nat_cmp s u) refl
  where
    at : (o : Ordering) → slice_cmp nat_cmp s u ≡ o → s ≡ u
    at Less e = absurd (less_not s u h e)
    at Equal e = equal_is s u e
    at Greater e = absurd (less_not u s k (nat_list_cmp_total.antisymm u s ∙ ap ordering_reverse e))

same_of : (s t : List ℕ) → s ≡ t → bytes_eq s t ≡ true
same_of s t e = (bytes_eq-Decides s t).1 e

some_count : (s t : List ℕ) (ts : List (List ℕ)) → count s ts ≤ count s (t ∷ ts)
some_count s t ts = omega (arith, counts s t ts)

count_is : (s t : List ℕ) (ts : List (List ℕ)) (b : Bool) → bytes_eq t s ≡ b → count s (t ∷ ts) ≡ at_same b 1 + count s ts
count_is s t ts b e = counts s t ts ∙ ap (λ c. at_same c 1 + count s ts) e

counts_there : (s : List ℕ) (ss : List (List ℕ)) → 1 ≤ count s ss → IsAmong s ss
unfolding count
counts_there s ss h = counted s ss h

pub twice_there : (ss : List (List ℕ)) (s : List ℕ) → IsAmong s (repeats ss) → 2 ≤ count s ss
twice_there [] s h = absurd h
twice_there (t ∷ []) s h = absurd h
twice_there (t ∷ u ∷ us) s h = at (bytes_eq t u) refl (λ k. twice_there (u ∷ us) s k)
  where
    here : t ≡ u → s ≡ u → 2 ≤ count s (t ∷ u ∷ us)
    here e f = omega (arith, count_is s t (u ∷ us) true (same_of t s (e ∙ sym f)), count_is s u us true (same_of u s (sym f)))

    new : t ≡ u → (IsAmong s (repeats (u ∷ us)) → 2 ≤ count s (u ∷ us)) → IsAmong s (u ∷ repeats (u ∷ us)) → 2 ≤ count s (t ∷ u ∷ us)
    new e rest (inl f) = here e f
    new e rest (inr k) = omega (arith, rest k, some_count s t (u ∷ us))

    at : (b : Bool) → bytes_eq t u ≡ b → (IsAmong s (repeats (u ∷ us)) → 2 ≤ count s (u ∷ us)) → 2 ≤ count s (t ∷ u ∷ us)
    at true e rest = new ((bytes_eq-Decides t u).0 e) rest (rw e at h)
    at false e rest = omega (arith, rest (rw e at h), some_count s t (u ∷ us))

pub there_twice : (ss : List (List ℕ)) (s : List ℕ) → Climb ss → 2 ≤ count s ss → IsAmong s (repeats ss)
there_twice [] s c h = absurd (omega (arith, h, counts_none s))
there_twice (t ∷ []) s c h = at (bytes_eq t s) refl
  where
    at : (b : Bool) → bytes_eq t s ≡ b → IsAmong s (repeats (t ∷ []))
    at true e = absurd (omega (arith, h, counts_none s, count_is s t [] true e))
    at false e = absurd (omega (arith, h, counts_none s, count_is s t [] false e))
there_twice (t ∷ u ∷ us) s c h = at (bytes_eq t s) refl (λ k. there_twice (u ∷ us) s c.1 k)
  where
    later : (b : Bool) → bytes_eq t u ≡ b → IsAmong s (repeats (u ∷ us)) → IsAmong s (repeats (t ∷ u ∷ us))
    later true e k = rw e (inr k)
    later false e k = rw e k

    at : (b : Bool) → bytes_eq t s ≡ b → (2 ≤ count s (u ∷ us) → IsAmong s (repeats (u ∷ us))) → IsAmong s (repeats (t ∷ u ∷ us))
    at false e rest =
        let fewer = count_is s t (u ∷ us) false e in
        later (bytes_eq t u) refl (rest (omega (arith, fewer, h)))
    at true e rest =
        let fewer = count_is s t (u ∷ us) true e in
        let is : t ≡ s = (bytes_eq-Decides t s).0 e in
        let k : 1 ≤ count s (u ∷ us) = omega (arith, fewer, h) in
        let inside : IsAmong s (u ∷ us) = counts_there s (u ∷ us) k in
        let same : s ≡ u = level s u (floor u us s c.1 inside) (subst (λ x. is_lt (slice_cmp nat_cmp u x) ≡ false) is c.0) in
        rw (same_of t u (is ∙ same)) (inl same)

counts_shown : (xs : Texts) (s : List ℕ) → count s (shown xs) ≡ sum_by (λ (b : Bor (List ℕ)). cond (bytes_eq b.now s) 1 0) xs
unfolding count
counts_shown [] s = refl
counts_shown (x ∷ xs) s =
    sum_by-cons (λ t. cond (bytes_eq t s) 1 0) x.now (shown xs) ∙ ap (λ n. cond (bytes_eq x.now s) 1 0 + n) (counts_shown xs s) ∙ sym (sum_by-cons (λ (b : Bor (List ℕ)). cond (bytes_eq b.now s) 1 0) x xs)

count_kept : (old sorted : Texts) (s : List ℕ) → IsPermutation old sorted → count s (shown sorted) ≡ count s (shown old)
count_kept old sorted s moved =
    counts_shown sorted s ∙ sum_by-IsPermutation (λ (b : Bor (List ℕ)). cond (bytes_eq b.now s) 1 0) old sorted moved ∙ sym (counts_shown old s)

-- the texts that equal the one before them, once they are sorted
pub repeated : (old sorted : Texts) (twice : List (List ℕ)) → IsPermutation old sorted → IsSorted by_bytes sorted → twice ≡ repeats (shown sorted) → AreRepeated (shown old) twice
unfolding count
repeated old sorted twice moved up is = subst (AreRepeated (shown old)) (sym is) (record {
  each = λ s. (
    λ h. (let e = count_kept old sorted s moved in rw e at (twice_there (shown sorted) s h)),
    λ h. (let e = count_kept old sorted s moved in there_twice (shown sorted) s (sorted_climb sorted up) (rw (sym e) at h)),
  );
})

-- one more text is compared with the one before it
pub repeats_next : (xs : Texts) (i : ℕ) (a b : Bor (List ℕ)) → 1 ≤ i → i < length xs → a ≡ get_or xs (i - 1) a → b ≡ get_or xs i b
    → repeats (shown (drop (i - 1) xs)) ≡ (if bytes_eq a.now b.now then b.now ∷ repeats (shown (drop (i + 1 - 1) xs)) else repeats (shown (drop (i + 1 - 1) xs)))
repeats_next xs i a b low h e f =
    let first : drop (i - 1) xs ≡ a ∷ drop (i - 1 + 1) xs = drop_more xs (i - 1) a (omega arith) ∙ ap (λ y. y ∷ drop (i - 1 + 1) xs) (sym e) in
    let second : drop i xs ≡ b ∷ drop (i + 1) xs = drop_more xs i b h ∙ ap (λ y. y ∷ drop (i + 1) xs) (sym f) in
    let here : i - 1 + 1 ≡ i = omega arith in
    let there : i + 1 - 1 ≡ i = omega arith in
    rw (there, first, here, second) refl

-- behind the last text there is none to compare
pub repeats_end : (xs : Texts) (i : ℕ) → length xs ≤ i → repeats (shown (drop (i - 1) xs)) ≡ []
repeats_end [] i h = nothing (i - 1)
  where
    nothing : (k : ℕ) → repeats (shown (drop k [])) ≡ []
    nothing zero = refl
    nothing (suc k) = refl
repeats_end (x ∷ xs) i h = go (i - 1) (x ∷ xs) (omega arith)
  where
    go : (k : ℕ) (ys : Texts) → length ys ≤ suc k → repeats (shown (drop k ys)) ≡ []
    go zero [] h = refl
    go zero (y ∷ []) h = refl
    go zero (y ∷ z ∷ zs) h = absurd (omega (arith, h))
    go (suc k) [] h = refl
    go (suc k) (y ∷ ys) h = go k ys (omega arith)
