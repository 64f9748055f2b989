-- Batches of blocks one after the other.
use Rattle.std.proofs.Common.{◌≡◌, ℕ, zero, suc, ◌+◌, ◌*◌, ◌<◌, ◌≤◌, Bool, true, false, cond, List, [], ◌∷◌, ◌++◌, length, take, drop, Some, None, refl, sym, ap, ◌∙◌, subst, arith, append_assoc, take-append-drop}
use Rattle.std.specs.Prelude.{find, unwrap_or}
use Rattle.std.proofs.Math.Logic.{⊎_elim}
use Rattle.std.proofs.lemmas.Bool.{cases_lt}
use Rattle.std.proofs.lemmas.List.{take_all, take-take}
use Rattle.std.proofs.lemmas.List.Sums.{sum_by-take-le}
use Rattle.tree_meaning.specs.Tree.{Query}
use Rattle.scan_meaning.specs.Blocks.{Block, good_rows}
use Rattle.scan_meaning.specs.Batches.{rows_of, need, count_passed, first_bad, is_bad, size_of, front, batch, IsShort, BatchCounts, Counts, IsFirstBad}

nothing_taken : {X : Type 0} (n m : ℕ) (none : List X) → none ≡ [] → take n (drop m none) ≡ []
nothing_taken zero m [] e = refl
nothing_taken (suc n) zero [] e = refl
nothing_taken (suc n) (suc m) [] e = refl
nothing_taken n m (x ∷ xs) e = absurd (cc)

pub take_plus : {X : Type 0} (n m : ℕ) (xs : List X) → take (n + m) xs ≡ take n xs ++ take m (drop n xs)
take_plus {X} zero m xs = let e : 0 + m ≡ m = omega arith in ap (λ (k : ℕ). take k xs) e
take_plus {X} (suc n) m [] = let e : suc n + m ≡ suc (n + m) = omega arith in let none : List X = [] in ap (λ (k : ℕ). take k none) e ∙ sym (nothing_taken m (suc n) none refl)
take_plus (suc n) m (x ∷ xs) = let e : suc n + m ≡ suc (n + m) = omega arith in ap (λ (k : ℕ). take k (x ∷ xs)) e ∙ ap (λ l. x ∷ l) (take_plus n m xs)

-- a batch more
pub front_more : (j : ℕ) (bs : List Block) → front (j + 1) bs ≡ front j bs ++ batch j bs
front_more j bs = let e : 64 * (j + 1) ≡ 64 * j + 64 = omega arith in rw e (take_plus (64 * j) 64 bs)

pub rows-append : (xs ys : List Block) → rows_of (xs ++ ys) ≡ rows_of xs ++ rows_of ys
rows-append [] ys = refl
rows-append (x ∷ xs) ys = ap (λ l. unwrap_or (good_rows x) [] ++ l) (rows-append xs ys) ∙ sym (append_assoc (unwrap_or (good_rows x) []) (rows_of xs) (rows_of ys))

pub rows_more : (j : ℕ) (bs : List Block) → rows_of (front (j + 1) bs) ≡ rows_of (front j bs) ++ rows_of (batch j bs)
rows_more j bs = ap (λ l. rows_of l) (front_more j bs) ∙ rows-append (front j bs) (batch j bs)

pub find_behind : {X : Type 0} (p : X → Bool) (xs ys : List X) → find p xs ≡ None → find p (xs ++ ys) ≡ find p ys
find_behind p [] ys none = refl
find_behind p (x ∷ xs) ys none = on (p x) none (λ h. find_behind p xs ys h)
  where
    on : (b : Bool) → cond b (Some x) (find p xs) ≡ None → (find p xs ≡ None → find p (xs ++ ys) ≡ find p ys) → cond b (Some x) (find p (xs ++ ys)) ≡ find p ys
    on true none next = absurd (cc)
    on false none next = next none

pub find_before : {X : Type 0} (p : X → Bool) (xs ys : List X) (x : X) → find p xs ≡ Some x → find p (xs ++ ys) ≡ Some x
find_before p [] ys x found = absurd (cc)
find_before p (z ∷ xs) ys x found = on (p z) found (λ h. find_before p xs ys x h)
  where
    on : (t : Bool) → cond t (Some z) (find p xs) ≡ Some x → (find p xs ≡ Some x → find p (xs ++ ys) ≡ Some x) → cond t (Some z) (find p (xs ++ ys)) ≡ Some x
    on true found next = found
    on false found next = next found

pub good_more : (j : ℕ) (bs : List Block) → first_bad (front j bs) ≡ None → first_bad (batch j bs) ≡ None → first_bad (front (j + 1) bs) ≡ None
good_more j bs before own = ap (λ l. first_bad l) (front_more j bs) ∙ find_behind is_bad (front j bs) (batch j bs) before ∙ own

-- the first bad block of a batch behind good ones is the first of all
pub first_of_all : (q : Query) (bs : List Block) (b : Block) → IsFirstBad q bs b → first_bad bs ≡ Some b
first_of_all q bs b h =
    let n = 64 * (h.before + 1) in
    let own = ap (λ l. first_bad l) (front_more h.before bs) ∙ find_behind is_bad (front h.before bs) (batch h.before bs) h.good ∙ h.bad in
    ap (λ l. first_bad l) (sym (take-append-drop n bs)) ∙ find_before is_bad (take n bs) (drop n bs) b own

-- a batch that counts and isn't empty is among those that count
pub among : (q : Query) (bs : List Block) (j count : ℕ) → BatchCounts q bs j → 64 * j < length bs → Counts q bs count → j < count
unfolding BatchCounts
among q bs j count short more counts = ⊎_elim
    (λ (l : j < count). l)
    (λ (g : count ≤ j). ⊎_elim
    (λ (all : length bs ≤ 64 * count). absurd (omega arith))
    (λ (full : ¬ IsShort (need q) (count_passed q (front count bs))). absurd (full (short count g)))
    counts.last)
    (cases_lt j count)

-- and its blocks are too
pub size_within : (m n : ℕ) (bs : List Block) → m ≤ n → size_of (front m bs) ≤ size_of (front n bs)
size_within m n bs le =
    let within : 64 * m ≤ 64 * n = omega arith in
    let same : take (64 * m) (front n bs) ≡ front m bs = take-take (64 * m) (64 * n) bs within in
    subst (λ l. size_of l ≤ size_of (front n bs)) same (sum_by-take-le (λ b. b.place.entry.length) (front n bs) (64 * m))

one_below : (q : Query) (bs : List Block) (m n : ℕ) → m < n → Counts q bs m → Counts q bs n → front m bs ≡ front n bs
one_below q bs m n lt first second = ⊎_elim
    (λ (more : 64 * m < length bs). let no : m < m = among q bs m m (second.each m lt) more first in absurd (omega arith))
    (λ (all : length bs ≤ 64 * m). let also : length bs ≤ 64 * n = omega arith in take_all (64 * m) bs all ∙ sym (take_all (64 * n) bs also))
    (cases_lt (64 * m) (length bs))

pub one_count : (q : Query) (bs : List Block) (m n : ℕ) → Counts q bs m → Counts q bs n → front m bs ≡ front n bs
one_count q bs m n first second = ⊎_elim
    (λ (l : m < n). one_below q bs m n l first second)
    (λ (g : n ≤ m). ⊎_elim (λ (l : n < m). sym (one_below q bs n m l second first)) (λ (h : m ≤ n). let e : m ≡ n = omega arith in ap (λ k. front k bs) e) (cases_lt n m))
    (cases_lt m n)

-- no batch counts before the first, unless nothing is needed
pub count_first : (q : Query) (bs : List Block) → IsShort (need q) (count_passed q []) → BatchCounts q bs 0
unfolding BatchCounts
count_first q bs short = λ i le. let e : i ≡ 0 = omega arith in rw e short

pub count_more : (q : Query) (bs : List Block) (j : ℕ) → BatchCounts q bs j → IsShort (need q) (count_passed q (front (j + 1) bs)) → BatchCounts q bs (j + 1)
unfolding BatchCounts
count_more q bs j before own = λ i le. ⊎_elim
    (λ (l : i < j + 1). before i (omega arith))
    (λ (g : j + 1 ≤ i). let e : i ≡ j + 1 = omega arith in rw e own)
    (cases_lt i (j + 1))
