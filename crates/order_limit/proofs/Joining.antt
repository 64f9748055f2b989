-- The first rows of two lists, and cutting them.
use Rattle.std.proofs.Common.{◌≡◌, ℕ, zero, suc, ◌+◌, ◌-◌, ◌<◌, ◌≤◌, List, [], ◌∷◌, ◌++◌, length, get_or, map, take, drop, Option, Some, None, Bool, true, false, refl, sym, ap, ◌∙◌, subst, arith, append_assoc, length-append}
use Rattle.std.specs.Prelude.{sum_by}
use Rattle.std.specs.Cmp.{IsStrictWeakOrder}
use Rattle.std.specs.List.{All}
use Rattle.std.specs.List.Sorted.{IsPermutation, IsSortedBy}
use Rattle.std.proofs.Math.Nat.{lt_of_not-le}
use Rattle.std.proofs.Math.Logic.{⊎_elim}
use Rattle.std.proofs.lemmas.List.{length-map, map-append}
use Rattle.std.proofs.lemmas.List.Sums.{sum_by-append, sum_by-cons}
use Rattle.std.proofs.lemmas.List.Sorted.{IsPermutation-sym, IsPermutation-trans, IsPermutation-append_left, IsPermutation-append_right, All-permutation, sum_by-IsPermutation, length_permutation}
use Rattle.std.proofs.lemmas.List.Elements.{All-nil, All-cons, All-head, All-tail, All-append, All-weaker}
use Rattle.value_meaning.specs.Val.{Val}
use Rattle.snel_values.specs.declared.made.MadeRow.{MadeRow}
use Rattle.snel_values.specs.Made.{row_view}
use Rattle.answer_meaning.specs.Answers.{limited}
use Rattle.order_limit.specs.Arranged.{Row, AreKeyed, IsArranged}
use Rattle.order_limit.specs.Heaps.{row_before, Adds, top_of}
use Rattle.order_limit.specs.Top.{Top, is_before, StandsFor, no_limit, IsEnough}
use Rattle.order_limit.proofs.Rows.{cut_rows}
use Rattle.order_limit.proofs.Standing.{rows_ranked, finished, seen_adds, stands_added, stands_dropped}

abbrev one_if : Bool → ℕ
one_if true = 1
one_if false = 0

-- how many elements pass
module _ {X : Type 0} (p : X → Bool) where
  abbrev count : List X → ℕ
  count xs = sum_by (λ x. one_if (p x)) xs

  count_next : (x : X) (xs : List X) → count (x ∷ xs) ≡ one_if (p x) + count xs
  count_next x xs = sum_by-cons (λ y. one_if (p y)) x xs

  at_most_one : (b : Bool) → one_if b ≤ 1
  at_most_one true = omega arith
  at_most_one false = omega arith

  all_pass : (xs : List X) → All (λ x. p x ≡ true) xs → count xs ≡ length xs
  all_pass [] h = refl
  all_pass (x ∷ xs) h =
      let here = ap one_if (All-head (λ y. p y ≡ true) x xs h) in
      let rest = all_pass xs (All-tail (λ y. p y ≡ true) x xs h) in
      let next = count_next x xs in
      omega (arith, here, rest, next)

  none_pass : (xs : List X) → All (λ x. p x ≡ false) xs → count xs ≡ 0
  none_pass [] h = refl
  none_pass (x ∷ xs) h =
      let here = ap one_if (All-head (λ y. p y ≡ false) x xs h) in
      let rest = none_pass xs (All-tail (λ y. p y ≡ false) x xs h) in
      let next = count_next x xs in
      omega (arith, here, rest, next)

  few_pass : (xs : List X) → count xs ≤ length xs
  few_pass [] = omega arith
  few_pass (x ∷ xs) =
      let one = at_most_one (p x) in
      let rest = few_pass xs in
      let next = count_next x xs in
      omega (arith, one, rest, next)

  one_fails : (xs : List X) (k : ℕ) (d : X) → k < length xs → p (get_or xs k d) ≡ false → count xs < length xs
  one_fails [] k d there h = absurd (omega (arith, there))
  one_fails (x ∷ xs) zero d there h =
      let here = ap one_if h in
      let rest = few_pass xs in
      let next = count_next x xs in
      omega (arith, here, rest, next)
  one_fails (x ∷ xs) (suc k) d there h =
      let one = at_most_one (p x) in
      let rest = one_fails xs k d (omega (arith, there)) h in
      let next = count_next x xs in
      omega (arith, one, rest, next)

below_itself : {X : Type 0} (lt : X → X → Bool) → IsStrictWeakOrder lt → (b : Bool) (x : X) → lt x x ≡ b → lt x x ≡ false
below_itself lt o true x e = o.one_way x x e
below_itself lt o false x e = e

pub All-front : {X : Type 0} (P : X → Type 0) (xs ys : List X) → All P (xs ++ ys) → All P xs
All-front P [] ys h = All-nil P
All-front P (x ∷ xs) ys h = All-cons P x xs (All-head P x (xs ++ ys) h) (All-front P xs ys (All-tail P x (xs ++ ys) h))

-- what comes before no element of a full list comes before no row that is held once its elements were added
module _ {X : Type 0} (lt : X → X → Bool) (o : IsStrictWeakOrder lt) (rows other held dropped : List X) (p : IsPermutation (rows ++ other) (held ++ dropped)) (few : length held ≤ length other) (behind : All (λ s. All (λ r. lt s r ≡ false) held) dropped) where
  not_above : (s r : X) → lt s r ≡ true → All (λ h. lt s h ≡ false) other → All (λ h. lt h r ≡ true) other
  not_above s r less all = All-weaker (λ h. lt s h ≡ false) (λ h. lt h r ≡ true) (λ h g. on h (lt h r) g refl) other all
    where
      on : (h : X) (b : Bool) → lt s h ≡ false → lt h r ≡ b → lt h r ≡ true
      on h true g e = e
      on h false g e = absurd (let no : lt s r ≡ false = o.chain s h r g e in cc)

  pub full_behind : (s : X) → All (λ h. lt s h ≡ false) other → All (λ r. lt s r ≡ false) held
  full_behind s all k d there = on (lt s (get_or held k d)) refl
    where
      on : (b : Bool) → lt s (get_or held k d) ≡ b → lt s (get_or held k d) ≡ false
      on false e = e
      on true e =
          let r = get_or held k d in
          let q = λ (x : X). lt x r in
          let many = all_pass q other (not_above s r e all) in
          let none = none_pass q dropped (All-weaker (λ x. All (λ y. lt x y ≡ false) held) (λ x. lt x r ≡ false) (λ x g. g k d there) dropped behind) in
          let less = one_fails q held k d there (below_itself lt o (lt r r) r refl) in
          let same = sum_by-IsPermutation (λ x. one_if (q x)) (rows ++ other) (held ++ dropped) p in
          let left = sum_by-append (λ x. one_if (q x)) rows other in
          let right = sum_by-append (λ x. one_if (q x)) held dropped in
          absurd (omega (arith, many, none, less, same, left, right, few))

module _ (falling : List Bool) (most : ℕ) (held other : List Row) (rows others : List Row) where
  abbrev lt : Row → Row → Bool
  lt = is_before falling

  abbrev T : List Row → Top
  T rs = record { falling = falling; most = most; held = rs }

  -- the rows for which the other stands were put, but for those that it dropped
  pub stands_joined : length held ≤ most → (k : StandsFor (T other) others) → (n : StandsFor (T held) (rows ++ other)) → AreKeyed falling rows → StandsFor (T held) (rows ++ others)
  stands_joined few k n keyed =
      let a = IsPermutation-append_right rows others (other ++ k.dropped) k.permutes in
      let b = IsPermutation-append_left k.dropped (rows ++ other) (held ++ n.dropped) n.permutes in
      let c = subst (λ l. IsPermutation (rows ++ others) l) (sym (append_assoc rows other k.dropped)) a in
      let all = IsPermutation-trans (rows ++ others) ((rows ++ other) ++ k.dropped) ((held ++ n.dropped) ++ k.dropped) c b in
      let same = length_permutation (rows ++ other) (held ++ n.dropped) n.permutes in
      let left = length-append rows other in
      record {
        keyed = All-append (λ (r : Row). length r.0 ≡ length falling) rows others keyed k.keyed;
        dropped = n.dropped ++ k.dropped;
        permutes = subst (λ l. IsPermutation (rows ++ others) l) (append_assoc held n.dropped k.dropped) all;
        room = λ less.
            let none = n.room less in
            let right = length-append held n.dropped ∙ ap (λ (l : List Row). length held + length l) none in
            (λ j. none j ++ k.room (omega (arith, same, left, right, less)) j);
        behind = All-append (λ s. All (λ r. lt s r ≡ false) held) n.dropped k.dropped n.behind (others_behind k.dropped refl);
      }
    where
      others_behind : (ds : List Row) → ds ≡ k.dropped → All (λ s. All (λ r. lt s r ≡ false) held) ds
      others_behind [] e = All-nil (λ s. All (λ r. lt s r ≡ false) held)
      others_behind (d ∷ ds) e =
          let never : ¬ (suc (length other) ≤ most) = λ g. absurd (let no : (d ∷ ds) ≡ [] = e ∙ k.room (omega (arith, g)) in cc) in
          let past : most < suc (length other) = lt_of_not-le never in
          All-weaker (λ s. All (λ r. lt s r ≡ false) other) (λ s. All (λ r. lt s r ≡ false) held)
          (full_behind lt (rows_ranked falling) rows other held n.dropped n.permutes (omega (arith, few, past)) n.behind)
          (d ∷ ds) (subst (λ l. All (λ s. All (λ r. lt s r ≡ false) other) l) (sym e) k.behind)

All-last : {X : Type 0} (P : X → Type 0) (xs : List X) (x : X) → All P (xs ++ x ∷ []) → P x
All-last P [] x h = All-head P x [] h
All-last P (y ∷ ys) x h = All-last P ys x (All-tail P y (ys ++ x ∷ []) h)

-- one row more was added
pub stands_next : (falling : List Bool) (most : ℕ) (old items new done : List MadeRow) (x : MadeRow) → Adds (row_before falling) most items x new
    → ((all : List Row) → StandsFor (top_of falling most old) all → AreKeyed falling (map row_view done) → StandsFor (top_of falling most items) (all ++ map row_view done))
    → (all : List Row) → StandsFor (top_of falling most old) all → AreKeyed falling (map row_view (done ++ x ∷ [])) → StandsFor (top_of falling most new) (all ++ map row_view (done ++ x ∷ []))
stands_next falling most old items new done x adds sofar all h keyed =
    let P = λ (r : Row). length r.0 ≡ length falling in
    let split = map-append row_view done (x ∷ []) in
    let both = subst (λ l. All P l) split keyed in
    let before = sofar all h (All-front P (map row_view done) (row_view x ∷ []) both) in
    let after = stands_added falling most (map row_view items) (all ++ map row_view done) before (row_view x) (All-last P (map row_view done) (row_view x) both) (map row_view new) (seen_adds falling most items x new adds) in
    subst (λ l. StandsFor (top_of falling most new) l) (append_assoc all (map row_view done) (row_view x ∷ []) ∙ ap (λ l. all ++ l) (sym split)) after

-- a row is dropped where none are held
pub none_wanted : (falling : List Bool) (most : ℕ) (items : List MadeRow) (keys : List Val) → length items ≡ 0 → ¬ (length items < most) → length keys ≡ length falling
    → (rows : List Row) (line : List ℕ) → StandsFor (top_of falling most items) rows → StandsFor (top_of falling most items) (rows ++ (keys, line) ∷ [])
none_wanted falling most items keys none full keyed rows line h =
    let same = length-map items row_view in
    let never : ¬ (1 ≤ most) = λ g. full (omega (arith, none, g)) in
    let low = lt_of_not-le never in
    stands_dropped falling most (map row_view items) rows h (keys, line) keyed (omega (arith, same, none, low)) (λ k d there. absurd (omega (arith, there, same, none)))

short_take : {X : Type 0} (n : ℕ) (xs : List X) → length (take n xs) < n → take n xs ≡ xs
short_take zero xs h = absurd (omega (arith, h))
short_take (suc n) [] h = refl
short_take (suc n) (x ∷ xs) h = ap (λ l. x ∷ l) (short_take n xs (omega (arith, h)))

take_less : {X : Type 0} (n m : ℕ) (xs : List X) → n ≤ m → take n (take m xs) ≡ take n xs
take_less zero m xs h = refl
take_less (suc n) zero xs h = absurd (omega (arith, h))
take_less (suc n) (suc m) [] h = refl
take_less (suc n) (suc m) (x ∷ xs) h = ap (λ l. x ∷ l) (take_less n m xs (omega (arith, h)))

cut_less : {X : Type 0} (skip n m : ℕ) (xs : List X) → skip + n ≤ m → take n (drop skip (take m xs)) ≡ take n (drop skip xs)
cut_less zero n m xs h = take_less n m xs (omega (arith, h))
cut_less (suc s) n zero xs h = absurd (omega (arith, h))
cut_less (suc s) n (suc m) [] h = refl
cut_less (suc s) n (suc m) (x ∷ xs) h = cut_less s n m xs (omega (arith, h))

-- the first rows of all, cut, are all, cut
enough_is : {X : Type 0} (most skip : ℕ) (take_ : Option ℕ) (all held : List X) → held ≡ take most all → length held < no_limit → IsEnough most skip take_ → limited take_ (drop skip held) ≡ limited take_ (drop skip all)
enough_is {X} most skip take_ all held e few enough = on take_ enough
  where
    whole : most ≡ no_limit → held ≡ all
    whole is = e ∙ short_take most all (subst (λ (l : List X). length l < most) e (subst (λ (n : ℕ). length held < n) (sym is) few))

    on : (o : Option ℕ) → IsEnough most skip o → limited o (drop skip held) ≡ limited o (drop skip all)
    on None is = ap (drop skip) (whole is)
    on (Some n) h =
        ⊎_elim
        (λ is. ap (λ l. take n (drop skip l)) (whole is))
        (λ k. ⊎_elim
        (λ none. ap (λ m. take m (drop skip held)) none ∙ sym (ap (λ m. take m (drop skip all)) none))
        (λ within. ap (λ l. take n (drop skip l)) e ∙ cut_less skip n most all within) k) h

-- the rows that are held, sorted and cut
pub finished_cut : (falling : List Bool) (most skip : ℕ) (take_ : Option ℕ) (items ordered : List MadeRow) (out : List Row) → length items ≤ most → length items < no_limit → IsEnough most skip take_ → IsPermutation items ordered → IsSortedBy (row_before falling) ordered → out ≡ map row_view (limited take_ (drop skip ordered))
    → (rows : List Row) → StandsFor (record { falling = falling; most = most; held = map row_view items }) rows → IsArranged falling skip take_ rows out
finished_cut falling most skip take_ items ordered out few small enough p up is rows h =
    let a = finished falling most 0 items ordered (map row_view ordered) few p up refl rows h in
    let e : most - 0 ≡ most = omega arith in
    let first = a.cut ∙ ap (λ n. take n a.arrangement) e in
    let same = length-map ordered row_view in
    let as_many = length_permutation items ordered p in
    record {
      arrangement = a.arrangement;
      permutes = a.permutes;
      sorted = a.sorted;
      cut = is ∙ cut_rows row_view take_ skip ordered ∙ enough_is most skip take_ a.arrangement (map row_view ordered) first (omega (arith, small, same, as_many)) enough;
    }

-- the order of the rows is free
pub stands_permuted : (t : Top) (rows others : List Row) → IsPermutation rows others → StandsFor t rows → StandsFor t others
stands_permuted t rows others p h = record {
  keyed = All-permutation (λ (r : Row). length r.0 ≡ length t.falling) rows others p h.keyed;
  dropped = h.dropped;
  permutes = IsPermutation-trans others rows (t.held ++ h.dropped) (IsPermutation-sym rows others p) h.permutes;
  room = h.room;
  behind = h.behind;
}
