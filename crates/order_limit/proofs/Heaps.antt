-- What sinking the first element of a heap keeps.
use Rattle.std.proofs.Common.{◌≡◌, ◌≢◌, ℕ, zero, suc, ◌+◌, ◌*◌, ◌<◌, ◌≤◌, List, [], ◌∷◌, length, get_or, set, not, ⊎_elim, Bool, true, false, refl, sym, ap, ◌∙◌, subst, arith}
use Rattle.std.specs.Cmp.{IsStrictWeakOrder}
use Rattle.std.specs.List.{All, SwappedAt}
use Rattle.std.specs.List.Sorted.{IsPermutation, IsSortedBy}
use Rattle.std.proofs.lemmas.Bool.{cases_eq}
use Rattle.std.proofs.lemmas.List.Sorted.{sorted_far, IsStrictWeakOrder-flip, IsPermutation-refl, length_permutation}
use Rattle.order_limit.specs.Heaps.{IsHeap, IsHeapBut, IsLastChild, Adds, replaces}

-- each place but the first is that of a child
parent_of : (k : ℕ) → (p : ℕ) × (p * 2 + 1 ≤ suc k) × (suc k ≤ p * 2 + 2)
parent_of zero = (0, omega arith, omega arith)
parent_of (suc zero) = (0, omega arith, omega arith)
parent_of (suc (suc k)) = let up = parent_of k in (suc up.0, omega (arith, up.1), omega (arith, up.2))

-- the parent is one
one_parent : (p q k : ℕ) → p * 2 + 1 ≤ k → k ≤ p * 2 + 2 → q * 2 + 1 ≤ k → k ≤ q * 2 + 2 → p ≡ q
one_parent p q k a b c d = omega (arith, a, b, c, d)

-- a child that isn't the left one is the right one
other_child : (at l r k : ℕ) → l ≡ at * 2 + 1 → r ≡ at * 2 + 2 → at * 2 + 1 ≤ k → k ≤ at * 2 + 2 → (k ≢ l) → r ≡ k
other_child at l r k e f low high n = omega (arith, e, f, low, high, n)

module _ {X : Type 0} (lt : X → X → Bool) (o : IsStrictWeakOrder lt) where
  -- elements in falling order are a heap
  pub falling_is_heap : (xs : List X) → IsSortedBy (λ x y. lt y x) xs → IsHeap lt xs
  falling_is_heap xs down p k d low high there = sorted_far (λ x y. lt y x) (IsStrictWeakOrder-flip lt o) xs down p k d (omega (arith, low)) there

  below_itself : (b : Bool) (x : X) → lt x x ≡ b → lt x x ≡ false
  below_itself true x e = o.one_way x x e
  below_itself false x e = e

  -- the first element of a heap is below none
  up_to : (n : ℕ) (xs : List X) (d : X) → IsHeap lt xs → (k : ℕ) → k < n → k < length xs → lt (get_or xs 0 d) (get_or xs k d) ≡ false
  up_to zero xs d heap k small there = absurd (omega (arith, small))
  up_to (suc n) xs d heap zero small there = below_itself _ (get_or xs 0 d) refl
  up_to (suc n) xs d heap (suc k) small there =
      let up = parent_of k in
      o.chain (get_or xs 0 d) (get_or xs up.0 d) (get_or xs (suc k) d)
      (up_to n xs d heap up.0 (omega (arith, up.1, small)) (omega (arith, up.1, there)))
      (heap up.0 (suc k) d up.1 up.2 there)

  -- what isn't below the first is below none
  pub below_none : (xs : List X) (x : X) → IsHeap lt xs → ((d : X) → lt x (get_or xs 0 d) ≡ false) → All (λ y. lt x y ≡ false) xs
  below_none xs x heap first k d there = o.chain x (get_or xs 0 d) (get_or xs k d) (first d) (up_to (suc k) xs d heap k (omega arith) there)

  -- where an element is below none of its children either, all is a heap
  pub sunk : (xs : List X) (at : ℕ) → IsHeapBut lt xs at → ((k : ℕ) (d : X) → at * 2 + 1 ≤ k → k ≤ at * 2 + 2 → k < length xs → lt (get_or xs at d) (get_or xs k d) ≡ false) → IsHeap lt xs
  sunk xs at h own p k d low high there =
      ⊎_elim
      (λ e. subst (λ (i : ℕ). lt (get_or xs i d) (get_or xs k d) ≡ false) (sym e) (own k d (omega (arith, low, e)) (omega (arith, high, e)) there))
      (λ n. h.others p k d n low high there)
      (cases_eq p at)

  -- where it has none
  pub sunk_below : (xs : List X) (at : ℕ) → IsHeapBut lt xs at → length xs ≤ at * 2 + 1 → IsHeap lt xs
  sunk_below xs at h short = sunk xs at h (λ k d low high there. absurd (omega (arith, low, there, short)))

  -- and where it isn't below the last of them
  pub sunk_above : (xs : List X) (at child : ℕ) → IsHeapBut lt xs at → IsLastChild lt xs at child → ((d : X) → lt (get_or xs at d) (get_or xs child d) ≡ false) → IsHeap lt xs
  sunk_above xs at child h c above = sunk xs at h (λ k d low high there. o.chain (get_or xs at d) (get_or xs child d) (get_or xs k d) (above d) (c.last k d low high there))

  seen : (x y a b : X) → x ≡ a → y ≡ b → lt a b ≡ false → lt x y ≡ false
  seen x y a b e f h = (λ j. lt (e j) (f j)) ∙ h

  -- an element and its last child, before which it comes, in each other's place
  module _ (xs ys : List X) (at child : ℕ) (h : IsHeapBut lt xs at) (c : IsLastChild lt xs at child) (below : (d : X) → lt (get_or xs at d) (get_or xs child d) ≡ true) (same : length ys ≡ length xs) (moved : SwappedAt xs ys at child) where
    at_top : (k : ℕ) (d : X) → at * 2 + 1 ≤ k → k ≤ at * 2 + 2 → k < length ys → lt (get_or ys at d) (get_or ys k d) ≡ false
    at_top k d low high there =
        ⊎_elim
        (λ e. seen _ _ (get_or xs child d) (get_or xs at d) (moved.0 d) (ap (λ (i : ℕ). get_or ys i d) e ∙ moved.1 d) (o.one_way (get_or xs at d) (get_or xs child d) (below d)))
        (λ n. seen _ _ (get_or xs child d) (get_or xs k d) (moved.0 d) (moved.2 k d (λ e. omega (arith, e, low)) n) (c.last k d low high (omega (arith, there, same))))
        (cases_eq k child)

    elsewhere : (p k : ℕ) (d : X) → (p ≢ at) → (p ≢ child) → p * 2 + 1 ≤ k → k ≤ p * 2 + 2 → k < length ys → lt (get_or ys p d) (get_or ys k d) ≡ false
    elsewhere p k d not_at not_child low high there =
        ⊎_elim
        (λ e. seen _ _ (get_or xs p d) (get_or xs child d) (moved.2 p d not_at not_child) (ap (λ (i : ℕ). get_or ys i d) e ∙ moved.0 d) (h.across p child d (omega (arith, low, e)) (omega (arith, high, e)) c.low c.high c.there))
        (λ n. seen _ _ (get_or xs p d) (get_or xs k d) (moved.2 p d not_at not_child)
        (moved.2 k d n (λ e. not_at (one_parent p at child (omega (arith, low, e)) (omega (arith, high, e)) c.low c.high)))
        (h.others p k d not_at low high (omega (arith, there, same))))
        (cases_eq k at)

    pub sinks : IsHeapBut lt ys child
    sinks = record {
      others = λ p k d not_child low high there.
          ⊎_elim
          (λ e. subst (λ (i : ℕ). lt (get_or ys i d) (get_or ys k d) ≡ false) (sym e) (at_top k d (omega (arith, low, e)) (omega (arith, high, e)) there))
          (λ n. elsewhere p k d n not_child low high there)
          (cases_eq p at);
      across = λ p k d up_low up_high low high there.
          let e : p ≡ at = one_parent p at child up_low up_high c.low c.high in
          seen _ _ (get_or xs child d) (get_or xs k d) (ap (λ (i : ℕ). get_or ys i d) e ∙ moved.0 d)
          (moved.2 k d (λ f. omega (arith, f, low, c.low)) (λ f. omega (arith, f, low)))
          (h.others child k d (λ f. omega (arith, f, c.low)) low high (omega (arith, there, same)));
    }

  -- the last of the children of an element: the only one, the right one, the left one
  pub only_is_last : (xs : List X) (at r : ℕ) → r ≡ at * 2 + 1 → at * 2 + 1 < length xs → length xs ≤ at * 2 + 2 → IsLastChild lt xs at r
  only_is_last xs at r e there short = record {
    low = omega (arith, e);
    high = omega (arith, e);
    there = omega (arith, e, there);
    last = λ k d low high inside. subst (λ (i : ℕ). lt (get_or xs r d) (get_or xs i d) ≡ false) (omega (arith, e, low, inside, short)) (below_itself _ (get_or xs r d) refl);
  }

  pub right_is_last : (xs : List X) (at l r : ℕ) → l ≡ at * 2 + 1 → r ≡ at * 2 + 2 → r < length xs → ((d : X) → lt (get_or xs l d) (get_or xs r d) ≡ true) → IsLastChild lt xs at r
  right_is_last xs at l r e f there below = record {
    low = omega (arith, f);
    high = omega (arith, f);
    there = there;
    last = λ k d low high inside.
        ⊎_elim
        (λ g. subst (λ (i : ℕ). lt (get_or xs r d) (get_or xs i d) ≡ false) (sym g) (o.one_way (get_or xs l d) (get_or xs r d) (below d)))
        (λ n. subst (λ (i : ℕ). lt (get_or xs r d) (get_or xs i d) ≡ false) (other_child at l r k e f low high n) (below_itself _ (get_or xs r d) refl))
        (cases_eq k l);
  }

  pub left_is_last : (xs : List X) (at l r : ℕ) → l ≡ at * 2 + 1 → r ≡ at * 2 + 2 → r < length xs → ((d : X) → lt (get_or xs l d) (get_or xs r d) ≡ false) → IsLastChild lt xs at l
  left_is_last xs at l r e f there above = record {
    low = omega (arith, e);
    high = omega (arith, e);
    there = omega (arith, e, f, there);
    last = λ k d low high inside.
        ⊎_elim
        (λ g. subst (λ (i : ℕ). lt (get_or xs l d) (get_or xs i d) ≡ false) (sym g) (below_itself _ (get_or xs l d) refl))
        (λ n. subst (λ (i : ℕ). lt (get_or xs l d) (get_or xs i d) ≡ false) (other_child at l r k e f low high n) (above d))
        (cases_eq k l);
  }

  -- the first element of a heap gives way to one that is below it
  pub replaced : (most : ℕ) (xs new : List X) (x : X) → length xs ≡ most → 0 < length xs → IsHeap lt xs → ((d : X) → lt x (get_or xs 0 d) ≡ true) → IsPermutation (set xs 0 x) new → Adds lt most xs x new
  replaced most [] new x full some heap below p = absurd (omega (arith, some))
  replaced most (out ∷ rest) new x full some heap below p = replaces out rest full (IsPermutation-refl (out ∷ rest)) p (below_none (out ∷ rest) out heap (λ d. below_itself _ out refl)) (below out)

pub length_replaced : {X : Type 0} (xs new : List X) (x : X) → IsPermutation (set xs 0 x) new → length new ≡ length xs
length_replaced [] new x p = length_permutation [] new p
length_replaced (out ∷ rest) new x p = length_permutation (x ∷ rest) new p

pub turned_off : (b : Bool) → not b ≡ true → b ≡ false
turned_off false h = refl
turned_off true h = absurd (cc)

pub turned_on : (b : Bool) → not b ≡ false → b ≡ true
turned_on true h = refl
turned_on false h = absurd (cc)
