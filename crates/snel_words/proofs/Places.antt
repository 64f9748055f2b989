-- What stands at a place of a list, and what follows it.
use Rattle.std.proofs.Common.{◌≡◌, ℕ, zero, suc, ◌+◌, ◌≤◌, Bool, true, false, List, [], ◌∷◌, ◌++◌, Some, None, refl, sym, ap, ◌∙◌, add-one, append_assoc, arith}
use Rattle.std.specs.Prelude.{drop, length, slice_get, ◌&&◌}
use Rattle.std.specs.List.{list_all}

module _ {A : Type 0} where
  at_suc : (xs : List A) (i : ℕ) (x : A) → slice_get xs i ≡ Some x → drop i xs ≡ x ∷ drop (suc i) xs
  at_suc [] i x h = cc
  at_suc (y ∷ ys) zero x h = (let w : y ≡ x = cc in ap (λ z. z ∷ ys) w)
  at_suc (y ∷ ys) (suc i) x h = at_suc ys i x h

  -- what follows the item at a place
  pub drop_at : (xs : List A) (i : ℕ) (x : A) → slice_get xs i ≡ Some x → drop i xs ≡ x ∷ drop (i + 1) xs
  drop_at xs i x h = rw add-one (at_suc xs i x h)

  -- nothing stands at a place behind the end
  pub drop_past : (xs : List A) (i : ℕ) → slice_get xs i ≡ None → drop i xs ≡ []
  drop_past [] zero h = refl
  drop_past [] (suc i) h = refl
  drop_past (y ∷ ys) zero h = absurd (cc)
  drop_past (y ∷ ys) (suc i) h = drop_past ys i h

  next_past : (xs : List A) (i : ℕ) → slice_get xs i ≡ None → drop (suc i) xs ≡ []
  next_past [] i h = refl
  next_past (y ∷ ys) zero h = absurd (cc)
  next_past (y ∷ ys) (suc i) h = next_past ys i h

  -- nor at the next place
  pub drop_past_next : (xs : List A) (i : ℕ) → slice_get xs i ≡ None → drop (i + 1) xs ≡ []
  drop_past_next xs i h = rw add-one (next_past xs i h)

  -- from the end on there is nothing
  pub drop_end : (xs : List A) (i : ℕ) → length xs ≤ i → drop i xs ≡ []
  drop_end [] zero h = refl
  drop_end [] (suc i) h = refl
  drop_end (x ∷ xs) zero h = absurd (omega arith)
  drop_end (x ∷ xs) (suc i) h = drop_end xs i (omega arith)

  -- one item is left
  pub drop_one : (xs : List A) (i : ℕ) (x : A) → slice_get xs i ≡ Some x → slice_get xs (i + 1) ≡ None → drop i xs ≡ x ∷ []
  drop_one xs i x h k = drop_at xs i x h ∙ ap (λ l. x ∷ l) (drop_past xs (i + 1) k)

  -- two items and what follows
  pub drop_two : (xs : List A) (i : ℕ) (x y : A) → slice_get xs i ≡ Some x → slice_get xs (i + 1) ≡ Some y → drop i xs ≡ x ∷ y ∷ drop (i + 2) xs
  drop_two xs i x y h k =
      let e : (i + 1) + 1 ≡ i + 2 = omega arith in
      drop_at xs i x h ∙ ap (λ l. x ∷ l) (drop_at xs (i + 1) y k ∙ ap (λ (n : ℕ). y ∷ drop n xs) e)

  -- a test of all items, an item further
  pub all_next : (test : A → Bool) (xs : List A) (i : ℕ) (x : A) → slice_get xs i ≡ Some x → list_all test (drop i xs) ≡ (test x && list_all test (drop (i + 1) xs))
  all_next test xs i x h = ap (list_all test) (drop_at xs i x h)

  pub all_fail : (test : A → Bool) (xs : List A) (i : ℕ) (x : A) → slice_get xs i ≡ Some x → test x ≡ false → list_all test (drop i xs) ≡ false
  all_fail test xs i x h e = all_next test xs i x h ∙ ap (λ (b : Bool). b && list_all test (drop (i + 1) xs)) e

  pub all_pass : (test : A → Bool) (xs : List A) (i : ℕ) (x : A) → slice_get xs i ≡ Some x → test x ≡ true → list_all test (drop i xs) ≡ list_all test (drop (i + 1) xs)
  all_pass test xs i x h e = all_next test xs i x h ∙ ap (λ (b : Bool). b && list_all test (drop (i + 1) xs)) e

  -- a copy with what is still to come, an item further
  pub copied_next : (copy xs : List A) (i : ℕ) (x : A) → slice_get xs i ≡ Some x → copy ++ drop i xs ≡ (copy ++ (x ∷ [])) ++ drop (i + 1) xs
  copied_next copy xs i x h = ap (λ l. copy ++ l) (drop_at xs i x h) ∙ sym (append_assoc copy (x ∷ []) (drop (i + 1) xs))

  -- behind the first item there isn't one alone
  pub other_count : (n : ℕ) (xs : List A) → n ≡ length xs → (n ≡ 2 → ⊥) → length (drop 1 xs) ≡ 1 → ⊥
  other_count n [] e never k = absurd (omega arith)
  other_count n (x ∷ xs) e never k = never (e ∙ ap suc k)

  -- where nothing stands, the list has ended
  pub ended : (xs : List A) (i : ℕ) → slice_get xs i ≡ None → length xs ≤ i
  ended [] i h = omega arith
  ended (x ∷ xs) zero h = absurd (cc)
  ended (x ∷ xs) (suc i) h = let k = ended xs i h in omega arith

  -- three items behind the first are four
  pub four_items : (xs : List A) → length (drop 1 xs) ≡ 3 → length xs ≡ 4
  four_items [] e = absurd (cc)
  four_items (x ∷ xs) e = ap suc e
