-- Chains of expressions and arms, by their lists.
use Rattle.std.proofs.Common.{◌≡◌, ℕ, zero, suc, ◌+◌, ◌-◌, ◌*◌, ◌<◌, ◌≤◌, ◌/◌, ◌%◌, ◌⊎◌, inl, inr, sym, ◌∙◌, List, [], ◌∷◌, ◌++◌, length, Some, None, refl, ap, arith}
use Rattle.std.specs.Prelude.{slice_get, unwrap_or}
use Rattle.tree_meaning.specs.Tree.{Ex, items, exs, arms}
use Rattle.check_meaning.specs.Operands.{arm_operands}

pub items_exs : (xs : List Ex) → items (exs xs) ≡ xs
items_exs [] = refl
items_exs (x ∷ xs) = ap (λ l. x ∷ l) (items_exs xs)

pub length_exs : (xs : List Ex) → length (items (exs xs)) ≡ length xs
length_exs xs = ap length (items_exs xs)

pub length_arms : (xs : List (Ex × Ex)) (e : Ex) → length (arm_operands (arms xs) ++ e ∷ []) ≡ 2 * length xs + 1
length_arms [] e = refl
length_arms (x ∷ xs) e = omega (arith, length_arms xs e)

some_is : (x y : Ex × Ex) → Some x ≡ Some y → x ≡ y
some_is x y h = ap (λ o. unwrap_or o x) h

pub test_at : (xs : List (Ex × Ex)) (es : List Ex) (n k : ℕ) (x : Ex × Ex) → slice_get xs k ≡ Some x → n ≡ 2 * k → slice_get (arm_operands (arms xs) ++ es) n ≡ Some x.0
test_at [] es n k x h e = cc
test_at (y ∷ xs) es zero zero x h e = ap (λ p. Some p.0) (some_is y x h)
test_at (y ∷ xs) es (suc (suc n)) (suc k) x h e = test_at xs es n k x h (omega (arith, e))
test_at (y ∷ xs) es n k x h e = absurd (omega (arith, e))

pub value_at : (xs : List (Ex × Ex)) (es : List Ex) (n k : ℕ) (x : Ex × Ex) → slice_get xs k ≡ Some x → n ≡ 2 * k + 1 → slice_get (arm_operands (arms xs) ++ es) n ≡ Some x.1
value_at [] es n k x h e = cc
value_at (y ∷ xs) es (suc zero) zero x h e = ap (λ p. Some p.1) (some_is y x h)
value_at (y ∷ xs) es (suc (suc n)) (suc k) x h e = value_at xs es n k x h (omega (arith, e))
value_at (y ∷ xs) es n k x h e = absurd (omega (arith, e))

pub behind_arms : (xs : List (Ex × Ex)) (es : List Ex) (n k : ℕ) → n ≡ 2 * length xs + k → slice_get (arm_operands (arms xs) ++ es) n ≡ slice_get es k
behind_arms [] es n k e = ap (slice_get es) (omega (arith, e))
behind_arms (y ∷ xs) es (suc (suc n)) k e = behind_arms xs es n k (omega (arith, e))
behind_arms (y ∷ xs) es n k e = absurd (omega (arith, e))

zero_or_one : (m : ℕ) → m < 2 → (m ≡ 0) ⊎ (m ≡ 1)
zero_or_one zero h = inl refl
zero_or_one (suc zero) h = inr refl
zero_or_one (suc (suc m)) h = absurd (omega arith)

halves : (n : ℕ) → ((n % 2 ≡ 0) × (n ≡ 2 * (n / 2))) ⊎ ((n % 2 ≡ 1) × (n ≡ 2 * (n / 2) + 1))
halves n = elim (zero_or_one (n % 2) (omega arith)) [ inl e ↦ inl (e, omega (arith, e)) | inr e ↦ inr (e, omega (arith, e)) ]

pub in_arm : (xs : List (Ex × Ex)) (es : List Ex) (n : ℕ) (x : Ex × Ex) (v : Ex) → slice_get xs (n / 2) ≡ Some x → (n % 2 ≡ 0 → v ≡ x.0) → (n % 2 ≡ 1 → v ≡ x.1) → Some v ≡ slice_get (arm_operands (arms xs) ++ es) n
in_arm xs es n x v h even odd =
    elim (halves n) [
      | inl e ↦ ap Some (even e.0) ∙ sym (test_at xs es n (n / 2) x h e.1)
      | inr e ↦ ap Some (odd e.0) ∙ sym (value_at xs es n (n / 2) x h e.1)
    ]

some_below : {A : Type 0} (xs : List A) (k : ℕ) → k < length xs → slice_get xs k ≡ None → ⊥
some_below [] k h e = omega arith
some_below (x ∷ xs) zero h e = cc
some_below (x ∷ xs) (suc k) h e = some_below xs k (omega (arith, h)) e

-- below twice their count an arm stands
pub no_arm : (xs : List (Ex × Ex)) (n : ℕ) → n ≤ 2 * length xs → (n ≡ 2 * length xs → ⊥) → slice_get xs (n / 2) ≡ None → ⊥
no_arm xs n below other e = some_below xs (n / 2) (elim (halves n) [ inl h ↦ omega (arith, h.1, below, other) | inr h ↦ omega (arith, h.1, below, other) ]) e

one_only : (e : Ex) (k : ℕ) → 0 < k → None ≡ slice_get (e ∷ []) k
one_only e zero h = absurd (omega (arith, h))
one_only e (suc k) h = refl

pub past_case : (xs : List (Ex × Ex)) (e : Ex) (n : ℕ) → 2 * length xs < n → None ≡ slice_get (arm_operands (arms xs) ++ e ∷ []) n
past_case xs e n h =
    one_only e (n - 2 * length xs) (omega (arith, h)) ∙ sym (behind_arms xs (e ∷ []) n (n - 2 * length xs) (omega (arith, h)))
