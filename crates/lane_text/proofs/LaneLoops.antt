-- One lane more of a mask that is made from the first lane on.
use Rattle.std.proofs.Common.{◌≡◌, ℕ, ◌+◌, Bool, true, false, nat_eq, refl, ap, sym, ◌∙◌, arith}
use Rattle.std.specs.Prelude.{◌&&◌, ◌||◌, nat_lt}
use Rattle.std.proofs.lemmas.Bool.Decides.{nat_tests}

same_place : (k i : ℕ) → nat_eq k i ≡ true → k ≡ i
same_place k i e = grind (arith, nat_tests)

one_more : (k i : ℕ) → nat_lt k (i + 1) ≡ (nat_eq k i || nat_lt k i)
one_more k i = grind (arith, nat_tests)

joined : (e hit old below p : Bool) → (e ≡ true → hit ≡ p) → old ≡ (below && p) → ((e && hit) || old) ≡ ((e || below) && p)
joined true hit old true true h o = ap (λ b. b || old) (h refl)
joined true hit old false true h o = ap (λ b. b || old) (h refl)
joined true hit old true false h o = ap (λ b. b || old) (h refl) ∙ o
joined true hit old false false h o = ap (λ b. b || old) (h refl) ∙ o
joined false hit old below p h o = o

kept : (e hit old t : Bool) → (e ≡ true → hit ≡ (t && hit)) → old ≡ (t && old) → ((e && hit) || old) ≡ (t && ((e && hit) || old))
kept e hit old true h o = refl
kept true hit old false h o = ap (λ b. b || old) (h refl) ∙ o
kept false hit old false h o = o

-- the lanes below the next one that pass
pub next_lane : (p : ℕ → Bool) (k i : ℕ) (old new hit : Bool) → new ≡ ((nat_eq k i && hit) || old) → (k ≡ i → hit ≡ p k) → old ≡ (nat_lt k i && p k) → new ≡ (nat_lt k (i + 1) && p k)
next_lane p k i old new hit n h o =
    n ∙ joined (nat_eq k i) hit old (nat_lt k i) (p k) (λ e. h (same_place k i e)) o ∙ ap (λ b. b && p k) (sym (one_more k i))

-- all of them lie in another mask
pub next_within : (t : ℕ → Bool) (k i : ℕ) (old new hit : Bool) → new ≡ ((nat_eq k i && hit) || old) → hit ≡ (t i && hit) → old ≡ (t k && old) → new ≡ (t k && new)
next_within t k i old new hit n h o =
    n ∙ kept (nat_eq k i) hit old (t k) (λ e. h ∙ ap (λ j. t j && hit) (sym (same_place k i e))) o ∙ ap (λ b. t k && b) (sym n)
