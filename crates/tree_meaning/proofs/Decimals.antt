-- Steps of loops over decimal digits.
use Rattle.std.proofs.Common.{◌≡◌, ℕ, zero, suc, ◌+◌, ◌-◌, ◌*◌, ◌<◌, ◌≤◌, List, [], ◌∷◌, length, get_or, drop, refl, ◌∙◌, arith, add-one}
use Rattle.tree_meaning.specs.Decimals.{decimal_on}

-- a number goes on with the digit at a place
pub decimal_at : (bs : List ℕ) (i n : ℕ) → i < length bs → decimal_on n (drop i bs) ≡ decimal_on (n * 10 + (get_or bs i 0 - 48)) (drop (i + 1) bs)
decimal_at bs i n h = rw add-one (go bs i h)
  where
    go : (bs : List ℕ) (i : ℕ) → i < length bs → decimal_on n (drop i bs) ≡ decimal_on (n * 10 + (get_or bs i 0 - 48)) (drop (suc i) bs)
    go [] i h = absurd (omega arith)
    go (b ∷ bs) zero h = refl
    go (b ∷ bs) (suc i) h = go bs i (omega arith)

-- a number only grows
pub decimal_grows : (bs : List ℕ) (n : ℕ) → n ≤ decimal_on n bs
decimal_grows [] n = omega arith
decimal_grows (b ∷ bs) n = omega (arith, decimal_grows bs (n * 10 + (b - 48)))

-- past the last digit
pub past_end : (bs : List ℕ) (i n : ℕ) → length bs ≤ i → decimal_on 0 bs ≡ decimal_on n (drop i bs) → decimal_on 0 bs ≡ n
past_end bs i n h e = e ∙ go bs i h
  where
    go : (bs : List ℕ) (i : ℕ) → length bs ≤ i → decimal_on n (drop i bs) ≡ n
    go [] zero h = refl
    go [] (suc i) h = refl
    go (b ∷ bs) zero h = absurd (omega arith)
    go (b ∷ bs) (suc i) h = go bs i (omega arith)
