-- Magnitudes of fewer than eight bytes.
use Rattle.std.proofs.Common.{◌≡◌, ◌<◌, ◌+◌, ◌*◌, ◌^◌, ℕ, zero, suc, List, [], ◌∷◌, length, get_or, true, refl, false, arith, ltb}
use Rattle.std.proofs.lemmas.Bool.Decides.{nat_tests}
use Rattle.std.specs.Prelude.{is_some}
use Rattle.block_meaning.specs.Numbers.{magnitude, magnitude_on}
use Rattle.block_meaning.specs.CellReading.{whole}
use Rattle.ion_cells.proofs.Bounds.{below_256}

-- a number of at most seven bytes has less than 56 bits
few_bytes : (i n : ℕ) → i < 8 → n < 256 ^ i → n < 2 ^ 56
few_bytes zero n h lt = omega arith
few_bytes (suc zero) n h lt = omega arith
few_bytes (suc (suc zero)) n h lt = omega arith
few_bytes (suc (suc (suc zero))) n h lt = omega arith
few_bytes (suc (suc (suc (suc zero)))) n h lt = omega arith
few_bytes (suc (suc (suc (suc (suc zero))))) n h lt = omega arith
few_bytes (suc (suc (suc (suc (suc (suc zero)))))) n h lt = omega arith
few_bytes (suc (suc (suc (suc (suc (suc (suc zero))))))) n h lt = omega arith
few_bytes (suc (suc (suc (suc (suc (suc (suc (suc i)))))))) n h lt = absurd (omega arith)

short_on : (bytes : List ℕ) (i n : ℕ) → i + length bytes < 8 → n < 256 ^ i → ((k : ℕ) → get_or bytes k 0 < 256) → magnitude_on n bytes < 2 ^ 56
short_on [] i n h lt small = few_bytes i n (omega arith) lt
short_on (b ∷ bs) i n h lt small =
    short_on bs (i + 1) (n * 256 + b) (omega arith) (below_256 n b i (omega arith) lt (small 0)).0 (λ k. small (suc k))

-- fewer than eight bytes are a whole number
pub short_whole : (payload : List ℕ) → length payload < 8 → ((k : ℕ) → get_or payload k 0 < 256) → is_some (whole payload) ≡ true
unfolding magnitude
short_whole payload h small =
    let low : ltb (magnitude_on 0 payload) (2 ^ 63) ≡ true = grind (arith, nat_tests, short_on payload 0 0 (omega arith) (omega arith) small) in
    let few : ltb 8 (length payload) ≡ false = grind (arith, nat_tests, h) in
    rw (few, low) refl
