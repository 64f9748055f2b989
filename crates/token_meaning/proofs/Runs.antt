-- Runs: the longest front of bytes that all pass.
use Rattle.std.proofs.Common.{◌≡◌, ℕ, zero, suc, ◌<◌, ◌≤◌, List, [], ◌∷◌, length, take, Bool, true, false, cond, refl, arith}
use Rattle.std.specs.Prelude.{◌&&◌}
use Rattle.std.specs.List.{list_all}
use Rattle.query_meaning.specs.Lexing.{run}

-- the left one of two tests that pass
pub and_left : (a b : Bool) → (a && b) ≡ true → a ≡ true
and_left true b e = refl
and_left false b e = absurd cc

-- each byte of a run passes
pub run_all : (p : ℕ → Bool) (bs : List ℕ) → list_all p (take (run p bs) bs) ≡ true
run_all p [] = refl
run_all p (b ∷ bs) = go (run_all p bs) (p b) refl
  where
    go : list_all p (take (run p bs) bs) ≡ true → (t : Bool) → p b ≡ t → list_all p (take (cond t (suc (run p bs)) 0) (b ∷ bs)) ≡ true
    go more true e = rw e more
    go more false e = refl

-- of each longer front some byte doesn't
pub run_most : (p : ℕ → Bool) (bs : List ℕ) (m : ℕ) → run p bs < m → m ≤ length bs → list_all p (take m bs) ≡ false
run_most p [] m h j = absurd (omega (arith, h, j))
run_most p (b ∷ bs) zero h j = absurd (omega (arith, h))
run_most p (b ∷ bs) (suc m) h j = go (λ i. run_most p bs m i (omega (arith, j))) (p b) refl h
  where
    go : (run p bs < m → list_all p (take m bs) ≡ false) → (t : Bool) → p b ≡ t → cond t (suc (run p bs)) 0 < suc m → list_all p (take (suc m) (b ∷ bs)) ≡ false
    go more true e g = rw e (more (omega (arith, g)))
    go more false e g = rw e refl
