-- Closing quotes and backticks: the last one that can close, and no other one behind it.
use Rattle.std.proofs.Common.{◌≡◌, ℕ, zero, suc, ◌<◌, ◌≤◌, List, [], ◌∷◌, length, take, Bool, true, false, cond, Option, Some, None, refl, arith}
use Rattle.std.specs.Prelude.{◌&&◌, ◌==◌}
use Rattle.std.specs.Option.{option_map}
use Rattle.query_meaning.specs.Lexing.{run, is_no_backtick, closing, or_one}
use Rattle.query_meaning.proofs.Steps.{some_is, map_then, if_then}
use Rattle.token_meaning.specs.Spelling.{closes, closes_once}

-- the place of the closing quote closes
pub closing_closes : (q : ℕ) (bs : List ℕ) (n : ℕ) → closing q bs ≡ Some n → closes q (take n bs) ≡ true
closing_closes q [] n e = absurd cc
closing_closes q (b ∷ []) n e =
    if_then (b == q) _ _ _ e (λ t h. rw (← some_is _ _ h) t) (λ t h. absurd cc)
closing_closes q (b ∷ c ∷ bs) n e =
    if_then (b == q) _ _ _ e
    (λ t h. if_then (c == q) _ _ _ h
    (λ u h2. pair (closing_closes q bs) t u (closing q bs) refl h2)
    (λ u h2. rw (← some_is _ _ h2) t))
    (λ t h. map_then _ (closing q (c ∷ bs)) n h (λ m f g. rw (← g) (later (closing_closes q (c ∷ bs)) t m f)))
  where
    pair : ((m : ℕ) → closing q bs ≡ Some m → closes q (take m bs) ≡ true) → (b == q) ≡ true → (c == q) ≡ true → (o : Option ℕ) → closing q bs ≡ o → or_one o ≡ Some n → closes q (take n (b ∷ c ∷ bs)) ≡ true
    pair more t u None f g = rw (← some_is _ _ g) t
    pair more t u (Some m) f g = rw (← some_is _ _ g, t, u) (more m f)

    later : ((m : ℕ) → closing q (c ∷ bs) ≡ Some m → closes q (take m (c ∷ bs)) ≡ true) → (b == q) ≡ false → (m : ℕ) → closing q (c ∷ bs) ≡ Some m → closes q (take (suc m) (b ∷ c ∷ bs)) ≡ true
    later more t zero f = let none = more 0 f in absurd cc
    later more t (suc m) f = rw t (more (suc m) f)

-- the place, or 0 where there is none
abbrev pub past : Option ℕ → ℕ
past None = 0
past (Some n) = n

-- no quote behind it closes
pub closing_most : (q : ℕ) (bs : List ℕ) (m : ℕ) → past (closing q bs) < m → m ≤ length bs → closes q (take m bs) ≡ false
closing_most q [] m h j = absurd (omega (arith, h, j))
closing_most q (b ∷ []) zero h j = absurd (omega (arith, h))
closing_most q (b ∷ []) (suc (suc m)) h j = absurd (omega (arith, j))
closing_most q (b ∷ []) (suc zero) h j = go (b == q) refl h
  where
    go : (t : Bool) → (b == q) ≡ t → past (cond t (Some 1) None) < 1 → (b == q) ≡ false
    go true e g = absurd (omega (arith, g))
    go false e g = e
closing_most q (b ∷ c ∷ bs) zero h j = absurd (omega (arith, h))
closing_most q (b ∷ c ∷ bs) (suc zero) h j = go (b == q) (c == q) refl (closing q bs) h
  where
    go : (t u : Bool) → (b == q) ≡ t → (o : Option ℕ) → past (cond t (cond u (or_one o) (Some 1)) (option_map suc (closing q (c ∷ bs)))) < 1 → (b == q) ≡ false
    go true true e None g = absurd (omega (arith, g))
    go true true e (Some n) g = absurd (omega (arith, g))
    go true false e o g = absurd (omega (arith, g))
    go false u e o g = e
closing_most q (b ∷ c ∷ bs) (suc (suc m)) h j = go (closing_most q bs) (closing_most q (c ∷ bs) (suc m)) (b == q) (c == q) refl refl h
  where
    pair : ((m : ℕ) → past (closing q bs) < m → m ≤ length bs → closes q (take m bs) ≡ false) → (m : ℕ) → m ≤ length bs → (o : Option ℕ) → closing q bs ≡ o → past (or_one o) < suc (suc m) → closes q (take m bs) ≡ false
    pair more zero i o e g = refl
    pair more (suc m) i None e g = more (suc m) (rw e (omega arith)) i
    pair more (suc m) i (Some n) e g = more (suc m) (rw e (omega (arith, g))) i

    later : (past (closing q (c ∷ bs)) < suc m → suc m ≤ length (c ∷ bs) → closes q (take (suc m) (c ∷ bs)) ≡ false) → (o : Option ℕ) → closing q (c ∷ bs) ≡ o → past (option_map suc o) < suc (suc m) → closes q (take (suc m) (c ∷ bs)) ≡ false
    later more None e g = more (rw e (omega arith)) (omega (arith, j))
    later more (Some n) e g = more (rw e (omega (arith, g))) (omega (arith, j))

    go : ((m : ℕ) → past (closing q bs) < m → m ≤ length bs → closes q (take m bs) ≡ false) → (past (closing q (c ∷ bs)) < suc m → suc m ≤ length (c ∷ bs) → closes q (take (suc m) (c ∷ bs)) ≡ false) → (t u : Bool) → (b == q) ≡ t → (c == q) ≡ u → past (cond t (cond u (or_one (closing q bs)) (Some 1)) (option_map suc (closing q (c ∷ bs)))) < suc (suc m) → closes q (b ∷ c ∷ take m bs) ≡ false
    go two one true true e f g = rw (e, f) (pair two m (omega (arith, j)) (closing q bs) refl g)
    go two one true false e f g = rw (e, f) refl
    go two one false u e f g = rw e (later one (closing q (c ∷ bs)) refl g)

-- a byte that is no backtick, and one that is
backtick : (b : ℕ) → is_no_backtick b ≡ false → (b == 96) ≡ true
backtick b e = go (b == 96) refl e
  where
    go : (t : Bool) → (b == 96) ≡ t → cond t false true ≡ false → (b == 96) ≡ true
    go true f g = f
    go false f g = absurd cc

-- the first backtick closes
pub once_closes : (bs : List ℕ) → run is_no_backtick bs < length bs → closes_once (take (suc (run is_no_backtick bs)) bs) ≡ true
once_closes [] h = absurd (omega (arith, h))
once_closes (b ∷ []) h = go (is_no_backtick b) refl h
  where
    go : (t : Bool) → is_no_backtick b ≡ t → cond t 1 0 < 1 → closes_once (take (suc (cond t 1 0)) (b ∷ [])) ≡ true
    go true e g = absurd (omega (arith, g))
    go false e g = backtick b e
once_closes (b ∷ c ∷ bs) h = go (once_closes (c ∷ bs)) (is_no_backtick b) refl h
  where
    go : (run is_no_backtick (c ∷ bs) < length (c ∷ bs) → closes_once (take (suc (run is_no_backtick (c ∷ bs))) (c ∷ bs)) ≡ true) → (t : Bool) → is_no_backtick b ≡ t → cond t (suc (run is_no_backtick (c ∷ bs))) 0 < length (b ∷ c ∷ bs) → closes_once (take (suc (cond t (suc (run is_no_backtick (c ∷ bs))) 0)) (b ∷ c ∷ bs)) ≡ true
    go more true e g = rw e (more (omega (arith, g)))
    go more false e g = backtick b e

-- none behind it does
pub once_most : (bs : List ℕ) (m : ℕ) → suc (run is_no_backtick bs) < m → m ≤ length bs → closes_once (take m bs) ≡ false
once_most [] m h j = absurd (omega (arith, h, j))
once_most (b ∷ bs) zero h j = absurd (omega (arith, h))
once_most (b ∷ bs) (suc zero) h j = absurd (omega (arith, h))
once_most (b ∷ []) (suc (suc m)) h j = absurd (omega (arith, j))
once_most (b ∷ c ∷ bs) (suc (suc m)) h j = go (once_most (c ∷ bs) (suc m)) (is_no_backtick b) refl h
  where
    go : (suc (run is_no_backtick (c ∷ bs)) < suc m → suc m ≤ length (c ∷ bs) → closes_once (take (suc m) (c ∷ bs)) ≡ false) → (t : Bool) → is_no_backtick b ≡ t → suc (cond t (suc (run is_no_backtick (c ∷ bs))) 0) < suc (suc m) → closes_once (b ∷ c ∷ take m bs) ≡ false
    go more true e g = rw e (more (omega (arith, g)) (omega (arith, j)))
    go more false e g = rw e refl
