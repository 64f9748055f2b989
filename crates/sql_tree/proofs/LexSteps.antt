-- Steps of the loops over bytes.
use Rattle.std.proofs.Common.{◌≡◌, ℕ, zero, suc, ◌+◌, ◌-◌, ◌*◌, ◌<◌, ◌≤◌, List, [], ◌∷◌, length, get_or, drop, drop-cons, Option, Some, None, Bool, true, false, cond, refl, ap, ◌∙◌, arith, add-one}
use Rattle.std.specs.Prelude.{nat_le, ◌==◌}
use Rattle.std.specs.Option.{option_map}
use Rattle.std.proofs.lemmas.Bool.Decides.{nat_tests}
use Rattle.query_meaning.specs.Lexing.{run, number_of, closing, or_one}
use Rattle.tree_meaning.specs.Decimals.{decimal_on}

-- a run that goes on, and one that ends, at a place
pub run_on : (p : ℕ → Bool) (bs : List ℕ) (i : ℕ) → i < length bs → p (get_or bs i 0) ≡ true → run p (drop i bs) ≡ suc (run p (drop (i + 1) bs))
run_on p bs i h t = rw add-one (go bs i h t)
  where
    go : (bs : List ℕ) (i : ℕ) → i < length bs → p (get_or bs i 0) ≡ true → run p (drop i bs) ≡ suc (run p (drop (suc i) bs))
    go [] i h t = absurd (omega arith)
    go (b ∷ bs) zero h t = rw t refl
    go (b ∷ bs) (suc i) h t = go bs i (omega arith) t

pub run_ends : (p : ℕ → Bool) (bs : List ℕ) (i : ℕ) → i < length bs → p (get_or bs i 0) ≡ false → run p (drop i bs) ≡ 0
run_ends p [] i h t = absurd (omega arith)
run_ends p (b ∷ bs) zero h t = rw t refl
run_ends p (b ∷ bs) (suc i) h t = run_ends p bs i (omega arith) t

pub run_within : (p : ℕ → Bool) (bs : List ℕ) → run p bs ≤ length bs
run_within p [] = omega arith
run_within p (b ∷ bs) = go (p b) (run_within p bs)
  where
    go : (t : Bool) → run p bs ≤ length bs → cond t (suc (run p bs)) 0 ≤ length (b ∷ bs)
    go true h = omega arith
    go false h = omega arith

pub too_large : (bs : List ℕ) (n : ℕ) → 9_223_372_036_854_775_807 < n → n ≤ decimal_on 0 bs → None ≡ number_of bs
unfolding number_of
too_large bs n h g = let t : nat_le (decimal_on 0 bs) 9_223_372_036_854_775_807 ≡ false = grind (arith, nat_tests) in rw t refl

pub small_enough : (bs : List ℕ) (n : ℕ) → n ≤ 9_223_372_036_854_775_807 → decimal_on 0 bs ≡ n → Some n ≡ number_of bs
unfolding number_of
small_enough bs n h g = let t : nat_le (decimal_on 0 bs) 9_223_372_036_854_775_807 ≡ true = grind (arith, nat_tests) in rw (t, g) refl

-- a closing quote that is sought from a place on, or else the one that was found before
abbrev pub from_place : ℕ → Option ℕ → Option ℕ → Option ℕ
from_place place candidate None = candidate
from_place place candidate (Some n) = Some (place + n)

module _ (q : ℕ) where
  eq_test : (a b : ℕ) → a ≡ b → (a == b) ≡ true
  eq_test a b h = grind (arith, nat_tests)

  ne_test : (a b : ℕ) → (a ≡ b → ⊥) → (a == b) ≡ false
  ne_test a b h = grind (arith, nat_tests)

  abbrev Same : (bs : List ℕ) → ℕ → Option ℕ → ℕ → Option ℕ → Type 0
  Same bs i c j d = from_place i c (closing q (drop i bs)) ≡ from_place j d (closing q (drop j bs))

  pub quote_ends : (bs : List ℕ) (i : ℕ) (c : Option ℕ) → length bs ≤ i → from_place i c (closing q (drop i bs)) ≡ c
  quote_ends [] zero c h = refl
  quote_ends [] (suc i) c h = refl
  quote_ends (b ∷ bs) zero c h = absurd (omega arith)
  quote_ends (b ∷ bs) (suc i) c h = go (closing q (drop i bs)) (quote_ends bs i None (omega arith))
    where
      go : (o : Option ℕ) → from_place i None o ≡ None → from_place (suc i) c o ≡ c
      go None e = refl
      go (Some n) e = absurd cc

  other : (b : ℕ) (bs : List ℕ) → (b == q) ≡ false → closing q (b ∷ bs) ≡ option_map suc (closing q bs)
  other b [] e = rw e refl
  other b (c ∷ bs) e = rw e refl

  double : (b c : ℕ) (bs : List ℕ) (d : Option ℕ) (i : ℕ) → (b == q) ≡ true → (c == q) ≡ true → from_place i d (closing q (b ∷ c ∷ bs)) ≡ from_place (i + 2) (Some (i + 1)) (closing q bs)
  double b c bs d i e f = rw (e, f) (go (closing q bs))
    where
      go : (o : Option ℕ) → from_place i d (or_one o) ≡ from_place (i + 2) (Some (i + 1)) o
      go None = refl
      go (Some n) = ap Some (omega arith)

  pub at_other : (bs : List ℕ) (i : ℕ) (c : Option ℕ) → i < length bs → (get_or bs i 0 ≡ q → ⊥) → Same bs i c (i + 1) c
  at_other bs i c h e = rw (add-one, drop-cons bs i 0 h, other (get_or bs i 0) (drop (suc i) bs) (ne_test _ q e)) (go (closing q (drop (suc i) bs)))
    where
      go : (o : Option ℕ) → from_place i c (option_map suc o) ≡ from_place (suc i) c o
      go None = refl
      go (Some n) = ap Some (omega arith)

  pub at_double : (bs : List ℕ) (i : ℕ) (c : Option ℕ) → i + 1 < length bs → get_or bs i 0 ≡ q → get_or bs (i + 1) 0 ≡ q → Same bs i c (i + 2) (Some (i + 1))
  at_double bs i c h e f =
      let one : i + 1 ≡ suc i = omega arith in
      let two : i + 2 ≡ suc (suc i) = omega arith in
      let front : drop i bs ≡ get_or bs i 0 ∷ get_or bs (i + 1) 0 ∷ drop (i + 2) bs = drop-cons bs i 0 (omega arith) ∙ ap (λ (r : List ℕ). get_or bs i 0 ∷ r) (rw (one, two) (drop-cons bs (suc i) 0 (omega arith))) in
      rw front (double (get_or bs i 0) (get_or bs (i + 1) 0) (drop (i + 2) bs) c i (eq_test _ q e) (eq_test _ q f))
