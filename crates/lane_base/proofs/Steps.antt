-- One lane more of a mask that is built lane by lane.
use Rattle.std.proofs.Common.{◌≡◌, ℕ, ◌+◌, Bool, true, false, nat_eq, nat_lt, refl, sym, ap, ◌∙◌, arith, ⊎_elim, ◌≢◌}
use Rattle.std.specs.Prelude.{◌&&◌, ◌||◌}
use Rattle.std.proofs.lemmas.Bool.{cases_eq, lt-ltb, le-ltb}
use Rattle.std.proofs.lemmas.Bool.Decides.{nat_tests}

or_not : (x : Bool) → (x || false) ≡ x
or_not true = refl
or_not false = refl

pub next_lane : (f : ℕ → Bool) (k i : ℕ) (b c : Bool) → b ≡ ((nat_eq k i && f i) || c) → c ≡ (nat_lt k i && f k) → b ≡ (nat_lt k (i + 1) && f k)
next_lane f k i b c e g =
    ⊎_elim
    (λ (q : k ≡ i).
    let same : nat_eq k i ≡ true = grind (arith, nat_tests) in
    let before : nat_lt k i ≡ false = le-ltb k i (omega arith) in
    let now : nat_lt k (i + 1) ≡ true = lt-ltb k (i + 1) (omega arith) in
    let empty : c ≡ false = g ∙ ap (λ t. t && f k) before in
    let here : b ≡ f i = e ∙ ap (λ t. (t && f i) || c) same ∙ ap (λ t. f i || t) empty ∙ or_not (f i) in
    here ∙ ap f (sym q) ∙ sym (ap (λ t. t && f k) now))
    (λ (q : k ≢ i).
    let other : nat_eq k i ≡ false = grind (arith, nat_tests) in
    let same : nat_lt k (i + 1) ≡ nat_lt k i = grind (arith, nat_tests) in
    e ∙ ap (λ t. (t && f i) || c) other ∙ g ∙ sym (ap (λ t. t && f k) same))
    (cases_eq k i)
