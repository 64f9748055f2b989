-- What each sign of a pattern does.
use Rattle.std.proofs.Common.{◌≡◌, ℕ, ◌-◌, ◌<◌, ◌≤◌, Bool, true, false, List, [], ◌∷◌, length, take, drop, get_or, refl, sym, ◌∙◌, arith}
use Rattle.std.specs.Prelude.{◌||◌, ◌&&◌, ◌==◌}
use Rattle.std.proofs.Math.Seq.{take-length}
use Rattle.std.proofs.lemmas.Bool.Decides.{nat_tests}
use Rattle.eval_meaning.specs.Matching.{some_suffix, likes}

is_run : (sign : ℕ) → sign ≡ 37 → (sign == 37) ≡ true
is_run sign h = grind (arith, nat_tests)

is_no_run : (sign : ℕ) → (sign ≡ 37 → ⊥) → (sign == 37) ≡ false
is_no_run sign h = grind (arith, nat_tests)

-- `%`
pub run_sign : (sign : ℕ) (later text : List ℕ) → sign ≡ 37 → likes (sign ∷ later) text ≡ some_suffix (likes later) text
unfolding likes
run_sign sign later text h = rw (is_run sign h) refl

-- any other sign, where the text is at its end
pub sign_at_end : (sign : ℕ) (later : List ℕ) → (sign ≡ 37 → ⊥) → likes (sign ∷ later) [] ≡ false
unfolding likes
sign_at_end sign later h = rw (is_no_run sign h) refl

-- and where a character is left
pub sign_at_one : (sign c : ℕ) (later rest : List ℕ) → (sign ≡ 37 → ⊥) → likes (sign ∷ later) (c ∷ rest) ≡ ((sign == 95 || sign == c) && likes later rest)
unfolding likes
sign_at_one sign c later rest h = rw (is_no_run sign h) refl

-- The same of a pattern and a text that are taken apart.
rest_is : (x : ℕ) (xs : List ℕ) → take (length (x ∷ xs) - 1) (drop 1 (x ∷ xs)) ≡ xs
rest_is x xs = let n : length (x ∷ xs) - 1 ≡ length xs = omega arith in rw n (take-length xs)

pub runs : (p text : List ℕ) (sign : ℕ) → 1 ≤ length p → sign ≡ get_or p 0 sign → sign ≡ 37 → some_suffix (likes (take (length p - 1) (drop 1 p))) text ≡ likes p text
runs [] text sign h e f = absurd (omega arith)
runs (x ∷ xs) text sign h e f = rw (rest_is x xs) (sym (run_sign x xs text (sym e ∙ f)))

pub ends : (p text : List ℕ) (sign : ℕ) → 1 ≤ length p → length text < 1 → sign ≡ get_or p 0 sign → (sign ≡ 37 → ⊥) → false ≡ likes p text
ends [] text sign h k e f = absurd (omega arith)
ends (x ∷ xs) [] sign h k e f = sym (sign_at_end x xs (λ g. f (e ∙ g)))
ends (x ∷ xs) (c ∷ cs) sign h k e f = absurd (omega arith)

pub goes_on : (p text : List ℕ) (sign first : ℕ) → 1 ≤ length p → 1 ≤ length text → sign ≡ get_or p 0 sign → first ≡ get_or text 0 first → (sign ≡ 37 → ⊥)
    → ((sign == 95 || sign == first) && likes (take (length p - 1) (drop 1 p)) (take (length text - 1) (drop 1 text))) ≡ likes p text
goes_on [] text sign first h k e g f = absurd (omega arith)
goes_on (x ∷ xs) [] sign first h k e g f = absurd (omega arith)
goes_on (x ∷ xs) (c ∷ cs) sign first h k e g f = rw (rest_is x xs, rest_is c cs, e, g) (sym (sign_at_one x c xs cs (λ w. f (e ∙ w))))

pub both_hold : (a b r : Bool) → a ≡ true → r ≡ b → r ≡ (a && b)
both_hold true b r h e = e
both_hold false b r h e = cc

pub one_fails : (a b : Bool) → a ≡ false → false ≡ (a && b)
one_fails true b h = cc
one_fails false b h = refl
