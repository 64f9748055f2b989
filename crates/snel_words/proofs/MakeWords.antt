-- What the words behind `make` ask.
use Rattle.std.proofs.Common.{◌≡◌, ℕ, ◌≤◌, Bool, true, false, List, [], ◌∷◌, Option, Some, None, refl, sym, ap, ◌∙◌}
use Rattle.std.specs.Prelude.{length, IfSome, if◌then◌else◌}
use Rattle.snel_words.specs.Words.{Ask, nothing, make, is_operand, number_in, starts, row_counts, make_with, make_of}

-- three words, and any other number of words
pub of_three : (start rows name : List ℕ) (ws : List (List ℕ)) → ws ≡ start ∷ rows ∷ name ∷ [] → make_with (number_in starts start) (number_in row_counts rows) name ≡ make_of ws
unfolding make_of
of_three start rows name ws e = sym (ap make_of e)

pub of_others : (ws : List (List ℕ)) → (length ws ≡ 3 → ⊥) → nothing ≡ make_of ws
unfolding make_of
of_others [] h = refl
of_others (a ∷ []) h = refl
of_others (a ∷ b ∷ []) h = refl
of_others (a ∷ b ∷ c ∷ []) h = absurd (h refl)
of_others (a ∷ b ∷ c ∷ d ∷ ws) h = refl

-- the numbers and the name
pub no_start : (a b : Option ℕ) (name : List ℕ) → None ≡ a → nothing ≡ make_with a b name
no_start a b name e = ap (λ (o : Option ℕ). make_with o b name) e

pub no_rows : (a b : Option ℕ) (n : ℕ) (name : List ℕ) → Some n ≡ a → None ≡ b → nothing ≡ make_with a b name
no_rows a b n name e f = ap (λ (o : Option ℕ). make_with (Some n) o name) f ∙ ap (λ (o : Option ℕ). make_with o b name) e

pub with_both : (a b : Option ℕ) (n m : ℕ) (name : List ℕ) → Some n ≡ a → Some m ≡ b → (if is_operand name then make n m name else nothing) ≡ make_with a b name
with_both a b n m name e f = ap (λ (o : Option ℕ). make_with (Some n) o name) f ∙ ap (λ (o : Option ℕ). make_with o b name) e

pub chosen : (n m : ℕ) (name : List ℕ) (b : Bool) → is_operand name ≡ b → (if b then make n m name else nothing) ≡ (if is_operand name then make n m name else nothing)
chosen n m name b e = ap (λ (x : Bool). if x then make n m name else nothing) (sym e)
