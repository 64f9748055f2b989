-- Elements of lists.
use Rattle.std.proofs.Common.{◌≡◌, ℕ, zero, suc, ◌+◌, ◌<◌, ◌≤◌, List, [], ◌∷◌, ◌++◌, length, take, drop, Some, All, refl, ap, ◌∙◌, arith}
use Rattle.std.specs.Prelude.{slice_get}
use Rattle.std.proofs.lemmas.List.{append-nil, take_all, length-append}

pub there : {A : Type 0} (xs : List A) (i : ℕ) → i < length xs → (x : A) × (slice_get xs i ≡ Some x)
there [] i lt = absurd (omega arith)
there (x ∷ xs) zero lt = (x, refl)
there (x ∷ xs) (suc i) lt = there xs i (omega arith)

pub pushed_length : {A : Type 0} (xs ys : List A) (x : A) → ys ≡ xs ++ x ∷ [] → length ys ≡ length xs + 1
pushed_length {A} xs ys x is = ap (λ (l : List A). length l) is ∙ length-append xs (x ∷ [])

pub all_front : {A : Type 0} (P : A → Type 0) (xs : List A) (x : A) → All P (xs ++ x ∷ []) → All P xs
all_front P [] x all k d lt = absurd (omega arith)
all_front P (y ∷ ys) x all zero d lt = all 0 d (omega arith)
all_front P (y ∷ ys) x all (suc k) d lt = all_front P ys x (λ j e h. all (suc j) e (omega arith)) k d (omega arith)

pub all_last : {A : Type 0} (P : A → Type 0) (xs : List A) (x : A) → All P (xs ++ x ∷ []) → P x
all_last P [] x all = all 0 x (omega arith)
all_last P (y ∷ ys) x all = all_last P ys x (λ j e h. all (suc j) e (omega arith))

drop_past : {A : Type 0} (xs : List A) (k : ℕ) → length xs ≤ k → drop k xs ≡ []
drop_past [] zero le = refl
drop_past [] (suc k) le = refl
drop_past (x ∷ xs) zero le = absurd (omega arith)
drop_past (x ∷ xs) (suc k) le = drop_past xs k (omega arith)

-- what a vector holds where all of it was lent and written
pub written_back : {A : Type 0} (new old : List A) (n : ℕ) → n ≡ length old → length new ≡ length old → take n (new ++ drop (length new) old) ≡ new
written_back {A} new old n is same = ap (λ (l : List A). take n (new ++ l)) (drop_past old (length new) (omega arith)) ∙ ap (λ (l : List A). take n l) (append-nil new) ∙ take_all n new (omega arith)
