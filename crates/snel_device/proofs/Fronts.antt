-- Fronts of lists of bytes.
use Rattle.std.proofs.Common.{◌≡◌, ◌≤◌, ◌<◌, ◌⊎◌, ℕ, ◌+◌, ◌-◌, min, List, ◌++◌, length, take, drop, replicate, sym, ap, ◌∙◌, arith, append-nil}
use Rattle.std.proofs.lemmas.List.{take-append-drop, take-append-le, drop-drop, drop-replicate, take-replicate, take_all}
use Rattle.std.proofs.Math.Seq.{take-append-add}
use Rattle.std.proofs.Math.Logic.{⊎_elim, inl, inr}
use Rattle.std.proofs.lemmas.Bool.{cases_lt}

-- what was copied to the front, and what was left of it
pub front_and_rest : (n at : ℕ) (bytes into : List ℕ) → take n into ≡ take n (drop at bytes) → drop at bytes ≡ take n into ++ drop (at + n) bytes
front_and_rest n at bytes into copied =
    sym (take-append-drop n (drop at bytes))
    ∙ ap (λ (front : List ℕ). front ++ drop n (drop at bytes)) (sym copied)
    ∙ ap (λ (rest : List ℕ). take n into ++ rest) (drop-drop n at bytes)

-- zeros behind all the bytes
padded_whole : (bytes : List ℕ) (more : ℕ) → bytes ++ replicate more 0 ≡ take (length bytes + more) (bytes ++ replicate (length bytes + more) 0)
padded_whole bytes more =
    let zeros : take more (replicate (length bytes + more) 0) ≡ replicate more 0 = take-replicate more (length bytes + more) 0 (omega arith) in
    sym (take-append-add bytes (replicate (length bytes + more) 0) more ∙ ap (λ (tail : List ℕ). bytes ++ tail) zeros)

cases_le : (m n : ℕ) → (m ≤ n) ⊎ (n ≤ m)
cases_le m n = ⊎_elim (λ (l : m < n). inl (omega arith)) (λ (g : n ≤ m). inr g) (cases_lt m n)

-- a front of bytes that are followed by zeros
pub padded_front : (bytes : List ℕ) (room n : ℕ) → n ≡ min (length bytes) room → take n bytes ++ replicate (room - n) 0 ≡ take room (bytes ++ replicate room 0)
padded_front bytes room n is = ⊎_elim
    (λ (fits : length bytes ≤ room).
    let all : n ≡ length bytes = omega arith in
    let front : take n bytes ≡ bytes = take_all n bytes (omega arith) in
    let size : length bytes + (room - n) ≡ room = omega arith in
    ap (λ (first : List ℕ). first ++ replicate (room - n) 0) front ∙ padded_whole bytes (room - n) ∙ ap (λ (k : ℕ). take k (bytes ++ replicate k 0)) size)
    (λ (long : room ≤ length bytes).
    let all : n ≡ room = omega arith in
    let none : room - n ≡ 0 = omega arith in
    ap (λ (k : ℕ). take n bytes ++ replicate k 0) none ∙ append-nil (take n bytes) ∙ ap (λ (k : ℕ). take k bytes) all ∙ sym (take-append-le room bytes (replicate room 0) long))
    (cases_le (length bytes) room)

-- what has this front and then zeros
pub padded_by : (bytes : List ℕ) (room n : ℕ) (filled : List ℕ) → n ≡ min (length bytes) room → take n filled ≡ take n bytes → drop n filled ≡ drop n (replicate room 0) → filled ≡ take room (bytes ++ replicate room 0)
padded_by bytes room n filled is front rest =
    sym (take-append-drop n filled)
    ∙ ap (λ (first : List ℕ). first ++ drop n filled) front
    ∙ ap (λ (tail : List ℕ). take n bytes ++ tail) (rest ∙ drop-replicate n room 0)
    ∙ padded_front bytes room n is
