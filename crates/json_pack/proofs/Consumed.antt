-- Bytes that come piece by piece.
use Rattle.std.proofs.Common.{◌≡◌, ◌≤◌, ℕ, List, [], ◌++◌, Option, Some, None, sym, ap, ◌∙◌, append_assoc, append-nil, arith}
use Rattle.std.specs.Option.{ForSome}
use Rattle.snel_device.specs.Causes.{HasCause}
use Rattle.std.specs.Io.KnownBytes.{Consumes, IsAtEnd}

pub consumed_none : (old : Option (List ℕ)) (bytes : List ℕ) → bytes ≡ [] → Consumes old old bytes
consumed_none None bytes e = tt
consumed_none (Some xs) bytes e = ap (λ b. b ++ xs) (sym e)

pub consumed_more : (old mid new : Option (List ℕ)) (bytes piece more : List ℕ) → Consumes old mid bytes → Consumes mid new piece → more ≡ bytes ++ piece → Consumes old new more
consumed_more None mid new bytes piece more h k e = tt
consumed_more (Some xs) None new bytes piece more h k e = absurd h
consumed_more (Some xs) (Some ys) None bytes piece more h k e = absurd k
consumed_more (Some xs) (Some ys) (Some zs) bytes piece more h k e = h ∙ ap (λ r. bytes ++ r) k ∙ sym (append_assoc bytes piece zs) ∙ ap (λ b. b ++ zs) (sym e)

whole : (xs x : List ℕ) (mid new : Option (List ℕ)) (bytes piece : List ℕ) → xs ≡ x → Consumes (Some xs) mid bytes → Consumes mid new piece → piece ≡ [] → IsAtEnd new → bytes ≡ x
whole xs x None new bytes piece same h k e z = absurd h
whole xs x (Some ys) None bytes piece same h k e z = absurd k
whole xs x (Some ys) (Some zs) bytes piece same h k e z =
    let rest : ys ≡ [] = k ∙ ap (λ p. p ++ zs) e ∙ z in
    sym (h ∙ ap (λ r. bytes ++ r) rest ∙ append-nil bytes) ∙ same

pub all_bytes : (old mid new : Option (List ℕ)) (bytes piece : List ℕ) → Consumes old mid bytes → Consumes mid new piece → piece ≡ [] → IsAtEnd new → ForSome old (λ all. bytes ≡ all)
all_bytes None mid new bytes piece h k e z = λ x is. cc
all_bytes (Some xs) mid new bytes piece h k e z = λ x is. let same : xs ≡ x = cc in whole xs x mid new bytes piece same h k e z

-- causes of a part of what was done
pub cause_later : (old mid new : ℕ) (A : Type 0) → old ≤ mid → HasCause mid new A → HasCause old new A
cause_later old mid new A h k = record { later = omega (arith, k.later, h); rose = λ a. let r = k.rose a in omega (arith, r, h) }

pub cause_never : (old mid new : ℕ) (A B : Type 0) → old ≤ mid → HasCause mid new B → (A → ⊥) → HasCause old new A
cause_never old mid new A B h k no_answer = record { later = omega (arith, k.later, h); rose = λ a. absurd (no_answer a) }

pub cause_for : (old mid new : ℕ) (A B : Type 0) → old ≤ mid → HasCause mid new B → (A → B) → HasCause old new A
cause_for old mid new A B h k f = record { later = omega (arith, k.later, h); rose = λ a. let r = k.rose (f a) in omega (arith, r, h) }
