-- Pieces that were added one after the other.
use Rattle.std.proofs.Common.{◌≡◌, ℕ, List, ◌++◌, Result, Ok, Err, ap, ◌∙◌, append_assoc}
use Rattle.std.specs.Prelude.{OnOk}

pub on_ok : {A E : Type 0} (r : Result A E) (P Q : Type 0) → (P → Q) → OnOk r P → OnOk r Q
on_ok (Ok a) P Q f h = f h
on_ok (Err e) P Q f h = tt

pub two : (old a b n m : List ℕ) → n ≡ old ++ a → m ≡ n ++ b → m ≡ old ++ (a ++ b)
two old a b n m p q = q ∙ ap (λ (l : List ℕ). l ++ b) p ∙ append_assoc old a b

pub five : (old a b c d e n1 n2 n3 n4 n5 : List ℕ) → n1 ≡ old ++ a → n2 ≡ n1 ++ b → n3 ≡ n2 ++ c → n4 ≡ n3 ++ d → n5 ≡ n4 ++ e → n5 ≡ old ++ (a ++ (b ++ (c ++ (d ++ e))))
five old a b c d e n1 n2 n3 n4 n5 p q r s t =
    let x = two n3 d e n4 n5 s t in
    let y = two n2 c (d ++ e) n3 n5 r x in
    let z = two n1 b (c ++ (d ++ e)) n2 n5 q y in
    two old a (b ++ (c ++ (d ++ e))) n1 n5 p z
