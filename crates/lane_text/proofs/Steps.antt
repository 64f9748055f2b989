-- One step along a piece and a text.
use Rattle.std.proofs.Common.{◌≡◌, ℕ, ◌+◌, ◌<◌, ◌≤◌, Bool, true, false, List, ◌∷◌, Option, None, Some, refl, ap, sym, ◌∙◌, cond, arith, length, drop, get_or, add-one, drop-cons}
use Rattle.std.specs.Prelude.{◌==◌, min}
use Rattle.std.specs.Str.{continuation_len}
use Rattle.std.proofs.lemmas.List.{drop-drop, drop_all, drop_min}
use Rattle.std.proofs.lemmas.Bool.{eq-eqb}
use Rattle.std.proofs.lemmas.Bool.Decides.{nat_tests}
use Rattle.lane_text.specs.Bytewise.{after_bytes, folded_byte, folded}
use Rattle.lane_text.proofs.Folding.{folded_at, folded_length}

pub heads : (xs : List ℕ) (i : ℕ) → i < length xs → drop i xs ≡ get_or xs i 0 ∷ drop (i + 1) xs
heads xs i h = rw add-one (drop-cons xs i 0 h)

by_heads : (piece text : List ℕ) (i at : ℕ) → i < length piece → at < length text → after_bytes (drop i piece) (drop at text)
    ≡ cond (get_or piece i 0 == 95) (after_bytes (drop (i + 1) piece) (drop (continuation_len (get_or text at 0)) (drop (at + 1) text)))
    (cond (get_or piece i 0 == get_or text at 0) (after_bytes (drop (i + 1) piece) (drop (at + 1) text)) None)
unfolding after_bytes
by_heads piece text i at h l = ap (λ x. after_bytes x (drop at text)) (heads piece i h) ∙ ap (after_bytes (get_or piece i 0 ∷ drop (i + 1) piece)) (heads text at l)

when_true : (b : Bool) (p q : Option (List ℕ)) → b ≡ true → cond b p q ≡ p
when_true true p q h = refl
when_true false p q h = absurd (cc)

when_false : (b : Bool) (p q : Option (List ℕ)) → b ≡ false → cond b p q ≡ q
when_false false p q h = refl
when_false true p q h = absurd (cc)

at_one : (piece text : List ℕ) (i at next : ℕ) → i < length piece → at < length text → (get_or piece i 0 == 95) ≡ true
    → next ≡ min (at + (1 + continuation_len (get_or text at 0))) (length text)
    → after_bytes (drop i piece) (drop at text) ≡ after_bytes (drop (i + 1) piece) (drop next text)
at_one piece text i at next h l e f =
    by_heads piece text i at h l ∙ when_true (get_or piece i 0 == 95) _ _ e
    ∙ ap (after_bytes (drop (i + 1) piece)) (drop-drop (continuation_len (get_or text at 0)) (at + 1) text
    ∙ (let g : (at + 1) + continuation_len (get_or text at 0) ≡ at + (1 + continuation_len (get_or text at 0)) = omega arith in ap (λ n. drop n text) g)
    ∙ sym (drop_min (at + (1 + continuation_len (get_or text at 0))) text) ∙ ap (λ n. drop n text) (sym f))

at_same : (piece text : List ℕ) (i at : ℕ) → i < length piece → at < length text → (get_or piece i 0 == 95) ≡ false
    → (get_or piece i 0 == get_or text at 0) ≡ true → after_bytes (drop i piece) (drop at text) ≡ after_bytes (drop (i + 1) piece) (drop (at + 1) text)
at_same piece text i at h l e f =
    by_heads piece text i at h l ∙ when_false (get_or piece i 0 == 95) _ _ e ∙ when_true (get_or piece i 0 == get_or text at 0) _ _ f

at_other : (piece text : List ℕ) (i at : ℕ) → i < length piece → at < length text → (get_or piece i 0 == 95) ≡ false
    → (get_or piece i 0 == get_or text at 0) ≡ false → after_bytes (drop i piece) (drop at text) ≡ None
at_other piece text i at h l e f =
    by_heads piece text i at h l ∙ when_false (get_or piece i 0 == 95) _ _ e ∙ when_false (get_or piece i 0 == get_or text at 0) _ _ f

at_none : (piece text : List ℕ) (i at : ℕ) → i < length piece → length text ≤ at → after_bytes (drop i piece) (drop at text) ≡ None
unfolding after_bytes
at_none piece text i at h l = ap (λ x. after_bytes x (drop at text)) (heads piece i h) ∙ ap (after_bytes (get_or piece i 0 ∷ drop (i + 1) piece)) (drop_all at text l)

pub step_end : (piece text : List ℕ) (i : ℕ) → length piece ≤ i → after_bytes (drop i piece) text ≡ Some text
unfolding after_bytes
step_end piece text i h = ap (λ x. after_bytes x text) (drop_all i piece h)

apart : (a b : ℕ) → (a ≡ b → ⊥) → (a == b) ≡ false
apart a b h = grind (arith, nat_tests)

-- the same, of a text whose case is folded
pub step_one : (fold : Bool) (piece text : List ℕ) (i at byte next : ℕ) → i < length piece → at < length text → byte ≡ folded_byte fold (get_or text at 0)
    → get_or piece i 0 ≡ 95 → next ≡ min (length text) (at + (1 + continuation_len byte))
    → after_bytes (drop i piece) (drop at (folded fold text)) ≡ after_bytes (drop (i + 1) piece) (drop next (folded fold text))
step_one fold piece text i at byte next h l e f g =
    let is : byte ≡ get_or (folded fold text) at 0 = e ∙ sym (folded_at fold text at l) in
    let long = folded_length fold text in
    let n : at + (1 + continuation_len byte) ≡ at + (1 + continuation_len (get_or (folded fold text) at 0)) = ap (λ b. at + (1 + continuation_len b)) is in
    at_one piece (folded fold text) i at next h (omega arith) (eq-eqb _ _ f) (omega arith)

pub step_same : (fold : Bool) (piece text : List ℕ) (i at byte : ℕ) → i < length piece → at < length text → byte ≡ folded_byte fold (get_or text at 0)
    → (get_or piece i 0 ≡ 95 → ⊥) → get_or piece i 0 ≡ byte
    → after_bytes (drop i piece) (drop at (folded fold text)) ≡ after_bytes (drop (i + 1) piece) (drop (at + 1) (folded fold text))
step_same fold piece text i at byte h l e f g =
    let long = folded_length fold text in
    at_same piece (folded fold text) i at h (omega arith) (apart _ _ f) (eq-eqb _ _ (g ∙ e ∙ sym (folded_at fold text at l)))

pub step_other : (fold : Bool) (piece text : List ℕ) (i at byte : ℕ) → i < length piece → at < length text → byte ≡ folded_byte fold (get_or text at 0)
    → (get_or piece i 0 ≡ 95 → ⊥) → (get_or piece i 0 ≡ byte → ⊥) → after_bytes (drop i piece) (drop at (folded fold text)) ≡ None
step_other fold piece text i at byte h l e f g =
    let long = folded_length fold text in
    at_other piece (folded fold text) i at h (omega arith) (apart _ _ f) (apart _ _ (λ same. g (same ∙ folded_at fold text at l ∙ sym e)))

pub step_none : (fold : Bool) (piece text : List ℕ) (i at : ℕ) → i < length piece → length text ≤ at → after_bytes (drop i piece) (drop at (folded fold text)) ≡ None
step_none fold piece text i at h l = let long = folded_length fold text in at_none piece (folded fold text) i at h (omega arith)
