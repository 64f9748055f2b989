-- A step over one character of a text whose case is folded.
use Rattle.std.proofs.Common.{◌≡◌, ℕ, ◌+◌, ◌-◌, ◌<◌, ◌≤◌, Bool, List, ◌∷◌, ap, sym, subst, ◌∙◌, arith, length, drop, take, get_or}
use Rattle.std.specs.Prelude.{min}
use Rattle.std.specs.Str.{IsUtf8, chars, continuation_len}
use Rattle.std.proofs.lemmas.List.{drop-drop, length-drop, get_or-drop, take_all}
use Rattle.lane_text.specs.Bytewise.{folded, folded_byte}
use Rattle.lane_text.proofs.Folding.{folded_at, folded_length, folded_drop}
use Rattle.lane_text.proofs.CharSteps.{char_step}

pub record Advance (text : List ℕ) (long at next : ℕ) : Type 0 where
  pub c : ℕ
  pub is : chars (drop at text) ≡ c ∷ chars (drop next text)
  pub within : next ≤ long
  pub utf8 : IsUtf8 (drop next text)

pub advance : (fold : Bool) (text : List ℕ) (at byte n next : ℕ) → at < length text → byte ≡ folded_byte fold (get_or text at 0)
    → n ≡ 1 + continuation_len byte → next ≡ min (length text) (at + n) → IsUtf8 (drop at (folded fold text)) → Advance (folded fold text) (length text) at next
advance fold text at byte n next l e f m u =
    let whole = folded_length fold text in
    let left = length-drop at (folded fold text) in
    let zero : at + 0 ≡ at = omega arith in
    let first : byte ≡ get_or (drop at (folded fold text)) 0 0 =
    e ∙ sym (folded_at fold text at l) ∙ ap (λ k. get_or (folded fold text) k 0) (sym zero) ∙ sym (get_or-drop at (folded fold text) 0 0) in
    let step = char_step (drop at (folded fold text)) u (omega arith) n (f ∙ ap (λ b. 1 + continuation_len b) first) in
    let le = step.within in
    let end : at + n ≡ next = omega arith in
    let same = drop-drop n at (folded fold text) ∙ ap (λ k. drop k (folded fold text)) end in
    record { c = step.c; is = step.is ∙ ap (λ t. step.c ∷ chars t) same; within = omega arith; utf8 = subst IsUtf8 same step.utf8 }

-- the text from a place on
pub folded_rest : (fold : Bool) (text : List ℕ) (at : ℕ) → folded fold (take (length text - at) (drop at text)) ≡ drop at (folded fold text)
folded_rest fold text at = ap (folded fold) (take_all (length text - at) (drop at text) (let e = length-drop at text in omega arith)) ∙ folded_drop fold at text

pub rest_length : (text : List ℕ) (at : ℕ) → length (take (length text - at) (drop at text)) ≡ length text - at
rest_length text at = ap length (take_all (length text - at) (drop at text) (let e = length-drop at text in omega arith)) ∙ length-drop at text
