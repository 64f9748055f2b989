-- A step over one character of a text, and what the searches are after it.
use Rattle.std.proofs.Common.{◌≡◌, ℕ, ◌+◌, ◌<◌, ◌≤◌, Bool, true, false, List, [], ◌∷◌, ◌++◌, Option, None, Some, refl, ap, sym, subst, ◌∙◌, arith, length, drop, get_or}
use Rattle.std.specs.Prelude.{◌||◌, ◌==◌}
use Rattle.std.specs.Str.{IsUtf8, chars, continuation_len, all_scalars as scalars, encode_utf8_all as encodes}
use Rattle.std.specs.Char.{IsScalar, encode_utf8 as encode}
use Rattle.std.proofs.str.Laws as laws
use Rattle.std.proofs.Math.Utf8.{scalar}
use Rattle.std.proofs.lemmas.List.{drop_at, drop-drop, drop_all, length-append, length-drop}
use Rattle.std.proofs.lemmas.Bool.{eqb-true, eq-eqb}
use Rattle.std.proofs.lemmas.Str.{encodes-chars, chars-encodes, chars-nil}
use Rattle.eval_meaning.specs.Matching.{is_empty}
use Rattle.lane_text.specs.Pieces.{after_piece, after_first, passes, or_else, is_whole, ends_in}
use Rattle.lane_text.specs.Bytewise.{IsRest}
use Rattle.lane_text.proofs.Leads.{lead}

-- the text begins with a character
pub record CharStep (text : List ℕ) (n : ℕ) : Type 0 where
  pub c : ℕ
  pub is : chars text ≡ c ∷ chars (drop n text)
  pub within : n ≤ length text
  pub utf8 : IsUtf8 (drop n text)

step_of : (c : ℕ) (cs : List ℕ) → IsScalar c → scalars cs ≡ true → scalars (c ∷ cs) ≡ true → (n : ℕ) → n ≡ 1 + continuation_len (get_or (encodes (c ∷ cs)) 0 0) → CharStep (encodes (c ∷ cs)) n
step_of c cs s t all n e =
    let l = lead c s in
    let first : get_or (encodes (c ∷ cs)) 0 0 ≡ l.lead = ap (λ x. get_or (x ++ encodes cs) 0 0) l.is in
    let long : length (encode c) ≡ n = ap length l.is ∙ (let k = l.long in let m = ap continuation_len first in omega arith) in
    let rest : drop n (encodes (c ∷ cs)) ≡ encodes cs = drop_at (encode c) (encodes cs) n long in
    record {
      c = c;
      is = chars-encodes (c ∷ cs) all ∙ ap (λ l. c ∷ l) (sym (chars-encodes cs t) ∙ ap chars (sym rest));
      within = omega (arith, length-append (encode c) (encodes cs));
      utf8 = (cs, (t, sym rest));
    }

step_by : (cs text : List ℕ) → scalars cs ≡ true → encodes cs ≡ text → 0 < length text → (n : ℕ) → n ≡ 1 + continuation_len (get_or text 0 0) → CharStep text n
step_by [] text s e l n f = absurd (omega (arith, ap length e))
step_by (c ∷ cs) text s e l n f =
    let parts = laws.both (scalar c) (scalars cs) s in
    subst (λ t. CharStep t n) e (step_of c cs parts.0 parts.1 s n (f ∙ ap (λ t. 1 + continuation_len (get_or t 0 0)) (sym e)))

pub char_step : (text : List ℕ) → IsUtf8 text → 0 < length text → (n : ℕ) → n ≡ 1 + continuation_len (get_or text 0 0) → CharStep text n
char_step text u l n e = step_by u.0 text u.1.0 u.1.1 l n e

-- a text that begins within another
pub rest_from : (text : List ℕ) (wanted : Option (List ℕ)) (at n to : ℕ) → at ≤ length text → to ≡ at + n → IsRest (drop at text) wanted (Some n) → IsRest text wanted (Some to)
rest_from text wanted at n to l f h =
    let same : drop n (drop at text) ≡ drop to text = drop-drop n at text ∙ ap (λ k. drop k text) (sym f) in
    (h.0 ∙ ap (λ t. Some (chars t)) same, omega (arith, h.1, length-drop at text), subst IsUtf8 same h.2)

pub first_here : (piece text u : List ℕ) → after_piece piece text ≡ Some u → after_first piece text ≡ Some u
unfolding after_first
first_here piece [] u h = h
first_here piece (c ∷ text) u h = ap (λ o. or_else o (after_first piece text)) h

pub first_later : (piece text later : List ℕ) (c : ℕ) → text ≡ c ∷ later → after_piece piece text ≡ None → after_first piece text ≡ after_first piece later
unfolding after_first
first_later piece text later c e h = ap (after_first piece) e ∙ ap (λ o. or_else o (after_first piece later)) (ap (after_piece piece) (sym e) ∙ h)

pub first_end : (piece text : List ℕ) → text ≡ [] → after_first piece text ≡ after_piece piece text
unfolding after_first
first_end piece text e = ap (after_first piece) e ∙ ap (after_piece piece) (sym e)

pub chars_end : (text : List ℕ) (at : ℕ) → length text ≤ at → chars (drop at text) ≡ []
chars_end text at l = ap chars (drop_all at text l) ∙ chars-nil

-- ---- the end of a text
pub whole_none : (wanted : Option (List ℕ)) → wanted ≡ None → passes is_empty wanted ≡ false
whole_none wanted e = ap (passes is_empty) e

some_first : (cs text : List ℕ) → encodes cs ≡ text → 0 < length text → is_empty cs ≡ false
some_first [] text e l = absurd (omega (arith, ap length e))
some_first (c ∷ cs) text e l = refl

no_rest : (text : List ℕ) → IsUtf8 text → 0 < length text → is_empty (chars text) ≡ false
no_rest text u l = some_first (chars text) text (encodes-chars text u) l

pub whole_yes : (text : List ℕ) (wanted : Option (List ℕ)) (n : ℕ) → IsRest text wanted (Some n) → n ≡ length text → passes is_empty wanted ≡ true
whole_yes text wanted n h e = ap (passes is_empty) h.0 ∙ ap is_empty (chars_end text n (omega arith))

pub whole_no : (text : List ℕ) (wanted : Option (List ℕ)) (n : ℕ) → IsRest text wanted (Some n) → (n ≡ length text → ⊥) → passes is_empty wanted ≡ false
whole_no text wanted n h e = ap (passes is_empty) h.0 ∙ no_rest (drop n text) h.2 (let le = h.1 in omega (arith, length-drop n text))

pub whole_by_end : (text : List ℕ) (wanted : Option (List ℕ)) (n m : ℕ) → m ≡ length text → IsRest text wanted (Some n) → (b : Bool) → (n == m) ≡ b → b ≡ passes is_empty wanted
whole_by_end text wanted n m l h true e = sym (whole_yes text wanted n h (eqb-true n m e ∙ l))
whole_by_end text wanted n m l h false e = sym (whole_no text wanted n h (λ same. let w : true ≡ false = sym (eq-eqb n m (same ∙ sym l)) ∙ e in cc))

pub ends_here : (piece text : List ℕ) → is_whole piece text ≡ true → ends_in piece text ≡ true
ends_here piece [] h = h
ends_here piece (c ∷ text) h = ap (λ b. b || ends_in piece text) h

pub ends_later : (piece text later : List ℕ) (c : ℕ) → text ≡ c ∷ later → is_whole piece text ≡ false → ends_in piece text ≡ ends_in piece later
ends_later piece text later c e h = ap (ends_in piece) e ∙ ap (λ b. b || ends_in piece later) (ap (is_whole piece) (sym e) ∙ h)

pub ends_end : (piece text : List ℕ) → text ≡ [] → ends_in piece text ≡ is_whole piece text
ends_end piece text e = ap (ends_in piece) e ∙ ap (is_whole piece) (sym e)
