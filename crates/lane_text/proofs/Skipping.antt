-- A piece stands at no character whose first byte isn't its own.
use Rattle.std.proofs.Common.{◌≡◌, ◌≢◌, ℕ, zero, suc, ◌+◌, ◌-◌, ◌<◌, ◌≤◌, Bool, true, false, List, [], ◌∷◌, ◌++◌, ◌⊎◌, inl, inr, ⊎_elim, Option, None, refl, ap, sym, subst, ◌∙◌, cond, arith, length, drop, get_or}
use Rattle.std.specs.Prelude.{◌||◌, ◌==◌}
use Rattle.std.specs.Str.{IsUtf8, chars, all_scalars as scalars, encode_utf8_all as encodes}
use Rattle.std.specs.Char.{IsScalar, encode_utf8 as encode}
use Rattle.std.proofs.str.Laws as laws
use Rattle.std.proofs.Math.Utf8.{scalar}
use Rattle.std.proofs.lemmas.List.{drop_at, drop-drop, length-append, get_or-append-add}
use Rattle.std.proofs.lemmas.Bool.Decides.{nat_tests}
use Rattle.std.proofs.lemmas.Str.{encode_ascii, encodes-chars, scalars-chars, chars_from_encodes}
use Rattle.lane_text.specs.Pieces.{after_piece, after_first, ends_in}
use Rattle.lane_text.specs.Bytewise.{Halts, Skips}
use Rattle.lane_text.proofs.Leads.{Lead, lead, IsLead}
use Rattle.lane_text.proofs.CharSteps.{first_later, ends_later, whole_none}
use Rattle.lane_text.proofs.Search.{within_char, first_lead, not_within}

first_byte : (c : ℕ) (xs : List ℕ) (l : Lead c) → get_or (encode c ++ xs) 0 0 ≡ l.lead
first_byte c xs l = ap (λ x. get_or (x ++ xs) 0 0) l.is

-- a character has a byte
some_byte : (c : ℕ) → Lead c → 0 < length (encode c)
some_byte c l = omega (arith, ap length l.is)

differ : (a b : ℕ) → (a ≡ b → ⊥) → (a == b) ≡ false
differ a b h = grind (arith, nat_tests)

neither : (a b : Bool) (o : Option (List ℕ)) → a ≡ false → b ≡ false → cond (a || b) o None ≡ None
neither true b o f g = absurd (cc)
neither false true o f g = absurd (cc)
neither false false o f g = refl

none_here : (ps : List ℕ) → scalars ps ≡ true → 0 < length (encodes ps) → get_or (encodes ps) 0 0 ≢ 95 → (c : ℕ) (cs : List ℕ) → IsScalar c
    → get_or (encode c ++ encodes cs) 0 0 ≢ get_or (encodes ps) 0 0 → after_piece ps (c ∷ cs) ≡ None
unfolding after_piece
none_here [] s l n c cs t h = absurd (omega arith)
none_here (p ∷ ps) s l n c cs t h =
    neither (p == 95) (p == c) (after_piece ps cs)
    (differ p 95 (λ e. n (ap (λ x. get_or (encode x ++ encodes ps) 0 0) e ∙ ap (λ x. get_or (x ++ encodes ps) 0 0) (encode_ascii 95 (omega arith)))))
    (differ p c (λ e. h (first_byte c (encodes cs) (lead c t) ∙ sym (first_byte c (encodes ps) (lead c t)) ∙ ap (λ x. get_or (encode x ++ encodes ps) 0 0) (sym e))))

drop_later : (c : ℕ) (cs : List ℕ) (m n : ℕ) → length (encode c) + m ≡ n → drop n (encodes (c ∷ cs)) ≡ drop m (encodes cs)
drop_later c cs m n e =
    sym (drop-drop m (length (encode c)) (encodes (c ∷ cs)) ∙ ap (λ k. drop k (encodes (c ∷ cs))) e)
    ∙ ap (drop m) (drop_at (encode c) (encodes cs) (length (encode c)) refl)

-- what is left of a text from a place on, in characters
record Left (ps cs : List ℕ) (n : ℕ) : Type 0 where
  rest : List ℕ
  legal : scalars rest ≡ true
  is : drop n (encodes cs) ≡ encodes rest
  first : after_first ps cs ≡ after_first ps rest
  ends : ends_in ps cs ≡ ends_in ps rest

one_later : (ps : List ℕ) (c : ℕ) (cs : List ℕ) (m n : ℕ) → length (encode c) + m ≡ n → after_piece ps (c ∷ cs) ≡ None → Left ps cs m → Left ps (c ∷ cs) n
one_later ps c cs m n e none left = record {
  rest = left.rest;
  legal = left.legal;
  is = drop_later c cs m n e ∙ left.is;
  first = first_later ps (c ∷ cs) cs c refl none ∙ left.first;
  ends = ends_later ps (c ∷ cs) cs c refl (whole_none _ none) ∙ left.ends;
}

module _ (ps : List ℕ) (legal : scalars ps ≡ true) (some : 0 < length (encodes ps)) (literal : get_or (encodes ps) 0 0 ≢ 95) where
  past : (c : ℕ) (cs : List ℕ) (n : ℕ) → scalars (c ∷ cs) ≡ true → (suc n < length (encodes (c ∷ cs)) → IsLead (get_or (encodes (c ∷ cs)) (suc n) 0))
      → length (encode c) ≤ suc n
  past c cs n s there = ⊎_elim
      (λ h.
      let form = lead c (laws.both (scalar c) (scalars cs) s).0 in
      let range = within_char c (encodes cs) n form h in
      absurd (not_within (get_or (encodes (c ∷ cs)) (suc n) 0) (there (omega (arith, length-append (encode c) (encodes cs)))) (omega (arith, range.0)) (omega (arith, range.1))))
      (λ h. h)
      (laws.order (suc n) (length (encode c)))

  skip : (cs : List ℕ) → scalars cs ≡ true → (n : ℕ) → n ≤ length (encodes cs) → ((k : ℕ) → k < n → get_or (encodes cs) k 0 ≢ get_or (encodes ps) 0 0)
      → (n < length (encodes cs) → IsLead (get_or (encodes cs) n 0)) → Left ps cs n
  skip cs s zero l free there = record { rest = cs; legal = s; is = refl; first = refl; ends = refl }
  skip [] s (suc n) l free there = absurd (omega arith)
  skip (c ∷ cs) s (suc n) l free there =
      let parts = laws.both (scalar c) (scalars cs) s in
      let w = past c cs n s there in
      let long = length-append (encode c) (encodes cs) in
      let none = none_here ps legal some literal c cs parts.0 (free 0 (omega arith)) in
      let left : Left ps cs (suc n - length (encode c)) = skip cs parts.1 (suc n - length (encode c)) (omega arith)
      (λ k h e. free (length (encode c) + k) (omega arith) (get_or-append-add (encode c) (encodes cs) k 0 ∙ e))
      (λ h.
      let at : length (encode c) + (suc n - length (encode c)) ≡ suc n = omega arith in
      subst IsLead (ap (λ k. get_or (encodes (c ∷ cs)) k 0) (sym at) ∙ get_or-append-add (encode c) (encodes cs) (suc n - length (encode c)) 0) (there (omega arith))) in
      one_later ps c cs (suc n - length (encode c)) (suc n) (omega arith) none left

-- the same in bytes
halt_leads : (piece text : List ℕ) (n : ℕ) → IsUtf8 piece → 0 < length piece → (get_or text n 0 ≡ get_or piece 0 0) ⊎ (get_or text n 0 < 128) → IsLead (get_or text n 0)
halt_leads piece text n p l (inl e) = subst IsLead (sym e) (first_lead piece (chars piece) (scalars-chars piece p) (encodes-chars piece p) l)
halt_leads piece text n p l (inr h) = inl h

of_left : (ps text : List ℕ) (n : ℕ) → IsUtf8 text → Left ps (chars text) n → Skips ps text (drop n text)
of_left ps text n t left =
    let is : encodes left.rest ≡ drop n text = sym left.is ∙ ap (drop n) (encodes-chars text t) in
    let utf8 : IsUtf8 (drop n text) = (left.rest, (left.legal, is)) in
    let same : left.rest ≡ chars (drop n text) = chars_from_encodes left.rest (drop n text) utf8 is in
    record { utf8 = utf8; first = left.first ∙ ap (after_first ps) same; ends = left.ends ∙ ap (ends_in ps) same }

pub skips_to : (piece text : List ℕ) (n : ℕ) → IsUtf8 piece → IsUtf8 text → 0 < length piece → get_or piece 0 0 ≢ 95 → Halts (get_or piece 0 0) text n
    → Skips (chars piece) text (drop n text)
skips_to piece text n p t l literal h =
    let ps : encodes (chars piece) ≡ piece = encodes-chars piece p in
    let cs : encodes (chars text) ≡ text = encodes-chars text t in
    let same = ap (λ x. get_or x 0 0) ps in
    of_left (chars piece) text n t
    (skip (chars piece) (scalars-chars piece p) (subst (λ x. 0 < length x) (sym ps) l) (λ e. literal (sym same ∙ e))
    (chars text) (scalars-chars text t) n (subst (λ x. n ≤ length x) (sym cs) h.within)
    (λ k b e. h.free k b (ap (λ x. get_or x k 0) (sym cs) ∙ e ∙ same))
    (λ b. subst (λ x. IsLead (get_or x n 0)) (sym cs) (halt_leads piece text n p l (h.there (subst (λ x. n < length x) cs b)))))

pub not_empty : (n : ℕ) → (n == 0) ≡ false → 0 < n
not_empty n e = grind (arith, nat_tests)
