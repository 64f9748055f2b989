-- Where a text, whose case may be folded, has a sign.
use Rattle.std.proofs.Common.{◌≡◌, ℕ, ◌+◌, ◌<◌, ◌≤◌, Bool, true, false, List, ◌⊎◌, inl, inr, ⊎_elim, Option, None, Some, refl, ap, sym, subst, ◌∙◌, arith, length, get_or}
use Rattle.std.specs.Prelude.{◌||◌, ◌==◌, unwrap_or}
use Rattle.std.specs.Char.{to_ascii_lowercase, to_ascii_uppercase}
use Rattle.std.proofs.lemmas.Bool.{eqb-true, eq-eqb}
use Rattle.std.proofs.str.Laws as laws
use Rattle.memchr.specs.Find.{IsFirstByte, is_byte, is_byte2}
use Rattle.lane_text.specs.Bytewise.{folded, Halts}
use Rattle.lane_text.proofs.Folding.{unfolded, folded_length, folded_at}

-- the place that a search gives
abbrev place_in : List ℕ → Option ℕ → ℕ
place_in text r = unwrap_or r (length text)

plain_place : (sign : ℕ) (text : List ℕ) (r : Option ℕ) → IsFirstByte (is_byte sign) text r → Halts sign text (place_in text r)
plain_place sign text None h = record {
  within = omega arith;
  free = λ k l e. h k (omega arith) l (eq-eqb (get_or text k 0) sign e);
  there = λ l. absurd (omega arith);
}
plain_place sign text (Some n) h = record {
  within = let l = h.0.high in omega arith;
  free = λ k l e. h.0.before k (omega arith) l (eq-eqb (get_or text k 0) sign e);
  there = λ l. inl (eqb-true (get_or text n 0) sign h.1);
}

-- ---- folded
lower_of : (x sign : ℕ) → to_ascii_lowercase x ≡ sign → (x ≡ sign) ⊎ (x ≡ to_ascii_uppercase sign)
lower_of x sign e = ⊎_elim
    (λ (l : x < 65). inl (let same : to_ascii_lowercase x ≡ x = grind arith in sym same ∙ e))
    (λ (l : 65 ≤ x). ⊎_elim
    (λ (m : x < 91). inr (let low : to_ascii_lowercase x ≡ x + 32 = grind arith in let up : to_ascii_uppercase sign ≡ x = grind arith in sym up))
    (λ (m : 91 ≤ x). inl (let same : to_ascii_lowercase x ≡ x = grind arith in sym same ∙ e))
    (laws.order x 91))
    (laws.order x 65)

has_one : (x sign : ℕ) → (x ≡ sign) ⊎ (x ≡ to_ascii_uppercase sign) → (x == sign || x == to_ascii_uppercase sign) ≡ true
has_one x sign (inl e) = ap (λ b. b || x == to_ascii_uppercase sign) (eq-eqb x sign e)
has_one x sign (inr e) = either (x == sign) (x == to_ascii_uppercase sign) (eq-eqb x (to_ascii_uppercase sign) e)
  where
    either : (a b : Bool) → b ≡ true → (a || b) ≡ true
    either true b h = refl
    either false b h = h

which_by : (a b : Bool) (x sign up : ℕ) → (x == sign) ≡ a → (x == up) ≡ b → (a || b) ≡ true → (x ≡ sign) ⊎ (x ≡ up)
which_by true b x sign up e f h = inl (eqb-true x sign e)
which_by false true x sign up e f h = inr (eqb-true x up f)
which_by false false x sign up e f h = absurd (cc)

lower_sign : (x sign : ℕ) → (x ≡ sign) ⊎ (x ≡ to_ascii_uppercase sign) → (to_ascii_lowercase x ≡ sign) ⊎ (to_ascii_lowercase x < 128)
lower_sign x sign (inl e) = ⊎_elim
    (λ (l : x < 128). inr (let k : to_ascii_lowercase x < 128 = grind arith in k))
    (λ (l : 128 ≤ x). inl (let same : to_ascii_lowercase x ≡ x = grind arith in same ∙ e))
    (laws.order x 128)
lower_sign x sign (inr e) = ⊎_elim
    (λ (l : x < 128). inr (let k : to_ascii_lowercase x < 128 = grind arith in k))
    (λ (l : 128 ≤ x). inl (let same : to_ascii_lowercase x ≡ x = grind arith in let up : to_ascii_uppercase sign ≡ sign = grind arith in same ∙ e ∙ up))
    (laws.order x 128)

folded_place : (sign : ℕ) (text : List ℕ) (r : Option ℕ) → IsFirstByte (is_byte2 sign (to_ascii_uppercase sign)) text r → Halts sign (folded true text) (place_in text r)
folded_place sign text None h =
    let long = folded_length true text in
    record {
      within = omega arith;
      free = λ k l e. h k (omega arith) l (has_one (get_or text k 0) sign (lower_of (get_or text k 0) sign (sym (folded_at true text k l) ∙ e)));
      there = λ l. absurd (omega arith);
    }
folded_place sign text (Some n) h =
    let long = folded_length true text in
    let high = h.0.high in
    record {
      within = omega arith;
      free = λ k l e. h.0.before k (omega arith) l (has_one (get_or text k 0) sign (lower_of (get_or text k 0) sign (sym (folded_at true text k (omega arith)) ∙ e)));
      there = λ l. at_place (get_or text n 0) (get_or (folded true text) n 0) sign (folded_at true text n (omega arith)) (lower_sign (get_or text n 0) sign (which_by (get_or text n 0 == sign) (get_or text n 0 == to_ascii_uppercase sign) (get_or text n 0) sign (to_ascii_uppercase sign) refl refl h.1));
    }
  where
    at_place : (x y sign : ℕ) → y ≡ to_ascii_lowercase x → (to_ascii_lowercase x ≡ sign) ⊎ (to_ascii_lowercase x < 128) → (y ≡ sign) ⊎ (y < 128)
    at_place x y sign e (inl h) = inl (e ∙ h)
    at_place x y sign e (inr h) = inr (omega arith)

-- the same, where fold is known
pub place_plain : (fold : Bool) (sign : ℕ) (text : List ℕ) (r : Option ℕ) → fold ≡ false → IsFirstByte (is_byte sign) text r
    → Halts sign (folded fold text) (unwrap_or r (length text))
place_plain true sign text r e h = absurd (cc)
place_plain false sign text r e h = subst (λ t. Halts sign t (unwrap_or r (length text))) (sym (unfolded text)) (plain_place sign text r h)

pub place_folded : (fold : Bool) (sign up : ℕ) (text : List ℕ) (r : Option ℕ) → fold ≡ true → up ≡ to_ascii_uppercase sign → IsFirstByte (is_byte2 sign up) text r
    → Halts sign (folded fold text) (unwrap_or r (length text))
place_folded true sign up text r e f h = folded_place sign text r (subst (λ u. IsFirstByte (is_byte2 sign u) text r) f h)
place_folded false sign up text r e f h = absurd (cc)
