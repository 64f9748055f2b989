-- Numbers that words write.
use Rattle.std.proofs.Common.{◌≡◌, ℕ, ◌<◌, ◌≤◌, ◌^◌, Bool, not, true, false, List, Some, None, Result, Ok, refl, sym, ap, subst, ◌∙◌, arith}
use Rattle.std.specs.Prelude.{◌&&◌, nat_le, if◌then◌else◌}
use Rattle.std.specs.Fmt.{decimal}
use Rattle.std.specs.Str.{bytes_eq}
use Rattle.std.specs.Str.Parse.{digits_value, ParsesUnsigned}
use Rattle.std.proofs.lemmas.Fmt.{decimal_is_IsNumeral, parse-decimal}
use Rattle.std.proofs.lemmas.Slice.Eq.{bytes_eq-Decides}
use Rattle.std.proofs.lemmas.Bool.{leb-true, le-leb}
use Rattle.snel_words.specs.declared.fronts.Limits.{Limits}
use Rattle.snel_words.specs.Words.{is_number_in, number_in}

-- a test that was turned round
pub not_true : (r b : Bool) → r ≡ not b → r ≡ true → b ≡ false
not_true r true e h = sym h ∙ e
not_true r false e h = refl

pub not_false : (r b : Bool) → r ≡ not b → r ≡ false → b ≡ true
not_false r true e h = refl
not_false r false e h = sym h ∙ e

pub both : {b : Bool} {P : Type 0} → b ≡ false → b ≡ true → P
both e f = absurd (cc)

-- three tests that hold
all_hold : (a b c : Bool) → a ≡ true → b ≡ true → c ≡ true → (a && b && c) ≡ true
all_hold a b c e f g = cc

pub first_of : (a b c : Bool) → (a && b && c) ≡ true → a ≡ true
first_of true b c e = refl
first_of false b c e = e

pub second_of : (a b c : Bool) → (a && b && c) ≡ true → b ≡ true
second_of true true c e = refl
second_of true false c e = e
second_of false b c e = absurd (cc)

third_of : (a b c : Bool) → (a && b && c) ≡ true → c ≡ true
third_of true true c e = e
third_of true false c e = absurd (cc)
third_of false b c e = absurd (cc)

value_of : (n : ℕ) (word : List ℕ) → n < 2 ^ 64 → word ≡ decimal n → digits_value 10 word ≡ n
value_of n word small e = ap (digits_value 10) e ∙ (decimal_is_IsNumeral n small).1

-- a number within the limits is read as that number
pub number_some : (limits : Limits) (n : ℕ) (word : List ℕ) → n < 2 ^ 64 → word ≡ decimal n → limits.least ≤ n → n ≤ limits.most → Some n ≡ number_in limits word
unfolding number_in
number_some limits n word small e low high =
    let v : digits_value 10 word ≡ n = value_of n word small e in
    let a : bytes_eq word (decimal (digits_value 10 word)) ≡ true = (bytes_eq-Decides word (decimal (digits_value 10 word))).1 (e ∙ ap decimal (sym v)) in
    let b : nat_le limits.least (digits_value 10 word) ≡ true = le-leb limits.least (digits_value 10 word) (subst (λ (k : ℕ). limits.least ≤ k) (sym v) low) in
    let c : nat_le (digits_value 10 word) limits.most ≡ true = le-leb (digits_value 10 word) limits.most (subst (λ (k : ℕ). k ≤ limits.most) (sym v) high) in
    let t : is_number_in limits word ≡ true =
    all_hold (bytes_eq word (decimal (digits_value 10 word))) (nat_le limits.least (digits_value 10 word)) (nat_le (digits_value 10 word) limits.most) a b c in
    ap (λ (k : ℕ). Some k) (sym v) ∙ sym (ap (λ (x : Bool). if x then Some (digits_value 10 word) else None) t)

-- where no number within the limits is written, none is read
pub number_none : (limits : Limits) (word : List ℕ) → ((n : ℕ) → word ≡ decimal n → limits.least ≤ n → n ≤ limits.most → ⊥) → None ≡ number_in limits word
unfolding number_in
number_none limits word none = go (is_number_in limits word) refl
  where
    go : (x : Bool) → is_number_in limits word ≡ x → None ≡ (if is_number_in limits word then Some (digits_value 10 word) else None)
    go false e = sym (ap (λ (x : Bool). if x then Some (digits_value 10 word) else None) e)
    go true e =
        let a = first_of (bytes_eq word (decimal (digits_value 10 word))) (nat_le limits.least (digits_value 10 word)) (nat_le (digits_value 10 word) limits.most) e in
        let b = second_of (bytes_eq word (decimal (digits_value 10 word))) (nat_le limits.least (digits_value 10 word)) (nat_le (digits_value 10 word) limits.most) e in
        let c = third_of (bytes_eq word (decimal (digits_value 10 word))) (nat_le limits.least (digits_value 10 word)) (nat_le (digits_value 10 word) limits.most) e in
        absurd (none (digits_value 10 word) ((bytes_eq-Decides word (decimal (digits_value 10 word))).0 a)
        (leb-true limits.least (digits_value 10 word) b) (leb-true (digits_value 10 word) limits.most c))

-- a word that doesn't parse writes no number
pub unread_none : {E : Type 0} (w : ℕ) (limits : Limits) (word : List ℕ) (r : Result ℕ E) → limits.most < 2 ^ 64 → ((n : ℕ) → n ≤ limits.most → n < 2 ^ w) → ParsesUnsigned w 10 word r → ((n : ℕ) → r ≡ Ok n → ⊥) → None ≡ number_in limits word
unread_none w limits word r narrow most reads bad =
    number_none limits word (λ n e low high. bad n (parse-decimal w n word r (most n high) (omega arith) e reads))

same_ok : {E : Type 0} (a b : ℕ) (r : Result ℕ E) → r ≡ Ok a → r ≡ Ok b → a ≡ b
same_ok a b r e f = cc

-- a word that parses as a number, but isn't its decimal form, or one that is outside the limits
pub other_none : {E : Type 0} (w : ℕ) (limits : Limits) (word : List ℕ) (m : ℕ) (r : Result ℕ E) → limits.most < 2 ^ 64 → ((n : ℕ) → n ≤ limits.most → n < 2 ^ w) → ParsesUnsigned w 10 word r → r ≡ Ok m → (decimal m ≡ word → limits.least ≤ m → m ≤ limits.most → ⊥) → None ≡ number_in limits word
other_none w limits word m r narrow most reads is bad =
    number_none limits word (λ n e low high.
    let k : r ≡ Ok n = parse-decimal w n word r (most n high) (omega arith) e reads in
    let same : m ≡ n = same_ok m n r is k in
    bad (ap decimal same ∙ sym e) (omega arith) (omega arith))
