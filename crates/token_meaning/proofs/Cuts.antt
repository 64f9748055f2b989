-- What the lexer takes at a place is the longest token there.
use Rattle.std.proofs.Common.{◌≡◌, ℕ, zero, suc, ◌+◌, ◌-◌, ◌<◌, ◌≤◌, List, [], ◌∷◌, length, take, drop, Bool, true, false, cond, Option, Some, None, refl, ap, sym, ◌∙◌, arith, length-take}
use Rattle.std.specs.Prelude.{◌&&◌, ◌==◌, nat_le, nat_lt, not, is_some, Result, Ok, Err}
use Rattle.std.specs.List.{list_all}
use Rattle.std.proofs.lemmas.Bool.Decides.{nat_tests}
use Rattle.time_meaning.specs.Texts.{time_of}
use Rattle.query_meaning.specs.declared.TokenKind.{TokenKind}
use Rattle.query_meaning.specs.declared.TokenKind.TheVariants as k
use Rattle.query_meaning.specs.Lexing.{Cut, starts_word, is_digit, is_word_byte, is_no_backtick, run, number_of, is_ended, closing, number_cut, quoted_or, name_cut, string_cut, moment_cut, one_sign, two_sign, sign_of, begins_with, begins_two, sign_cut, cut_at}
use Rattle.query_meaning.proofs.Steps.{if_then}
use Rattle.query_meaning.proofs.Spans.{IsCut, cut_is, least}
use Rattle.token_meaning.specs.Spelling.{is_spelled, is_number, closes, closes_once}
use Rattle.token_meaning.specs.Standing.{may_precede, IsLongest}
use Rattle.token_meaning.proofs.Runs.{run_all, run_most}
use Rattle.token_meaning.proofs.Quotes.{closing_closes, past, closing_most, once_closes, once_most}
use Rattle.token_meaning.proofs.Begun.{opens, no_other, equal, digit_no_word, IsOther, one_is_other, two_is_other, opens_other}

-- a cut whose bytes are spelled, and whose kind has no longer token there
record IsBest (b : ℕ) (bs : List ℕ) (c : Cut) : Type 0 where
  kind : opens b ≡ c.0
  spelled : is_spelled c.0 (take c.1 (b ∷ bs)) ≡ true
  behind : may_precede c.0 (take c.1 (b ∷ bs)) (drop c.1 (b ∷ bs)) ≡ true
  most : (m : ℕ) → c.1 < suc m → m ≤ length bs → is_spelled c.0 (b ∷ take m bs) ≡ false

ok_is : {A B : Type 0} (x y : A) → (let r : Result A B = Ok x in r) ≡ Ok y → x ≡ y
ok_is x y e = cc

word_best : (b : ℕ) (bs : List ℕ) → starts_word b ≡ true → IsBest b bs (k.Word, suc (run is_word_byte bs))
word_best b bs t = record {
  kind = rw t refl;
  spelled = rw t (run_all is_word_byte bs);
  behind = refl;
  most = λ m h j. rw t (run_most is_word_byte bs m (omega (arith, h)) j);
}

number_best : (b : ℕ) (bs : List ℕ) (c : Cut) → is_digit b ≡ true → number_cut (b ∷ bs) ≡ Ok c → IsBest b bs c
unfolding number_cut
number_best b bs c t e =
    let all : run is_digit (b ∷ bs) ≡ suc (run is_digit bs) = rw t refl in
    if_then (is_some (number_of (take (run is_digit (b ∷ bs)) (b ∷ bs)))) _ _ _ e (λ some h.
    if_then (is_ended (drop (run is_digit (b ∷ bs)) (b ∷ bs))) _ _ _ h (λ ended h2.
    rw (← ok_is _ _ h2, all) (record {
      kind = rw (digit_no_word b t, t) refl;
      spelled = rw (t, run_all is_digit bs) (sym (ap (λ (n : ℕ). is_some (number_of (take n (b ∷ bs)))) all) ∙ some);
      behind = sym (ap (λ (n : ℕ). is_ended (drop n (b ∷ bs))) all) ∙ ended;
      most = λ m h3 j. rw (t, run_most is_digit bs m (omega (arith, h3)) j) refl;
    })) (λ _ h2. absurd cc)) (λ _ h. absurd cc)

-- what is quoted is some token's, with its closing quote at the longest place
quoted_cut : {P : Type 0} (kind : TokenKind) (fewest q : ℕ) (bs : List ℕ) (c : Cut) (o : Option ℕ) → closing q bs ≡ o → quoted_or kind fewest o ≡ Ok c → ((n : ℕ) → closing q bs ≡ Some n → fewest ≤ n → (kind, suc n) ≡ c → P) → P
quoted_cut kind fewest q bs c None f e go = absurd cc
quoted_cut kind fewest q bs c (Some n) f e go =
    if_then (nat_lt n fewest) _ _ _ e (λ t h. absurd cc) (λ t h. go n f (grind (arith, nat_tests)) (ok_is _ _ h))

string_best : (b : ℕ) (bs : List ℕ) (c : Cut) → b ≡ 39 → string_cut bs ≡ Ok c → IsBest b bs c
unfolding string_cut
string_best b bs c t e =
    rw t (quoted_cut k.Str 1 39 bs c (closing 39 bs) refl e (λ n f g h. rw (← h) (record {
      kind = refl;
      spelled = closing_closes 39 bs n f;
      behind = refl;
      most = λ m i j. closing_most 39 bs m (rw f (omega (arith, i))) j;
    })))

-- a name between quotes
name_spelled : (x : List ℕ) → 2 ≤ length x → closes 34 x ≡ true → is_spelled k.Quoted (34 ∷ x) ≡ true
name_spelled [] h e = absurd (omega (arith, h))
name_spelled (c ∷ []) h e = absurd (omega (arith, h))
name_spelled (c ∷ d ∷ x) h e = e

no_name : (x : List ℕ) → closes 34 x ≡ false → is_spelled k.Quoted (34 ∷ x) ≡ false
no_name [] e = refl
no_name (c ∷ []) e = refl
no_name (c ∷ d ∷ x) e = e

name_best : (b : ℕ) (bs : List ℕ) (c : Cut) → b ≡ 34 → name_cut bs ≡ Ok c → c.1 ≤ length (b ∷ bs) → IsBest b bs c
unfolding name_cut
name_best b bs c t e w =
    rw t (quoted_cut k.Quoted 2 34 bs c (closing 34 bs) refl e (λ n f g h.
    let wide : suc n ≤ suc (length bs) = rw (ap (λ (x : Cut). x.1) h) w in
    let long : length (take n bs) ≡ n = grind (arith, length-take) in
    rw (← h) (record {
      kind = refl;
      spelled = name_spelled (take n bs) (rw long g) (closing_closes 34 bs n f);
      behind = refl;
      most = λ m i j. no_name (take m bs) (closing_most 34 bs m (rw f (omega (arith, i))) j);
    })))

-- a front of a longer front
take-take : (n : ℕ) (bs : List ℕ) → take n (take (suc n) bs) ≡ take n bs
take-take zero bs = refl
take-take (suc n) [] = refl
take-take (suc n) (b ∷ bs) = ap (λ (x : List ℕ). b ∷ x) (take-take n bs)

no_moment : (x : List ℕ) → closes_once x ≡ false → is_spelled k.Moment (96 ∷ x) ≡ false
no_moment x e = rw e refl

moment_spelled : (bs : List ℕ) (n : ℕ) → n < length bs → closes_once (take (suc n) bs) ≡ true → is_some (time_of (take n bs)) ≡ true → is_spelled k.Moment (96 ∷ take (suc n) bs) ≡ true
moment_spelled bs n h e t =
    let long : length (take (suc n) bs) - 1 ≡ n = grind (arith, length-take) in
    rw (e, long, take-take n bs) t

both : {P : Type 0} (a b : Bool) → (a && b) ≡ true → (a ≡ true → b ≡ true → P) → P
both true b e go = go refl e
both false b e go = absurd cc

moment_best : (b : ℕ) (bs : List ℕ) (c : Cut) → b ≡ 96 → moment_cut bs ≡ Ok c → IsBest b bs c
unfolding moment_cut
moment_best b bs c t e =
    let n = run is_no_backtick bs in
    rw t (if_then (nat_lt n (length bs) && is_some (time_of (take n bs))) _ _ _ e (λ u h.
    both (nat_lt n (length bs)) (is_some (time_of (take n bs))) u (λ i some.
    let ends : run is_no_backtick bs < length bs = grind (arith, nat_tests) in
    rw (← ok_is (k.Moment, suc (suc (run is_no_backtick bs))) c h) (record {
      kind = refl;
      spelled = moment_spelled bs (run is_no_backtick bs) ends (once_closes bs ends) some;
      behind = refl;
      most = λ m g j. no_moment (take m bs) (once_most bs m (omega (arith, g)) j);
    }))) (λ u h. absurd cc))

-- no three bytes are a sign
sign_three : (b : ℕ) (bs : List ℕ) (m : ℕ) → 2 ≤ m → m ≤ length bs → is_some (sign_of (b ∷ take m bs)) ≡ false
unfolding sign_of
sign_three b bs zero h j = absurd (omega (arith, h))
sign_three b bs (suc zero) h j = absurd (omega (arith, h))
sign_three b [] (suc (suc m)) h j = absurd (omega (arith, j))
sign_three b (c ∷ []) (suc (suc m)) h j = absurd (omega (arith, j))
sign_three b (c ∷ d ∷ bs) (suc (suc m)) h j = refl

-- no sign of two bytes begins with a minus
no_two : (c : ℕ) → is_some (two_sign 45 c) ≡ false
unfolding two_sign
no_two c = refl

sign_two : (b : ℕ) (bs : List ℕ) → begins_two b bs ≡ true → IsBest b bs (k.Sign, 2)
unfolding sign_of
sign_two b [] e = absurd cc
sign_two b (c ∷ bs) e = record {
  kind = opens_other b (two_is_other b c e);
  spelled = e;
  behind = no_minus (b == 45) refl;
  most = λ m h j. sign_three b (c ∷ bs) m (omega (arith, h)) j;
}
  where
    no_minus : (t : Bool) → (b == 45) ≡ t → not (t && begins_with 45 bs) ≡ true
    no_minus true f =
        let minus : b ≡ 45 = equal b 45 f in
        let none : is_some (two_sign b c) ≡ false = rw minus (no_two c) in absurd cc
    no_minus false f = refl

-- a second byte makes no sign of it
sign_more : (b : ℕ) (bs : List ℕ) (m : ℕ) → begins_two b bs ≡ false → 1 ≤ m → m ≤ length bs → is_some (sign_of (b ∷ take m bs)) ≡ false
unfolding sign_of
sign_more b bs zero e h j = absurd (omega (arith, h))
sign_more b [] (suc zero) e h j = absurd (omega (arith, j))
sign_more b (c ∷ bs) (suc zero) e h j = e
sign_more b bs (suc (suc m)) e h j = sign_three b bs (suc (suc m)) (omega arith) j

sign_one : (b : ℕ) (bs : List ℕ) → (b == 45 && begins_with 45 bs) ≡ false → begins_two b bs ≡ false → is_some (one_sign b) ≡ true → IsBest b bs (k.Sign, 1)
unfolding sign_of
sign_one b bs a f e = record {
  kind = opens_other b (one_is_other b e);
  spelled = e;
  behind = ap not a;
  most = λ m h j. sign_more b bs m f (omega (arith, h)) j;
}

sign_best : (b : ℕ) (bs : List ℕ) (c : Cut) → sign_cut b bs ≡ Ok c → IsBest b bs c
unfolding sign_cut
sign_best b bs c e =
    if_then (b == 45 && begins_with 45 bs) _ _ _ e (λ t h. absurd cc) (λ a h.
    if_then (begins_two b bs) _ _ _ h (λ t h2. rw (← ok_is (k.Sign, 2) c h2) (sign_two b bs t)) (λ f h2.
    if_then (is_some (one_sign b)) _ _ _ h2 (λ t h3. rw (← ok_is (k.Sign, 1) c h3) (sign_one b bs a f t)) (λ t h3. absurd cc)))

best : (b : ℕ) (bs : List ℕ) (c : Cut) → cut_at b bs ≡ Ok c → c.1 ≤ length (b ∷ bs) → IsBest b bs c
unfolding cut_at
best b bs c e w =
    if_then (starts_word b) _ _ _ e (λ t h. rw (← ok_is (k.Word, suc (run is_word_byte bs)) c h) (word_best b bs t)) (λ _ h.
    if_then (is_digit b) _ _ _ h (λ t h2. number_best b bs c t h2) (λ _ h2.
    if_then (b == 34) _ _ _ h2 (λ t h3. name_best b bs c (equal b 34 t) h3 w) (λ _ h3.
    if_then (b == 39) _ _ _ h3 (λ t h4. string_best b bs c (equal b 39 t) h4) (λ _ h4.
    if_then (b == 96) _ _ _ h4 (λ t h5. moment_best b bs c (equal b 96 t) h5) (λ _ h5. sign_best b bs c h5)))))

least_some : (t : TokenKind) → 1 ≤ least t
least_some k.Word = omega arith
least_some k.Quoted = omega arith
least_some k.Str = omega arith
least_some k.Moment = omega arith
least_some k.Number = omega arith
least_some k.Sign = omega arith

-- the token that the lexer takes is the longest one at the front
pub cut_is_longest : (b : ℕ) (bs : List ℕ) (c : Cut) → cut_at b bs ≡ Ok c → IsLongest c.0 c.1 (b ∷ bs)
cut_is_longest b bs c e =
    let cut : IsCut (b ∷ bs) c = cut_is b bs c e in
    let found : IsBest b bs c = best b bs c e cut.within in
    record {
      some = omega (arith, cut.wide, least_some c.0);
      within = cut.within;
      spelled = found.spelled;
      behind = found.behind;
      longest = no_other c.0 b bs c.1 found.kind found.most;
    }
