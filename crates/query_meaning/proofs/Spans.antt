-- What the lexer's spans are: where they lie in their text, and what their tokens are.
use Rattle.std.proofs.Common.{◌≡◌, ℕ, zero, suc, ◌+◌, ◌-◌, ◌<◌, ◌≤◌, List, [], ◌∷◌, length, get_or, take, drop, Option, Some, None, Bool, true, false, cond, refl, ap, sym, ◌∙◌, arith, length-take, length-drop}
use Rattle.std.specs.Prelude.{ℤ, pos, ◌-ℤ◌, ◌*ℤ◌, ◌==◌, ◌&&◌, nat_le, nat_lt, All, Result, Ok, Err, is_some}
use Rattle.std.specs.Option.{option_and_then}
use Rattle.std.proofs.lemmas.Bool.Decides.{nat_tests}
use Rattle.std.proofs.lemmas.List.{drop-drop, get_or-drop}
use Rattle.std.proofs.lemmas.List.Elements.{All-nil, All-cons}
use Rattle.time_meaning.specs.Moments.{IsTime, is_time, is_real, moment as moment_at}
use Rattle.time_meaning.specs.Texts.{time_of, local_time, in_range, date_at, behind_date, clock_at, fraction_at, zone_at}
use Rattle.query_meaning.specs.declared.TokenKind.{TokenKind}
use Rattle.query_meaning.specs.declared.TokenKind.TheVariants as k
use Rattle.query_meaning.specs.declared.Mark.{Mark}
use Rattle.query_meaning.specs.Words.{reserved_word}
use Rattle.query_meaning.specs.Lexing.{Span, Cut, is_space, starts_word, is_digit, is_word_byte, is_no_backtick, run, number_of, closing, or_one, number_cut, is_ended, quoted_or, name_cut, string_cut, moment_cut, one_sign, two_sign, sign_of, begins_with, begins_two, sign_cut, cut_at, cut_then, with_span, spans_from, spans_of}
use Rattle.tree_meaning.specs.Decimals.{decimal_on}
use Rattle.query_meaning.specs.Tokens.{word, no_token, inner, undoubled, if_mark, if_moment, if_num, token_of, meaning, tokens_in}
use Rattle.tree_meaning.specs.WellFormed.{IsName}
use Rattle.query_meaning.proofs.Steps.{some_is, map_then, if_then}
use Rattle.query_meaning.proofs.Formed.{IsToken, AreTokens}

-- the least length of a token: quotes and what stands between them
abbrev pub least : TokenKind → ℕ
least k.Word = 1
least k.Quoted = 3
least k.Str = 2
least k.Moment = 2
least k.Number = 1
least k.Sign = 1

-- so many bytes of the front are a token
pub record IsCut (bytes : List ℕ) (c : Cut) : Type 0 where
  pub wide : least c.0 ≤ c.1
  pub within : c.1 ≤ length bytes
  pub first : get_or bytes 0 0 < 128
  pub last : (i : ℕ) → suc i ≡ c.1 → get_or bytes i 0 < 128
  pub token : IsToken (token_of c.0 (take c.1 bytes))

ok_is : {A B : Type 0} (x y : A) → (let r : Result A B = Ok x in r) ≡ Ok y → x ≡ y
ok_is x y e = cc

word_small : (b : ℕ) → starts_word b ≡ true → b < 128
word_small b e = grind (arith, nat_tests)

digit_small : (b : ℕ) → is_digit b ≡ true → b < 128
digit_small b e = grind (arith, nat_tests)

word_byte_small : (b : ℕ) → is_word_byte b ≡ true → b < 128
word_byte_small b e = grind (arith, nat_tests)

run_fits : (p : ℕ → Bool) (bs : List ℕ) → run p bs ≤ length bs
run_fits p [] = omega arith
run_fits p (b ∷ bs) = elim (p b) as (λ t. cond t (suc (run p bs)) 0 ≤ length (b ∷ bs)) [ true ↦ omega (arith, run_fits p bs) | false ↦ omega arith ]

-- the last byte of a run and of what stands before it
run_last : (p : ℕ → Bool) → ((b : ℕ) → p b ≡ true → b < 128) → (b : ℕ) (bs : List ℕ) → b < 128 → get_or (b ∷ bs) (run p bs) 0 < 128
run_last p small b [] h = h
run_last p small b (c ∷ cs) h = go (λ e. run_last p small c cs (small c e)) (p c) refl
  where
    go : (p c ≡ true → get_or (c ∷ cs) (run p cs) 0 < 128) → (t : Bool) → p c ≡ t → get_or (b ∷ c ∷ cs) (cond t (suc (run p cs)) 0) 0 < 128
    go more true e = more e
    go more false e = h

-- the byte that ends a run
run_stops : (p : ℕ → Bool) (bs : List ℕ) → run p bs < length bs → p (get_or bs (run p bs) 0) ≡ false
run_stops p [] h = absurd (omega arith)
run_stops p (b ∷ bs) h = go (λ j. run_stops p bs j) (p b) refl h
  where
    go : (run p bs < length bs → p (get_or bs (run p bs) 0) ≡ false) → (t : Bool) → p b ≡ t → cond t (suc (run p bs)) 0 < length (b ∷ bs) → p (get_or (b ∷ bs) (cond t (suc (run p bs)) 0) 0) ≡ false
    go more true e h = more (omega arith)
    go more false e h = e

mark_or_word : (o : Option Mark) (n : List ℕ) → IsName n → IsToken (if_mark o (word n))
mark_or_word None n h = h
mark_or_word (Some m) n h = tt

mark_or_none : (o : Option Mark) → IsToken (if_mark o no_token)
mark_or_none None = tt
mark_or_none (Some m) = tt

-- the last byte, by its index
end_is : (bytes : List ℕ) (r : ℕ) → get_or bytes r 0 < 128 → (i : ℕ) → suc i ≡ suc r → get_or bytes i 0 < 128
end_is bytes r h i e = let same : i ≡ r = omega arith in rw same h

word_is : (b : ℕ) (bs : List ℕ) (c : Cut) → starts_word b ≡ true → (k.Word, suc (run is_word_byte bs)) ≡ c → IsCut (b ∷ bs) c
unfolding token_of
word_is b bs c t e =
    rw (← e) (record {
      wide = omega arith;
      within = omega (arith, run_fits is_word_byte bs);
      first = word_small b t;
      last = end_is (b ∷ bs) (run is_word_byte bs) (run_last is_word_byte word_byte_small b bs (word_small b t));
      token = mark_or_word (reserved_word (b ∷ take (run is_word_byte bs) bs)) (b ∷ take (run is_word_byte bs) bs) (omega arith);
    })

num_or_none : (n : ℕ) (t : Bool) → nat_le n 9_223_372_036_854_775_807 ≡ t → IsToken (if_num (cond t (Some n) None))
num_or_none n true e = let small : n ≤ 9_223_372_036_854_775_807 = grind (arith, nat_tests) in omega arith
num_or_none n false e = tt

num_is : (ds : List ℕ) → IsToken (if_num (number_of ds))
unfolding number_of
num_is ds = num_or_none (decimal_on 0 ds) (nat_le (decimal_on 0 ds) 9_223_372_036_854_775_807) refl

digits_are : (b : ℕ) (bs : List ℕ) (c : Cut) → is_digit b ≡ true → number_cut (b ∷ bs) ≡ Ok c → IsCut (b ∷ bs) c
unfolding number_cut token_of
digits_are b bs c t e =
    let all : run is_digit (b ∷ bs) ≡ suc (run is_digit bs) = rw t refl in
    if_then (is_some (number_of (take (run is_digit (b ∷ bs)) (b ∷ bs)))) _ _ _ e (λ _ h.
    if_then (is_ended (drop (run is_digit (b ∷ bs)) (b ∷ bs))) _ _ _ h (λ _ h2.
    rw (← ok_is _ _ h2, all) (record {
      wide = omega arith;
      within = omega (arith, run_fits is_digit bs);
      first = digit_small b t;
      last = end_is (b ∷ bs) (run is_digit bs) (run_last is_digit digit_small b bs (digit_small b t));
      token = num_is (take (suc (run is_digit bs)) (b ∷ bs));
    })) (λ _ h2. absurd cc)) (λ _ h. absurd cc)

-- a closing quote
record Closes (quote : ℕ) (bs : List ℕ) (n : ℕ) : Type 0 where
  some : 0 < n
  within : n ≤ length bs
  last : (i : ℕ) → suc i ≡ n → get_or bs i 0 ≡ quote

eq_from : (a b : ℕ) → (a == b) ≡ true → a ≡ b
eq_from a b e = grind (arith, nat_tests)

closes_one : (q b : ℕ) (bs : List ℕ) (n : ℕ) → b ≡ q → 1 ≡ n → Closes q (b ∷ bs) n
closes_one q b bs n e f =
    rw (← f) (record { some = omega arith; within = omega arith; last = λ i h. let first : i ≡ 0 = omega arith in rw first e })

-- a closing quote behind more bytes
closes_later : (q b : ℕ) (bs : List ℕ) (n : ℕ) → Closes q bs n → Closes q (b ∷ bs) (suc n)
closes_later q b bs n c = record { some = omega arith; within = omega (arith, c.within); last = later }
  where
    later : (i : ℕ) → suc i ≡ suc n → get_or (b ∷ bs) i 0 ≡ q
    later zero e = absurd (omega (arith, c.some))
    later (suc i) e = c.last i (omega arith)

or_one_is : (q b d : ℕ) (bs : List ℕ) (n : ℕ) → b ≡ q → ((m : ℕ) → closing q bs ≡ Some m → Closes q bs m) → (o : Option ℕ) → closing q bs ≡ o → or_one o ≡ Some n → Closes q (b ∷ d ∷ bs) n
or_one_is q b d bs n e more None f h = closes_one q b (d ∷ bs) n e (some_is _ _ h)
or_one_is q b d bs n e more (Some m) f h =
    rw (← some_is _ _ h) (closes_later q b (d ∷ bs) (suc m) (closes_later q d bs m (more m f)))

closing_is : (q : ℕ) (bs : List ℕ) (n : ℕ) → closing q bs ≡ Some n → Closes q bs n
closing_is q [] n e = absurd cc
closing_is q (b ∷ []) n e =
    if_then (b == q) _ _ _ e (λ t h. closes_one q b [] n (eq_from b q t) (some_is _ _ h)) (λ t h. absurd cc)
closing_is q (b ∷ d ∷ bs) n e =
    if_then (b == q) _ _ _ e
    (λ t h. if_then (d == q) _ _ _ h
    (λ u h2. or_one_is q b d bs n (eq_from b q t) (λ m f. closing_is q bs m f) (closing q bs) refl h2)
    (λ u h2. closes_one q b (d ∷ bs) n (eq_from b q t) (some_is _ _ h2)))
    (λ t h. map_then suc (closing q (d ∷ bs)) n h (λ m f g. rw (← g) (closes_later q b (d ∷ bs) m (closing_is q (d ∷ bs) m f))))

quote_last : (q : ℕ) (bs : List ℕ) (n : ℕ) → Closes q bs n → q < 128 → (i : ℕ) → suc i ≡ suc n → get_or (q ∷ bs) i 0 < 128
quote_last q bs n c h zero e = h
quote_last q bs n c h (suc i) e = rw (c.last i (omega arith)) h

undoubled_some : (q : ℕ) (bs : List ℕ) → 0 < length bs → 0 < length (undoubled q bs)
undoubled_some q [] h = h
undoubled_some q (b ∷ []) h = h
undoubled_some q (b ∷ c ∷ bs) h =
    elim (b == q && c == q) as (λ t. 0 < length (cond t (q ∷ undoubled q bs) (b ∷ undoubled q (c ∷ bs)))) [ true ↦ omega arith | false ↦ omega arith ]

-- what stands between the quotes of a name
inner_some : (b : ℕ) (bs : List ℕ) (n : ℕ) → 2 ≤ n → n ≤ length bs → 0 < length (inner (take (suc n) (b ∷ bs)))
inner_some b bs n h j = grind (arith, length-take)

-- what a quoted token needs
quoted_cut : (kind : TokenKind) (fewest q : ℕ) (bs : List ℕ) (c : Cut) (o : Option ℕ) → closing q bs ≡ o → quoted_or kind fewest o ≡ Ok c → (n : ℕ) × Closes q bs n × (fewest ≤ n) × ((kind, suc n) ≡ c)
quoted_cut kind fewest q bs c None f e = absurd cc
quoted_cut kind fewest q bs c (Some n) f e =
    if_then (nat_lt n fewest) _ _ _ e (λ t h. absurd cc) (λ t h. (n, closing_is q bs n f, grind (arith, nat_tests), ok_is _ _ h))

name_is : (bs : List ℕ) (c : Cut) → name_cut bs ≡ Ok c → IsCut (34 ∷ bs) c
unfolding name_cut token_of
name_is bs c e =
    let x = quoted_cut k.Quoted 2 34 bs c (closing 34 bs) refl e in
    rw (← x.3) (record {
      wide = omega (arith, x.2);
      within = omega (arith, x.1.within);
      first = omega arith;
      last = quote_last 34 bs x.0 x.1 (omega arith);
      token = undoubled_some 34 (inner (take (suc x.0) (34 ∷ bs))) (inner_some 34 bs x.0 x.2 x.1.within);
    })

string_is : (bs : List ℕ) (c : Cut) → string_cut bs ≡ Ok c → IsCut (39 ∷ bs) c
unfolding string_cut token_of
string_is bs c e =
    let x = quoted_cut k.Str 1 39 bs c (closing 39 bs) refl e in
    rw (← x.3) (record {
      wide = omega (arith, x.2);
      within = omega (arith, x.1.within);
      first = omega arith;
      last = quote_last 39 bs x.0 x.1 (omega arith);
      token = tt;
    })

no_backtick : (b : ℕ) → is_no_backtick b ≡ false → b < 128
no_backtick b e = grind (arith, nat_tests)

is_time_IsTime : (t : ℤ) → is_time t ≡ true → IsTime t
is_time_IsTime t e = grind (arith, nat_tests)

time_in : (t u : ℤ) → in_range t ≡ Some u → IsTime u
time_in t u e = if_then (is_time t) _ _ _ e (λ b h. let same = some_is _ _ h in rw (← same) (is_time_IsTime t b)) (λ b h. absurd cc)

time_if : (b : Bool) (t u : ℤ) → cond b (in_range t) None ≡ Some u → IsTime u
time_if true t u e = time_in t u e
time_if false t u e = absurd cc

local_is : (year month day hour minute second micros : ℕ) (ahead u : ℤ) → local_time year month day hour minute second micros ahead ≡ Some u → IsTime u
unfolding local_time
local_is year month day hour minute second micros ahead u e =
    time_if (is_real 0 year month day hour minute second) (moment_at year month day hour minute second micros -ℤ ahead *ℤ pos 60_000_000) u e

and_then : {A B P : Type 0} (f : A → Option B) (o : Option A) (y : B) → option_and_then f o ≡ Some y → ((x : A) → f x ≡ Some y → P) → P
and_then f None y e go = absurd cc
and_then f (Some x) y e go = go x e

time_is : (text : List ℕ) (u : ℤ) → time_of text ≡ Some u → IsTime u
unfolding time_of
time_is text u e =
    and_then _ (date_at text) u e (λ d h. and_then _ (behind_date d.3) u h (λ r h2. and_then _ (clock_at r) u h2
    (λ c h3. and_then _ (fraction_at c.3) u h3 (λ f h4. and_then _ (zone_at f.1) u h4 (λ z h5.
    local_is d.0 d.1 d.2 c.0 c.1 c.2 f.0 z u h5)))))

moment_or_none : (text : List ℕ) (o : Option ℤ) → time_of text ≡ o → IsToken (if_moment o)
moment_or_none text None e = tt
moment_or_none text (Some t) e = time_is text t e

moment_is : (bs : List ℕ) (c : Cut) → moment_cut bs ≡ Ok c → IsCut (96 ∷ bs) c
unfolding moment_cut token_of
moment_is bs c e =
    let n = run is_no_backtick bs in
    if_then (nat_lt n (length bs) && is_some (time_of (take n bs))) _ _ _ e (λ t h.
    let ends : run is_no_backtick bs < length bs = grind (arith, nat_tests) in
    rw (← ok_is (k.Moment, suc (suc (run is_no_backtick bs))) c h) (record {
      wide = omega arith;
      within = omega (arith, ends);
      first = omega arith;
      last = end_is (96 ∷ bs) (suc (run is_no_backtick bs)) (no_backtick _ (run_stops is_no_backtick bs ends));
      token = moment_or_none (inner (take (suc (suc (run is_no_backtick bs))) (96 ∷ bs))) (time_of (inner (take (suc (suc (run is_no_backtick bs))) (96 ∷ bs)))) refl;
    })) (λ t h. absurd cc)

two_small : (b c : ℕ) → is_some (two_sign b c) ≡ true → (b < 128) × (c < 128)
unfolding two_sign
two_small b c e = (grind (arith, nat_tests), grind (arith, nat_tests))

one_small : (b : ℕ) → is_some (one_sign b) ≡ true → b < 128
unfolding one_sign
one_small b e = grind (arith, nat_tests)

sign_two : (b : ℕ) (bs : List ℕ) → begins_two b bs ≡ true → IsCut (b ∷ bs) (k.Sign, 2)
unfolding token_of
sign_two b [] e = absurd cc
sign_two b (d ∷ bs) e =
    record {
      wide = omega arith;
      within = omega arith;
      first = (two_small b d e).0;
      last = end_is (b ∷ d ∷ bs) 1 (two_small b d e).1;
      token = mark_or_none (sign_of (b ∷ d ∷ []));
    }

sign_one : (b : ℕ) (bs : List ℕ) → is_some (one_sign b) ≡ true → IsCut (b ∷ bs) (k.Sign, 1)
unfolding token_of
sign_one b bs e =
    record {
      wide = omega arith;
      within = omega arith;
      first = one_small b e;
      last = end_is (b ∷ bs) 0 (one_small b e);
      token = mark_or_none (sign_of (b ∷ []));
    }

sign_is : (b : ℕ) (bs : List ℕ) (c : Cut) → sign_cut b bs ≡ Ok c → IsCut (b ∷ bs) c
unfolding sign_cut
sign_is b bs c e =
    if_then (b == 45 && begins_with 45 bs) _ _ _ e (λ t h. absurd cc) (λ _ h.
    if_then (begins_two b bs) _ _ _ h (λ t h2. rw (← ok_is (k.Sign, 2) c h2) (sign_two b bs t)) (λ _ h2.
    if_then (is_some (one_sign b)) _ _ _ h2 (λ t h3. rw (← ok_is (k.Sign, 1) c h3) (sign_one b bs t)) (λ t h3. absurd cc)))

quote_is : (b q : ℕ) (bs : List ℕ) (c : Cut) → (b == q) ≡ true → IsCut (q ∷ bs) c → IsCut (b ∷ bs) c
quote_is b q bs c t d = rw (eq_from b q t) d

pub cut_is : (b : ℕ) (bs : List ℕ) (c : Cut) → cut_at b bs ≡ Ok c → IsCut (b ∷ bs) c
unfolding cut_at
cut_is b bs c e =
    if_then (starts_word b) _ _ _ e (λ t h. word_is b bs c t (ok_is _ _ h)) (λ _ h.
    if_then (is_digit b) _ _ _ h (λ t h2. digits_are b bs c t h2) (λ _ h2.
    if_then (b == 34) _ _ _ h2 (λ t h3. quote_is b 34 bs c t (name_is bs c h3)) (λ _ h3.
    if_then (b == 39) _ _ _ h3 (λ t h4. quote_is b 39 bs c t (string_is bs c h4)) (λ _ h4.
    if_then (b == 96) _ _ _ h4 (λ t h5. quote_is b 96 bs c t (moment_is bs c h5)) (λ _ h5. sign_is b bs c h5)))))

cut_some : {P : Type 0} (at : ℕ) (r : Result Cut ℕ) (go : Cut → Result (List Span) ℕ) (ss : List Span) → cut_then at r go ≡ Ok ss → ((c : Cut) → r ≡ Ok c → go c ≡ Ok ss → P) → P
cut_some at (Ok c) go ss e f = f c refl e
cut_some at (Err n) go ss e f = absurd cc

with_some : {P : Type 0} (s : Span) (r : Result (List Span) ℕ) (ss : List Span) → with_span s r ≡ Ok ss → ((rest : List Span) → r ≡ Ok rest → s ∷ rest ≡ ss → P) → P
with_some s (Ok rest) ss e f = f rest refl (ok_is _ _ e)
with_some s (Err p) ss e f = absurd cc

-- where a span lies, and what its token is
pub record IsSpan (text : List ℕ) (s : Span) : Type 0 where
  pub wide : s.from + least s.kind ≤ s.to
  pub within : s.to ≤ length text
  pub first : get_or text s.from 0 < 128
  pub last : (i : ℕ) → suc i ≡ s.to → get_or text i 0 < 128
  pub token : IsToken (meaning text s)

least_some : (t : TokenKind) → 1 ≤ least t
least_some k.Word = omega arith
least_some k.Quoted = omega arith
least_some k.Str = omega arith
least_some k.Moment = omega arith
least_some k.Number = omega arith
least_some k.Sign = omega arith

module _ (text : List ℕ) where
  past : (at b : ℕ) (bs : List ℕ) → drop at text ≡ b ∷ bs → drop (at + 1) text ≡ bs
  past at b bs e = sym (drop-drop 1 at text ∙ ap (λ (n : ℕ). drop n text) (omega arith)) ∙ ap (drop 1) e

  room : (at b : ℕ) (bs : List ℕ) → drop at text ≡ b ∷ bs → at + suc (length bs) ≡ length text
  room at b bs e = let h : length (drop at text) ≡ suc (length bs) = ap length e in let d = length-drop at text in omega arith

  there : (at b : ℕ) (bs : List ℕ) → drop at text ≡ b ∷ bs → (i j : ℕ) → i ≡ at + j → get_or text i 0 ≡ get_or (b ∷ bs) j 0
  there at b bs e i j h = rw h (sym (get_or-drop at text j 0) ∙ ap (λ (l : List ℕ). get_or l j 0) e)

  span_is : (at b : ℕ) (bs : List ℕ) (c : Cut) → drop at text ≡ b ∷ bs → IsCut (b ∷ bs) c → IsSpan text (record { kind = c.0; from = at; to = at + c.1 })
  span_is at b bs c e d =
      let some = least_some c.0 in
      let width : at + c.1 - at ≡ c.1 = omega arith in
      record {
        wide = omega (arith, d.wide);
        within = omega (arith, d.within, room at b bs e);
        first = rw (there at b bs e at 0 (omega arith)) d.first;
        last = λ i h.
            let j = i - at in
            let wide = d.wide in
            let same : i ≡ at + (i - at) = omega arith in
            rw (there at b bs e i (i - at) same) (d.last (i - at) (omega arith));
        token = rw (width, e) d.token;
      }

  spans_are : (skip at : ℕ) (bs : List ℕ) (ss : List Span) → drop at text ≡ bs → spans_from skip at bs ≡ Ok ss → All (IsSpan text) ss
  spans_are zero at [] ss e h = rw (← ok_is [] ss h) (All-nil (IsSpan text))
  spans_are (suc skip) at [] ss e h = rw (← ok_is [] ss h) (All-nil (IsSpan text))
  spans_are (suc skip) at (b ∷ bs) ss e h = spans_are skip (at + 1) bs ss (past at b bs e) h
  spans_are zero at (b ∷ bs) ss e h =
      if_then (is_space b) _ _ _ h (λ _ h2. spans_are 0 (at + 1) bs ss (past at b bs e) h2) (λ _ h2.
      cut_some at (cut_at b bs) _ ss h2 (λ c f h3.
      with_some (record { kind = c.0; from = at; to = at + c.1 }) (spans_from (c.1 - 1) (at + 1) bs) ss h3 (λ rest r g.
      rw (← g) (All-cons (IsSpan text) (record { kind = c.0; from = at; to = at + c.1 }) rest (span_is at b bs c e (cut_is b bs c f)) (spans_are (c.1 - 1) (at + 1) bs rest (past at b bs e) r)))))

-- each token of a text lies in it and is what a token may be
pub spans-are : (text : List ℕ) (ss : List Span) → spans_of text ≡ Ok ss → All (IsSpan text) ss
unfolding spans_of
spans-are text ss e = spans_are text 0 0 text ss refl e

tokens_are : (text : List ℕ) (ss : List Span) → All (IsSpan text) ss → AreTokens (tokens_in text ss)
tokens_are text [] h = tt
tokens_are text (s ∷ ss) h =
    let first : IsSpan text s = h 0 s (omega arith) in
    (first.token, tokens_are text ss (λ k d j. h (suc k) d (omega (arith, j))))

pub tokens-are : (text : List ℕ) (ss : List Span) → spans_of text ≡ Ok ss → AreTokens (tokens_in text ss)
tokens-are text ss e = tokens_are text ss (spans-are text ss e)
