-- The printed text of a time spells it, and between backticks it is taken as the time.
use Rattle.std.proofs.Common.{◌≡◌, ℕ, suc, ◌+◌, ◌-◌, ◌*◌, ◌/◌, ◌%◌, ◌<◌, ◌≤◌, List, [], ◌∷◌, ◌++◌, length, Bool, true, false, cond, ℤ, pos, ◌+ℤ◌, ◌-ℤ◌, ◌*ℤ◌, Some, Ok, refl, ◌∙◌, arith, append_assoc, length-append}
use Rattle.std.specs.Prelude.{◌==◌, nat_le, nat_lt}
use Rattle.std.proofs.Math.Seq.{take-append_seam}
use Rattle.std.proofs.lemmas.Bool.Decides.{nat_tests}
use Rattle.std.proofs.lemmas.Int.{ints}
use Rattle.jiff_core.specs.Calendar.{days_in_month}
use Rattle.jiff_core.proofs.CalendarLemmas.{days_in_month_bounds}
use Rattle.jiff_core.proofs.SignedLemmas.{signed_arith}
use Rattle.time_meaning.specs.Moments.{IsTime, is_time, moment, is_real}
use Rattle.time_meaning.specs.Dates.{year_of, month_of, day_of}
use Rattle.time_meaning.specs.Printed.{digit, two, four, six, to_second, day_at, micros_at, time_text, after_second}
use Rattle.time_meaning.specs.Texts.{behind_date, local_time, time_of}
use Rattle.query_meaning.specs.declared.TokenKind.TheVariants as k
use Rattle.query_meaning.specs.Lexing.{run, is_no_backtick, moment_cut, cut_at}
use Rattle.query_meaning.specs.Tokens.{inner, token_of, moment as moment_token}
use Rattle.print_meaning.specs.Pieces.{spelling}
use Rattle.print_meaning.proofs.DatesShown.{IsDay, IsDateOf, date_shown}
use Rattle.print_meaning.proofs.TimeDigits.{date_back, clock_back, fraction_back, zone_back}
use Rattle.print_meaning.proofs.Lexed.{Lexes}
use Rattle.print_meaning.proofs.PlainWords.{each, run_over}

-- a time is its day and the microseconds within it
record IsWhole (t day : ℤ) (micros : ℕ) : Type 0 where
  day_in : IsDay day
  small : micros < 86_400_000_000
  whole : day *ℤ pos 86_400_000_000 +ℤ pos micros ≡ t

whole_time : (t : ℤ) → IsTime t → IsWhole t (day_at t) (micros_at t)
whole_time t h = record { day_in = (omega (arith, signed_arith), omega (arith, signed_arith)); small = omega (arith, signed_arith); whole = omega (arith, signed_arith) }

time_is : (t : ℤ) → IsTime t → is_time t ≡ true
time_is t h = grind (arith, ints)

lt_test : (a b : ℕ) → a < b → nat_lt a b ≡ true
lt_test a b h = grind (arith, nat_tests)

le_test : (a b : ℕ) → a ≤ b → nat_le a b ≡ true
le_test a b h = grind (arith, nat_tests)

real_is : (day : ℤ) (y m d h i s : ℕ) → IsDateOf day y m d → h ≤ 23 → i ≤ 59 → s ≤ 59 → is_real 0 y m d h i s ≡ true
unfolding is_real
real_is day y m d h i s w a b c =
    rw (le_test 0 y (omega arith), le_test y 9999 w.to_year, le_test 1 m w.from_month, le_test m 12 w.to_month, le_test 1 d w.from_day, le_test d (days_in_month (pos y) m) w.to_day, le_test h 23 a, le_test i 59 b, le_test s 59 c) refl

moment_is : (t day : ℤ) (micros y m d : ℕ) → IsWhole t day micros → IsDateOf day y m d → moment y m d (micros / 1_000_000 / 3600) (micros / 1_000_000 / 60 % 60) (micros / 1_000_000 % 60) (micros % 1_000_000) ≡ t
unfolding moment
moment_is t day micros y m d w date =
    let parts : ((micros / 1_000_000 / 3600 * 60 + micros / 1_000_000 / 60 % 60) * 60 + micros / 1_000_000 % 60) * 1_000_000 + micros % 1_000_000 ≡ micros = omega arith in
    rw (date.is_day, parts) w.whole

local_is : (t day : ℤ) (micros y m d : ℕ) → IsTime t → IsWhole t day micros → IsDateOf day y m d → local_time y m d (micros / 1_000_000 / 3600) (micros / 1_000_000 / 60 % 60) (micros / 1_000_000 % 60) (micros % 1_000_000) (pos 0) ≡ Some t
unfolding local_time
local_is t day micros y m d h w date =
    let small = w.small in
    let same : t -ℤ pos 0 *ℤ pos 60_000_000 ≡ t = omega (arith, signed_arith) in
    rw (real_is day y m d (micros / 1_000_000 / 3600) (micros / 1_000_000 / 60 % 60) (micros / 1_000_000 % 60) date (omega arith) (omega arith) (omega arith), moment_is t day micros y m d w date, same, time_is t h) refl

-- the text of a date and a clock time is read as they are
spells : (y m d h i s micros : ℕ) → y < 10_000 → m < 100 → d < 100 → h < 100 → i < 100 → s < 100 → micros < 1_000_000 → time_of (to_second y m d h i s ++ after_second micros) ≡ local_time y m d h i s micros (pos 0)
unfolding time_of behind_date
spells y m d h i s micros a b c e f g k =
    rw (date_back y m d (84 ∷ two h ++ 58 ∷ two i ++ 58 ∷ two s ++ after_second micros) a b c, clock_back h i s (after_second micros) e f g, fraction_back micros k, zone_back) refl

day_bound : (y m d : ℕ) → d ≤ days_in_month (pos y) m → d < 100
day_bound y m d h = omega (arith, days_in_month_bounds (pos y) m)

pub time_again : (t : ℤ) → IsTime t → time_of (time_text t) ≡ Some t
unfolding time_text
time_again t h =
    let w = whole_time t h in
    let small = w.small in
    let date = date_shown (day_at t) w.day_in in
    let micros = micros_at t in
    let y = year_of (day_at t) in
    let m = month_of (day_at t) in
    let d = day_of (day_at t) in
    spells y m d (micros / 1_000_000 / 3600) (micros / 1_000_000 / 60 % 60) (micros / 1_000_000 % 60) (micros % 1_000_000)
    (omega (arith, date.to_year)) (omega (arith, date.to_month)) (day_bound y m d date.to_day) (omega arith) (omega arith) (omega arith) (omega arith)
    ∙ local_is t (day_at t) micros y m d h w date

-- no byte of a printed time is a backtick
digit_plain : (n : ℕ) → is_no_backtick (digit n) ≡ true
digit_plain n = let below : n % 10 < 10 = omega arith in go (n % 10) below
  where
    go : (k : ℕ) → k < 10 → is_no_backtick (k + 48) ≡ true
    go k h = let apart : (k + 48 == 96) ≡ false = grind (arith, nat_tests) in rw apart refl

each_append : (p : ℕ → Bool) (xs ys : List ℕ) → each p xs ≡ true → each p ys ≡ true → each p (xs ++ ys) ≡ true
each_append p [] ys h k = k
each_append p (x ∷ xs) ys h k = go (p x) h (λ g. each_append p xs ys g k)
  where
    go : (t : Bool) → cond t (each p xs) false ≡ true → (each p xs ≡ true → each p (xs ++ ys) ≡ true) → cond t (each p (xs ++ ys)) false ≡ true
    go true g next = next g
    go false g next = absurd cc

two_plain : (n : ℕ) (rest : List ℕ) → each is_no_backtick rest ≡ true → each is_no_backtick (two n ++ rest) ≡ true
two_plain n rest h = rw (digit_plain (n / 10), digit_plain n) h

second_plain : (y m d h i s : ℕ) (rest : List ℕ) → each is_no_backtick rest ≡ true → each is_no_backtick (to_second y m d h i s ++ rest) ≡ true
second_plain y m d h i s rest k =
    two_plain (y / 100) (two y ++ 45 ∷ two m ++ 45 ∷ two d ++ 84 ∷ two h ++ 58 ∷ two i ++ 58 ∷ two s ++ rest) (two_plain y (45 ∷ two m ++ 45 ∷ two d ++ 84 ∷ two h ++ 58 ∷ two i ++ 58 ∷ two s ++ rest)
    (two_plain m (45 ∷ two d ++ 84 ∷ two h ++ 58 ∷ two i ++ 58 ∷ two s ++ rest) (two_plain d (84 ∷ two h ++ 58 ∷ two i ++ 58 ∷ two s ++ rest)
    (two_plain h (58 ∷ two i ++ 58 ∷ two s ++ rest) (two_plain i (58 ∷ two s ++ rest) (two_plain s rest k))))))

rest_plain : (n : ℕ) → each is_no_backtick (after_second n) ≡ true
rest_plain n = go (n == 0)
  where
    go : (b : Bool) → each is_no_backtick (cond b (90 ∷ []) (46 ∷ six n ++ 90 ∷ [])) ≡ true
    go true = refl
    go false = two_plain (n / 10_000) (four n ++ 90 ∷ []) (two_plain (n / 100) (two n ++ 90 ∷ []) (two_plain n (90 ∷ []) refl))

plain : (t : ℤ) → each is_no_backtick (time_text t) ≡ true
unfolding time_text
plain t = second_plain (year_of (day_at t)) (month_of (day_at t)) (day_of (day_at t)) (micros_at t / 1_000_000 / 3600) (micros_at t / 1_000_000 / 60 % 60) (micros_at t / 1_000_000 % 60) (after_second (micros_at t % 1_000_000)) (rest_plain (micros_at t % 1_000_000))

inside : (w : List ℕ) → inner (96 ∷ w ++ 96 ∷ []) ≡ w
inside w =
    let size : length (96 ∷ w ++ 96 ∷ []) - 2 ≡ length w = omega (arith, length-append w (96 ∷ [])) in
    rw size (take-append_seam w (96 ∷ []))

text_cut : (w rest : List ℕ) (t : ℤ) → each is_no_backtick w ≡ true → time_of w ≡ Some t → cut_at 96 ((w ++ 96 ∷ []) ++ rest) ≡ Ok (k.Moment, suc (length (w ++ 96 ∷ [])))
unfolding cut_at moment_cut
text_cut w rest t p e =
    let joined : (w ++ 96 ∷ []) ++ rest ≡ w ++ 96 ∷ rest = append_assoc w (96 ∷ []) rest in
    let size : suc (length w) ≡ length (w ++ 96 ∷ []) = omega (arith, length-append w (96 ∷ [])) in
    let over : run is_no_backtick (w ++ 96 ∷ rest) ≡ length w = run_over is_no_backtick w (96 ∷ rest) p refl in
    let short : nat_lt (length w) (length (w ++ 96 ∷ rest)) ≡ true = lt_test (length w) (length (w ++ 96 ∷ rest)) (omega (arith, length-append w (96 ∷ rest))) in
    rw (joined, over, short, take-append_seam w (96 ∷ rest), e, size) refl

means_moment : (w : List ℕ) (t : ℤ) → time_of w ≡ Some t → token_of k.Moment (96 ∷ w ++ 96 ∷ []) ≡ moment_token t
unfolding token_of
means_moment w t e = rw (inside w, e) refl

pub moment_lexes : (t : ℤ) (rest : List ℕ) → IsTime t → Lexes (moment_token t) rest
unfolding spelling
moment_lexes t rest h =
    record {
      kind = k.Moment;
      head = 96;
      tail = time_text t ++ 96 ∷ [];
      bytes = refl;
      visible = refl;
      cut = text_cut (time_text t) rest t (plain t) (time_again t h);
      means = means_moment (time_text t) t (time_again t h);
      allowed = refl;
    }
