-- The reader answers exactly the moment that the payload denotes.
use Rattle.std.proofs.Common.{◌≡◌, ℕ, ◌+◌, ◌-◌, ◌*◌, ◌/◌, ◌%◌, ◌<◌, ◌≤◌, ◌^◌, Bool, true, false, not, ◌&&◌, ◌||◌, List, [], ◌∷◌, ◌++◌, length, Some, None, cond, ltb, leb, refl, sym, ◌∙◌, ap, arith, inl, inr, ℤ, pos}
use Rattle.std.proofs.lemmas.Bool.{ltb-false, le-ltb}
use Rattle.std.proofs.lemmas.Bool.Decides.{nat_tests}
use Rattle.block_meaning.specs.Numbers.{IsVarUInt, var_uint, IsVarInt, var_int, magnitude}
use Rattle.block_meaning.specs.Timestamps.{Leads, MayLead, ClockLeads, or_least, clock, HasClearSign, has_clear_sign, IsMinus, IsFraction, IsMicros, cut, fraction, moment_of, timestamp, IsTimestamp}
use Rattle.time_meaning.specs.Moments.{moment, is_real}
use Rattle.jiff_core.specs.Calendar.{IsDate, days_in_month}
use Rattle.jiff_core.proofs.SignedLemmas.{signed_arith}
use Rattle.block_meaning.proofs.Answered.{chosen, some_is, none_is, then_is, map_is, or_false}
use Rattle.block_meaning.proofs.NumberReading.{var_uint-takes, var_uint-again}

-- a number at the front, read and meant
pub leads-takes : (bytes : List ℕ) (n : ℕ) (rest : List ℕ) (Rest : List ℕ → Type 0) → var_uint bytes ≡ Some (n, rest) → Rest rest → Leads n Rest bytes
leads-takes bytes n rest Rest e r =
    let t = var_uint-takes bytes n rest e in
    (t.0, rest, t.2, t.1, r)

pub may-takes : (least : ℕ) (bytes : List ℕ) (n : ℕ) (rest : List ℕ) (Rest : List ℕ → Type 0) → or_least least bytes ≡ Some (n, rest) → Rest rest → MayLead least n Rest bytes
unfolding or_least
may-takes least [] n rest Rest e r =
    let p = some_is _ _ e in
    (sym (ap (λ (x : ℕ × List ℕ). x.0) p), rw (ap (λ (x : ℕ × List ℕ). x.1) p) r)
may-takes least (b ∷ bs) n rest Rest e r = leads-takes (b ∷ bs) n rest Rest e r

clock_takes : (bytes : List ℕ) (h m : ℕ) (rest : List ℕ) (Rest : List ℕ → Type 0) (x y : ℕ × List ℕ) → var_uint bytes ≡ Some x → var_uint x.1 ≡ Some y → ◌≡◌ {A = ℕ × ℕ × List ℕ} (x.0, y.0, y.1) (h, m, rest) → Rest rest → Leads h (Leads m Rest) bytes
clock_takes bytes h m rest Rest x y e f g r =
    let hi : x.0 ≡ h = ap (λ (x : ℕ × ℕ × List ℕ). x.0) g in
    let mi : y.0 ≡ m = ap (λ (x : ℕ × ℕ × List ℕ). x.1) g in
    let ri : y.1 ≡ rest = ap (λ (x : ℕ × ℕ × List ℕ). x.2) g in
    leads-takes bytes h x.1 (Leads m Rest) (e ∙ (rw (← hi) refl)) (leads-takes x.1 m rest Rest (f ∙ (rw (← mi, ← ri) refl)) r)

pub clock-takes : (bytes : List ℕ) (h m : ℕ) (rest : List ℕ) (Rest : List ℕ → Type 0) → clock bytes ≡ Some (h, m, rest) → Rest rest → ClockLeads h m Rest bytes
unfolding clock
clock-takes [] h m rest Rest e r =
    let p = some_is _ _ e in
    (sym (ap (λ (x : ℕ × ℕ × List ℕ). x.0) p), sym (ap (λ (x : ℕ × ℕ × List ℕ). x.1) p), rw (ap (λ (x : ℕ × ℕ × List ℕ). x.2) p) r)
clock-takes (b ∷ bs) h m rest Rest e r =
    let a = then_is _ (var_uint (b ∷ bs)) _ e in
    let c = map_is _ (var_uint (a.0).1) _ a.2 in
    clock_takes (b ∷ bs) h m rest Rest a.0 c.0 a.1 c.1 c.2 r

pub leads-again : (bytes : List ℕ) (n : ℕ) (Rest : List ℕ → Type 0) → Leads n Rest bytes → (rest : List ℕ) × (var_uint bytes ≡ Some (n, rest)) × Rest rest
leads-again bytes n Rest l = (l.1, rw l.2 (var_uint-again l.0 n l.1 l.3), l.4)

pub may-again : (least : ℕ) (bytes : List ℕ) (n : ℕ) (Rest : List ℕ → Type 0) → MayLead least n Rest bytes → (rest : List ℕ) × (or_least least bytes ≡ Some (n, rest)) × Rest rest
unfolding or_least
may-again least [] n Rest l = ([], rw l.0 refl, l.1)
may-again least (b ∷ bs) n Rest l = leads-again (b ∷ bs) n Rest l

pub clock-again : (bytes : List ℕ) (h m : ℕ) (Rest : List ℕ → Type 0) → ClockLeads h m Rest bytes → (rest : List ℕ) × (clock bytes ≡ Some (h, m, rest)) × Rest rest
unfolding clock
clock-again [] h m Rest l = ([], rw (l.0, l.1) refl, l.2)
clock-again (b ∷ bs) h m Rest l =
    let a = leads-again (b ∷ bs) h (Leads m Rest) l in
    let c = leads-again a.0 m Rest a.2 in
    (c.0, rw (a.1, c.1) refl, c.2)

-- a signed number: without its sign bit it is an unsigned one
int_takes : (z : Bool) (b first : ℕ) (bs : List ℕ) (n : ℕ) (rest : List ℕ) → first % 128 < 64 → b ≡ first + cond z 64 0 → var_uint (first ∷ bs) ≡ Some (n, rest) → (front : List ℕ) × IsVarInt front z n × (b ∷ bs ≡ front ++ rest)
int_takes z b first bs n rest h e f = int_front z b first bs n rest h e (var_uint-takes (first ∷ bs) n rest f)
  where
    int_front : (z : Bool) (b first : ℕ) (bs : List ℕ) (n : ℕ) (rest : List ℕ) → first % 128 < 64 → b ≡ first + cond z 64 0 → (front : List ℕ) × IsVarUInt front n × (first ∷ bs ≡ front ++ rest) → (front : List ℕ) × IsVarInt front z n × (b ∷ bs ≡ front ++ rest)
    int_front z b first bs n rest h e ([], s, p) = absurd s.spells
    int_front z b first bs n rest h e (x ∷ more, s, p) =
        let same : first ≡ x = cc in
        let tail : bs ≡ more ++ rest = cc in
        (b ∷ more, record { first = x; more = more; bare = rw (← same) h; spells = s; parts = rw (← same, e) refl }, ap (λ (t : List ℕ). b ∷ t) tail)

pub int-takes : (bytes : List ℕ) (z : Bool) (n : ℕ) (rest : List ℕ) → var_int bytes ≡ Some (z, n, rest) → (front : List ℕ) × IsVarInt front z n × (bytes ≡ front ++ rest)
unfolding var_int
int-takes [] z n rest e = absurd cc
int-takes (b ∷ bs) z n rest e =
    elim (chosen (ltb (b % 128) 64) _ _ _ e) [
      | inl t ↦
          let low : b % 128 < 64 = grind (arith, nat_tests, t.0) in
          let m = map_is _ (var_uint (b ∷ bs)) _ t.1 in
          let z-is : false ≡ z = ap (λ (x : Bool × ℕ × List ℕ). x.0) m.2 in
          let n-is : (m.0).0 ≡ n = ap (λ (x : Bool × ℕ × List ℕ). x.1) m.2 in
          let rest-is : (m.0).1 ≡ rest = ap (λ (x : Bool × ℕ × List ℕ). x.2) m.2 in
          int_takes z b b bs n rest low (rw (← z-is) (omega arith)) (m.1 ∙ (λ i. Some (n-is i, rest-is i)))
      | inr t ↦
          let high : 64 ≤ b % 128 = ltb-false _ _ t.0 in
          let m = map_is _ (var_uint ((b - 64) ∷ bs)) _ t.1 in
          let z-is : true ≡ z = ap (λ (x : Bool × ℕ × List ℕ). x.0) m.2 in
          let n-is : (m.0).0 ≡ n = ap (λ (x : Bool × ℕ × List ℕ). x.1) m.2 in
          let rest-is : (m.0).1 ≡ rest = ap (λ (x : Bool × ℕ × List ℕ). x.2) m.2 in
          int_takes z b (b - 64) bs n rest (omega arith) (rw (← z-is) (omega arith)) (m.1 ∙ (λ i. Some (n-is i, rest-is i)))
    ]

int_again : (z : Bool) (b first : ℕ) (bs : List ℕ) (n : ℕ) (rest : List ℕ) → first % 128 < 64 → b ≡ first + cond z 64 0 → var_uint (first ∷ bs) ≡ Some (n, rest) → var_int (b ∷ bs) ≡ Some (z, n, rest)
unfolding var_int
int_again false b first bs n rest h e f =
    let same : b ≡ first = omega arith in
    let test : ltb (b % 128) 64 ≡ true = grind (arith, nat_tests) in
    rw (test, same, f) refl
int_again true b first bs n rest h e f =
    let same : b - 64 ≡ first = omega arith in
    let test : ltb (b % 128) 64 ≡ false = le-ltb _ _ (omega arith) in
    rw (test, same, f) refl

pub int-again : (front : List ℕ) (z : Bool) (n : ℕ) (rest : List ℕ) → IsVarInt front z n → var_int (front ++ rest) ≡ Some (z, n, rest)
int-again front z n rest h =
    rw h.parts (int_again z (h.first + cond z 64 0) h.first (h.more ++ rest) n rest h.bare refl (var_uint-again (h.first ∷ h.more) n rest h.spells))

clear_is : (bytes : List ℕ) → not (has_clear_sign bytes) ≡ false → HasClearSign bytes
clear_is [] e = tt
clear_is (b ∷ bs) e = grind (arith, nat_tests)

clear_again : (bytes : List ℕ) → HasClearSign bytes → not (has_clear_sign bytes) ≡ false
clear_again [] h = refl
clear_again (b ∷ bs) h = grind (arith, nat_tests)

minus_is : (z : Bool) (n : ℕ) → (not z && ltb 0 n) ≡ false → IsMinus z n
minus_is true n e = tt
minus_is false n e = grind (arith, nat_tests)

minus_again : (z : Bool) (n : ℕ) → IsMinus z n → (not z && ltb 0 n) ≡ false
minus_again true n h = refl
minus_again false n h = grind (arith, nat_tests)

abbrev Cut : ℕ → List ℕ → ℕ → Type 0
Cut n bytes f = (length bytes ≤ 8) × HasClearSign bytes × (magnitude bytes < 10 ^ n) × (f ≡ magnitude bytes * 1_000_000 / 10 ^ n)

cut-takes : (n : ℕ) (bytes : List ℕ) (f : ℕ) → cut n bytes ≡ Some f → Cut n bytes f
unfolding cut
cut-takes n bytes f e =
    elim (chosen (ltb 8 (length bytes) || not (has_clear_sign bytes) || leb (10 ^ n) (magnitude bytes)) None (Some (magnitude bytes * 1_000_000 / 10 ^ n)) (Some f) e) [
      | inl t ↦ absurd (none_is f t.1)
      | inr t ↦
          let a = or_false (ltb 8 (length bytes) || not (has_clear_sign bytes)) (leb (10 ^ n) (magnitude bytes)) t.0 in
          let b = or_false (ltb 8 (length bytes)) (not (has_clear_sign bytes)) a.0 in
          (ltb-false _ _ b.0, clear_is bytes b.1, grind (arith, nat_tests, a.1), sym (some_is _ _ t.1))
    ]

cut-again : (n : ℕ) (bytes : List ℕ) (f : ℕ) → Cut n bytes f → cut n bytes ≡ Some f
unfolding cut
cut-again n bytes f h =
    let a : ltb 8 (length bytes) ≡ false = le-ltb _ _ h.0 in
    let c : leb (10 ^ n) (magnitude bytes) ≡ false = grind (arith, nat_tests, h.2) in
    rw (a, clear_again bytes h.1, c) (ap Some (sym h.3))

fraction_takes : (bytes : List ℕ) (f : ℕ) (x : Bool × ℕ × List ℕ) → var_int bytes ≡ Some x → cond (ltb 18 x.1 || (not x.0 && ltb 0 x.1)) None (cut x.1 x.2) ≡ Some f → IsFraction bytes f
fraction_takes bytes f x e g =
    elim (chosen (ltb 18 x.1 || (not x.0 && ltb 0 x.1)) None (cut x.1 x.2) (Some f) g) [
      | inl t ↦ absurd (none_is f t.1)
      | inr t ↦
          let tests = or_false (ltb 18 x.1) (not x.0 && ltb 0 x.1) t.0 in
          let i = int-takes bytes x.0 x.1 x.2 e in
          let k = cut-takes x.1 x.2 f t.1 in
          record { sign_set = x.0; places = x.1; exponent = i.0; coefficient = x.2; parts = i.2; spells = i.1; minus = minus_is x.0 x.1 tests.1; few = ltb-false _ _ tests.0; short = k.0; clear = k.1; proper = k.2; cut = k.3 }
    ]

fraction-takes : (bytes : List ℕ) (f : ℕ) → fraction bytes ≡ Some f → IsMicros f bytes
unfolding fraction
fraction-takes [] f e = sym (some_is _ _ e)
fraction-takes (b ∷ bs) f e =
    let a = then_is _ (var_int (b ∷ bs)) _ e in
    fraction_takes (b ∷ bs) f a.0 a.1 a.2

fraction_again : (bytes : List ℕ) (f : ℕ) → IsFraction bytes f → (x : Bool × ℕ × List ℕ) × (var_int bytes ≡ Some x) × (cond (ltb 18 x.1 || (not x.0 && ltb 0 x.1)) None (cut x.1 x.2) ≡ Some f)
fraction_again bytes f h =
    let few : ltb 18 h.places ≡ false = le-ltb _ _ h.few in
    ((h.sign_set, h.places, h.coefficient), rw h.parts (int-again h.exponent h.sign_set h.places h.coefficient h.spells), rw (few, minus_again h.sign_set h.places h.minus) (cut-again h.places h.coefficient f (h.short, h.clear, h.proper, h.cut)))

fraction-again : (bytes : List ℕ) (f : ℕ) → IsMicros f bytes → fraction bytes ≡ Some f
unfolding fraction
fraction-again [] f h = rw h refl
fraction-again (b ∷ bs) f h =
    let a = fraction_again (b ∷ bs) f h in
    rw a.1 a.2

abbrev Real : ℕ → ℕ → ℕ → ℕ → ℕ → ℕ → Type 0
Real y m d h i s = (1 ≤ y) × IsDate (pos y) (pos m) (pos d) × (h ≤ 23) × (i ≤ 59) × (s ≤ 59)

real-takes : (y m d h i s : ℕ) → is_real 1 y m d h i s ≡ true → Real y m d h i s
unfolding is_real
real-takes y m d h i s e =
    let a : 1 ≤ y = grind (arith, nat_tests, e) in
    let b : y ≤ 9999 = grind (arith, nat_tests, e) in
    let c : 1 ≤ m = grind (arith, nat_tests, e) in
    let k : m ≤ 12 = grind (arith, nat_tests, e) in
    let l : 1 ≤ d = grind (arith, nat_tests, e) in
    let n : d ≤ days_in_month (pos y) m = grind (arith, nat_tests, e) in
    (a, ((omega (arith, signed_arith), omega (arith, signed_arith)), (omega (arith, signed_arith), omega (arith, signed_arith)), (omega (arith, signed_arith), omega (arith, signed_arith))), grind (arith, nat_tests, e), grind (arith, nat_tests, e), grind (arith, nat_tests, e))

real-again : (y m d h i s : ℕ) → Real y m d h i s → is_real 1 y m d h i s ≡ true
unfolding is_real
real-again y m d h i s r =
    let a : y ≤ 9999 = omega (arith, signed_arith) in
    let b : 1 ≤ m = omega (arith, signed_arith) in
    let c : m ≤ 12 = omega (arith, signed_arith) in
    let e : 1 ≤ d = omega (arith, signed_arith) in
    let f : d ≤ days_in_month (pos y) m = omega (arith, signed_arith, r.1) in
    grind (arith, nat_tests, r.0, r.2, r.3, r.4)

-- the chain of the fields
module _ (t : ℤ) (payload : List ℕ) where
  abbrev Chain : (Bool × ℕ × List ℕ) → (ℕ × List ℕ) → (ℕ × List ℕ) → (ℕ × List ℕ) → (ℕ × ℕ × List ℕ) → (ℕ × List ℕ) → ℕ → Type 0
  Chain o y m d c s f =
      (var_int payload ≡ Some o) × (o.1 ≤ 1439) × (var_uint o.2 ≡ Some y) × (or_least 1 y.1 ≡ Some m) × (or_least 1 m.1 ≡ Some d) × (clock d.1 ≡ Some c) × (or_least 0 c.2 ≡ Some s) × (fraction s.1 ≡ Some f) × Real y.0 m.0 d.0 c.0 c.1 s.0 × (t ≡ moment y.0 m.0 d.0 c.0 c.1 s.0 f)

  chain-means : (o : Bool × ℕ × List ℕ) (y m d : ℕ × List ℕ) (c : ℕ × ℕ × List ℕ) (s : ℕ × List ℕ) (f : ℕ) → Chain o y m d c s f → IsTimestamp t payload
  chain-means o y m d c s f h =
      let i = int-takes payload o.0 o.1 o.2 h.0 in
      let r = h.8 in
      record { west = o.0; minutes = o.1; offset = i.0; fields = o.2; year = y.0; month = m.0; day = d.0; hour = c.0; minute = c.1; second = s.0; micros = f; parts = i.2; spells = i.1; within = h.1; stand = leads-takes o.2 y.0 y.1 (MayLead 1 m.0 (MayLead 1 d.0 (ClockLeads c.0 c.1 (MayLead 0 s.0 (IsMicros f))))) h.2 (may-takes 1 y.1 m.0 m.1 (MayLead 1 d.0 (ClockLeads c.0 c.1 (MayLead 0 s.0 (IsMicros f)))) h.3 (may-takes 1 m.1 d.0 d.1 (ClockLeads c.0 c.1 (MayLead 0 s.0 (IsMicros f))) h.4 (clock-takes d.1 c.0 c.1 c.2 (MayLead 0 s.0 (IsMicros f)) h.5 (may-takes 0 c.2 s.0 s.1 (IsMicros f) h.6 (fraction-takes s.1 f h.7))))); past = r.0; date = r.1; hours = r.2; minutes_in = r.3; seconds = r.4; at = h.9 }

  chain-read : (o : Bool × ℕ × List ℕ) (y m d : ℕ × List ℕ) (c : ℕ × ℕ × List ℕ) (s : ℕ × List ℕ) (f : ℕ) → Chain o y m d c s f → timestamp payload ≡ Some t
  unfolding timestamp moment_of
  chain-read o y m d c s f h =
      let near : ltb 1439 o.1 ≡ false = le-ltb _ _ h.1 in
      let real = real-again y.0 m.0 d.0 c.0 c.1 s.0 h.8 in
      rw (h.0, near, h.2, h.3, h.4, h.5, h.6, h.7, real) (ap Some (sym h.9))

  pub meant-is-read : IsTimestamp t payload → timestamp payload ≡ Some t
  meant-is-read h =
      let y = leads-again h.fields h.year (MayLead 1 h.month (MayLead 1 h.day (ClockLeads h.hour h.minute (MayLead 0 h.second (IsMicros h.micros))))) h.stand in
      let m = may-again 1 y.0 h.month (MayLead 1 h.day (ClockLeads h.hour h.minute (MayLead 0 h.second (IsMicros h.micros)))) y.2 in
      let d = may-again 1 m.0 h.day (ClockLeads h.hour h.minute (MayLead 0 h.second (IsMicros h.micros))) m.2 in
      let c = clock-again d.0 h.hour h.minute (MayLead 0 h.second (IsMicros h.micros)) d.2 in
      let s = may-again 0 c.0 h.second (IsMicros h.micros) c.2 in
      chain-read (h.west, h.minutes, h.fields) (h.year, y.0) (h.month, m.0) (h.day, d.0) (h.hour, h.minute, c.0) (h.second, s.0) h.micros
      (rw h.parts (int-again h.offset h.west h.minutes h.fields h.spells), h.within, y.1, m.1, d.1, c.1, s.1, fraction-again s.0 h.micros s.2, (h.past, h.date, h.hours, h.minutes_in, h.seconds), h.at)

  real_is : (y m d h i s f : ℕ) → moment_of y m d h i s f ≡ Some t → Real y m d h i s × (t ≡ moment y m d h i s f)
  unfolding moment_of
  real_is y m d h i s f e =
      elim (chosen (is_real 1 y m d h i s) (Some (moment y m d h i s f)) None (Some t) e) [
        | inl p ↦ (real-takes y m d h i s p.0, sym (some_is _ _ p.1))
        | inr p ↦ absurd (none_is t p.1)
      ]

  pub read-is-meant : timestamp payload ≡ Some t → IsTimestamp t payload
  unfolding timestamp
  read-is-meant e =
      let o = then_is _ (var_int payload) _ e in
      elim (chosen (ltb 1439 (o.0).1) None _ (Some t) o.2) [
        | inl p ↦ absurd (none_is t p.1)
        | inr p ↦
            let y = then_is _ (var_uint (o.0).2) _ p.1 in
            let m = then_is _ (or_least 1 (y.0).1) _ y.2 in
            let d = then_is _ (or_least 1 (m.0).1) _ m.2 in
            let c = then_is _ (clock (d.0).1) _ d.2 in
            let s = then_is _ (or_least 0 (c.0).2) _ c.2 in
            let f = then_is _ (fraction (s.0).1) _ s.2 in
            let r = real_is (y.0).0 (m.0).0 (d.0).0 (c.0).0 (c.0).1 (s.0).0 f.0 f.2 in
            chain-means o.0 y.0 m.0 d.0 c.0 s.0 f.0 (o.1, ltb-false _ _ p.0, y.1, m.1, d.1, c.1, s.1, f.1, r.0, r.1)
      ]
