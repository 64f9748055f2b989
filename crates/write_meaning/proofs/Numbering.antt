-- The numbers of texts in a table.
use Rattle.std.proofs.Common.{◌≡◌, ℕ, suc, ◌+◌, ◌<◌, ◌≤◌, Bool, true, false, eqb, bytes_eq, List, [], ◌∷◌, Option, Some, None, Less, Equal, Greater, nat_cmp, refl, sym, ap, ◌∙◌, arith, true≢false}
use Rattle.std.proofs.lemmas.Bool.Decides.{nat_tests}
use Rattle.std.proofs.lemmas.Cmp.{nat_list_cmp_total, tied_itself}
use Rattle.std.proofs.lemmas.Slice.Eq.{bytes_eq-Decides}
use Rattle.std.specs.Cmp.Lexicographic.{slice_cmp}
use Rattle.std.specs.Ordering.{ordering_reverse}
use Rattle.value_meaning.specs.Pairs.{IsBelow}
use Rattle.block_meaning.specs.Tables.{Table, TextsRise, text_from, text_of, last_symbol}
use Rattle.write_meaning.specs.Encoding.{number_from, number_of}

-- a text that was found stands at its number
pub record Stands (first : ℕ) (ts : Table) (s : List ℕ) (n : ℕ) : Type 0 where
  pub above : first ≤ n
  pub text : text_from first ts n ≡ Some s

found_here : (first : ℕ) (t s : List ℕ) (ts : Table) → bytes_eq t s ≡ true → number_from first (t ∷ ts) s ≡ Some first
found_here first t s ts e = rw e refl

found_later : (first : ℕ) (t s : List ℕ) (ts : Table) → bytes_eq t s ≡ false → number_from first (t ∷ ts) s ≡ number_from (suc first) ts s
found_later first t s ts e = rw e refl

some_is : (a b : ℕ) → let f : Option ℕ = Some a in f ≡ Some b → a ≡ b
some_is a b e = cc

stands_later : (first : ℕ) (t s : List ℕ) (ts : Table) (n : ℕ) → Stands (suc first) ts s n → Stands first (t ∷ ts) s n
stands_later first t s ts n r =
    let over : suc first ≤ n = r.above in
    let apart : eqb n first ≡ false = grind (arith, nat_tests) in
    record { above = omega arith; text = rw apart r.text }

stands_here : (first : ℕ) (t s : List ℕ) (ts : Table) → bytes_eq t s ≡ true → Stands first (t ∷ ts) s first
stands_here first t s ts e =
    let same : eqb first first ≡ true = grind (arith, nat_tests) in
    record { above = omega arith; text = rw same (ap Some ((bytes_eq-Decides t s).0 e)) }

pub stands : (first : ℕ) (ts : Table) (s : List ℕ) (n : ℕ) → number_from first ts s ≡ Some n → Stands first ts s n
stands first [] s n e = cc
stands first (t ∷ ts) s n e = at (bytes_eq t s) refl (λ k. stands (suc first) ts s n k)
  where
    at : (b : Bool) → bytes_eq t s ≡ b → (number_from (suc first) ts s ≡ Some n → Stands (suc first) ts s n) → Stands first (t ∷ ts) s n
    at true is later =
        let here : first ≡ n = some_is first n (sym (found_here first t s ts is) ∙ e) in
        rw (← here) (stands_here first t s ts is)
    at false is later = stands_later first t s ts n (later (sym (found_later first t s ts is) ∙ e))

pub below_trans : (a b c : List ℕ) → IsBelow a b → IsBelow b c → IsBelow a c
below_trans a b c h k = nat_list_cmp_total.trans a b c h k

pub not_both : (a b : List ℕ) → IsBelow a b → IsBelow b a → ⊥
not_both a b h k =
    let turned : slice_cmp nat_cmp a b ≡ ordering_reverse (slice_cmp nat_cmp b a) = nat_list_cmp_total.antisymm a b in
    let greater : slice_cmp nat_cmp a b ≡ Greater = turned ∙ ap ordering_reverse k in
    let clash : Less ≡ Greater = sym h ∙ greater in
    cc

pub not_itself : (a : List ℕ) → IsBelow a a → ⊥
not_itself a h = not_both a a h h

-- a text that is found behind another is above it
above_first : (first : ℕ) (t : List ℕ) (ts : Table) (s : List ℕ) (n : ℕ) → TextsRise (t ∷ ts) → number_from first ts s ≡ Some n → IsBelow t s
above_first first t [] s n r e = cc
above_first first t (u ∷ ts) s n r e = at (bytes_eq u s) refl (λ k. above_first (suc first) u ts s n r.1 k)
  where
    at : (b : Bool) → bytes_eq u s ≡ b → (number_from (suc first) ts s ≡ Some n → IsBelow u s) → IsBelow t s
    at true is later =
        let same : u ≡ s = (bytes_eq-Decides u s).0 is in
        rw (← same) r.0
    at false is later = below_trans t u s r.0 (later (sym (found_later first u s ts is) ∙ e))

pub tail_rises : (t : List ℕ) (ts : Table) → TextsRise (t ∷ ts) → TextsRise ts
tail_rises t [] r = tt
tail_rises t (u ∷ ts) r = r.1

-- the numbers rise with the texts
pub numbers_rise : (first : ℕ) (ts : Table) (s t : List ℕ) (n m : ℕ) → TextsRise ts → number_from first ts s ≡ Some n → number_from first ts t ≡ Some m → IsBelow s t → n < m
numbers_rise first [] s t n m r e f h = cc
numbers_rise first (u ∷ us) s t n m r e f h = at (bytes_eq u s) (bytes_eq u t) refl refl (λ k l. numbers_rise (suc first) us s t n m (tail_rises u us r) k l h)
  where
    at : (a b : Bool) → bytes_eq u s ≡ a → bytes_eq u t ≡ b → (number_from (suc first) us s ≡ Some n → number_from (suc first) us t ≡ Some m → n < m) → n < m
    at true true i j later =
        let same : s ≡ t = sym ((bytes_eq-Decides u s).0 i) ∙ (bytes_eq-Decides u t).0 j in
        let itself : IsBelow t t = rw same at h in
        absurd (not_itself t itself)
    at true false i j later =
        let here : first ≡ n = some_is first n (sym (found_here first u s us i) ∙ e) in
        let there = stands (suc first) us t m (sym (found_later first u t us j) ∙ f) in
        omega (arith, here, there.above)
    at false true i j later =
        let same : u ≡ t = (bytes_eq-Decides u t).0 j in
        let over : IsBelow u s = above_first (suc first) u us s n r (sym (found_later first u s us i) ∙ e) in
        absurd (not_both s t h (rw same at over))
    at false false i j later = later (sym (found_later first u s us i) ∙ e) (sym (found_later first u t us j) ∙ f)

pub number_stands : (table : Table) (s : List ℕ) (n : ℕ) → number_of table s ≡ Some n → (10 ≤ n) × (text_of table n ≡ Some s)
unfolding number_of text_of
number_stands table s n e = let r = stands 10 table s n e in (r.above, r.text)

pub number_rises : (table : Table) (s t : List ℕ) (n m : ℕ) → TextsRise table → number_of table s ≡ Some n → number_of table t ≡ Some m → IsBelow s t → n < m
unfolding number_of
number_rises table s t n m r e f h = numbers_rise 10 table s t n m r e f h

text_here : (first n : ℕ) (t : List ℕ) (ts : Table) → eqb n first ≡ true → text_from first (t ∷ ts) n ≡ Some t
text_here first n t ts e = rw e refl

text_later : (first n : ℕ) (t : List ℕ) (ts : Table) → eqb n first ≡ false → text_from first (t ∷ ts) n ≡ text_from (suc first) ts n
text_later first n t ts e = rw e refl

text_is : (s t : List ℕ) → let o : Option (List ℕ) = Some s in o ≡ Some t → s ≡ t
text_is s t e = cc

differs : (s t : List ℕ) (b : Bool) → bytes_eq t s ≡ b → IsBelow t s → b ≡ false
differs s t true e h =
    let same : t ≡ s = (bytes_eq-Decides t s).0 e in
    let itself : IsBelow s s = rw same at h in
    absurd (not_itself s itself)
differs s t false e h = refl

itself : (s : List ℕ) → bytes_eq s s ≡ true
itself s = (bytes_eq-Decides s s).1 refl

-- a text that stands at a number is found there
found : (first : ℕ) (ts : Table) (s : List ℕ) (n : ℕ) → TextsRise ts → text_from first ts n ≡ Some s → number_from first ts s ≡ Some n
found first [] s n r e = cc
found first (t ∷ ts) s n r e = at (eqb n first) refl (λ k. found (suc first) ts s n (tail_rises t ts r) k)
  where
    at : (b : Bool) → eqb n first ≡ b → (text_from (suc first) ts n ≡ Some s → number_from (suc first) ts s ≡ Some n) → number_from first (t ∷ ts) s ≡ Some n
    at true is later =
        let same : t ≡ s = text_is t s (sym (text_here first n t ts is) ∙ e) in
        let here : first ≡ n = grind (arith, nat_tests) in
        let equal : bytes_eq t s ≡ true = rw same (itself s) in
        found_here first t s ts equal ∙ ap Some here
    at false is later =
        let there = later (sym (text_later first n t ts is) ∙ e) in
        let below : IsBelow t s = above_first (suc first) t ts s n r there in
        found_later first t s ts (differs s t (bytes_eq t s) refl below) ∙ there

pub number_found : (table : Table) (s : List ℕ) (n : ℕ) → TextsRise table → text_of table n ≡ Some s → number_of table s ≡ Some n
unfolding number_of text_of
number_found table s n r e = found 10 table s n r e

pub number_absent : (table : Table) (s : List ℕ) → ((n : ℕ) → text_of table n ≡ Some s → ⊥) → number_of table s ≡ None
number_absent table s none = at (number_of table s) refl
  where
    at : (o : Option ℕ) → number_of table s ≡ o → number_of table s ≡ None
    at None e = e
    at (Some n) e = absurd (none n (number_stands table s n e).1)
