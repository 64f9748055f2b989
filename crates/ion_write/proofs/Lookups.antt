-- Looking up the number of a text by a binary search.
use Rattle.std.proofs.Common.{◌≡◌, ◌↔◌, ℕ, zero, suc, ◌+◌, ◌-◌, ◌<◌, ◌≤◌, Bool, true, false, List, [], ◌∷◌, length, get_or, map, Option, Some, None, Bor, slice_get, eqb, refl, sym, ap, ◌∙◌, arith}
use Rattle.std.proofs.lemmas.Bool.Decides.{nat_tests}
use Rattle.std.specs.Ordering.{nat_cmp, ordering_index}
use Rattle.std.specs.declared.cmp.Ordering.{Ordering}
use Rattle.std.specs.declared.cmp.Ordering.TheVariants.{Less, Equal, Greater}
use Rattle.std.specs.Cmp.Lexicographic.{slice_cmp}
use Rattle.std.specs.List.Sorted.{IsNonDecreasingBy, IsPartitionPoint}
use Rattle.std.specs.List.{HoldsAt}
use Rattle.std.specs.Option.{MatchOption, IsSome, option_map}
use Rattle.std.proofs.lemmas.Cmp.{nat_list_cmp_total, alike_right, tied_itself}
use Rattle.std.proofs.lemmas.Map.Lookups.{exact_bytes}
use Rattle.value_meaning.specs.Pairs.{IsBelow}
use Rattle.block_meaning.specs.Tables.{Table, TextsRise, last_symbol, text_from, text_of}
use Rattle.block_meaning.proofs.Symbols.{text_of_is, text_of_range, text_of_some}
use Rattle.block_meaning.proofs.Answered.{none_is}

text_get : (table : Table) (first i : ℕ) → text_from first table (first + i) ≡ slice_get table i
text_get [] first i = refl
text_get (t ∷ ts) first zero =
    let same : eqb (first + 0) first ≡ true = grind (arith, nat_tests) in
    rw same refl
text_get (t ∷ ts) first (suc i) =
    let apart : eqb (first + suc i) first ≡ false = grind (arith, nat_tests) in
    let next : first + suc i ≡ suc first + i = omega arith in
    rw apart (rw next (text_get ts (suc first) i))

-- the text of a number from 10 on stands at a place
pub text_of_get : (table : Table) (n : ℕ) → 10 ≤ n → text_of table n ≡ slice_get table (n - 10)
unfolding text_of
text_of_get table n low =
    let e : n ≡ 10 + (n - 10) = omega arith in
    let k = text_get table 10 (n - 10) in
    rw (← e) at k

-- a text is below each that follows it
below_later : (t : List ℕ) (ts : Table) (j : ℕ) (d : List ℕ) → TextsRise (t ∷ ts) → j < length ts → IsBelow t (get_or ts j d)
below_later t [] j d rise h = absurd (omega arith)
below_later t (u ∷ us) zero d rise h = rise.0
below_later t (u ∷ us) (suc j) d rise h =
    nat_list_cmp_total.trans t u (get_or us j d) rise.0 (below_later u us j d rise.1 (omega arith))

rise_tail : (t : List ℕ) (ts : Table) → TextsRise (t ∷ ts) → TextsRise ts
rise_tail t [] rise = tt
rise_tail t (u ∷ us) rise = rise.1

pub rising : (ts : Table) (i j : ℕ) (d : List ℕ) → TextsRise ts → i < j → j < length ts → IsBelow (get_or ts i d) (get_or ts j d)
rising [] i j d rise h k = absurd (omega arith)
rising (t ∷ ts) i zero d rise h k = absurd (omega arith)
rising (t ∷ ts) zero (suc j) d rise h k = below_later t ts j d rise (omega arith)
rising (t ∷ ts) (suc i) (suc j) d rise h k = rising ts i j d (rise_tail t ts rise) (omega arith) (omega arith)

-- a text below another stands no higher to a third
index_below : (a b x : List ℕ) (o : Ordering) → IsBelow a b → slice_cmp nat_cmp b x ≡ o → ordering_index (slice_cmp nat_cmp a x) ≤ ordering_index o
index_below a b x Less h e = rw (nat_list_cmp_total.trans a b x h e) (omega arith)
index_below a b x Equal h e =
    let same = alike_right nat_list_cmp_total b x a e in
    rw (sym same ∙ h) (omega arith)
index_below a b x Greater h e = most (slice_cmp nat_cmp a x)
  where
    most : (o : Ordering) → ordering_index o ≤ 2
    most Less = omega arith
    most Equal = omega arith
    most Greater = omega arith

index_rises : (ts : Table) (x : List ℕ) (i j : ℕ) (d : List ℕ) → TextsRise ts → i ≤ j → j < length ts → ordering_index (slice_cmp nat_cmp (get_or ts i d) x) ≤ ordering_index (slice_cmp nat_cmp (get_or ts j d) x)
index_rises ts x i j d rise h k = go (eqb i j) refl
  where
    go : (b : Bool) → eqb i j ≡ b → ordering_index (slice_cmp nat_cmp (get_or ts i d) x) ≤ ordering_index (slice_cmp nat_cmp (get_or ts j d) x)
    go true e = let same : i ≡ j = grind (arith, nat_tests) in rw same (omega arith)
    go false e =
        let less : i < j = grind (arith, nat_tests) in
        index_below (get_or ts i d) (get_or ts j d) x _ (rising ts i j d rise less k) refl

-- of items that each show a text

shown_at : {A : Type 0} (f : A → List ℕ) (xs : List A) (i : ℕ) (d : A) → get_or (map f xs) i (f d) ≡ f (get_or xs i d)
shown_at f [] i d = refl
shown_at f (x ∷ xs) zero d = refl
shown_at f (x ∷ xs) (suc i) d = shown_at f xs i d

shown_long : {A : Type 0} (f : A → List ℕ) (xs : List A) → length (map f xs) ≡ length xs
shown_long f [] = refl
shown_long f (x ∷ xs) = ap suc (shown_long f xs)

pub items_rise : {A : Type 0} (f : A → List ℕ) (xs : List A) (x : List ℕ) → TextsRise (map f xs) → IsNonDecreasingBy (λ y. ordering_index (slice_cmp nat_cmp (f y) x)) xs
items_rise f xs x rise i j d h k =
    let r = index_rises (map f xs) x i j (f d) rise h (omega (arith, shown_long f xs)) in
    rw (shown_at f xs i d, shown_at f xs j d) at r

got : {A : Type 0} (xs : List A) (i : ℕ) (d : A) → i < length xs → slice_get xs i ≡ Some (get_or xs i d)
got [] i d h = absurd (omega arith)
got (x ∷ xs) zero d h = refl
got (x ∷ xs) (suc i) d h = got xs i d (omega arith)

first_of : {A : Type 0} (xs : List A) (i : ℕ) → i < length xs → A
first_of [] i h = absurd (omega arith)
first_of (x ∷ xs) i h = x

-- an item that shows the text stands at the place of its number
pub number_found : {A : Type 0} (f : A → List ℕ) (xs : List A) (x : List ℕ) (i : ℕ) → HoldsAt (λ y. slice_cmp nat_cmp (f y) x ≡ Equal) xs i → i < length xs → text_of (map f xs) (i + 10) ≡ Some x
number_found f xs x i equal h =
    let d = first_of xs i h in
    let place : i + 10 - 10 ≡ i = omega arith in
    let at = got (map f xs) i (f d) (omega (arith, shown_long f xs)) in
    text_of_get (map f xs) (i + 10) (omega arith) ∙ ap (slice_get (map f xs)) place ∙ at ∙ ap Some (shown_at f xs i d ∙ exact_bytes _ _ (equal d))

-- where every item shows a text below or above, the text has no number
pub number_absent : {A : Type 0} (f : A → List ℕ) (xs : List A) (x : List ℕ) (i : ℕ) → IsPartitionPoint (λ y. slice_cmp nat_cmp (f y) x ≡ Less) (λ y. slice_cmp nat_cmp (f y) x ≡ Greater) xs i → (n : ℕ) → text_of (map f xs) n ≡ Some x → ⊥
number_absent f xs x i parts n e =
    let here = text_of_is (map f xs) n x [] e in
    let k : n - 10 < length xs = omega (arith, here.0, shown_long f xs) in
    let d = first_of xs (n - 10) k in
    let is = (text_of_is (map f xs) n x (f d) e).1 in
    let same : f (get_or xs (n - 10) d) ≡ x = sym (shown_at f xs (n - 10) d) ∙ is in
    let tied : slice_cmp nat_cmp (f (get_or xs (n - 10) d)) x ≡ Equal = rw same (tied_itself nat_list_cmp_total x) in
    side f xs x i (n - 10) d parts k tied
  where
    side : {A : Type 0} (f : A → List ℕ) (xs : List A) (x : List ℕ) (i k : ℕ) (d : A) → IsPartitionPoint (λ y. slice_cmp nat_cmp (f y) x ≡ Less) (λ y. slice_cmp nat_cmp (f y) x ≡ Greater) xs i → k < length xs → slice_cmp nat_cmp (f (get_or xs k d)) x ≡ Equal → ⊥
    side f xs x i k d parts h tied = go (Rattle.std.specs.Prelude.nat_lt k i) refl
      where
        go : (b : Bool) → Rattle.std.specs.Prelude.nat_lt k i ≡ b → ⊥
        go true e = let l : k < i = grind (arith, nat_tests) in let less = parts.0 k d (omega arith) l in cc
        go false e = let g : i ≤ k = grind (arith, nat_tests) in let more = parts.1 k d g h in cc
