-- A number has a text exactly from 10 to the table's last.
use Rattle.std.proofs.Common.{◌≡◌, ℕ, zero, suc, ◌+◌, ◌-◌, ◌<◌, ◌≤◌, Bool, true, false, cond, List, [], ◌∷◌, length, get_or, Some, None, eqb, refl, ◌∙◌, sym, arith}
use Rattle.std.specs.Prelude.{is_some}
use Rattle.std.proofs.lemmas.Bool.Decides.{nat_tests}
use Rattle.block_meaning.specs.Tables.{Table, last_symbol, text_from, text_of}
use Rattle.block_meaning.proofs.Answered.{some_is, none_is}

text_at : (table : Table) (first i : ℕ) (d : List ℕ) → i < length table → text_from first table (first + i) ≡ Some (get_or table i d)
text_at [] first i d h = absurd (omega arith)
text_at (t ∷ ts) first zero d h =
    let same : eqb (first + 0) first ≡ true = grind (arith, nat_tests) in
    rw same refl
text_at (t ∷ ts) first (suc i) d h =
    let apart : eqb (first + suc i) first ≡ false = grind (arith, nat_tests) in
    let next : first + suc i ≡ suc first + i = omega arith in
    rw apart (rw next (text_at ts (suc first) i d (omega arith)))

pub before_first : (table : Table) (first n : ℕ) → n < first → text_from first table n ≡ None
before_first [] first n h = refl
before_first (t ∷ ts) first n h =
    let apart : eqb n first ≡ false = grind (arith, nat_tests) in
    rw apart (before_first ts (suc first) n (omega arith))

past_last : (table : Table) (first n : ℕ) → first + length table ≤ n → text_from first table n ≡ None
past_last [] first n h = refl
past_last (t ∷ ts) first n h =
    let apart : eqb n first ≡ false = grind (arith, nat_tests) in
    rw apart (past_last ts (suc first) n (omega arith))

pub text_of_in : (table : Table) (n : ℕ) (d : List ℕ) → 10 ≤ n → n ≤ last_symbol table → text_of table n ≡ Some (get_or table (n - 10) d)
unfolding text_of
text_of_in table n d low high =
    let e : n ≡ 10 + (n - 10) = omega arith in
    let k = text_at table 10 (n - 10) d (omega arith) in
    rw (← e) at k

pub text_of_below : (table : Table) (n : ℕ) → n < 10 → text_of table n ≡ None
unfolding text_of
text_of_below table n h = before_first table 10 n h

pub text_of_above : (table : Table) (n : ℕ) → last_symbol table < n → text_of table n ≡ None
unfolding text_of
text_of_above table n h = past_last table 10 n (omega arith)

-- a number in range has a text
pub text_of_some : (table : Table) (n : ℕ) → 10 ≤ n → n ≤ last_symbol table → (s : List ℕ) × (text_of table n ≡ Some s)
text_of_some table n low high = (get_or table (n - 10) [], text_of_in table n [] low high)

-- and no other has one
pub text_of_range : (table : Table) (n : ℕ) (s : List ℕ) → text_of table n ≡ Some s → (10 ≤ n) × (n ≤ last_symbol table)
text_of_range table n s e = (by_range 10 n (λ h. absurd (none_is s (sym (text_of_below table n h) ∙ e))), by_range n (last_symbol table) (λ h. absurd (none_is s (sym (text_of_above table n h) ∙ e))))
  where
    by_range : (a b : ℕ) → (b < a → a ≤ b) → a ≤ b
    by_range a b h = grind arith

pub text_of_is : (table : Table) (n : ℕ) (s d : List ℕ) → text_of table n ≡ Some s → (n - 10 < length table) × (get_or table (n - 10) d ≡ s)
text_of_is table n s d e =
    let r = text_of_range table n s e in
    (omega arith, some_is _ _ (sym (text_of_in table n d r.0 r.1) ∙ e))

-- whether a number has a text depends on how many there are

same_from : (t u : Table) (first n : ℕ) → length t ≡ length u → is_some (text_from first t n) ≡ is_some (text_from first u n)
same_from [] [] first n e = refl
same_from [] (b ∷ us) first n e = absurd (omega arith)
same_from (a ∷ ts) [] first n e = absurd (omega arith)
same_from (a ∷ ts) (b ∷ us) first n e = here (eqb n first) (same_from ts us (suc first) n (omega arith))
  where
    here : (c : Bool) → is_some (text_from (suc first) ts n) ≡ is_some (text_from (suc first) us n) → is_some (cond c (Some a) (text_from (suc first) ts n)) ≡ is_some (cond c (Some b) (text_from (suc first) us n))
    here true k = refl
    here false k = k

pub same_symbols : (t u : Table) → length t ≡ length u → (n : ℕ) → is_some (text_of t n) ≡ is_some (text_of u n)
unfolding text_of
same_symbols t u e n = same_from t u 10 n e
