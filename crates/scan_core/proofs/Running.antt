-- What holds after every list of events.
use Rattle.std.proofs.Common.{◌≡◌, ℕ, zero, suc, ◌+◌, ◌<◌, ◌≤◌, Bool, true, false, Option, Some, None, List, [], ◌∷◌, ◌++◌, length, get_or, sym, refl, ap, ◌∙◌, subst, arith, replicate, add-one, nat_lt, if◌then◌else◌}
use Rattle.std.proofs.lemmas.Bool.Decides.{nat_tests}
use mathlib.Core.Option.{some, some-injective, some-ne-none}
use mathlib.Core.Logic.{dite}
use native.Mathlib.Decide.{dec_lt}
use lib.ListN.{get_elem?}
use Rattle.scan_core.specs.declared.view.ScanView.{ScanView}
use Rattle.scan_core.specs.declared.event.ScanEvent.{ScanEvent}
use Rattle.scan_core.specs.declared.event.ScanEvent.TheVariants as event
use Rattle.scan_core.specs.Times.{total}
use Rattle.scan_core.specs.Board.{Scan, Kept, Fits, AtMost, least_of, empty_view, claimed, ending}
use Rattle.scan_core.specs.Events.{at, seat_of, Lawful, with, after, AllLawful, run, opening}
use Rattle.scan_core.specs.Laws.{AfterAll, CoveredBelow, EndedIsAll, StaysTrue}
use Rattle.scan_core.proofs.Keeping.{kept_claim, kept_end, kept_rows, kept_damage, kept_look_rows, kept_look_damage, lesser-same, at_most_first, at_most-trans, fits_empty, harm_is_covered, ended_is_all}

pub at_index : {A : Type 0} (l : List A) (i : ℕ) (d : A) → i < length l → get_elem? l i ≡ some (get_or l i d)
at_index [] i d h = absurd (omega arith)
at_index (x ∷ xs) zero d h = refl
at_index (x ∷ xs) (suc i) d h = at_index xs i d (omega arith)

pub lt_true : (n m : ℕ) → n < m → nat_lt n m ≡ true
lt_true n m h = grind (arith, nat_tests)

pub lt_false : (n m : ℕ) → (n < m → ⊥) → nat_lt n m ≡ false
lt_false n m h = grind (arith, nat_tests)

pub kept_after : (s : Scan) (e : ScanEvent) → Kept s → seat_of e < length s.views → Lawful s e → Kept (after s e)
kept_after s (event.Claim k) kept there going = let it = at_index s.views k empty_view there in dite (dec_lt s.next s.blocks)
    (λ room. subst (λ b. Kept (if b then with s k (claimed (at s k) s.next) (s.next + 1) s.rows s.damage else with s k (ending (at s k)) s.next s.rows s.damage)) (sym (lt_true s.next s.blocks room))
    (kept_claim s k (at s k) kept it room))
    (λ full. subst (λ b. Kept (if b then with s k (claimed (at s k) s.next) (s.next + 1) s.rows s.damage else with s k (ending (at s k)) s.next s.rows s.damage)) (sym (lt_false s.next s.blocks full))
    (kept_end s k (at s k) kept it (omega arith)))
kept_after s (event.Rows k n) kept there lawful = kept_rows s k (at s k) n kept (at_index s.views k empty_view there) lawful.0 lawful.1
kept_after s (event.Damage k b) kept there lawful = kept_damage s k (at s k) b kept (at_index s.views k empty_view there) lawful
kept_after s (event.LookRows k) kept there lawful = kept_look_rows s k (at s k) kept (at_index s.views k empty_view there)
kept_after s (event.LookDamage k) kept there lawful = kept_look_damage s k (at s k) kept (at_index s.views k empty_view there)

pub kept_run : (s : Scan) (es : List ScanEvent) → Kept s → AllLawful s es → Kept (run s es)
kept_run s [] kept lawful = kept
kept_run s (e ∷ es) kept lawful = kept_run (after s e) es (kept_after s e kept lawful.0.0 lawful.0.1) lawful.1

record Later (s t : Scan) : Type 0 where
  rows : s.rows ≤ t.rows
  damage : AtMost t.damage s.damage

stays : (s : Scan) → Later s s
stays s = record { rows = omega arith; damage = lesser-same s.damage }

later-trans : (s t u : Scan) → Later s t → Later t u → Later s u
later-trans s t u p q = record { rows = let a = p.rows in let b = q.rows in omega arith; damage = at_most-trans u.damage t.damage s.damage q.damage p.damage }

later_after : (s : Scan) (e : ScanEvent) → Later s (after s e)
later_after s (event.Claim k) = either_way (nat_lt s.next s.blocks)
  where
    either_way : (b : Bool) → Later s (if b then with s k (claimed (at s k) s.next) (s.next + 1) s.rows s.damage else with s k (ending (at s k)) s.next s.rows s.damage)
    either_way true = record { rows = omega arith; damage = lesser-same s.damage }
    either_way false = record { rows = omega arith; damage = lesser-same s.damage }
later_after s (event.Rows k n) = record { rows = omega arith; damage = lesser-same s.damage }
later_after s (event.Damage k b) = record { rows = omega arith; damage = at_most_first s.damage (Some b) }
later_after s (event.LookRows k) = record { rows = omega arith; damage = lesser-same s.damage }
later_after s (event.LookDamage k) = record { rows = omega arith; damage = lesser-same s.damage }

later_run : (s : Scan) (es : List ScanEvent) → Later s (run s es)
later_run s [] = stays s
later_run s (e ∷ es) = later-trans s (after s e) (run (after s e) es) (later_after s e) (later_run (after s e) es)

-- what a seat has seen stays true
pub stays_true : (s : Scan) (es : List ScanEvent) → Kept s → StaysTrue s (run s es)
stays_true s es kept i v e = let f = kept.each i v e in let seen = f.seen_rows in let l = later_run s es in let rows = l.rows in
    (omega arith, at_most-trans (run s es).damage s.damage v.seen_damage l.damage f.seen_damage)

total_none : (F : ScanView → ℕ) → F empty_view ≡ 0 → (n : ℕ) → total F (replicate n empty_view) ≡ 0
total_none F zero_of zero = refl
total_none F zero_of (suc n) = omega (arith, total_none F zero_of n)

least_none : (n : ℕ) → least_of (replicate n empty_view) ≡ None
least_none zero = refl
least_none (suc n) = least_none n

at_replicate : (n i : ℕ) (v : ScanView) → get_elem? (replicate n empty_view) i ≡ some v → empty_view ≡ v
at_replicate zero i v e = absurd (some-ne-none v (sym e))
at_replicate (suc n) zero v e = some-injective empty_view v e
at_replicate (suc n) (suc i) v e = at_replicate n i v e

pub kept_opening : (seats blocks : ℕ) (enough : Option ℕ) → Kept (opening seats blocks enough)
kept_opening seats blocks enough = record {
  bounded = omega arith;
  claims = λ f. total_none (λ v. total f v.claims) refl seats;
  rows = sym (total_none (λ v. v.rows) refl seats);
  damage = sym (least_none seats);
  each = λ i v e. subst (Fits (opening seats blocks enough)) (at_replicate seats i v e) (fits_empty (opening seats blocks enough));
}

pub at_here : {A : Type 0} (l : List A) (i : ℕ) (a : A) → i < length l → a ≡ get_or l i a → get_elem? l i ≡ some a
at_here l i a h e = at_index l i a h ∙ ap some (sym e)

pub replicate-snoc : (n : ℕ) (v : ScanView) → replicate (n + 1) v ≡ replicate n v ++ v ∷ []
replicate-snoc n v = rw add-one (by_suc n)
  where
    by_suc : (m : ℕ) → replicate (suc m) v ≡ replicate m v ++ v ∷ []
    by_suc zero = refl
    by_suc (suc m) = ap (λ (l : List ScanView). v ∷ l) (by_suc m)

-- the four facts over all lists of events

module _ (seats blocks : ℕ) (enough : Option ℕ) where
  always_kept : AfterAll (opening seats blocks enough) Kept
  always_kept es lawful = kept_run (opening seats blocks enough) es (kept_opening seats blocks enough) lawful

  pub always_holds : AfterAll (opening seats blocks enough) Kept × AfterAll (opening seats blocks enough) CoveredBelow
      × AfterAll (opening seats blocks enough) EndedIsAll × AfterAll (opening seats blocks enough) (λ s. AfterAll s (StaysTrue s))
  always_holds = (
    always_kept,
    (λ es lawful. harm_is_covered (run (opening seats blocks enough) es) (always_kept es lawful)),
    (λ es lawful. ended_is_all (run (opening seats blocks enough) es) (always_kept es lawful)),
    (λ es lawful more further. stays_true (run (opening seats blocks enough) es) more (always_kept es lawful)),
  )
