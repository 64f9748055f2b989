-- Texts that stand in texts, byte by byte.
use Rattle.std.proofs.Common.{◌≡◌, ℕ, zero, suc, ◌+◌, ◌<◌, ◌≤◌, Bool, true, false, List, [], ◌∷◌, refl, ap, sym, ◌∙◌, arith, length}
use Rattle.std.specs.Prelude.{◌||◌, nat_eq, get_or}
use Rattle.std.specs.List.{starts_with}
use Rattle.std.proofs.lemmas.Bool.Decides.{Decides-eqb}
use Rattle.std.proofs.lemmas.Slice.Eq.{starts_is}
use Rattle.memchr.specs.Find.{OccursAt}
use Rattle.eval_meaning.specs.Matching.{some_suffix, stands_in}
use Rattle.lane_text.proofs.Search.{occurs_begins, begins_occurs}

not_true : (b : Bool) → (b ≡ true → ⊥) → b ≡ false
not_true true h = absurd (h refl)
not_true false h = refl

right_of : (a b : Bool) → b ≡ true → (a || b) ≡ true
right_of true b h = refl
right_of false b h = h

neither : (a b : Bool) → a ≡ false → b ≡ false → (a || b) ≡ false
neither true b g h = absurd (cc)
neither false b g h = h

starts_occurs : (text part : List ℕ) → starts_with nat_eq text part ≡ true → OccursAt text part 0
starts_occurs text part h =
    let said = starts_is Decides-eqb text part (starts_with nat_eq text part) refl in
    begins_occurs text part _ (said.0 h)

occurs_starts : (text part : List ℕ) → OccursAt text part 0 → starts_with nat_eq text part ≡ true
occurs_starts text part o =
    let said = starts_is Decides-eqb text part (starts_with nat_eq text part) refl in
    let found = occurs_begins text part o in
    said.1 found.rest found.is

later : (x : ℕ) (text part : List ℕ) (k : ℕ) → OccursAt text part k → OccursAt (x ∷ text) part (suc k)
later x text part k o = record {
  fits = let f = o.fits in omega arith;
  reads = λ j l. let e : suc k + j ≡ suc (k + j) = omega arith in ap (λ i. get_or (x ∷ text) i 0) e ∙ o.reads j l;
}

earlier : (x : ℕ) (text part : List ℕ) (k : ℕ) → OccursAt (x ∷ text) part (suc k) → OccursAt text part k
earlier x text part k o = record {
  fits = let f = o.fits in omega arith;
  reads = λ j l. let e : suc k + j ≡ suc (k + j) = omega arith in ap (λ i. get_or (x ∷ text) i 0) (sym e) ∙ o.reads j l;
}

stands_nowhere : (text part : List ℕ) → ((k : ℕ) → OccursAt text part k → ⊥) → some_suffix (λ s. starts_with nat_eq s part) text ≡ false
stands_nowhere [] part never = not_true (starts_with nat_eq [] part) (λ h. never 0 (starts_occurs [] part h))
stands_nowhere (x ∷ text) part never =
    neither (starts_with nat_eq (x ∷ text) part) (some_suffix (λ s. starts_with nat_eq s part) text)
    (not_true (starts_with nat_eq (x ∷ text) part) (λ h. never 0 (starts_occurs (x ∷ text) part h)))
    (stands_nowhere text part (λ k o. never (suc k) (later x text part k o)))

left_of : (a b : Bool) → a ≡ true → (a || b) ≡ true
left_of true b h = refl
left_of false b h = absurd (cc)

here : (test : List ℕ → Bool) (text : List ℕ) → test text ≡ true → some_suffix test text ≡ true
here test [] h = h
here test (x ∷ text) h = left_of (test (x ∷ text)) (some_suffix test text) h

stands_somewhere : (text part : List ℕ) (k : ℕ) → OccursAt text part k → some_suffix (λ s. starts_with nat_eq s part) text ≡ true
stands_somewhere text part zero o = here (λ s. starts_with nat_eq s part) text (occurs_starts text part o)
stands_somewhere [] part (suc k) o = absurd (let f = o.fits in omega arith)
stands_somewhere (x ∷ text) part (suc k) o =
    right_of (starts_with nat_eq (x ∷ text) part) (some_suffix (λ s. starts_with nat_eq s part) text) (stands_somewhere text part k (earlier x text part k o))

pub contains_none : (text part : List ℕ) → ((k : ℕ) → 0 ≤ k → k < length text + 1 → OccursAt text part k → ⊥) → stands_in part text ≡ false
unfolding stands_in
contains_none text part never = stands_nowhere text part (λ k o. never k (omega arith) (let f = o.fits in omega arith) o)

pub contains_some : (text part : List ℕ) (k : ℕ) → OccursAt text part k → stands_in part text ≡ true
unfolding stands_in
contains_some text part k o = stands_somewhere text part k o
