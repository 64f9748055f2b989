-- Entries that are read one after the other.
use Rattle.std.proofs.Common.{◌≡◌, ℕ, ◌+◌, ◌-◌, ◌*◌, ◌<◌, ◌≤◌, suc, Bool, true, false, cond, List, [], ◌∷◌, ◌++◌, Option, Some, None, refl, sym, ap, ◌∙◌, arith, append_assoc, eq-eqb}
use Rattle.std.specs.Prelude.{◌==◌}
use Rattle.std.specs.Option.{option_map}
use Rattle.std.proofs.lemmas.List.{append-nil}
use Rattle.std.proofs.lemmas.Bool.Decides.{nat_tests}
use Rattle.file_meaning.specs.declared.TheConstants.{MOST_ENTRY_BYTES}
use Rattle.file_meaning.specs.Files.{Entry}
use Rattle.file_meaning.specs.Reading.{entry_at, stands_at, entries_at}

-- the entries so far, and behind them those that are still to come
abbrev pub onto : List Entry → Option (List Entry) → Option (List Entry)
onto done rest = option_map (λ es. done ++ es) rest

-- the answer, once so many entries were read
pub record HasWalked (to count at i from : ℕ) (bytes : List ℕ) (done : List Entry) : Type 0 where
  pub short : from ≤ MOST_ENTRY_BYTES * i
  pub answer : entries_at 0 to count at bytes ≡ onto done (entries_at from to (count - i) (at + 32 * i) bytes)

onto_nil : (rest : Option (List Entry)) → rest ≡ onto [] rest
onto_nil None = refl
onto_nil (Some es) = refl

onto_cons : (done : List Entry) (e : Entry) (rest : Option (List Entry)) → onto done (option_map (λ es. e ∷ es) rest) ≡ onto (done ++ e ∷ []) rest
onto_cons done e None = refl
onto_cons done e (Some es) = ap Some (sym (append_assoc done (e ∷ []) es))

pub starts : (to count at : ℕ) (bytes : List ℕ) → HasWalked to count at 0 0 bytes []
starts to count at bytes =
    let n : count - 0 ≡ count = omega arith in
    let p : at + 32 * 0 ≡ at = omega arith in
    record { short = omega arith; answer = rw (n, p) (onto_nil (entries_at 0 to count at bytes)) }

one_more : (to from left at : ℕ) (bytes : List ℕ) → entries_at from to (suc left) at bytes ≡ cond (stands_at from (entry_at at bytes)) (option_map (λ es. entry_at at bytes ∷ es) (entries_at (from + (entry_at at bytes).length) to left (at + 32) bytes)) None
unfolding entries_at
one_more to from left at bytes = refl

short_entry : (from : ℕ) (e : Entry) → stands_at from e ≡ true → e.length ≤ MOST_ENTRY_BYTES
unfolding stands_at
short_entry from e holds = grind (arith, nat_tests)

pub steps : (to count at i from : ℕ) (bytes : List ℕ) (done : List Entry) (e : Entry) → HasWalked to count at i from bytes done → i < count → e ≡ entry_at (at + 32 * i) bytes → stands_at from e ≡ true → HasWalked to count at (i + 1) (from + e.length) bytes (done ++ e ∷ [])
steps to count at i from bytes done e walked more is holds =
    let here = entry_at (at + 32 * i) bytes in
    let left : count - i ≡ suc (count - (i + 1)) = omega arith in
    let place : at + 32 * i + 32 ≡ at + 32 * (i + 1) = omega arith in
    let rest = entries_at (from + e.length) to (count - (i + 1)) (at + 32 * (i + 1)) bytes in
    let so_far = walked.short in
    let bound = short_entry from e holds in
    let stands : stands_at from here ≡ true = ap (stands_at from) (sym is) ∙ holds in
    let next : entries_at from to (count - i) (at + 32 * i) bytes ≡ option_map (λ es. e ∷ es) rest = ap (λ n. entries_at from to n (at + 32 * i) bytes) left ∙ one_more to from (count - (i + 1)) (at + 32 * i) bytes ∙ rw (stands, place, sym is) refl in
    record { short = omega arith; answer = walked.answer ∙ ap (onto done) next ∙ onto_cons done e rest }

pub steps_to : (to count at i from : ℕ) (bytes : List ℕ) (done : List Entry) (e : Entry) (next : ℕ) (more : List Entry) → HasWalked to count at i from bytes done → i < count → e ≡ entry_at (at + 32 * i) bytes → stands_at from e ≡ true → next ≡ from + e.length → more ≡ done ++ e ∷ [] → HasWalked to count at (i + 1) next bytes more
steps_to to count at i from bytes done e next more walked left is holds there grown =
    rw (there, grown) (steps to count at i from bytes done e walked left is holds)

pub stops : (to count at i from : ℕ) (bytes : List ℕ) (done : List Entry) (e : Entry) → HasWalked to count at i from bytes done → i < count → e ≡ entry_at (at + 32 * i) bytes → stands_at from e ≡ false → entries_at 0 to count at bytes ≡ None
stops to count at i from bytes done e walked more is fails =
    let left : count - i ≡ suc (count - (i + 1)) = omega arith in
    let none : stands_at from (entry_at (at + 32 * i) bytes) ≡ false = ap (stands_at from) (sym is) ∙ fails in
    let next : entries_at from to (count - i) (at + 32 * i) bytes ≡ None = ap (λ n. entries_at from to n (at + 32 * i) bytes) left ∙ one_more to from (count - (i + 1)) (at + 32 * i) bytes ∙ rw none refl in
    walked.answer ∙ ap (onto done) next

no_more : (to from at : ℕ) (bytes : List ℕ) → entries_at from to 0 at bytes ≡ cond (from == to) (Some []) None
unfolding entries_at
no_more to from at bytes = refl

ends : (to count at i from : ℕ) (bytes : List ℕ) (done : List Entry) → HasWalked to count at i from bytes done → count ≤ i → entries_at 0 to count at bytes ≡ cond (from == to) (Some done) None
ends to count at i from bytes done walked all =
    let left : count - i ≡ 0 = omega arith in
    walked.answer ∙ ap (λ n. onto done (entries_at from to n (at + 32 * i) bytes)) left ∙ ap (onto done) (no_more to from (at + 32 * i) bytes) ∙ on (from == to)
  where
    on : (b : Bool) → onto done (cond b (Some []) None) ≡ cond b (Some done) None
    on true = ap Some (append-nil done)
    on false = refl

pub ends_well : (to count at i from : ℕ) (bytes : List ℕ) (done : List Entry) → HasWalked to count at i from bytes done → count ≤ i → from ≡ to → entries_at 0 to count at bytes ≡ Some done
ends_well to count at i from bytes done walked all same =
    let met : (from == to) ≡ true = eq-eqb from to same in ends to count at i from bytes done walked all ∙ rw met refl

pub ends_apart : (to count at i from : ℕ) (bytes : List ℕ) (done : List Entry) → HasWalked to count at i from bytes done → count ≤ i → (from ≡ to → ⊥) → entries_at 0 to count at bytes ≡ None
ends_apart to count at i from bytes done walked all apart =
    let missed : (from == to) ≡ false = grind (arith, nat_tests) in ends to count at i from bytes done walked all ∙ rw missed refl
