-- A tail that is read.
use Rattle.std.proofs.Common.{◌≡◌, ℕ, ◌-◌, ◌≤◌, true, List, Some, refl, sym, arith}
use Rattle.std.specs.Prelude.{nat_le}
use Rattle.std.proofs.lemmas.Bool.Decides.{nat_tests}
use Rattle.file_meaning.specs.declared.TheConstants.{LEAST_INDEX_BYTES, MOST_INDEX_BYTES}
use Rattle.file_meaning.specs.Reading.{u64_at, has_magic, gap_in}

pub gap_some : (at gap : ℕ) (tail : List ℕ) → has_magic 8 tail ≡ true → gap ≡ at - u64_at 0 tail → LEAST_INDEX_BYTES ≤ gap → gap ≤ MOST_INDEX_BYTES → gap_in at tail ≡ Some gap
unfolding gap_in
gap_some at gap tail magic is low high =
    let enough : nat_le LEAST_INDEX_BYTES gap ≡ true = grind (arith, nat_tests) in
    let few : nat_le gap MOST_INDEX_BYTES ≡ true = grind (arith, nat_tests) in
    rw (magic, sym is, enough, few) refl
