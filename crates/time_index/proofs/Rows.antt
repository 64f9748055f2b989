-- A fact of the rows of a block, one by one.
use Rattle.std.proofs.Common.{◌≡◌, ℕ, ◌+◌, ◌<◌, ◌≤◌, Bool, true, false, true≢false, List, Some, refl, sym, arith, subst, slice_index_or}
use Rattle.std.specs.Prelude.{◌↔◌, IsTrue, slice_get, length}
use Rattle.std.specs.List.{All}
use Rattle.std.proofs.lemmas.Option.{get_or_from_slice_get, slice_get_within}
use borrow.Author.Count.{below_more}

module _ {X : Type 0} (P : X → Type 0) (xs : List X) where
  -- the fact of the first elements
  abbrev pub AllBefore : ℕ → Type 0
  AllBefore n = (k : ℕ) (d : X) → k < n → P (slice_index_or xs k d)

  pub one_more : (n : ℕ) (x : X) → slice_get xs n ≡ Some x → AllBefore n → P x → AllBefore (n + 1)
  one_more n x is before here =
      λ k d. below_more (λ (j : ℕ). P (slice_index_or xs j d)) n (λ j h. before j d h) (subst P (sym (get_or_from_slice_get xs n x d is)) here) k

  pub at_one : (n : ℕ) (x : X) → slice_get xs n ≡ Some x → All P xs → P x
  at_one n x is all = subst P (get_or_from_slice_get xs n x x is) (all n x (slice_get_within xs n x is))

  pub fails_at : (n : ℕ) (x : X) (r : Bool) → slice_get xs n ≡ Some x → (IsTrue r ↔ P x) → r ≡ false → IsTrue false ↔ All P xs
  fails_at n x r is exact fails = (λ h. absurd (true≢false (sym h)), λ all. subst IsTrue fails (exact.1 (at_one n x is all)))

  pub holds_in_all : (n : ℕ) → length xs ≤ n → AllBefore n → IsTrue true ↔ All P xs
  holds_in_all n long before = (λ h k d within. before k d (omega arith), λ all. refl)

pub from_true : (r : Bool) → r ≡ true → IsTrue r
from_true r h = subst IsTrue (sym h) refl
