-- The number of the first that is so.
use Rattle.std.proofs.Common.{◌≡◌, ℕ, zero, suc, ◌+◌, ◌-◌, ◌<◌, ◌≤◌, Bool, true, false, List, [], ◌∷◌, length, take, drop, Some, None, refl, sym, ◌∙◌, ap, arith}
use Rattle.std.specs.Prelude.{slice_get, find}
use Rattle.std.specs.Option.{option_map}
use Rattle.std.specs.Str.{bytes_eq}
use Rattle.std.specs.List.{list_any, enumerate_from}
use Rattle.check_meaning.specs.Verdict.{first_number}
use Rattle.query_walk.proofs.Searching.{find_here, find_next, find_end}
use Rattle.query_check.proofs.Numbered.{numbered_at, length_numbered}

module _ {A : Type 0} (t : ℕ × A → Bool) (xs : List A) (k : ℕ) (sofar : find t (enumerate_from 1 xs) ≡ find t (drop k (enumerate_from 1 xs))) where
  pub number_here : (x : A) (n : ℕ) → slice_get xs k ≡ Some x → n ≡ 1 + k → t (1 + k, x) ≡ true → Some n ≡ first_number t xs
  number_here x n h e is =
      ap (λ (m : ℕ). Some m) e ∙ sym (ap (option_map (λ p. p.0)) (find_here t (enumerate_from 1 xs) k (find t (enumerate_from 1 xs)) (1 + k, x) (numbered_at xs 1 k x h) is sofar))

  pub number_next : (x : A) → slice_get xs k ≡ Some x → t (1 + k, x) ≡ false → find t (enumerate_from 1 xs) ≡ find t (drop (k + 1) (enumerate_from 1 xs))
  number_next x h is = find_next t (enumerate_from 1 xs) k (find t (enumerate_from 1 xs)) (1 + k, x) (numbered_at xs 1 k x h) is sofar

  pub number_end : length xs ≤ k → None ≡ first_number t xs
  number_end h =
      let past : length (enumerate_from 1 xs) ≤ k = omega (arith, h, length_numbered xs 1) in
      sym (ap (option_map (λ p. p.0)) (find_end t (enumerate_from 1 xs) k (find t (enumerate_from 1 xs)) past sofar))

some_at : {A : Type 0} (xs : List A) (k : ℕ) → k < length xs → (x : A) × (slice_get xs k ≡ Some x)
some_at [] k h = absurd (omega (arith, h))
some_at (x ∷ xs) zero h = (x, refl)
some_at (x ∷ xs) (suc k) h = some_at xs k (omega (arith, h))

-- an earlier name is this one
abbrev pub is_repeat : List (List ℕ) → ℕ × List ℕ → Bool
is_repeat names n = list_any (bytes_eq n.1) (take (n.0 - 1) names)

module _ (names : List (List ℕ)) (k : ℕ) (r : Bool) (below : k < length names) (is : (name : List ℕ) → slice_get names k ≡ Some name → r ≡ list_any (bytes_eq name) (take k names)) (sofar : find (is_repeat names) (enumerate_from 1 names) ≡ find (is_repeat names) (drop k (enumerate_from 1 names))) where
  tested : (name : List ℕ) → slice_get names k ≡ Some name → is_repeat names (1 + k, name) ≡ r
  tested name h = ap (λ m. list_any (bytes_eq name) (take m names)) (omega arith) ∙ sym (is name h)

  pub repeat_here : (n : ℕ) → n ≡ 1 + k → r ≡ true → Some n ≡ first_number (is_repeat names) names
  repeat_here n e t =
      let x = some_at names k below in number_here (is_repeat names) names k sofar x.0 n x.1 e (tested x.0 x.1 ∙ t)

  pub repeat_next : r ≡ false → find (is_repeat names) (enumerate_from 1 names) ≡ find (is_repeat names) (drop (k + 1) (enumerate_from 1 names))
  repeat_next t =
      let x = some_at names k below in number_next (is_repeat names) names k sofar x.0 x.1 (tested x.0 x.1 ∙ t)
