-- A name, looked for from a place on.
use Rattle.std.proofs.Common.{◌≡◌, ℕ, ◌+◌, ◌<◌, true, false, List, length, get_or, drop, map, refl, ◌∙◌, Option, Some, nat_eq}
use Rattle.std.specs.Cmp.Lexicographic.{pointwise}
use Rattle.value_meaning.specs.Val.{Val}
use Rattle.value_meaning.specs.Pairs.{value_of}
use Rattle.snel_values.specs.declared.pairs.Pair.{Pair}
use Rattle.snel_values.specs.View.{view, pair_view}
use Rattle.snel_values.proofs.Comparing.{drop_map}

module _ (n : List ℕ) (xs : List Pair) (i : ℕ) (x : Pair) (w : Option Val) (h : i < length xs) (e : x ≡ get_or xs i x) (sofar : w ≡ value_of n (drop i (map pair_view xs))) where
  pub found_here : pointwise nat_eq x.name n ≡ true → w ≡ Some (view x.value)
  found_here t = sofar ∙ (rw (drop_map pair_view xs i x h e, t) refl)

  pub not_here : pointwise nat_eq x.name n ≡ false → w ≡ value_of n (drop (i + 1) (map pair_view xs))
  not_here t = sofar ∙ (rw (drop_map pair_view xs i x h e, t) refl)
