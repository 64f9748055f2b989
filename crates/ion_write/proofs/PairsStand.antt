-- Steps of the loop over pairs that may stand in a block.
use Rattle.std.proofs.Common.{◌≡◌, ◌↔◌, ℕ, ◌+◌, Bool, true, false, IsTrue, List, ◌∷◌, drop, subst, sym, true≢false, ◌∙◌}
use Rattle.value_meaning.specs.Val.{Val, Fields, fields}
use Rattle.value_meaning.specs.Pairs.{Pairs}
use Rattle.write_meaning.specs.Standing.{IsWritable, PairsAreWritable}
use Rattle.ion_write.specs.PairAt.{IsPairAt}
use Rattle.ion_write.proofs.Smaller.{pairs_from}

-- the pairs from a place on may stand where the first and those behind it may
pub pair_apart : (depth : ℕ) (fs : Pairs) (i : ℕ) (name : List ℕ) (v : Val) → IsPairAt fs i name v
    → PairsAreWritable depth (fields (drop i fs)) ↔ (IsWritable depth v × PairsAreWritable depth (fields (drop (i + 1) fs)))
pair_apart depth fs i name v p =
    let e : fields (drop i fs) ≡ fields ((name, v) ∷ drop (i + 1) fs) = pairs_from fs i name v p in
    (λ h. subst (PairsAreWritable depth) e h, λ h. subst (PairsAreWritable depth) (sym e) h)

-- a pair that may not stand decides
pub pair_refused : (depth : ℕ) (fs : Pairs) (i : ℕ) (name : List ℕ) (v : Val) (r : Bool) → IsPairAt fs i name v → IsTrue r ↔ IsWritable depth v → r ≡ false
    → PairsAreWritable depth (fields (drop i fs)) ↔ PairsAreWritable depth (fields fs) → IsTrue false ↔ PairsAreWritable depth (fields fs)
pair_refused depth fs i name v r p tells is so_far =
    (λ h. absurd (true≢false (sym h)), λ h. absurd (true≢false (sym (tells.1 ((pair_apart depth fs i name v p).0 (so_far.1 h)).0) ∙ is)))

-- a pair that may stand leaves the question to those behind it
pub pair_passed : (depth : ℕ) (fs : Pairs) (i : ℕ) (name : List ℕ) (v : Val) (r : Bool) → IsPairAt fs i name v → IsTrue r ↔ IsWritable depth v → r ≡ true
    → PairsAreWritable depth (fields (drop i fs)) ↔ PairsAreWritable depth (fields fs) → PairsAreWritable depth (fields (drop (i + 1) fs)) ↔ PairsAreWritable depth (fields fs)
pair_passed depth fs i name v r p tells is so_far =
    (λ h. so_far.0 ((pair_apart depth fs i name v p).1 (tells.0 is, h)), λ h. ((pair_apart depth fs i name v p).0 (so_far.1 h)).1)
