-- Answers: the outputs of the made rows, arranged, and cut by OFFSET and LIMIT.
use Rattle.std.specs.Prelude.{◌≡◌, ℕ, Bool, List, ◌∷◌, map, take, drop, Option, Some, None, if◌then◌else◌, IsPermutation, IsSortedByKey}
use Rattle.std.specs.declared.cmp.Ordering.{Ordering}
use Rattle.std.specs.declared.cmp.Ordering.TheVariants.{Equal}
use Rattle.std.specs.Ordering.{ordering_then}
use Rattle.value_meaning.specs.Val.{Val}
use Rattle.value_meaning.specs.Order.{val_cmp}
use Rattle.answer_meaning.specs.Made.{Output, Made}

-- the order by sort keys, key by key; a key that falls, DESC, is reversed
abbrev pub keys_cmp : List Bool → List Val → List Val → Ordering
keys_cmp (falls ∷ fs) (v ∷ vs) (w ∷ ws) = ordering_then (if falls then val_cmp w v else val_cmp v w) (keys_cmp fs vs ws)
keys_cmp fs vs ws = Equal

-- at most so many, or all where there is no limit
abbrev pub limited : {A : Type 0} → Option ℕ → List A → List A
limited None xs = xs
limited (Some n) xs = take n xs

-- The outputs are an answer: the made rows in some arrangement, sorted where there are sort keys, less the first `skip`
-- many, and then at most `limit` many.
pub record IsAnswer (falling : List Bool) (skip : ℕ) (limit : Option ℕ) (made : List Made) (outputs : List Output) : Type 0 where
  pub arrangement : List Made
  pub permutes : IsPermutation made arrangement
  pub sorted : IsSortedByKey (λ m. m.keys) (keys_cmp falling) arrangement
  pub cut : outputs ≡ limited limit (drop skip (map (λ m. m.output) arrangement))
