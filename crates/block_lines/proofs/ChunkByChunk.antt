-- The counts of a block's chunks, and a frame that stays bound.
use Rattle.std.proofs.Common.{◌≡◌, ℕ, ◌+◌, ◌^◌, ◌<◌, List, Option, sym, subst, arith}
use Rattle.block_meaning.specs.Tables.{Table}
use Rattle.program_meaning.specs.Jobs.{Job}
use Rattle.lane_ssa.specs.Bound.{IsBound}
use Rattle.lane_ssa.specs.Counts.{counted}

-- A count that grew in parts grew by their sum.
pub counted_more : (a b k n : ℕ) → counted a 0 ≡ counted b k → counted (counted a n) 0 ≡ counted b (k + n)
counted_more a b k n h = omega (arith, h)

pub counted_most : (a n : ℕ) → counted a n < 2 ^ 64
counted_most a n = omega arith

pub counted_whole : (a b k : ℕ) → a < 2 ^ 64 → counted a 0 ≡ counted b k → a ≡ counted b k
counted_whole a b k l h = omega (arith, h)

-- a frame of the same job with the same numbers stays bound
pub still_bound : (table : Table) (job same : Job) (symbols others : List (Option ℕ)) → same ≡ job → others ≡ symbols → IsBound table job.program symbols → IsBound table same.program others
still_bound table job same symbols others e f h = subst (λ (j : Job). IsBound table j.program others) (sym e) (subst (λ (l : List (Option ℕ)). IsBound table job.program l) (sym f) h)
