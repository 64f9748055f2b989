-- A job that simulates a query lane by lane does so chunk by chunk.
use Rattle.std.proofs.Common.{◌≡◌, ℕ, zero, suc, ◌+◌, ◌<◌, List, [], ◌∷◌, Option, None, take, drop, slice_get, refl, ap, sym, subst, ◌∙◌, arith}
use Rattle.value_meaning.specs.Val.{Val}
use Rattle.tree_meaning.specs.Tree.{Query}
use Rattle.eval_meaning.specs.Pair.{alone}
use Rattle.program_meaning.specs.Jobs.{Job}
use Rattle.program_meaning.specs.Registers.{State, lane_of, mask_at, after}
use Rattle.program_meaning.specs.Simulation.{Simulates, SimulatesChunks, ShowsNamed, passes, lanes_of}

get_take : (rows : List Val) (n i : ℕ) → i < n → slice_get (take n rows) i ≡ slice_get rows i
get_take [] zero i h = refl
get_take [] (suc n) i h = refl
get_take (r ∷ rows) zero i h = absurd (omega arith)
get_take (r ∷ rows) (suc n) zero h = refl
get_take (r ∷ rows) (suc n) (suc i) h = get_take rows n i (omega arith)

get_none : (i : ℕ) → slice_get {X = Val} [] i ≡ None
get_none zero = refl
get_none (suc i) = refl

get_drop : (rows : List Val) (n i : ℕ) → slice_get (drop n rows) i ≡ slice_get rows (n + i)
get_drop rows zero i = let e : i ≡ 0 + i = omega arith in ap (slice_get rows) e
get_drop [] (suc n) i = get_none i ∙ sym (get_none (suc n + i))
get_drop (r ∷ rows) (suc n) i =
    let e : suc (n + i) ≡ suc n + i = omega arith in
    get_drop rows n i ∙ ap (slice_get (r ∷ rows)) e

-- the lane of a place in a chunk is that of its place among all rows
pub place_in_chunk : (rows : List Val) (first i : ℕ) → i < 16 → slice_get (take 16 (drop first rows)) i ≡ slice_get rows (first + i)
place_in_chunk rows first i h = get_take (drop first rows) 16 i h ∙ get_drop rows first i

pub chunks_simulated : (job : Job) (q : Query) → Simulates job q → SimulatesChunks job q
chunks_simulated job q s =
    record {
      kept = λ rows first lanes run i h.
          ap (λ (t : State). mask_at t job.ends.keep) (run i h)
          ∙ s.kept (lanes_of (take 16 (drop first rows)) i)
          ∙ ap (λ (r : Option Val). passes q (lane_of r)) (place_in_chunk rows first i h);
      shows = λ rows first lanes run i h row at k.
          subst (λ t. ShowsNamed job.ends q t (alone row))
          (sym (run i h ∙ ap (λ r. after (lane_of r) job.program) (place_in_chunk rows first i h ∙ at)))
          (s.shows (alone row) k);
    }
