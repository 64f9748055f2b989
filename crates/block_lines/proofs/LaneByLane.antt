-- The rows of a chunk that pass, lane by lane.
use Rattle.std.proofs.Common.{◌≡◌, ℕ, zero, suc, ◌+◌, ◌<◌, ◌≤◌, Bool, true, false, not, cond, List, [], ◌∷◌, ◌++◌, length, Option, None, Some, refl, sym, ap, subst, ◌∙◌, arith}
use Rattle.std.specs.Prelude.{◌&&◌, slice_get, slice_index_or, count_by, fold}
use Rattle.std.specs.List.{filter, range_with_len}
use Rattle.std.proofs.lemmas.List.Sums.{sum_by-cons}
use Rattle.value_meaning.specs.Val.{Val}
use Rattle.eval_meaning.specs.Logic.{is_true}
use Rattle.eval_meaning.specs.Pair.{Pair}
use Rattle.program_meaning.specs.Instructions.{Instr}
use Rattle.program_meaning.specs.Instructions as instr
use Rattle.program_meaning.specs.Registers.{lane_of, State, new_mask, with_made, step, empty, after, mask_at, value_at}
use Rattle.program_meaning.specs.Jobs.{Job}
use Rattle.block_lines.specs.RowLines.{keeps}

-- no mask holds
record HoldsNothing (s : State) : Type 0 where
  nowhere : (m : ℕ) → mask_at s m ≡ false

one_false : (bs : List Bool) → ((m : ℕ) → slice_index_or bs m false ≡ false) → (m : ℕ) → slice_index_or (bs ++ false ∷ []) m false ≡ false
one_false [] h zero = refl
one_false [] h (suc m) = refl
one_false (b ∷ bs) h zero = h zero
one_false (b ∷ bs) h (suc m) = one_false bs (λ n. h (suc n)) m

with_mask : (s : State) (b : Bool) → b ≡ false → HoldsNothing s → HoldsNothing (with_made s (new_mask b))
with_mask s b e h = record { nowhere = λ m. subst (λ (c : Bool). slice_index_or (s.masks ++ c ∷ []) m false ≡ false) (sym e) (one_false s.masks h.nowhere m) }

dead_step : (p : Pair) (s : State) (x : Instr) → HoldsNothing s → HoldsNothing (step (record { live = false; pair = p }) s x)
dead_step p s instr.all h = with_mask s false refl h
dead_step p s (instr.holding m a) h = with_mask s (mask_at s m && is_true (value_at s a)) (ap (λ (b : Bool). b && is_true (value_at s a)) (h.nowhere m)) h
dead_step p s (instr.minus m k) h = with_mask s (mask_at s m && not (mask_at s k)) (ap (λ (b : Bool). b && not (mask_at s k)) (h.nowhere m)) h
dead_step p s x h = record { nowhere = h.nowhere }

dead_fold : (p : Pair) (s : State) (xs : List Instr) → HoldsNothing s → HoldsNothing (fold (step (record { live = false; pair = p })) s xs)
dead_fold p s [] h = h
dead_fold p s (x ∷ xs) h = dead_fold p (step (record { live = false; pair = p }) s x) xs (dead_step p s x h)

-- a lane without a row passes nothing
pub dead_lane : (xs : List Instr) (m : ℕ) → mask_at (after (lane_of None) xs) m ≡ false
dead_lane xs m = (dead_fold (lane_of None).pair empty xs (record { nowhere = λ m. refl })).nowhere m

-- whether a job keeps the row at a place, where one stands
abbrev pub keeps_at : Job → Option Val → Bool
keeps_at job None = false
keeps_at job (Some row) = keeps job row

pub keeps_at_is : (job : Job) (o : Option Val) → mask_at (after (lane_of o) job.program) job.ends.keep ≡ keeps_at job o
keeps_at_is job None = dead_lane job.program job.ends.keep
keeps_at_is job (Some row) = refl

zero_more : (n : ℕ) → 0 + n ≡ n
zero_more n = omega arith

-- the places from j on at which rows pass, counted
counted_from : (p : Val → Bool) (at : Option Val → Bool) → at None ≡ false → ((v : Val) → at (Some v) ≡ p v) → (f : ℕ → Bool) (k j : ℕ) (rows : List Val) → length rows ≤ k
    → ((i : ℕ) → i < k → f (j + i) ≡ at (slice_get rows i)) → count_by f (range_with_len j k) ≡ length (filter p rows)
counted_from p at n y f zero j [] l h = refl
counted_from p at n y f zero j (r ∷ rows) l h = absurd (omega arith)
counted_from p at n y f (suc k) j [] l h =
    let here : f j ≡ false = ap f (omega arith) ∙ h 0 (omega arith) ∙ n in
    let rest = counted_from p at n y f k (j + 1) [] (omega arith) (λ i below. ap f (omega arith) ∙ h (suc i) (omega arith)) in
    sum_by-cons (λ i. cond (f i) 1 0) j (range_with_len (j + 1) k) ∙ rw here (zero_more (count_by f (range_with_len (j + 1) k)) ∙ rest)
counted_from p at n y f (suc k) j (r ∷ rows) l h =
    let here : f j ≡ p r = ap f (omega arith) ∙ h 0 (omega arith) ∙ y r in
    let rest = counted_from p at n y f k (j + 1) rows (omega arith) (λ i below. ap f (omega arith) ∙ h (suc i) (omega arith)) in
    sum_by-cons (λ i. cond (f i) 1 0) j (range_with_len (j + 1) k) ∙ rw here (by_test (p r) (count_by f (range_with_len (j + 1) k)) r (filter p rows) rest)
  where
    by_test : (b : Bool) (n : ℕ) (r : Val) (passed : List Val) → n ≡ length passed → cond b 1 0 + n ≡ length (cond b (r ∷ passed) passed)
    by_test true n r passed e = omega (arith, e)
    by_test false n r passed e = zero_more n ∙ e

pub lanes_counted : (job : Job) (rows : List Val) (f : ℕ → Bool) → length rows ≤ 16 → ((i : ℕ) → i < 16 → f i ≡ keeps_at job (slice_get rows i))
    → count_by f (range_with_len 0 16) ≡ length (filter (keeps job) rows)
lanes_counted job rows f l h = counted_from (keeps job) (keeps_at job) refl (λ v. refl) f 16 0 rows l (λ i below. ap f (zero_more i) ∙ h i below)

-- a kept place is one of a row
pub kept_is_there : (job : Job) (rows : List Val) (i : ℕ) → keeps_at job (slice_get rows i) ≡ true → i < length rows
kept_is_there job [] zero k = absurd (cc)
kept_is_there job [] (suc i) k = absurd (cc)
kept_is_there job (r ∷ rows) zero k = omega arith
kept_is_there job (r ∷ rows) (suc i) k = omega (arith, kept_is_there job rows i k)
