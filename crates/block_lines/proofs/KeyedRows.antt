-- The values of a row's sort keys, from the registers of its lane.
use Rattle.std.proofs.Common.{◌≡◌, ℕ, ◌<◌, List, [], ◌∷◌, ◌++◌, map, drop, suc, Option, Some, sym, ap, subst, ◌∙◌, append_assoc}
use Rattle.std.specs.Prelude.{All, slice_get}
use Rattle.value_meaning.specs.Val.{Val}
use Rattle.program_meaning.specs.Jobs.{Job}
use Rattle.program_meaning.specs.Registers.{State, value_at, lane_of, after}
use Rattle.block_lines.proofs.PairByPair.{drop_at}
use Rattle.block_lines.specs.RowLines.{registers_on, keyed_line}

-- the registers in the lane of a row show the values of its sort keys
pub keys_there : (job : Job) (row : Val) (s : State) (o : Option Val) → o ≡ Some row → s ≡ after (lane_of o) job.program → map (value_at s) job.ends.sorts ≡ (keyed_line job row).0
keys_there job row s o e h =
    let same : s ≡ registers_on job row = h ∙ ap (λ (p : Option Val). after (lane_of p) job.program) e in
    ap (λ (t : State). map (value_at t) job.ends.sorts) same

-- the values so far with those of the registers that are left are all of them
pub value_made : (f : ℕ → Val) (registers : List ℕ) (at r : ℕ) → Some r ≡ slice_get registers at → (values next : List Val) (v : Val) → next ≡ values ++ v ∷ [] → v ≡ f r
    → values ++ map f (drop at registers) ≡ map f registers → next ++ map f (drop (suc at) registers) ≡ map f registers
value_made f registers at r e values next v n k h =
    ap (λ (l : List Val). l ++ map f (drop (suc at) registers)) n
    ∙ append_assoc values (v ∷ []) (map f (drop (suc at) registers))
    ∙ ap (λ (x : Val). values ++ x ∷ map f (drop (suc at) registers)) k
    ∙ ap (λ (l : List ℕ). values ++ map f l) (sym (drop_at r registers at (sym e)))
    ∙ h

-- the registers of the sort keys are among those of a frame that ran
pub sorts_are_there : (v w : ℕ) (registers sorts : List ℕ) → registers ≡ sorts → w ≡ v → All (λ (r : ℕ). r < v) sorts → All (λ (r : ℕ). r < w) registers
sorts_are_there v w registers sorts e f h = subst (λ (n : ℕ). All (λ (r : ℕ). r < n) registers) (sym f) (subst (λ (l : List ℕ). All (λ (r : ℕ). r < v) l) (sym e) h)
