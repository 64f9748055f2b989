-- What a program shows in one lane: what each instruction makes of the registers that were made before it.
use Rattle.std.specs.Prelude.{◌≡◌, ℕ, ◌<◌, Bool, false, true, not, ◌&&◌, cond, List, [], ◌∷◌, ◌++◌, Option, None, Some, slice_index_or, fold}
use Rattle.value_meaning.specs.Val.{Val, missing}
use Rattle.tree_meaning.specs.declared.Func.{Func}
use Rattle.tree_meaning.specs.Tree.{name, at}
use Rattle.eval_meaning.specs.Logic.{not_of, is_of, is_true, first_of}
use Rattle.eval_meaning.specs.Numbers.{negative}
use Rattle.eval_meaning.specs.Casts.{cast_of}
use Rattle.eval_meaning.specs.Matching.{matching_of}
use Rattle.eval_meaning.specs.Times.{trunc_of, extract_of, shift_of}
use Rattle.eval_meaning.specs.Paths.{step_of}
use Rattle.eval_meaning.specs.Pair.{Pair, alone}
use Rattle.eval_meaning.specs.Evaluation.{binary, call_of}
use Rattle.program_meaning.specs.Instructions.{Instr}
use Rattle.program_meaning.specs.Instructions as instr

-- what one lane is given: whether it is live, which is whether a pair stands in it, and its pair
pub record Lane : Type 0 where
  pub live : Bool
  pub pair : Pair

-- a live lane, and a dead one
abbrev pub live_lane : Pair → Lane
live_lane p = record { live = true; pair = p }

abbrev pub dead_lane : Lane
dead_lane = record { live = false; pair = alone missing }

-- the lane of a row, where there is one
abbrev pub lane_of : Option Val → Lane
lane_of None = dead_lane
lane_of (Some v) = live_lane (alone v)

-- the registers of one lane
pub record State : Type 0 where
  pub masks : List Bool
  pub values : List Val

abbrev pub empty : State
empty = record { masks = []; values = [] }

abbrev pub mask_at : State → ℕ → Bool
mask_at s m = slice_index_or s.masks m false

abbrev pub value_at : State → ℕ → Val
value_at s r = slice_index_or s.values r missing

-- a value in the lanes of a mask, and MISSING outside
abbrev pub within : Bool → Val → Val
within inside v = cond inside v missing

-- a function of one value
abbrev pub function_of : Func → Val → Val
function_of f v = call_of f (v ∷ [])

-- what an instruction makes
pub data Made : Type 0 where
  new_mask : (b : Bool) → Made
  new_value : (v : Val) → Made

-- a value in the lanes of a mask register
abbrev pub in_mask : State → ℕ → Val → Made
in_mask s m v = new_value (within (mask_at s m) v)

-- the table of instructions
abbrev pub made_by : Lane → State → Instr → Made
made_by l s instr.all = new_mask l.live
made_by l s (instr.holding m a) = new_mask (mask_at s m && is_true (value_at s a))
made_by l s (instr.minus m k) = new_mask (mask_at s m && not (mask_at s k))
made_by l s (instr.root m) = in_mask s m l.pair.row
made_by l s (instr.field m a n) = in_mask s m (step_of (name n) (value_at s a))
made_by l s (instr.at m a i) = in_mask s m (step_of (at i) (value_at s a))
made_by l s (instr.const m v) = in_mask s m v
made_by l s (instr.bin m op a b) = in_mask s m (binary op (value_at s a) (value_at s b))
made_by l s (instr.neg m a) = in_mask s m (negative (value_at s a))
made_by l s (instr.not m a) = in_mask s m (not_of (value_at s a))
made_by l s (instr.is m what a) = in_mask s m (is_of what (value_at s a))
made_by l s (instr.first m a b) = in_mask s m (first_of (value_at s a) (value_at s b))
made_by l s (instr.merge m k a b) = in_mask s m (cond (mask_at s k) (value_at s a) (value_at s b))
made_by l s (instr.matching m how a pattern) = in_mask s m (matching_of how pattern (value_at s a))
made_by l s (instr.cast m to a) = in_mask s m (cast_of to (value_at s a))
made_by l s (instr.length m f a) = in_mask s m (function_of f (value_at s a))
made_by l s (instr.unix m f a) = in_mask s m (function_of f (value_at s a))
made_by l s (instr.trunc m part a) = in_mask s m (trunc_of part (value_at s a))
made_by l s (instr.extract m part a) = in_mask s m (extract_of part (value_at s a))
made_by l s (instr.shift m part count a) = in_mask s m (shift_of part (value_at s count) (value_at s a))

abbrev pub with_made : State → Made → State
with_made s (new_mask b) = record { masks = s.masks ++ b ∷ []; values = s.values }
with_made s (new_value v) = record { masks = s.masks; values = s.values ++ v ∷ [] }

abbrev pub step : Lane → State → Instr → State
step l s x = with_made s (made_by l s x)

-- the registers of a lane after a program
abbrev pub after : Lane → List Instr → State
after l xs = fold (step l) empty xs

-- the sixteen lanes hold what the program shows in the lanes that it was given
abbrev pub HasRun : List Instr → (ℕ → Lane) → (ℕ → State) → Type 0
HasRun xs given lanes = (i : ℕ) → i < 16 → lanes i ≡ after (given i) xs
