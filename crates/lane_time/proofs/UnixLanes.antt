-- What TO_UNIX_EPOCH and TO_UNIX_MICRO give at one lane.
use Rattle.std.proofs.Common.{◌≡◌, ℕ, pos, [], ◌∷◌, Bool, true, ◌&&◌}
use Rattle.std.specs.Int.{int_div_euclid}
use Rattle.value_meaning.specs.Val.{Val, int, time}
use Rattle.time_meaning.specs.Moments.{IsTime}
use Rattle.block_meaning.specs.Tables.{Table}
use Rattle.tree_meaning.specs.declared.Func.{Func}
use Rattle.tree_meaning.specs.declared.Func.TheVariants as func
use Rattle.eval_meaning.specs.Evaluation.{call_of}
use Rattle.program_meaning.specs.Programs.{is_unix}
use Rattle.lane_base.specs.declared.lanes.Lanes.{Lanes}
use Rattle.lane_base.specs.Bits.{has}
use Rattle.lane_base.specs.Shown.{IsLegal}
use Rattle.lane_base.specs.Registers.{shown, value_at, under, one_as, number_at}
use Rattle.lane_time.proofs.TimeLanes.{time_lane}

pub unix_lane : (name : Func) → is_unix name ≡ true → (table : Table) (l : Lanes) (i : ℕ) (m : Bool) (v : Val) → (m ≡ true → IsLegal table (shown l i))
    → (IsTime (number_at l.nums.lanes i) → v ≡ call_of name (time (number_at l.nums.lanes i) ∷ []))
    → one_as (m && has l.null.0 i) (m && has l.time.0 i) v ≡ under m (call_of name (value_at table l i ∷ []))
unix_lane func.UnixEpoch u table l i m v h e = time_lane table l i m (λ t. int (int_div_euclid t (pos 1_000_000))) v h e
unix_lane func.UnixMicro u table l i m v h e = time_lane table l i m (λ t. int t) v h e
unix_lane func.Coalesce u table l i m v h e = cc
unix_lane func.NullIf u table l i m v h e = cc
unix_lane func.CharLength u table l i m v h e = cc
