-- The lanes that passed are those of the rows that the job keeps.
use Rattle.std.proofs.Common.{◌≡◌, ℕ, ◌<◌, ◌≤◌, List, length, ap, ◌∙◌}
use Rattle.std.specs.Prelude.{slice_get, count_by}
use Rattle.std.specs.List.{range_with_len}
use Rattle.value_meaning.specs.Val.{Val}
use Rattle.block_meaning.specs.Tables.{Table}
use Rattle.program_meaning.specs.Registers.{State, mask_at}
use Rattle.lane_base.specs.Bits.{has}
use Rattle.lane_ssa.specs.Frames.{FrameView}
use Rattle.block_lines.specs.Ran.{HasRunOver}
use Rattle.block_lines.specs.RowLines.{keeps, kept_rows}
use Rattle.block_lines.proofs.LaneByLane.{keeps_at, keeps_at_is, lanes_counted}

pub passed_is : (table : Table) (rows : List Val) (f : FrameView) → HasRunOver table rows f → (mask : ℕ) → mask ≡ f.passed → (i : ℕ) → i < 16 → has mask i ≡ keeps_at f.job (slice_get rows i)
passed_is table rows f h mask e i l =
    ap (λ (m : ℕ). has m i) e ∙ h.passed i l ∙ ap (λ (s : State). mask_at s f.job.ends.keep) (h.ran i l) ∙ keeps_at_is f.job (slice_get rows i)

pub kept_counted : (table : Table) (rows : List Val) (f : FrameView) → HasRunOver table rows f → length rows ≤ 16 → (mask : ℕ) → mask ≡ f.passed
    → count_by (has mask) (range_with_len 0 16) ≡ length (kept_rows f.job rows)
kept_counted table rows f h l mask e = lanes_counted f.job rows (has mask) l (λ i below. passed_is table rows f h mask e i below)
