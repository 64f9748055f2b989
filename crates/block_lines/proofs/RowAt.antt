-- The line of the row at a place of a chunk.
use Rattle.std.proofs.Common.{◌≡◌, ℕ, ◌+◌, ◌<◌, ◌≤◌, true, false, List, length, drop, Option, Some, refl, sym, ap, ◌∙◌, arith}
use Rattle.std.specs.Prelude.{slice_get}
use Rattle.std.proofs.lemmas.List.{length-take, length-drop}
use Rattle.value_meaning.specs.Val.{Val}
use Rattle.answer_meaning.specs.Made.{pairs_of}
use Rattle.answer_meaning.specs.Lines.{line_text}
use Rattle.program_meaning.specs.Jobs.{Job}
use Rattle.program_meaning.specs.Registers.{State, lane_of, after}
use Rattle.program_meaning.proofs.Chunks.{place_in_chunk}
use Rattle.lane_ssa.specs.ChunksOf.{rows_from}
use Rattle.block_lines.specs.RowLines.{registers_on, shown_pairs, job_output}

same_row : (v w : Val) (o : Option Val) → o ≡ Some v → o ≡ Some w → v ≡ w
same_row v w o e f = cc

pub star_line : (job : Job) (rows : List Val) (first i : ℕ) → i < 16 → (row found : Val) → slice_get (rows_from first rows) i ≡ Some row → slice_get rows (first + i) ≡ Some found
    → job.ends.star ≡ true → line_text (pairs_of found) ≡ line_text (job_output job row)
star_line job rows first i h row found e f star =
    let same : found ≡ row = same_row found row (slice_get rows (first + i)) f (sym (place_in_chunk rows first i h) ∙ e) in
    rw (star, same) refl

pub outputs_line : (job : Job) (row : Val) (s : State) (o : Option Val) → o ≡ Some row → s ≡ after (lane_of o) job.program → job.ends.star ≡ false
    → line_text (shown_pairs s job.ends.outs) ≡ line_text (job_output job row)
outputs_line job row s o e h star =
    let same : s ≡ registers_on job row = h ∙ ap (λ (p : Option Val). after (lane_of p) job.program) e in
    ap (λ (t : State). line_text (shown_pairs t job.ends.outs)) same ∙ rw star refl

-- a chunk isn't longer than sixteen, and a place in it is one of the block
pub chunk_short : (rows : List Val) (first : ℕ) → length (rows_from first rows) ≤ 16
chunk_short rows first = omega (arith, length-take 16 (drop first rows))

pub place_in : (rows : List Val) (first i : ℕ) → i < length (rows_from first rows) → first + i < length rows
place_in rows first i h = omega (arith, length-take 16 (drop first rows), length-drop first rows, h)
