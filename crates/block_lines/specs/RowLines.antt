-- The line that a job makes of a row, from the registers that its program shows there.
use Rattle.std.specs.Prelude.{ℕ, Bool, List, map, if◌then◌else◌}
use Rattle.std.specs.List.{filter}
use Rattle.value_meaning.specs.Val.{Val}
use Rattle.eval_meaning.specs.Pair.{alone}
use Rattle.program_meaning.specs.Registers.{State, live_lane, after, mask_at, value_at}
use Rattle.program_meaning.specs.Jobs.{Job}
use Rattle.tree_meaning.specs.Tree.{Query}
use Rattle.answer_meaning.specs.Made.{Output, Made, pairs_of}
use Rattle.answer_meaning.specs.Lines.{line_text}
use Rattle.made_meaning.specs.MadeRows.{has_value, made}

-- the registers that the program shows on the row
abbrev pub registers_on : Job → Val → State
registers_on job row = after (live_lane (alone row)) job.program

-- whether the row passes
abbrev pub keeps : Job → Val → Bool
keeps job row = mask_at (registers_on job row) job.ends.keep

-- an output's name and the value that its register shows
abbrev pub named_register : State → List ℕ × ℕ → List ℕ × Val
named_register registers out = (out.0, value_at registers out.1)

-- a pair for each of the outputs whose register isn't MISSING, in order
abbrev pub shown_pairs : State → List (List ℕ × ℕ) → Output
shown_pairs registers outs = filter has_value (map (named_register registers) outs)

-- what the job makes of the row where it passes: for `*` the row's own pairs
abbrev pub job_output : Job → Val → Output
job_output job row = if job.ends.star then pairs_of row else shown_pairs (registers_on job row) job.ends.outs

-- the rows that pass
abbrev pub kept_rows : Job → List Val → List Val
kept_rows job rows = filter (keeps job) rows

-- the line of a row, and of each of some rows
abbrev pub line_of : Job → Val → List ℕ
line_of job row = line_text (job_output job row)

abbrev pub lines_of : Job → List Val → List (List ℕ)
lines_of job rows = map (line_of job) rows

-- the values of a row's sort keys, and its line
abbrev pub keyed_line : Job → Val → List Val × List ℕ
keyed_line job row = (map (value_at (registers_on job row)) job.ends.sorts, line_of job row)

-- the lines of the rows that a query makes of rows, in order
abbrev pub made_lines : Query → List Val → List (List ℕ)
made_lines q rows = map (λ (m : Made). line_text m.output) (made q rows)

-- these lines, each with the values of the row's sort keys
abbrev pub made_keyed : Query → List Val → List (List Val × List ℕ)
made_keyed q rows = map (λ (m : Made). (m.keys, line_text m.output)) (made q rows)
