-- What the lines of an input come to: their rows, or the first line that is refused.
use Rattle.std.specs.Prelude.{ℕ, Bool, suc, ◌+◌, ◌^◌, min, nat_lt, List, [], ◌∷◌, ◌++◌, length, sum_by, Option, Some, None, if◌then◌else◌}
use Rattle.std.specs.List.{filter_map}
use Rattle.value_meaning.specs.Val.{Val}
use Rattle.file_meaning.specs.declared.TheConstants.{MOST_BLOCKS}
use Rattle.pack_meaning.specs.declared.TheConstants.{MOST_INPUT_BYTES, MOST_LINE_BYTES}
use Rattle.pack_meaning.specs.declared.LineWhy.{LineWhy}
use Rattle.pack_meaning.specs.declared.LineWhy.TheVariants.{TooMuch, Full}
use Rattle.pack_meaning.specs.Splitting.{content}
use Rattle.pack_meaning.specs.Lines.{Settings, Line, blank, refused, row, line_of}
use Rattle.pack_meaning.specs.Cuts.{Rows, cut}
use Rattle.pack_meaning.specs.PackedFiles.{file_of}

abbrev pub row_of : Line → Option Val
row_of blank = None
row_of (refused why) = None
row_of (row v dropped) = Some v

abbrev pub dropped_of : Line → ℕ
dropped_of blank = 0
dropped_of (refused why) = 0
dropped_of (row v dropped) = dropped

-- the rows of the lines, and how many fractions were dropped from them
abbrev pub packed : Settings → List (List ℕ) → Rows
packed s lines = filter_map (λ l. row_of (line_of s (content l))) lines

abbrev pub dropped_from : Settings → List (List ℕ) → ℕ
dropped_from s lines = sum_by (λ l. dropped_of (line_of s (content l))) lines

-- the bytes of the lines, with their line ends
abbrev pub bytes_in : List (List ℕ) → ℕ
bytes_in lines = sum_by length lines

-- the line, cut to one byte more than it may have, reaches past the bytes that an input may have
unfoldable pub is_too_much : ℕ → List ℕ → Bool
is_too_much before line = nat_lt MOST_INPUT_BYTES (before + min (length line) (suc MOST_LINE_BYTES))

-- the row would open one block more than a file may have
unfoldable pub is_full : Settings → Rows → Val → Bool
is_full s before v = nat_lt MOST_BLOCKS (length (cut s.most (before ++ v ∷ [])))

-- why a line is refused behind these rows
abbrev pub reason_of : Settings → Rows → Line → Option LineWhy
reason_of s before blank = None
reason_of s before (refused why) = Some why
reason_of s before (row v dropped) = if is_full s before v then Some Full else None

-- why a line is refused behind these lines: the first reason that holds
abbrev pub reason_at : Settings → List (List ℕ) → List ℕ → Option LineWhy
reason_at s before line =
    if is_too_much (bytes_in before) line then Some TooMuch else reason_of s (packed s before) (line_of s (content line))

-- the number of a line, counted from 1, and why it is refused
pub record Refusal : Type 0 where
  pub number : ℕ
  pub why : LineWhy

-- this line, where there is a reason, or a later one
abbrev pub first_of : ℕ → Option LineWhy → Option Refusal → Option Refusal
first_of number (Some why) later = Some (record { number = number; why = why })
first_of number None later = later

-- the first line that is refused, behind lines that aren't
abbrev pub refusal_from : Settings → List (List ℕ) → List (List ℕ) → Option Refusal
refusal_from s before [] = None
refusal_from s before (line ∷ lines) =
    first_of (suc (length before)) (reason_at s before line) (refusal_from s (before ++ line ∷ []) lines)

abbrev pub refusal : Settings → List (List ℕ) → Option Refusal
refusal s lines = refusal_from s [] lines

-- the counts of what was packed: rows, blocks, dropped fractions, and the file's bytes
pub record Sum : Type 0 where
  pub rows : ℕ
  pub blocks : ℕ
  pub dropped : ℕ
  pub bytes : ℕ

unfoldable pub sum_of : Settings → List (List ℕ) → Sum
sum_of s lines = record {
  rows = length (packed s lines);
  blocks = length (cut s.most (packed s lines));
  dropped = dropped_from s lines;
  bytes = length (file_of s.time_field s.most (packed s lines));
}
