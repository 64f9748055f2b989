-- Lines that stand in one list of bytes.
use Rattle.std.specs.Prelude.{ℕ, ◌+◌, ◌≤◌, List, take, drop, map, All, length}
use Rattle.block_lines.specs.declared.line_list.Span.{Span}

-- the bytes of a span
abbrev pub line_at : List ℕ → Span → List ℕ
line_at bytes span = take span.count (drop span.start bytes)

-- the lines of the spans, in order
abbrev pub lines_at : List ℕ → List Span → List (List ℕ)
lines_at bytes spans = map (line_at bytes) spans

-- the span lies within so many bytes
abbrev pub IsSpanIn : ℕ → Span → Type 0
IsSpanIn long span = span.start + span.count ≤ long

-- each span lies within the bytes
abbrev pub AreSpansIn : List ℕ → List Span → Type 0
AreSpansIn bytes spans = All (IsSpanIn (length bytes)) spans
