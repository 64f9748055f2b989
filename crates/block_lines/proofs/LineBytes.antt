-- Lines in one list of bytes, and bytes that come behind them.
use Rattle.std.proofs.Common.{◌≡◌, ℕ, zero, suc, ◌+◌, ◌-◌, ◌≤◌, ◌<◌, List, [], ◌∷◌, ◌++◌, take, drop, map, length, Option, Some, Result, Ok, Err, refl, sym, ap, subst, ◌∙◌, arith, length-append}
use Rattle.std.specs.Prelude.{All, slice_get, OnErr}
use Rattle.std.proofs.Math.Seq.{take-length, drop-append_seam}
use Rattle.std.proofs.lemmas.List.{take-append-le, drop-append-le, length-drop, map-append}
use Rattle.std.proofs.lemmas.List.Elements.{All-append}
use Rattle.std.proofs.lemmas.Option.{get_or_from_slice_get, slice_get_within}
use Rattle.value_meaning.specs.Val.{Val}
use Rattle.program_meaning.proofs.Chunks.{place_in_chunk}
use Rattle.lane_ssa.specs.ChunksOf.{rows_from}
use Rattle.block_lines.specs.declared.line_list.Span.{Span}
use Rattle.block_lines.specs.LineSpans.{line_at, lines_at, IsSpanIn, AreSpansIn}

-- a span within the bytes holds the same line where more bytes follow
same_line : (bytes more : List ℕ) (span : Span) → IsSpanIn (length bytes) span → line_at (bytes ++ more) span ≡ line_at bytes span
same_line bytes more span h =
    let behind : drop span.start (bytes ++ more) ≡ drop span.start bytes ++ more = drop-append-le span.start bytes more (omega (arith, h)) in
    let room : span.count ≤ length (drop span.start bytes) = omega (arith, h, length-drop span.start bytes) in
    ap (take span.count) behind ∙ take-append-le span.count (drop span.start bytes) more room

-- so do all of them
pub same_lines : (bytes more : List ℕ) (spans : List Span) → AreSpansIn bytes spans → lines_at (bytes ++ more) spans ≡ lines_at bytes spans
same_lines bytes more [] h = refl
same_lines bytes more (s ∷ spans) h =
    let first : IsSpanIn (length bytes) s = h 0 s (omega arith) in
    let others : AreSpansIn bytes spans = λ k d l. h (suc k) d (omega (arith, l)) in
    λ i. same_line bytes more s first i ∷ same_lines bytes more spans others i

-- spans within the bytes lie within more bytes
longer : (short long : ℕ) → short ≤ long → (spans : List Span) → All (IsSpanIn short) spans → All (IsSpanIn long) spans
longer short long l spans h = λ k d b. omega (arith, l, h k d b)

only_one : {A : Type 0} (P : A → Type 0) (x : A) → P x → All P (x ∷ [])
only_one P x h zero d l = h
only_one P x h (suc k) d l = absurd (omega (arith, l))

pub still_in : (bytes next more : List ℕ) → next ≡ bytes ++ more → (spans : List Span) → AreSpansIn bytes spans → AreSpansIn next spans
still_in bytes next more e spans h =
    let long : length next ≡ length bytes + length more = ap (λ (l : List ℕ). length l) e ∙ length-append bytes more in
    longer (length bytes) (length next) (omega (arith, long)) spans h

-- and so does the span of what came behind
pub one_more_in : (bytes next line : List ℕ) → next ≡ bytes ++ line → (spans : List Span) (span : Span) → span.start ≡ length bytes → span.count ≡ length line
    → AreSpansIn bytes spans → AreSpansIn next (spans ++ span ∷ [])
one_more_in bytes next line e spans span s c h =
    let long : length next ≡ length bytes + length line = ap (λ (l : List ℕ). length l) e ∙ length-append bytes line in
    let last : span.start + span.count ≤ length next = omega (arith, long, s, c) in
    All-append (IsSpanIn (length next)) spans (span ∷ []) (still_in bytes next line e spans h) (only_one (IsSpanIn (length next)) span last)

-- the lines with what came behind as the last one
pub one_more : (bytes next line : List ℕ) → next ≡ bytes ++ line → (spans : List Span) (span : Span) → span.start ≡ length bytes → span.count ≡ length line
    → AreSpansIn bytes spans → lines_at next (spans ++ span ∷ []) ≡ lines_at bytes spans ++ line ∷ []
one_more bytes next line e spans span s c h =
    let last : line_at (bytes ++ line) span ≡ line =
    ap (λ (n : ℕ). take span.count (drop n (bytes ++ line))) s
    ∙ ap (take span.count) (drop-append_seam bytes line)
    ∙ ap (λ (n : ℕ). take n line) c
    ∙ take-length line in
    ap (λ (b : List ℕ). lines_at b (spans ++ span ∷ [])) e
    ∙ map-append (line_at (bytes ++ line)) spans (span ∷ [])
    ∙ (λ i. same_lines bytes line spans h i ++ last i ∷ [])

-- the lines are the same where bytes came behind them
pub none_more : (bytes next more : List ℕ) → next ≡ bytes ++ more → (spans : List Span) → AreSpansIn bytes spans → lines_at next spans ≡ lines_at bytes spans
none_more bytes next more e spans h = ap (λ (b : List ℕ). lines_at b spans) e ∙ same_lines bytes more spans h

-- a span that is found lies within the bytes
pub found_in : (bytes : List ℕ) (spans : List Span) (at : ℕ) (span : Span) → Some span ≡ slice_get spans at → AreSpansIn bytes spans → IsSpanIn (length bytes) span
found_in bytes spans at span e h =
    subst (IsSpanIn (length bytes)) (get_or_from_slice_get spans at span span (sym e)) (h at span (slice_get_within spans at span (sym e)))

-- a place of a list has something
some_at : {A : Type 0} (xs : List A) (i : ℕ) → i < length xs → (x : A) × (slice_get xs i ≡ Some x)
some_at [] i l = absurd (omega (arith, l))
some_at (x ∷ xs) zero l = (x, refl)
some_at (x ∷ xs) (suc i) l = some_at xs i (omega (arith, l))

-- a lane of a chunk below the block's end has a row
pub row_there : (rows : List Val) (first i : ℕ) → i < 16 → first + i < length rows → (row : Val) × (slice_get (rows_from first rows) i ≡ Some row)
row_there rows first i h l = let found = some_at rows (first + i) l in (found.0, place_in_chunk rows first i h ∙ found.1)

pub no_shorter : (bytes next line : List ℕ) → next ≡ bytes ++ line → length bytes ≤ length next
no_shorter bytes next line e = omega (arith, ap (λ (l : List ℕ). length l) e ∙ length-append bytes line)

pub count_is : (bytes next line : List ℕ) → next ≡ bytes ++ line → (a b : ℕ) → a ≡ length bytes → b ≡ length next → b - a ≡ length line
count_is bytes next line e a b f g = omega (arith, f, g, ap (λ (l : List ℕ). length l) e ∙ length-append bytes line)

-- what holds anyway holds after an error
pub on_err : {T E : Type 0} (r : Result T E) (P : Type 0) → P → OnErr r P
on_err (Ok t) P p = tt
on_err (Err e) P p = p
