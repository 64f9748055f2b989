-- What is spelled is read: from a block file to what reading answers.
use Rattle.std.proofs.Common.{◌≡◌, ℕ, ◌+◌, ◌-◌, ◌*◌, ◌^◌, ◌<◌, ◌≤◌, true, List, [], ◌∷◌, ◌++◌, length, take, drop, Option, Some, refl, sym, ap, ◌∙◌, arith, length-append, eq-eqb}
use Rattle.std.specs.Prelude.{codes, flat_map, nat_le, ◌==◌, FitsSigned}
use Rattle.std.specs.Int.{to_be_bytes, cast_signed, cast_unsigned, w32, w64}
use Rattle.std.specs.Str.{is_utf8}
use Rattle.std.proofs.lemmas.Str.{is_utf8-from_IsUtf8}
use Rattle.std.proofs.lemmas.Int.{to_z-of_z}
use Rattle.std.proofs.lemmas.List.{drop-drop}
use Rattle.std.proofs.lemmas.Bool.Decides.{nat_tests}
use Rattle.std.proofs.Math.Facts.{Fits-of_z}
use Rattle.std.proofs.Common.{Fits, ℤ}
use Rattle.std.proofs.Math.Seq.{drop-append_seam, take-append_seam}
use Rattle.file_meaning.specs.declared.TheConstants.{MOST_BLOCKS, MOST_NAME_BYTES, MOST_ENTRY_BYTES, LEAST_INDEX_BYTES, MOST_INDEX_BYTES}
use Rattle.file_meaning.specs.Files.{Entry, IsEntry, IsIndex, IsFile, StandEndToEnd, entry_bytes, index_bytes, tail_bytes}
use Rattle.file_meaning.specs.Reading.{u16_at, u32_at, u64_at, has_magic, entry_at, stands_at, entries_at, named_at, index_in, gap_in, index_before, file_in}
use Rattle.file_meaning.proofs.Numbers.{behind, u16_reads, u32_reads, u64_reads}

-- an entry fits its 32 bytes
pub record FitsEntry (e : Entry) : Type 0 where
  pub start : e.start < 2 ^ 64
  pub entry : IsEntry e

ahead : (k at : ℕ) (bytes more : List ℕ) → drop at bytes ≡ more → drop (at + k) bytes ≡ drop k more
ahead k at bytes more is = sym (drop-drop k at bytes) ∙ ap (drop k) is

signed_small : (z : ℤ) → FitsSigned w64 z → cast_unsigned w64 z < 2 ^ 64
signed_small z fits = let small : Fits w64 (cast_unsigned w64 z) = Fits-of_z fits in omega arith

pub entry_reads : (at : ℕ) (e : Entry) (bytes more : List ℕ) → FitsEntry e → drop at bytes ≡ entry_bytes e ++ more → entry_at at bytes ≡ e
unfolding entry_at
entry_reads at e bytes more fits is =
    let start : u64_at at bytes ≡ e.start = u64_reads at e.start bytes _ fits.start is in
    let long : u32_at (at + 8) bytes ≡ e.length = u32_reads (at + 8) e.length bytes _ (omega arith) (ahead 8 at bytes _ is) in
    let rows : u32_at (at + 12) bytes ≡ e.rows = u32_reads (at + 12) e.rows bytes _ (omega arith) (ahead 12 at bytes _ is) in
    let least : u64_at (at + 16) bytes ≡ cast_unsigned w64 e.least = u64_reads (at + 16) (cast_unsigned w64 e.least) bytes _ (signed_small e.least fits.entry.least) (ahead 16 at bytes _ is) in
    let greatest : u64_at (at + 24) bytes ≡ cast_unsigned w64 e.greatest = u64_reads (at + 24) (cast_unsigned w64 e.greatest) bytes _ (signed_small e.greatest fits.entry.greatest) (ahead 24 at bytes _ is) in
    let low = ap (cast_signed w64) least ∙ to_z-of_z w64 e.least fits.entry.least in
    let high = ap (cast_signed w64) greatest ∙ to_z-of_z w64 e.greatest fits.entry.greatest in
    λ i. record { start = start i; length = long i; rows = rows i; least = low i; greatest = high i }

-- how far behind its start the last block ends
pub stand_bounds : (from to : ℕ) (es : List Entry) → StandEndToEnd from es to → (from ≤ to) × (to ≤ from + MOST_ENTRY_BYTES * length es)
stand_bounds from to [] stand = (omega arith, omega arith)
stand_bounds from to (e ∷ es) stand =
    let rest = stand_bounds (from + e.length) to es stand.2 in
    let short : e.length ≤ MOST_ENTRY_BYTES = stand.1.few_bytes in
    (omega arith, omega arith)

stands : (from : ℕ) (e : Entry) → e.start ≡ from → IsEntry e → stands_at from e ≡ true
unfolding stands_at
stands from e is range = grind (arith, nat_tests)

pub entries_read : (from to at : ℕ) (es : List Entry) (bytes : List ℕ) → to < 2 ^ 64 → StandEndToEnd from es to → drop at bytes ≡ flat_map entry_bytes es → entries_at from to (length es) at bytes ≡ Some es
unfolding entries_at
entries_read from to at [] bytes small stand is = rw (eq-eqb from to stand) refl
entries_read from to at (e ∷ es) bytes small stand is =
    let bounds = stand_bounds (from + e.length) to es stand.2 in
    let fits : FitsEntry e = record { start = omega arith; entry = stand.1 } in
    let here : entry_at at bytes ≡ e = entry_reads at e bytes (flat_map entry_bytes es) fits is in
    let rest : entries_at (from + e.length) to (length es) (at + 32) bytes ≡ Some es = entries_read (from + e.length) to (at + 32) es bytes small stand.2 (ahead 32 at bytes _ is) in
    rw (here, stands from e stand.0 stand.1, rest) refl

pub length-entries : (es : List Entry) → length (flat_map entry_bytes es) ≡ 32 * length es
length-entries [] = refl
length-entries (e ∷ es) = let rest = length-entries es in omega (arith, rest)

pub length-index : (f : List ℕ) (es : List Entry) → length (index_bytes f es) ≡ 10 + length f + 32 * length es
length-index f es = omega (arith, length-append f (to_be_bytes w32 (length es) ++ flat_map entry_bytes es), length-entries es)

-- a reader answers this field and these entries
abbrev pub Answers : Option (List ℕ × List Entry) → List ℕ → List Entry → Type 0
Answers o f es = let index : Option (List ℕ × List Entry) = Some (f, es) in o ≡ index

behind_name : (f : List ℕ) (es : List Entry) → drop (6 + length f) (index_bytes f es) ≡ to_be_bytes w32 (length es) ++ flat_map entry_bytes es
behind_name f es = sym (drop-drop (length f) 6 (index_bytes f es)) ∙ drop-append_seam f (to_be_bytes w32 (length es) ++ flat_map entry_bytes es)

ten : (n : ℕ) → 10 + n ≡ (6 + n) + 4
ten n = omega arith

le_test : (m n : ℕ) → m ≤ n → nat_le m n ≡ true
le_test m n h = grind (arith, nat_tests)

named_reads : (f : List ℕ) (es : List Entry) (to : ℕ) → IsIndex f es to → Answers (named_at to (length f) (length es) (index_bytes f es)) f es
unfolding named_at
named_reads f es to index =
    let bytes = index_bytes f es in
    let more = to_be_bytes w32 (length es) ++ flat_map entry_bytes es in
    let bounds = stand_bounds 0 to es index.stand in
    let few : length es ≤ MOST_BLOCKS = index.few in
    let name : take (length f) (drop 6 bytes) ≡ f = take-append_seam f more in
    let at : drop (10 + length f) bytes ≡ flat_map entry_bytes es = ap (λ k. drop k bytes) (ten (length f)) ∙ ahead 4 (6 + length f) bytes (to_be_bytes w32 (length es) ++ flat_map entry_bytes es) (behind_name f es) in
    let entries : entries_at 0 to (length es) (10 + length f) bytes ≡ Some es = entries_read 0 to (10 + length f) es bytes (omega arith) index.stand at in
    let long : (length bytes == 10 + length f + 32 * length es) ≡ true = eq-eqb (length bytes) (10 + length f + 32 * length es) (length-index f es) in
    let low : nat_le (length f) MOST_NAME_BYTES ≡ true = le_test (length f) MOST_NAME_BYTES index.short_name in
    let many : nat_le (length es) MOST_BLOCKS ≡ true = le_test (length es) MOST_BLOCKS index.few in
    let utf8 : is_utf8 f ≡ true = is_utf8-from_IsUtf8 f index.name in
    rw (low, many, long, name, utf8, entries) refl

pub index_reads : (f : List ℕ) (es : List Entry) (to : ℕ) → IsIndex f es to → Answers (index_in to (index_bytes f es)) f es
unfolding index_in has_magic
index_reads f es to index =
    let bytes = index_bytes f es in
    let more = to_be_bytes w32 (length es) ++ flat_map entry_bytes es in
    let short : length f ≤ MOST_NAME_BYTES = index.short_name in
    let few : length es ≤ MOST_BLOCKS = index.few in
    let n : u16_at 4 bytes ≡ length f = u16_reads 4 (length f) bytes (f ++ more) (omega arith) refl in
    let count : u32_at (6 + length f) bytes ≡ length es = u32_reads (6 + length f) (length es) bytes (flat_map entry_bytes es) (omega arith) (behind_name f es) in
    rw (n, count) (named_reads f es to index)

-- a block file is read as itself
record HasParts (bytes blocks index tail : List ℕ) : Type 0 where
  pub parts : bytes ≡ blocks ++ (index ++ tail)
  pub twelve : length tail ≡ 12

tail_at : (bytes blocks index tail : List ℕ) → HasParts bytes blocks index tail → length bytes - 12 ≡ length blocks + length index
tail_at bytes blocks index tail p =
    omega (arith, ap length p.parts, length-append blocks (index ++ tail), length-append index tail, p.twelve)

tail_is : (bytes blocks index tail : List ℕ) → HasParts bytes blocks index tail → drop (length blocks + length index) bytes ≡ tail
tail_is bytes blocks index tail p =
    behind (length index) (length blocks) bytes index tail (ap (drop (length blocks)) p.parts ∙ drop-append_seam blocks (index ++ tail)) refl

index_is : (bytes blocks index tail : List ℕ) → HasParts bytes blocks index tail → take (length index) (drop (length blocks) bytes) ≡ index
index_is bytes blocks index tail p =
    ap (λ (l : List ℕ). take (length index) l) (ap (drop (length blocks)) p.parts ∙ drop-append_seam blocks (index ++ tail)) ∙ take-append_seam index tail

gap_reads : (start gap : ℕ) → start < 2 ^ 64 → LEAST_INDEX_BYTES ≤ gap → gap ≤ MOST_INDEX_BYTES → gap_in (start + gap) (tail_bytes start) ≡ Some gap
unfolding gap_in has_magic
gap_reads start gap small low high =
    let is : u64_at 0 (tail_bytes start) ≡ start = u64_reads 0 start (tail_bytes start) (codes "SNX1") small refl in
    let left : start + gap - start ≡ gap = omega arith in
    let enough : nat_le LEAST_INDEX_BYTES gap ≡ true = le_test LEAST_INDEX_BYTES gap low in
    let few : nat_le gap MOST_INDEX_BYTES ≡ true = le_test gap MOST_INDEX_BYTES high in
    rw (is, left, enough, few) refl

pub file_reads : (bytes f : List ℕ) (es : List Entry) → IsFile bytes f es → Answers (file_in bytes) f es
unfolding file_in index_before
file_reads bytes f es file =
    let blocks = file.blocks in
    let index = index_bytes f es in
    let p : HasParts bytes blocks index (tail_bytes (length blocks)) = record { parts = file.parts; twelve = refl } in
    let short : length f ≤ MOST_NAME_BYTES = file.index.short_name in
    let few : length es ≤ MOST_BLOCKS = file.index.few in
    let bounds = stand_bounds 0 (length blocks) es file.index.stand in
    let long = length-index f es in
    let gap = gap_reads (length blocks) (length index) (omega arith) (omega arith) (omega arith) in
    let before : length blocks + length index - length index ≡ length blocks = omega arith in
    rw (tail_at bytes blocks index (tail_bytes (length blocks)) p, tail_is bytes blocks index (tail_bytes (length blocks)) p, gap, before, index_is bytes blocks index (tail_bytes (length blocks)) p)
    (index_reads f es (length blocks) file.index)
