-- A symbol table that was read at a place.
use Rattle.std.proofs.Common.{◌≡◌, ℕ, ◌+◌, ◌-◌, ◌<◌, ◌≤◌, List, [], ◌∷◌, ◌++◌, length, take, drop, Some, None, refl, sym, ap, ◌∙◌, arith}
use Rattle.std.proofs.lemmas.List.{length-append, length-drop, drop-drop, drop_at, take_all}
use Rattle.block_meaning.specs.Tables.{Table, TextsRise}
use Rattle.block_meaning.specs.Cells.{HasPayload}
use Rattle.block_meaning.specs.Blocks.{AreTexts, IsTable, table_at}
use Rattle.block_meaning.specs.Laws.{HasFront}
use Rattle.block_meaning.proofs.Answered.{none_is}
use Rattle.block_meaning.proofs.NestedReading.{payload_some}
use Rattle.block_meaning.proofs.TableReading.{tables_take, tables_again}

-- a table has no more texts than bytes

texts_few : (ts : Table) (bytes : List ℕ) → AreTexts ts bytes → length ts ≤ length bytes
texts_few [] bytes h = omega arith
texts_few (t ∷ ts) bytes h =
    omega (arith, ap length h.2, length-append h.0 h.1, payload_some 8 t h.0 h.3, texts_few ts h.1 h.5)

payload_long : (t : ℕ) (payload bytes : List ℕ) → HasPayload t payload bytes → length payload ≤ length bytes
payload_long t payload bytes h = omega (arith, ap length h.parts, length-append h.head payload)

table_few : (table : Table) (front : List ℕ) → IsTable table front → length table ≤ length front
table_few table front h =
    omega (arith, texts_few table h.texts h.stand, payload_long 11 h.texts h.listed h.lists, ap length h.pair_parts, length-append h.label h.listed, payload_long 13 h.pair h.cell h.holds, ap length h.parts, length-append h.count (h.annotation ++ h.cell), length-append h.annotation h.cell, payload_long 14 h.content front h.outer)

-- a table that was read at a place, with so many bytes behind it
pub record Read (table : Table) (bytes : List ℕ) (at left : ℕ) : Type 0 where
  pub reads : table_at (drop at bytes) ≡ Some (table, drop (length bytes - left) bytes)
  pub stands : HasFront (IsTable table) (drop at bytes) (drop (length bytes - left) bytes)
  pub rise : TextsRise table
  pub few : length table ≤ length bytes
  pub behind : at < length bytes - left
  pub within : left ≤ length bytes

abbrev with_rest : Table → List ℕ → Rattle.std.proofs.Common.Option (Table × List ℕ)
with_rest table rest = Some (table, rest)

read_table : (table : Table) (bytes rest : List ℕ) (at : ℕ) → at ≤ length bytes → table_at (drop at bytes) ≡ Some (table, rest) → Read table bytes at (length rest)
read_table table bytes rest at h e =
    let w = tables_take table (drop at bytes) rest e in
    let some = payload_some 14 (w.2).content w.0 (w.2).outer in
    let long : length bytes ≡ at + (length w.0 + length rest) = omega (arith, ap length w.1, length-append w.0 rest, length-drop at bytes) in
    let place : length bytes - length rest ≡ at + length w.0 = omega arith in
    let end : drop (length bytes - length rest) bytes ≡ rest = ap (λ (n : ℕ). drop n bytes) place ∙ sym (drop-drop (length w.0) at bytes) ∙ ap (drop (length w.0)) w.1 ∙ drop_at w.0 rest (length w.0) refl in
    record {
      reads = e ∙ ap (with_rest table) (sym end);
      stands = (w.0, w.1 ∙ ap (λ (r : List ℕ). w.0 ++ r) (sym end), w.2);
      rise = (w.2).rise;
      few = omega (arith, table_few table w.0 w.2);
      behind = omega arith;
      within = omega arith;
    }

no_table : (bytes : List ℕ) → table_at bytes ≡ None → (table : Table) (rest : List ℕ) → HasFront (IsTable table) bytes rest → ⊥
no_table bytes e table rest h = none_is _ (sym e ∙ ap table_at h.1 ∙ tables_again table h.0 rest h.2)

-- the slice from a place to the end
tail_is : (bytes : List ℕ) (at : ℕ) → take (length bytes - at) (drop at bytes) ≡ drop at bytes
tail_is bytes at = take_all (length bytes - at) (drop at bytes) (omega (arith, length-drop at bytes))

pub read_tail : (table : Table) (bytes rest : List ℕ) (at : ℕ) → at ≤ length bytes → table_at (take (length bytes - at) (drop at bytes)) ≡ Some (table, rest) → Read table bytes at (length rest)
read_tail table bytes rest at h e = read_table table bytes rest at h (ap table_at (sym (tail_is bytes at)) ∙ e)

pub no_tail : (bytes : List ℕ) (at : ℕ) → table_at (take (length bytes - at) (drop at bytes)) ≡ None → (table : Table) (rest : List ℕ) → HasFront (IsTable table) (drop at bytes) rest → ⊥
no_tail bytes at e = no_table (drop at bytes) (ap table_at (sym (tail_is bytes at)) ∙ e)
