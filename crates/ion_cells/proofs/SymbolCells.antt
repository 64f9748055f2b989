-- The payload of a symbol cell, by the parts of a cell.
use Rattle.std.proofs.Common.{◌≡◌, ℕ, ◌-◌, ◌+◌, ◌*◌, ◌%◌, ◌≤◌, Bool, true, false, cond, List, [], ◌∷◌, length, take, get_or, Some, None, eqb, ltb, refl, subst, arith}
use Rattle.std.proofs.Math.Seq.{take-length}
use Rattle.std.proofs.Math.ListN.{drop_of_length-le}
use Rattle.std.specs.Option.{option_and_then}
use Rattle.std.specs.Prelude.{if◌then◌else◌, ◌==◌}
use Rattle.std.proofs.lemmas.Bool.Decides.{nat_tests}
use Rattle.value_meaning.specs.Val.{Val, null, truth}
use Rattle.block_meaning.specs.Cells.{IsCell}
use Rattle.block_meaning.specs.CellReading.{head_at, cell_value, is_cell, blank_table}
use Rattle.block_meaning.specs.Blocks.{payload_of, only_payload}
use Rattle.block_meaning.proofs.LastSymbol.{length_blank}
use Rattle.ion_cells.proofs.Parts.{IsAlone, HasPart}
use Rattle.ion_cells.proofs.Payloads.{ByteDenotes, a_null, a_truth, byte_denotes}
use Rattle.ion_cells.proofs.Stands.{legal_stands}

module _ (last : ℕ) (bytes : List ℕ) where
  pub only_part : (t k : ℕ) (p : List ℕ) → HasPart last bytes t p → only_payload k bytes ≡ (if t == k then Some p else None)
  unfolding only_payload payload_of
  only_part t k p q = rw (q.heads, drop_of_length-le p all) (go (eqb t k))
    where
      all : length p ≤ length p
      all = omega arith

      go : (b : Bool) → option_and_then (λ (x : List ℕ × List ℕ). cond (eqb (length x.1) 0) (Some x.0) None) (cond b (Some (take (length p) p, [])) None) ≡ cond b (Some p) None
      go true = rw (take-length p) refl
      go false = refl

  pub no_symbol : is_cell (blank_table last) bytes ≡ true → IsAlone last bytes → only_payload 7 bytes ≡ None
  unfolding only_payload payload_of head_at
  no_symbol legal a = go (byte_denotes _ _ (a.value (blank_table last) size))
    where
      size : length (blank_table last) ≡ last - 9
      size = length_blank last

      at_value : (v : Val) → cell_value (blank_table last) bytes ≡ v → IsCell (blank_table last) 0 v bytes
      at_value v e = let P : Val → Type 0 = λ z. IsCell (blank_table last) 0 z bytes in subst P e (legal_stands (blank_table last) last bytes legal size)

      nulls : (h : ℕ) → h % 16 ≡ 15 → head_at (h ∷ []) ≡ None
      nulls h m =
          let a : eqb h 209 ≡ false = grind (arith, nat_tests) in
          let b : ltb (h % 16) 14 ≡ false = grind (arith, nat_tests) in
          let d : eqb (h % 16) 14 ≡ false = grind (arith, nat_tests) in
          rw (a, b, d) refl

      go : ByteDenotes (get_or bytes 0 0) (cell_value (blank_table last) bytes) → only_payload 7 bytes ≡ None
      go (a_null n e) =
          let c = at_value null e in
          let m : (16 * c.0 + 15) % 16 ≡ 15 = omega arith in
          rw (c.2, nulls (16 * c.0 + 15) m) refl
      go (a_truth true n e) = let c : bytes ≡ 17 ∷ [] = at_value (truth true) e in rw c refl
      go (a_truth false n e) = let c : bytes ≡ 16 ∷ [] = at_value (truth false) e in rw c refl
