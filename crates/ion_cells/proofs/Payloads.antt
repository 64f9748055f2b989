-- What a payload of each type denotes.
use Rattle.std.proofs.Common.{◌≡◌, ℕ, zero, suc, ◌-◌, ◌^◌, ◌<◌, ◌≤◌, ℤ, pos, negsuc, Bool, true, false, cond, List, [], ◌∷◌, length, take, drop, get_or, Some, eqb, ltb, refl, sym, ap, ◌∙◌, arith, inl, inr}
use Rattle.std.proofs.Math.Seq.{take-length}
use Rattle.std.specs.Option.{option_map}
use Rattle.std.specs.Prelude.{is_some}
use Rattle.std.specs.Str.{is_utf8}
use Rattle.std.proofs.lemmas.Bool.{ltb-false}
use Rattle.std.proofs.lemmas.Bool.Decides.{nat_tests}
use Rattle.std.proofs.lemmas.List.{length-drop}
use Rattle.std.proofs.lemmas.Option.{cond_some}
use Rattle.value_meaning.specs.Val.{Val, Vals, Fields, null, truth, int, time, text, list, struct}
use Rattle.block_meaning.specs.Numbers.{magnitude}
use Rattle.block_meaning.specs.Timestamps.{timestamp}
use Rattle.block_meaning.specs.Tables.{Table, text_of}
use Rattle.block_meaning.specs.CellReading.{head_at, is_null_byte, one_byte, with_payload, whole, below_zero, negative, symbol, scalar, node, cell_by, cell_to, cells_by, pairs_by, is_cell, cell_value, blank_table}
use Rattle.block_meaning.proofs.Answered.{chosen, some_is, none_is, map_is}
use Rattle.block_meaning.proofs.CellSteps.{head_shrinks}
use Rattle.block_meaning.proofs.LastSymbol.{length_blank}
use Rattle.ion_cells.specs.Standing.{HasLast}
use Rattle.ion_cells.specs.Steps.{payload_to}
use Rattle.ion_cells.proofs.Parts.{IsAlone, HasPart}
use Rattle.ion_cells.proofs.Answered.{there}
use Rattle.ion_cells.proofs.Checks.{by_head, by_byte}
use Rattle.ion_cells.proofs.PairSteps.{cell_to_is}
use Rattle.ion_cells.proofs.Stands.{legal_read}

-- the value of a payload, by its type
pub data Denotes (table : Table) (t : ℕ) (payload : List ℕ) (v : Val) : Type 0 where
  a_whole : t ≡ 2 → length payload ≤ 8 → magnitude payload < 2 ^ 63 → v ≡ int (pos (magnitude payload)) → Denotes table t payload v
  a_negative : t ≡ 3 → length payload ≤ 8 → (n : ℕ) → magnitude payload ≡ suc n → n < 2 ^ 63 → v ≡ int (negsuc n) → Denotes table t payload v
  a_time : t ≡ 6 → (m : ℤ) → timestamp payload ≡ Some m → v ≡ time m → Denotes table t payload v
  a_symbol : t ≡ 7 → length payload ≤ 4 → (s : List ℕ) → text_of table (magnitude payload) ≡ Some s → v ≡ text s → Denotes table t payload v
  a_text : t ≡ 8 → is_utf8 payload ≡ true → v ≡ text payload → Denotes table t payload v
  a_list : t ≡ 11 → (vs : Vals) → cells_by (cell_to table 127) (length payload) payload ≡ Some vs → v ≡ list vs → Denotes table t payload v
  a_struct : t ≡ 13 → (fs : Fields) → pairs_by (cell_to table 127) table 10 (length payload) payload ≡ Some fs → v ≡ struct fs → Denotes table t payload v

module _ (table : Table) (t : ℕ) (payload : List ℕ) (v : Val) where
  is : (k : ℕ) → eqb t k ≡ true → t ≡ k
  is k e = grind (arith, nat_tests)

  whole_is : t ≡ 2 → whole payload ≡ Some v → Denotes table t payload v
  whole_is k e =
      elim (chosen (ltb 8 (length payload)) _ _ _ e) [
        | inl a ↦ absurd cc
        | inr a ↦
            let b = cond_some (ltb (magnitude payload) (2 ^ 63)) _ _ a.1 in
            let low : magnitude payload < 2 ^ 63 = grind (arith, nat_tests, b.0) in
            a_whole k (ltb-false _ _ a.0) low (sym b.1)
      ]

  negative_is : t ≡ 3 → negative payload ≡ Some v → Denotes table t payload v
  negative_is k e =
      elim (chosen (ltb 8 (length payload)) _ _ _ e) [
        | inl a ↦ absurd cc
        | inr a ↦ go (magnitude payload) refl a.1 (ltb-false _ _ a.0)
      ]
    where
      go : (m : ℕ) → magnitude payload ≡ m → below_zero m ≡ Some v → length payload ≤ 8 → Denotes table t payload v
      go zero e h s = absurd cc
      go (suc n) e h s =
          let b = cond_some (ltb n (2 ^ 63)) _ _ h in
          let low : n < 2 ^ 63 = grind (arith, nat_tests, b.0) in
          a_negative k s n e low (sym b.1)

  symbol_is : t ≡ 7 → symbol table payload ≡ Some v → Denotes table t payload v
  symbol_is k e =
      elim (chosen (ltb 4 (length payload)) _ _ _ e) [
        | inl a ↦ absurd cc
        | inr a ↦
            let m = map_is text (text_of table (magnitude payload)) v a.1 in
            a_symbol k (ltb-false _ _ a.0) m.0 m.1 (sym m.2)
      ]

  scalar_is : scalar table t payload ≡ Some v → Denotes table t payload v
  unfolding scalar
  scalar_is e =
      elim (chosen (eqb t 2) _ _ _ e) [
        | inl a ↦ whole_is (is 2 a.0) a.1
        | inr a ↦ elim (chosen (eqb t 3) _ _ _ a.1) [
          | inl b ↦ negative_is (is 3 b.0) b.1
          | inr b ↦ elim (chosen (eqb t 6) _ _ _ b.1) [
            | inl d ↦ let m = map_is time (timestamp payload) v d.1 in a_time (is 6 d.0) m.0 m.1 (sym m.2)
            | inr d ↦ elim (chosen (eqb t 7) _ _ _ d.1) [
              | inl f ↦ symbol_is (is 7 f.0) f.1
              | inr f ↦ elim (chosen (eqb t 8) _ _ _ f.1) [
                | inl g ↦ let w = cond_some (is_utf8 payload) _ _ g.1 in a_text (is 8 g.0) w.0 (sym w.1)
                | inr g ↦ absurd cc
              ]
            ]
          ]
        ]
      ]

  node_is : node (cell_to table 127) table t payload ≡ Some v → Denotes table t payload v
  unfolding node
  node_is e =
      elim (chosen (eqb t 11) _ _ _ e) [
        | inl a ↦ let m = map_is list (cells_by (cell_to table 127) (length payload) payload) v a.1 in a_list (is 11 a.0) m.0 m.1 (sym m.2)
        | inr a ↦ elim (chosen (eqb t 13) _ _ _ a.1) [
          | inl b ↦ let m = map_is struct (pairs_by (cell_to table 127) table 10 (length payload) payload) v b.1 in a_struct (is 13 b.0) m.0 m.1 (sym m.2)
          | inr b ↦ scalar_is b.1
        ]
      ]

  pub denotes : payload_to table 128 t payload ≡ Some v → Denotes table t payload v
  unfolding payload_to
  denotes e = node_is e

-- one byte alone
pub data ByteDenotes (h : ℕ) (v : Val) : Type 0 where
  a_null : is_null_byte h ≡ true → v ≡ null → ByteDenotes h v
  a_truth : (b : Bool) → h ≡ cond b 17 16 → v ≡ truth b → ByteDenotes h v

pub byte_denotes : (h : ℕ) (v : Val) → one_byte h ≡ Some v → ByteDenotes h v
unfolding one_byte
byte_denotes h v e =
    elim (chosen (is_null_byte h) _ _ _ e) [
      | inl a ↦ a_null a.0 (some_is _ _ (sym a.1))
      | inr a ↦ elim (chosen (eqb h 16) _ _ _ a.1) [
        | inl b ↦ a_truth false (grind (arith, nat_tests, b.0)) (some_is _ _ (sym b.1))
        | inr b ↦ elim (chosen (eqb h 17) _ _ _ b.1) [
          | inl d ↦ a_truth true (grind (arith, nat_tests, d.0)) (some_is _ _ (sym d.1))
          | inr d ↦ absurd cc
        ]
      ]
    ]

abbrev ended : Val → List ℕ → Val × List ℕ
ended v rest = (v, rest)

-- the parts of a cell
module _ (last : ℕ) (bytes : List ℕ) (legal : is_cell (blank_table last) bytes ≡ true) where
  size : length (blank_table last) ≡ last - 9
  size = length_blank last

  pub some_bytes : 0 < length bytes
  unfolding cell_by
  some_bytes = go bytes (legal_read (blank_table last) last bytes legal size)
    where
      go : (b : List ℕ) → cell_to (blank_table last) 128 b ≡ Some (cell_value (blank_table last) bytes, []) → 0 < length b
      go [] e = absurd (none_is _ (sym (cell_to_is (blank_table last) 128 []) ∙ e))
      go (b ∷ bs) e = omega arith

  pub alone : is_some (one_byte (get_or bytes 0 0)) ≡ true → IsAlone last bytes
  alone e = record { value = λ table h. by_byte_value table h }
    where
      by_byte_value : (table : Table) → HasLast table last → one_byte (get_or bytes 0 0) ≡ Some (cell_value table bytes)
      by_byte_value table h =
          let t = there (one_byte (get_or bytes 0 0)) e in
          let r = by_byte table 128 bytes 0 some_bytes t.0 t.1 in
          t.1 ∙ ap (option_map (λ (x : Val × List ℕ). x.0)) (sym r ∙ legal_read table last bytes legal h)

  module _ (e : is_some (one_byte (get_or bytes 0 0)) ≡ false) where
    read : (table : Table) → HasLast table last → with_payload (payload_to table 128) bytes ≡ Some (cell_value table bytes, [])
    read table h = sym (by_head table 128 bytes 0 some_bytes e) ∙ legal_read table last bytes legal h

    module _ (t n : ℕ) (payload : List ℕ) (k : head_at bytes ≡ Some (t, n, payload)) where
      parted : (table : Table) → HasLast table last → (v : Val) × (payload_to table 128 t (take n payload) ≡ Some v) × (ended v (drop n payload) ≡ ended (cell_value table bytes) [])
      parted table h =
          let r : option_map (λ (v : Val). (v, drop n payload)) (payload_to table 128 t (take n payload)) ≡ Some (cell_value table bytes, []) = rw k at (read table h) in
          map_is (λ (v : Val). (v, drop n payload)) (payload_to table 128 t (take n payload)) _ r

      pub count_is : n ≡ length payload
      count_is =
          let p = parted (blank_table last) size in
          let d : length (drop n payload) ≡ 0 = ap (λ (x : Val × List ℕ). length x.1) p.2 in
          omega (arith, length-drop n payload, (head_shrinks bytes (t, n, payload) k).1)

      pub has_part : HasPart last bytes t payload
      has_part =
          record {
            heads = k ∙ ap (λ (m : ℕ). Some (t, m, payload)) count_is;
            value = λ table h.
                let p = parted table h in
                let w : take n payload ≡ payload = ap (λ (m : ℕ). take m payload) count_is ∙ take-length payload in
                ap (λ (z : List ℕ). payload_to table 128 t z) (sym w) ∙ p.1 ∙ ap (λ (x : Val × List ℕ). Some x.0) p.2;
          }
