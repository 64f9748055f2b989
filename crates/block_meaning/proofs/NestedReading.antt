-- Reading cells within cells answers exactly the cells that stand there, and what is left is shorter.
use Rattle.std.proofs.Common.{◌≡◌, ℕ, zero, suc, ◌-◌, ◌<◌, ◌≤◌, false, List, [], ◌∷◌, ◌++◌, length, Some, ltb, eqb, refl, ap, ◌∙◌, arith, inl, inr, pos, negsuc}
use Rattle.std.proofs.lemmas.Bool.{ltb-false, le-ltb}
use Rattle.std.proofs.lemmas.Bool.Decides.{nat_tests}
use Rattle.std.proofs.lemmas.List.{length-append}
use Rattle.value_meaning.specs.Val.{Val, Vals, Fields, missing, null, truth, int, time, text, list, struct, no_vals, val, no_fields, field}
use Rattle.block_meaning.specs.Numbers.{IsVarUInt, var_uint}
use Rattle.block_meaning.specs.Tables.{Table, text_of}
use Rattle.block_meaning.specs.Cells.{IsHead, HasPayload, IsCell, AreCells, ArePairs}
use Rattle.block_meaning.specs.CellReading.{Reader, scalar, cells_by, pairs_by, node, cell_by, flat_cell, cell_to}
use Rattle.block_meaning.specs.Laws.{HasFront, CellsAreRead}
use Rattle.block_meaning.proofs.Answered.{chosen, none_is, then_is, map_is}
use Rattle.block_meaning.proofs.NumberReading.{var_uint-takes, var_uint-again}
use Rattle.block_meaning.proofs.CellReading.{by_takes, by_again, single_takes, scalar_takes, plain_again}

-- f reads the cells that stand at a depth, and no others
pub record Reads (table : Table) (depth : ℕ) (f : Reader) : Type 0 where
  pub takes : (bytes : List ℕ) (v : Val) (rest : List ℕ) → f bytes ≡ Some (v, rest) → HasFront (IsCell table depth v) bytes rest
  pub again : (v : Val) (front rest : List ℕ) → IsCell table depth v front → f (front ++ rest) ≡ Some (v, rest)

pub head_some : (t n : ℕ) (head : List ℕ) → IsHead t n head → 0 < length head
head_some t n [] h = absurd h
head_some t n (b ∷ bs) h = omega arith

pub payload_some : (t : ℕ) (payload front : List ℕ) → HasPayload t payload front → 0 < length front
payload_some t payload front p = omega (arith, head_some t (length payload) p.head p.heads, ap length p.parts, length-append p.head payload)

pub cell_some : (table : Table) (depth : ℕ) (v : Val) (front : List ℕ) → IsCell table depth v front → 0 < length front
cell_some table depth missing front c = absurd c
cell_some table depth null front c = rw c.2 (omega arith)
cell_some table depth (truth b) front c = rw c (omega arith)
cell_some table depth (int (pos n)) front c = payload_some 2 c.0 front c.1
cell_some table depth (int (negsuc n)) front c = payload_some 3 c.0 front c.1
cell_some table depth (time t) front c = payload_some 6 c.0 front c.1
cell_some table depth (text s) front (inl c) = payload_some 7 c.0 front c.2
cell_some table depth (text s) front (inr c) = payload_some 8 s front c.0
cell_some table depth (list vs) front c = payload_some 11 c.0 front c.1
cell_some table depth (struct fs) front c = payload_some 13 c.0 front c.1

pub mark_some : (mark : List ℕ) (n : ℕ) → IsVarUInt mark n → 0 < length mark
mark_some [] n h = absurd h.spells
mark_some (b ∷ bs) n h = omega arith

module _ (table : Table) (depth : ℕ) (f : Reader) (r : Reads table depth f) where
  pub cells_take : (fuel : ℕ) (bytes : List ℕ) (vs : Vals) → cells_by f fuel bytes ≡ Some vs → AreCells table depth vs bytes
  cells_take fuel [] no_vals e = refl
  cells_take fuel [] (val v vs) e = absurd cc
  cells_take zero (b ∷ bs) vs e = absurd cc
  cells_take (suc fuel) (b ∷ bs) vs e =
      let x = then_is _ (f (b ∷ bs)) _ e in
      let m = map_is (val (x.0).0) (cells_by f fuel (x.0).1) vs x.2 in
      let t = r.takes (b ∷ bs) (x.0).0 (x.0).1 x.1 in
      let others = cells_take fuel (x.0).1 m.0 m.1 in
      rw (← m.2) (t.0, (x.0).1, t.1, t.2, others)

  cells_step : (fuel : ℕ) (first rest : List ℕ) (v : Val) (vs : Vals) → 0 < length first → f (first ++ rest) ≡ Some (v, rest) → cells_by f fuel rest ≡ Some vs → cells_by f (suc fuel) (first ++ rest) ≡ Some (val v vs)
  cells_step fuel [] rest v vs h e g = absurd (omega arith)
  cells_step fuel (b ∷ bs) rest v vs h e g = rw (e, g) refl

  pub cells_again : (fuel : ℕ) (vs : Vals) (bytes : List ℕ) → length bytes ≤ fuel → AreCells table depth vs bytes → cells_by f fuel bytes ≡ Some vs
  cells_again fuel no_vals [] h c = refl
  cells_again fuel no_vals (b ∷ bs) h c = absurd cc
  cells_again zero (val v vs) bytes h c = absurd (omega (arith, ap length c.2, length-append c.0 c.1, cell_some table depth v c.0 c.3))
  cells_again (suc fuel) (val v vs) bytes h c =
      let some = cell_some table depth v c.0 c.3 in
      let others = cells_again fuel vs c.1 (omega (arith, ap length c.2, length-append c.0 c.1)) c.4 in
      rw c.2 (cells_step fuel c.0 c.1 v vs some (r.again v c.0 c.1 c.3) others)

  pub pairs_take : (low fuel : ℕ) (bytes : List ℕ) (fs : Fields) → pairs_by f table low fuel bytes ≡ Some fs → ArePairs table depth low fs bytes
  pairs_take low fuel [] no_fields e = refl
  pairs_take low fuel [] (field n v fs) e = absurd cc
  pairs_take low zero (b ∷ bs) fs e = absurd cc
  pairs_take low (suc fuel) (b ∷ bs) fs e =
      let l = then_is _ (var_uint (b ∷ bs)) _ e in
      elim (chosen (ltb (l.0).0 low) _ _ _ l.2) [
        | inl a ↦ absurd (none_is _ a.1)
        | inr a ↦
            let name = then_is _ (text_of table (l.0).0) _ a.1 in
            let x = then_is _ (f (l.0).1) _ name.2 in
            let m = map_is (field name.0 (x.0).0) (pairs_by f table (suc (l.0).0) fuel (x.0).1) fs x.2 in
            let t = r.takes (l.0).1 (x.0).0 (x.0).1 x.1 in
            let u = var_uint-takes (b ∷ bs) (l.0).0 (l.0).1 l.1 in
            let others = pairs_take (suc (l.0).0) fuel (x.0).1 m.0 m.1 in
            rw (← m.2) ((l.0).0, u.0, t.0, (x.0).1, u.2 ∙ ap (λ (z : List ℕ). u.0 ++ z) t.1, ltb-false _ _ a.0, name.1, u.1, t.2, others)
      ]

  pairs_step : (low fuel label : ℕ) (mark cell rest name : List ℕ) (v : Val) (fs : Fields) → 0 < length mark → low ≤ label → var_uint (mark ++ (cell ++ rest)) ≡ Some (label, cell ++ rest) → text_of table label ≡ Some name → f (cell ++ rest) ≡ Some (v, rest) → pairs_by f table (suc label) fuel rest ≡ Some fs → pairs_by f table low (suc fuel) (mark ++ (cell ++ rest)) ≡ Some (field name v fs)
  pairs_step low fuel label [] cell rest name v fs h o e t g k = absurd (omega arith)
  pairs_step low fuel label (b ∷ bs) cell rest name v fs h o e t g k =
      let room : ltb label low ≡ false = le-ltb _ _ o in
      rw (e, room, t, g, k) refl

  pub pairs_again : (low fuel : ℕ) (fs : Fields) (bytes : List ℕ) → length bytes ≤ fuel → ArePairs table depth low fs bytes → pairs_by f table low fuel bytes ≡ Some fs
  pairs_again low fuel no_fields [] h c = refl
  pairs_again low fuel no_fields (b ∷ bs) h c = absurd cc
  pairs_again low zero (field name v fs) bytes h c = absurd (omega (arith, ap length c.4, length-append c.1 (c.2 ++ c.3), mark_some c.1 c.0 c.7))
  pairs_again low (suc fuel) (field name v fs) bytes h c =
      let some = mark_some c.1 c.0 c.7 in
      let others = pairs_again (suc c.0) fuel fs c.3 (omega (arith, ap length c.4, length-append c.1 (c.2 ++ c.3), length-append c.2 c.3)) c.9 in
      rw c.4 (pairs_step low fuel c.0 c.1 c.2 c.3 name v fs some c.5 (var_uint-again c.1 c.0 (c.2 ++ c.3) c.7) c.6 (r.again v c.2 c.3 c.8) others)

pub node_plain : (f : Reader) (table : Table) (t : ℕ) (payload : List ℕ) → t < 11 → node f table t payload ≡ scalar table t payload
unfolding node
node_plain f table t payload h =
    let a : eqb t 11 ≡ false = grind (arith, nat_tests) in
    let b : eqb t 13 ≡ false = grind (arith, nat_tests) in
    rw (a, b) refl

-- cells at the last depth hold no cells
module _ (table : Table) (depth : ℕ) (deep : 128 ≤ depth) where
  flat_takes : (bytes : List ℕ) (v : Val) (rest : List ℕ) → cell_by (scalar table) bytes ≡ Some (v, rest) → HasFront (IsCell table depth v) bytes rest
  flat_takes bytes v rest e =
      elim (by_takes (scalar table) bytes v rest e) [
        | inl s ↦ single_takes table depth v bytes rest s
        | inr h ↦ (h.front, h.parts, scalar_takes table depth h.kind h.payload h.front v h.has h.read)
      ]

  flat_again : (v : Val) (front rest : List ℕ) → IsCell table depth v front → cell_by (scalar table) (front ++ rest) ≡ Some (v, rest)
  flat_again (list vs) front rest c = absurd (omega (arith, c.2))
  flat_again (struct fs) front rest c = absurd (omega (arith, c.2))
  flat_again missing front rest c = absurd c
  flat_again null front rest c = plain_again table depth (scalar table) (λ t payload l. refl) null front rest tt c
  flat_again (truth b) front rest c = plain_again table depth (scalar table) (λ t payload l. refl) (truth b) front rest tt c
  flat_again (int n) front rest c = plain_again table depth (scalar table) (λ t payload l. refl) (int n) front rest tt c
  flat_again (time t) front rest c = plain_again table depth (scalar table) (λ t payload l. refl) (time t) front rest tt c
  flat_again (text s) front rest c = plain_again table depth (scalar table) (λ t payload l. refl) (text s) front rest tt c

-- cells above hold those that f reads
module _ (table : Table) (depth : ℕ) (above : depth < 128) (f : Reader) (r : Reads table (suc depth) f) where
  node_takes : (t : ℕ) (payload front : List ℕ) (v : Val) → HasPayload t payload front → node f table t payload ≡ Some v → IsCell table depth v front
  unfolding node
  node_takes t payload front v p e =
      elim (chosen (eqb t 11) _ _ _ e) [
        | inl a ↦
            let m : t ≡ 11 = grind (arith, nat_tests, a.0) in
            let w = map_is list (cells_by f (length payload) payload) v a.1 in
            rw (← w.2) (payload, rw m at p, above, cells_take table (suc depth) f r (length payload) payload w.0 w.1)
        | inr a ↦ elim (chosen (eqb t 13) _ _ _ a.1) [
          | inl b ↦
              let m : t ≡ 13 = grind (arith, nat_tests, b.0) in
              let w = map_is struct (pairs_by f table 10 (length payload) payload) v b.1 in
              rw (← w.2) (payload, rw m at p, above, pairs_take table (suc depth) f r 10 (length payload) payload w.0 w.1)
          | inr b ↦ scalar_takes table depth t payload front v p b.1
        ]
      ]

  deep_takes : (bytes : List ℕ) (v : Val) (rest : List ℕ) → cell_by (node f table) bytes ≡ Some (v, rest) → HasFront (IsCell table depth v) bytes rest
  deep_takes bytes v rest e =
      elim (by_takes (node f table) bytes v rest e) [
        | inl s ↦ single_takes table depth v bytes rest s
        | inr h ↦ (h.front, h.parts, node_takes h.kind h.payload h.front v h.has h.read)
      ]

  list_again : (vs : Vals) (payload : List ℕ) → AreCells table (suc depth) vs payload → node f table 11 payload ≡ Some (list vs)
  unfolding node
  list_again vs payload c = rw (cells_again table (suc depth) f r (length payload) vs payload (omega arith) c) refl

  struct_again : (fs : Fields) (payload : List ℕ) → ArePairs table (suc depth) 10 fs payload → node f table 13 payload ≡ Some (struct fs)
  unfolding node
  struct_again fs payload c = rw (pairs_again table (suc depth) f r 10 (length payload) fs payload (omega arith) c) refl

  deep_again : (v : Val) (front rest : List ℕ) → IsCell table depth v front → cell_by (node f table) (front ++ rest) ≡ Some (v, rest)
  deep_again (list vs) front rest c = by_again (node f table) 11 c.0 front rest (list vs) (omega arith) c.1 (list_again vs c.0 c.3)
  deep_again (struct fs) front rest c = by_again (node f table) 13 c.0 front rest (struct fs) (omega arith) c.1 (struct_again fs c.0 c.3)
  deep_again missing front rest c = absurd c
  deep_again null front rest c = plain_again table depth (node f table) (node_plain f table) null front rest tt c
  deep_again (truth b) front rest c = plain_again table depth (node f table) (node_plain f table) (truth b) front rest tt c
  deep_again (int n) front rest c = plain_again table depth (node f table) (node_plain f table) (int n) front rest tt c
  deep_again (time t) front rest c = plain_again table depth (node f table) (node_plain f table) (time t) front rest tt c
  deep_again (text s) front rest c = plain_again table depth (node f table) (node_plain f table) (text s) front rest tt c

-- with the room that is left at a depth, exactly the cells at that depth are read
pub reads_to : (table : Table) (room depth : ℕ) → room ≡ 128 - depth → Reads table depth (cell_to table room)
unfolding cell_to flat_cell
reads_to table zero depth e =
    let deep : 128 ≤ depth = omega arith in
    record { takes = λ bytes v rest h. flat_takes table depth deep bytes v rest h; again = λ v front rest c. flat_again table depth deep v front rest c }
reads_to table (suc room) depth e =
    let above : depth < 128 = omega arith in
    let r = reads_to table room (suc depth) (omega arith) in
    record { takes = λ bytes v rest h. deep_takes table depth above (cell_to table room) r bytes v rest h; again = λ v front rest c. deep_again table depth above (cell_to table room) r v front rest c }

pub cells_read : CellsAreRead
cells_read table depth v bytes rest =
    let r = reads_to table (128 - depth) depth refl in
    (λ e. r.takes bytes v rest e, λ h. rw h.1 (r.again v h.0 rest h.2))
