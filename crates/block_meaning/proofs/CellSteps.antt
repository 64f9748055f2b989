-- How cells are read one by one: what is left is shorter, one more is read, and more room or fuel changes nothing.
use Rattle.std.proofs.Common.{◌≡◌, ℕ, zero, suc, ◌-◌, ◌<◌, ◌≤◌, Bool, true, false, List, [], ◌∷◌, ◌++◌, length, take, drop, Option, Some, None, ltb, eqb, refl, sym, ap, ◌∙◌, arith, inl, inr}
use Rattle.std.specs.Option.{option_map, option_and_then}
use Rattle.std.specs.Prelude.{is_some}
use Rattle.std.proofs.lemmas.Bool.{le-ltb}
use Rattle.std.proofs.lemmas.Bool.Decides.{nat_tests}
use Rattle.std.proofs.lemmas.List.{length-append, take-append-drop, append_cancel_right, append-nil}
use Rattle.value_meaning.specs.Val.{Val, Vals, Fields, list, struct, val, field}
use Rattle.block_meaning.specs.Numbers.{var_uint}
use Rattle.block_meaning.specs.Tables.{Table, text_of}
use Rattle.block_meaning.specs.CellReading.{Reader, head_at, one_byte, or_byte, with_payload, scalar, cells_by, pairs_by, node, cell_by, flat_cell, cell_to, ends_there, value_read, is_cell, cell_value}
use Rattle.block_meaning.proofs.Answered.{chosen, some_is, none_is}
use Rattle.block_meaning.proofs.NumberReading.{var_uint-takes}
use Rattle.block_meaning.proofs.CellReading.{head_takes, by_takes}
use Rattle.block_meaning.proofs.NestedReading.{head_some, payload_some, mark_some, reads_to}

-- what follows the cell that was read, if there was one
abbrev pub ends : Option (Val × List ℕ) → Option (List ℕ)
ends = option_map (λ x. x.1)

pub some_read : (o : Option (Val × List ℕ)) (rest : List ℕ) → Some rest ≡ ends o → (x : Val × List ℕ) × (o ≡ Some x) × (rest ≡ x.1)
some_read None rest e = absurd cc
some_read (Some x) rest e = (x, refl, some_is _ _ e)

pub none_read : (o : Option (Val × List ℕ)) → None ≡ ends o → o ≡ None
none_read None e = refl
none_read (Some x) e = absurd cc

-- what is left is shorter

pub var_uint_shrinks : (bytes : List ℕ) (x : ℕ × List ℕ) → var_uint bytes ≡ Some x → length x.1 < length bytes
var_uint_shrinks bytes x e =
    let w = var_uint-takes bytes x.0 x.1 e in
    omega (arith, ap length w.2, length-append w.0 x.1, mark_some w.0 x.0 w.1)

-- the payload fits into what follows the head
pub head_shrinks : (bytes : List ℕ) (x : ℕ × ℕ × List ℕ) → head_at bytes ≡ Some x → (length x.2 < length bytes) × (x.1 ≤ length x.2)
head_shrinks bytes x e =
    let h = head_takes bytes x.0 x.1 x.2 e in
    (omega (arith, ap length h.parts, length-append h.head x.2, head_some x.0 x.1 h.head h.heads), h.fits)

-- f leaves less than it was given
abbrev pub Shrinks : Reader → Type 0
Shrinks f = (bytes : List ℕ) (x : Val × List ℕ) → f bytes ≡ Some x → length x.1 < length bytes

pub by_shrinks : (p : ℕ → List ℕ → Option Val) → Shrinks (cell_by p)
by_shrinks p bytes x e =
    elim (by_takes p bytes x.0 x.1 e) [
      | inl s ↦ omega (arith, ap length s.parts)
      | inr h ↦ omega (arith, ap length h.parts, length-append h.front x.1, payload_some h.kind h.payload h.front h.has)
    ]

pub flat_shrinks : (table : Table) → Shrinks (flat_cell table)
unfolding flat_cell
flat_shrinks table bytes x e = by_shrinks (scalar table) bytes x e

pub cell_shrinks : (table : Table) (room : ℕ) → Shrinks (cell_to table room)
unfolding cell_to
cell_shrinks table zero bytes x e = flat_shrinks table bytes x e
cell_shrinks table (suc room) bytes x e = by_shrinks (node (cell_to table room) table) bytes x e

-- what a cell holds is read with one less of room

pub flat_is : (table : Table) (bytes : List ℕ) → flat_cell table bytes ≡ cell_by (scalar table) bytes
unfolding flat_cell
flat_is table bytes = refl

pub cell_flat : (table : Table) (room : ℕ) (bytes : List ℕ) → room ≡ 0 → cell_to table room bytes ≡ flat_cell table bytes
unfolding cell_to
cell_flat table zero bytes h = refl
cell_flat table (suc room) bytes h = absurd (omega arith)

pub cell_step : (table : Table) (room : ℕ) (bytes : List ℕ) → 0 < room → cell_to table room bytes ≡ cell_by (node (cell_to table (room - 1)) table) bytes
unfolding cell_to
cell_step table zero bytes h = absurd (omega arith)
cell_step table (suc room) bytes h = let e : suc room - 1 ≡ room = omega arith in rw e refl

pub node_list : (f : Reader) (table : Table) (payload : List ℕ) → node f table 11 payload ≡ option_map list (cells_by f (length payload) payload)
unfolding node
node_list f table payload = refl

pub node_struct : (f : Reader) (table : Table) (payload : List ℕ) → node f table 13 payload ≡ option_map struct (pairs_by f table 10 (length payload) payload)
unfolding node
node_struct f table payload = refl

pub node_other : (f : Reader) (table : Table) (t : ℕ) (payload : List ℕ) → (t ≡ 11 → ⊥) → (t ≡ 13 → ⊥) → node f table t payload ≡ scalar table t payload
unfolding node
node_other f table t payload g h =
    let a : eqb t 11 ≡ false = grind (arith, nat_tests) in
    let b : eqb t 13 ≡ false = grind (arith, nat_tests) in
    rw (a, b) refl

-- fuel, and one more

same_then : {A B : Type 0} (g h : A → Option B) (o : Option A) → ((x : A) → o ≡ Some x → g x ≡ h x) → option_and_then g o ≡ option_and_then h o
same_then g h None e = refl
same_then g h (Some x) e = e x refl

pub is_some_map : {A B : Type 0} (g : A → B) (o : Option A) → is_some (option_map g o) ≡ is_some o
is_some_map g None = refl
is_some_map g (Some x) = refl

module _ (f : Reader) (s : Shrinks f) where
  -- more fuel than bytes changes nothing
  pub cells_fuel : (j k : ℕ) (bytes : List ℕ) → length bytes ≤ j → length bytes ≤ k → cells_by f j bytes ≡ cells_by f k bytes
  cells_fuel j k [] g h = refl
  cells_fuel zero k (b ∷ bs) g h = absurd (omega arith)
  cells_fuel (suc j) zero (b ∷ bs) g h = absurd (omega arith)
  cells_fuel (suc j) (suc k) (b ∷ bs) g h =
      same_then _ _ (f (b ∷ bs)) (λ x e.
      let less = s (b ∷ bs) x e in
      ap (option_map (val x.0)) (cells_fuel j k x.1 (omega arith) (omega arith)))

  -- one cell more is read
  pub cells_next : (j k : ℕ) (bytes : List ℕ) (x : Val × List ℕ) → f bytes ≡ Some x → length bytes ≤ j → length x.1 ≤ k → cells_by f j bytes ≡ option_map (val x.0) (cells_by f k x.1)
  cells_next j k [] x e g h = absurd (omega (arith, s [] x e))
  cells_next zero k (b ∷ bs) x e g h = absurd (omega arith)
  cells_next (suc j) k (b ∷ bs) x e g h =
      let less = s (b ∷ bs) x e in
      rw e (ap (option_map (val x.0)) (cells_fuel j k x.1 (omega arith) h))

  pub cells_next_some : (j k : ℕ) (bytes : List ℕ) (x : Val × List ℕ) → f bytes ≡ Some x → length bytes ≤ j → length x.1 ≤ k → is_some (cells_by f j bytes) ≡ is_some (cells_by f k x.1)
  cells_next_some j k bytes x e g h = rw (cells_next j k bytes x e g h) (is_some_map (val x.0) (cells_by f k x.1))

  module _ (table : Table) where
    pub pairs_fuel : (low j k : ℕ) (bytes : List ℕ) → length bytes ≤ j → length bytes ≤ k → pairs_by f table low j bytes ≡ pairs_by f table low k bytes
    pairs_fuel low j k [] g h = refl
    pairs_fuel low zero k (b ∷ bs) g h = absurd (omega arith)
    pairs_fuel low (suc j) zero (b ∷ bs) g h = absurd (omega arith)
    pairs_fuel low (suc j) (suc k) (b ∷ bs) g h =
        same_then _ _ (var_uint (b ∷ bs)) (λ l e.
        let less = var_uint_shrinks (b ∷ bs) l e in
        either (ltb l.0 low) _ _ (same_then _ _ (text_of table l.0) (λ name named.
        same_then _ _ (f l.1) (λ x read.
        let fewer = s l.1 x read in
        ap (option_map (field name x.0)) (pairs_fuel (suc l.0) j k x.1 (omega arith) (omega arith))))))
      where
        either : (b : Bool) (o q : Option Fields) → o ≡ q → Rattle.std.specs.Bool.if◌then◌else◌ b None o ≡ Rattle.std.specs.Bool.if◌then◌else◌ b None q
        either true o q e = refl
        either false o q e = e

    -- one pair more is read
    pub pairs_next : (low j k : ℕ) (bytes : List ℕ) (l : ℕ × List ℕ) (name : List ℕ) (x : Val × List ℕ) → var_uint bytes ≡ Some l → low ≤ l.0 → text_of table l.0 ≡ Some name → f l.1 ≡ Some x → length bytes ≤ j → length x.1 ≤ k → pairs_by f table low j bytes ≡ option_map (field name x.0) (pairs_by f table (suc l.0) k x.1)
    pairs_next low j k [] l name x marked high named read g h = absurd (omega (arith, var_uint_shrinks [] l marked))
    pairs_next low zero k (b ∷ bs) l name x marked high named read g h = absurd (omega arith)
    pairs_next low (suc j) k (b ∷ bs) l name x marked high named read g h =
        let less = var_uint_shrinks (b ∷ bs) l marked in
        let fewer = s l.1 x read in
        let order : ltb l.0 low ≡ false = le-ltb _ _ high in
        rw (marked, order, named, read) (ap (option_map (field name x.0)) (pairs_fuel (suc l.0) j k x.1 (omega arith) h))

    pub pairs_next_some : (low j k : ℕ) (bytes : List ℕ) (l : ℕ × List ℕ) (name : List ℕ) (x : Val × List ℕ) → var_uint bytes ≡ Some l → low ≤ l.0 → text_of table l.0 ≡ Some name → f l.1 ≡ Some x → length bytes ≤ j → length x.1 ≤ k → is_some (pairs_by f table low j bytes) ≡ is_some (pairs_by f table (suc l.0) k x.1)
    pairs_next_some low j k bytes l name x marked high named read g h =
        rw (pairs_next low j k bytes l name x marked high named read g h) (is_some_map (field name x.0) (pairs_by f table (suc l.0) k x.1))

-- where no cell stands, none of the bytes are cells
pub cells_stop : (f : Reader) (j : ℕ) (bytes : List ℕ) → f bytes ≡ None → 0 < length bytes → cells_by f j bytes ≡ None
cells_stop f j [] e h = absurd (omega arith)
cells_stop f zero (b ∷ bs) e h = refl
cells_stop f (suc j) (b ∷ bs) e h = rw e refl

abbrev no_val : Option Val
no_val = None

module _ (f : Reader) (table : Table) (low j : ℕ) (bytes : List ℕ) where
  pub pairs_stop_label : var_uint bytes ≡ None → 0 < length bytes → pairs_by f table low j bytes ≡ None
  pairs_stop_label e h = go j bytes e h
    where
      go : (j : ℕ) (bytes : List ℕ) → var_uint bytes ≡ None → 0 < length bytes → pairs_by f table low j bytes ≡ None
      go j [] e h = absurd (omega arith)
      go zero (b ∷ bs) e h = refl
      go (suc j) (b ∷ bs) e h = rw e refl

  module _ (l : ℕ × List ℕ) (marked : var_uint bytes ≡ Some l) where
    stop : (j : ℕ) (bytes : List ℕ) → var_uint bytes ≡ Some l → option_and_then (λ name. option_and_then (λ x. Some x.0) (f l.1)) (text_of table l.0) ≡ None → low ≤ l.0 → pairs_by f table low j bytes ≡ None
    stop j [] e n h = absurd (omega (arith, var_uint_shrinks [] l e))
    stop zero (b ∷ bs) e n h = refl
    stop (suc j) (b ∷ bs) e n h =
        let order : ltb l.0 low ≡ false = le-ltb _ _ h in
        rw (e, order) (none (text_of table l.0) n)
      where
        none : (o : Option (List ℕ)) → option_and_then (λ name. option_and_then (λ x. Some x.0) (f l.1)) o ≡ None → option_and_then (λ name. option_and_then (λ x. option_map (field name x.0) (pairs_by f table (suc l.0) j x.1)) (f l.1)) o ≡ None
        none None n = refl
        none (Some name) n = within (f l.1) n
          where
            within : (o : Option (Val × List ℕ)) → option_and_then (λ x. Some x.0) o ≡ None → option_and_then (λ x. option_map (field name x.0) (pairs_by f table (suc l.0) j x.1)) o ≡ None
            within None n = refl
            within (Some x) n = absurd cc

    pub pairs_stop_order : l.0 < low → pairs_by f table low j bytes ≡ None
    pairs_stop_order h = go j bytes marked
      where
        go : (j : ℕ) (bytes : List ℕ) → var_uint bytes ≡ Some l → pairs_by f table low j bytes ≡ None
        go j [] e = absurd (omega (arith, var_uint_shrinks [] l e))
        go zero (b ∷ bs) e = refl
        go (suc j) (b ∷ bs) e = let order : ltb l.0 low ≡ true = grind (arith, nat_tests) in rw (e, order) refl

    pub pairs_stop_name : low ≤ l.0 → text_of table l.0 ≡ None → pairs_by f table low j bytes ≡ None
    pairs_stop_name h n = stop j bytes marked (rw n refl) h

    pub pairs_stop_cell : low ≤ l.0 → f l.1 ≡ None → pairs_by f table low j bytes ≡ None
    pairs_stop_cell h n = stop j bytes marked (rw n (always (text_of table l.0))) h
      where
        always : (o : Option (List ℕ)) → option_and_then (λ (name : List ℕ). no_val) o ≡ None
        always None = refl
        always (Some name) = refl

-- more room changes nothing

abbrev pub Grows : Reader → Reader → Type 0
Grows f g = (bytes : List ℕ) (x : Val × List ℕ) → f bytes ≡ Some x → g bytes ≡ Some x

abbrev PayloadsGrow : (ℕ → List ℕ → Option Val) → (ℕ → List ℕ → Option Val) → Type 0
PayloadsGrow p q = (t : ℕ) (payload : List ℕ) (v : Val) → p t payload ≡ Some v → q t payload ≡ Some v

grown : {A B : Type 0} (g h : A → Option B) (o q : Option A) (z : B) → ((x : A) → o ≡ Some x → q ≡ Some x) → ((x : A) → g x ≡ Some z → h x ≡ Some z) → option_and_then g o ≡ Some z → option_and_then h q ≡ Some z
grown g h None q z e k r = absurd (none_is z r)
grown g h (Some x) q z e k r = rw (e x refl) (k x r)

map_grown : {A B : Type 0} (g : A → B) (o q : Option A) (z : B) → ((x : A) → o ≡ Some x → q ≡ Some x) → option_map g o ≡ Some z → option_map g q ≡ Some z
map_grown g None q z e r = absurd (none_is z r)
map_grown g (Some x) q z e r = rw (e x refl) r

by_grows : (p q : ℕ → List ℕ → Option Val) → PayloadsGrow p q → Grows (cell_by p) (cell_by q)
unfolding cell_by
by_grows p q g [] x e = absurd (none_is x e)
by_grows p q g (h ∷ rest) x e = go (one_byte h) e
  where
    go : (o : Option Val) → or_byte o rest (with_payload p (h ∷ rest)) ≡ Some x → or_byte o rest (with_payload q (h ∷ rest)) ≡ Some x
    go None e = grown _ _ (head_at (h ∷ rest)) (head_at (h ∷ rest)) x (λ y r. r) (λ y r. map_grown (λ (v : Val). (v, drop y.1 y.2)) (p y.0 (take y.1 y.2)) (q y.0 (take y.1 y.2)) x (g y.0 (take y.1 y.2)) r) e
    go (Some v) e = e

module _ (f g : Reader) (grows : Grows f g) where
  pub cells_grow : (fuel : ℕ) (bytes : List ℕ) (vs : Vals) → cells_by f fuel bytes ≡ Some vs → cells_by g fuel bytes ≡ Some vs
  cells_grow fuel [] vs e = e
  cells_grow zero (b ∷ bs) vs e = e
  cells_grow (suc fuel) (b ∷ bs) vs e =
      grown _ _ (f (b ∷ bs)) (g (b ∷ bs)) vs (grows (b ∷ bs)) (λ x r. map_grown (val x.0) (cells_by f fuel x.1) (cells_by g fuel x.1) vs (cells_grow fuel x.1) r) e

  pub pairs_grow : (table : Table) (low fuel : ℕ) (bytes : List ℕ) (fs : Fields) → pairs_by f table low fuel bytes ≡ Some fs → pairs_by g table low fuel bytes ≡ Some fs
  pairs_grow table low fuel [] fs e = e
  pairs_grow table low zero (b ∷ bs) fs e = e
  pairs_grow table low (suc fuel) (b ∷ bs) fs e =
      grown _ _ (var_uint (b ∷ bs)) (var_uint (b ∷ bs)) fs (λ l r. r) (λ l r.
      either (ltb l.0 low) _ _ (λ r. grown _ _ (text_of table l.0) (text_of table l.0) fs (λ name r. r) (λ name r.
      grown _ _ (f l.1) (g l.1) fs (grows l.1) (λ x r.
      map_grown (field name x.0) (pairs_by f table (suc l.0) fuel x.1) (pairs_by g table (suc l.0) fuel x.1) fs (pairs_grow table (suc l.0) fuel x.1) r) r) r) r) e
    where
      either : (b : Bool) (o q : Option Fields) → (o ≡ Some fs → q ≡ Some fs) → Rattle.std.specs.Bool.if◌then◌else◌ b None o ≡ Some fs → Rattle.std.specs.Bool.if◌then◌else◌ b None q ≡ Some fs
      either true o q k e = e
      either false o q k e = k e

  node_grows : (table : Table) → PayloadsGrow (node f table) (node g table)
  unfolding node
  node_grows table t payload v e =
      elim (chosen (eqb t 11) _ _ _ e) [
        | inl a ↦ rw a.0 (map_grown list _ _ v (cells_grow (length payload) payload) a.1)
        | inr a ↦ elim (chosen (eqb t 13) _ _ _ a.1) [
          | inl b ↦ rw (a.0, b.0) (map_grown struct _ _ v (pairs_grow table 10 (length payload) payload) b.1)
          | inr b ↦ rw (a.0, b.0) b.1
        ]
      ]

scalar_grows : (f : Reader) (table : Table) → PayloadsGrow (scalar table) (node f table)
unfolding node scalar
scalar_grows f table t payload v e = go (eqb t 11) (eqb t 13) refl refl
  where
    is : (k : ℕ) → eqb t k ≡ true → t ≡ k
    is k e = grind (arith, nat_tests)

    go : (a b : Bool) → eqb t 11 ≡ a → eqb t 13 ≡ b → node f table t payload ≡ Some v
    go true b g h = absurd (none_is v (rw (is 11 g) at e))
    go false true g h = absurd (none_is v (rw (is 13 h) at e))
    go false false g h = rw (g, h) e

pub cell_grows : (table : Table) (room more : ℕ) → room ≤ more → Grows (cell_to table room) (cell_to table more)
unfolding cell_to flat_cell
cell_grows table zero zero h bytes x e = e
cell_grows table zero (suc more) h bytes x e = by_grows (scalar table) (node (cell_to table more) table) (scalar_grows (cell_to table more) table) bytes x e
cell_grows table (suc room) zero h bytes x e = absurd (omega arith)
cell_grows table (suc room) (suc more) h bytes x e =
    by_grows (node (cell_to table room) table) (node (cell_to table more) table) (node_grows (cell_to table room) (cell_to table more) (cell_grows table room more (omega arith)) table) bytes x e

-- the bytes of a cell that was read are that cell alone, whatever follows them
module _ (table : Table) (room : ℕ) (few : room ≤ 128) (bytes : List ℕ) (v : Val) (rest : List ℕ) (read : cell_to table room bytes ≡ Some (v, rest)) where
  pub cell_before : (front other : List ℕ) → bytes ≡ front ++ rest → cell_to table room (front ++ other) ≡ Some (v, other)
  cell_before front other e =
      let r = reads_to table room (128 - room) (omega arith) in
      let c = r.takes bytes v rest read in
      let same : front ≡ c.0 = append_cancel_right front c.0 rest (sym e ∙ c.1) in
      rw same (r.again v c.0 other c.2)

  pub cell_alone : (front : List ℕ) → bytes ≡ front ++ rest → cell_to table room front ≡ Some (v, [])
  cell_alone front e = rw (append-nil front) at (cell_before front [] e)

  pub cell_is : (front : List ℕ) → bytes ≡ front ++ rest → (is_cell table front ≡ true) × (cell_value table front ≡ v)
  unfolding is_cell cell_value
  cell_is front e =
      let k = cell_grows table room 128 few front (v, []) (cell_alone front e) in
      (rw k refl, rw k refl)

  pub cell_parts : (front : List ℕ) × (bytes ≡ front ++ rest) × (0 < length front)
  cell_parts =
      let r = reads_to table room (128 - room) (omega arith) in
      let c = r.takes bytes v rest read in
      let less = cell_shrinks table room bytes (v, rest) read in
      (c.0, c.1, omega (arith, ap length c.1, length-append c.0 rest))

-- The first cell of bytes, where what follows it begins at a place.
pub record First (table : Table) (room : ℕ) (bytes : List ℕ) (place : ℕ) : Type 0 where
  pub cell : is_cell table (take place bytes) ≡ true
  pub read : cell_to table room bytes ≡ Some (cell_value table (take place bytes), drop place bytes)

pub first_of_cells : (table : Table) (room : ℕ) (bytes : List ℕ) (place : ℕ) → room ≤ 128 → Some (drop place bytes) ≡ ends (cell_to table room bytes) → First table room bytes place
first_of_cells table room bytes place few e =
    let x = some_read (cell_to table room bytes) (drop place bytes) e in
    first x.0 x.1 x.2
  where
    first : (x : Val × List ℕ) → cell_to table room bytes ≡ Some x → drop place bytes ≡ x.1 → First table room bytes place
    first x read same =
        let here : cell_to table room bytes ≡ Some (x.0, drop place bytes) = read ∙ ap (λ (z : List ℕ). Some (x.0, z)) (sym same) in
        let w = cell_is table room few bytes x.0 (drop place bytes) here (take place bytes) (sym (take-append-drop place bytes)) in
        record { cell = w.0; read = rw w.1 here }

-- the first of the cells that the bytes are, and the others
pub cells_first : (table : Table) (room : ℕ) (bytes : List ℕ) (place : ℕ) → room ≤ 128 → Some (drop place bytes) ≡ ends (cell_to table room bytes) → cells_by (cell_to table room) (length bytes) bytes ≡ option_map (val (cell_value table (take place bytes))) (cells_by (cell_to table room) (length (drop place bytes)) (drop place bytes))
cells_first table room bytes place few e =
    let first = first_of_cells table room bytes place few e in
    cells_next (cell_to table room) (cell_shrinks table room) (length bytes) (length (drop place bytes)) bytes (cell_value table (take place bytes), drop place bytes) first.read (omega arith) (omega arith)

-- the first of the pairs, whose cell ends at a place behind the label, and the others
pub pairs_first : (table : Table) (room low : ℕ) (bytes : List ℕ) (l : ℕ × List ℕ) (name : List ℕ) (place : ℕ) → room ≤ 128 → var_uint bytes ≡ Some l → low ≤ l.0 → text_of table l.0 ≡ Some name → Some (drop place l.1) ≡ ends (cell_to table room l.1)
    → pairs_by (cell_to table room) table low (length bytes) bytes ≡ option_map (field name (cell_value table (take place l.1))) (pairs_by (cell_to table room) table (suc l.0) (length (drop place l.1)) (drop place l.1))
pairs_first table room low bytes l name place few marked high named e =
    let first = first_of_cells table room l.1 place few e in
    pairs_next (cell_to table room) (cell_shrinks table room) table low (length bytes) (length (drop place l.1)) bytes l name (cell_value table (take place l.1), drop place l.1) marked high named first.read (omega arith) (omega arith)

abbrev read_alone : Val → List ℕ → Option (Val × List ℕ)
read_alone v rest = Some (v, rest)

-- bytes that are one cell are read as its value, and nothing is left
pub is_cell_reads : (table : Table) (bytes : List ℕ) → is_cell table bytes ≡ true → cell_to table 128 bytes ≡ Some (cell_value table bytes, [])
unfolding is_cell cell_value
is_cell_reads table bytes h = alone (cell_to table 128 bytes) h
  where
    nothing_left : (v : Val) (rest : List ℕ) → eqb (length rest) 0 ≡ true → read_alone v rest ≡ read_alone v []
    nothing_left v [] h = refl
    nothing_left v (b ∷ bs) h = absurd (let k : suc (length bs) ≡ 0 = grind (arith, nat_tests) in omega arith)

    alone : (o : Option (Val × List ℕ)) → ends_there o ≡ true → o ≡ Some (value_read o, [])
    alone None h = absurd cc
    alone (Some x) h = nothing_left x.0 x.1 h
