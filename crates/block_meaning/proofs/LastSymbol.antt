-- Which bytes are a cell depends on the table's last number alone.
use Rattle.std.proofs.Common.{◌≡◌, ℕ, zero, suc, ◌-◌, Bool, true, false, List, [], ◌∷◌, length, take, drop, Option, Some, None, cond, ltb, eqb, refl, sym, ap, ◌∙◌, arith}
use Rattle.std.specs.Option.{option_map, option_and_then}
use Rattle.std.specs.Prelude.{is_some}
use Rattle.std.proofs.lemmas.List.{length-replicate}
use Rattle.value_meaning.specs.Val.{Val, Fields, list, struct, val, field, text}
use Rattle.block_meaning.specs.Numbers.{var_uint, magnitude}
use Rattle.block_meaning.specs.Tables.{Table, last_symbol, text_of}
use Rattle.block_meaning.specs.CellReading.{Reader, head_at, one_byte, or_byte, with_payload, scalar, symbol, cells_by, pairs_by, node, cell_by, flat_cell, cell_to, ends_there, is_cell, blank_table}
use Rattle.block_meaning.specs.Laws.{LastSymbolDecides}
use Rattle.block_meaning.proofs.Answered.{some_is}
use Rattle.block_meaning.proofs.Symbols.{same_symbols}
use Rattle.block_meaning.proofs.CellSteps.{ends, is_some_map}

-- f and g find the same cells
abbrev pub Same : Reader → Reader → Type 0
Same f g = (bytes : List ℕ) → ends (f bytes) ≡ ends (g bytes)

abbrev SamePayloads : (ℕ → List ℕ → Option Val) → (ℕ → List ℕ → Option Val) → Type 0
SamePayloads p q = (t : ℕ) (payload : List ℕ) → is_some (p t payload) ≡ is_some (q t payload)

ends_map : (o q : Option Val) (rest : List ℕ) → is_some o ≡ is_some q → ends (option_map (λ (v : Val). (v, rest)) o) ≡ ends (option_map (λ (v : Val). (v, rest)) q)
ends_map None None rest e = refl
ends_map None (Some w) rest e = absurd cc
ends_map (Some v) None rest e = absurd cc
ends_map (Some v) (Some w) rest e = refl

-- the first steps answered alike, and so did the next
alike_then : {A B C D : Type 0} (a : A → Option B) (c : C → Option D) (o : Option A) (q : Option C) → is_some o ≡ is_some q → ((x : A) (y : C) → o ≡ Some x → q ≡ Some y → is_some (a x) ≡ is_some (c y)) → is_some (option_and_then a o) ≡ is_some (option_and_then c q)
alike_then a c None None e k = refl
alike_then a c None (Some y) e k = absurd cc
alike_then a c (Some x) None e k = absurd cc
alike_then a c (Some x) (Some y) e k = k x y refl refl

alike_ends : (o q : Option (Val × List ℕ)) → ends o ≡ ends q → is_some o ≡ is_some q
alike_ends None None e = refl
alike_ends None (Some y) e = absurd cc
alike_ends (Some x) None e = absurd cc
alike_ends (Some x) (Some y) e = refl

rest_is : (o q : Option (Val × List ℕ)) (x y : Val × List ℕ) → ends o ≡ ends q → o ≡ Some x → q ≡ Some y → x.1 ≡ y.1
rest_is o q x y e g h = some_is x.1 y.1 (sym (ap ends g) ∙ e ∙ ap ends h)

alike_map : {A B C D : Type 0} (a : A → B) (c : C → D) (o : Option A) (q : Option C) → is_some o ≡ is_some q → is_some (option_map a o) ≡ is_some (option_map c q)
alike_map a c o q e = is_some_map a o ∙ e ∙ sym (is_some_map c q)

same_by : (p q : ℕ → List ℕ → Option Val) → SamePayloads p q → Same (cell_by p) (cell_by q)
unfolding cell_by
same_by p q s [] = refl
same_by p q s (h ∷ rest) = go (one_byte h)
  where
    behind : (o : Option (ℕ × ℕ × List ℕ)) → ends (option_and_then (λ x. option_map (λ v. (v, drop x.1 x.2)) (p x.0 (take x.1 x.2))) o) ≡ ends (option_and_then (λ x. option_map (λ v. (v, drop x.1 x.2)) (q x.0 (take x.1 x.2))) o)
    behind None = refl
    behind (Some x) = ends_map (p x.0 (take x.1 x.2)) (q x.0 (take x.1 x.2)) (drop x.1 x.2) (s x.0 (take x.1 x.2))

    go : (o : Option Val) → ends (or_byte o rest (with_payload p (h ∷ rest))) ≡ ends (or_byte o rest (with_payload q (h ∷ rest)))
    go None = behind (head_at (h ∷ rest))
    go (Some v) = refl

module _ (f g : Reader) (same : Same f g) where
  pub same_cells : (fuel : ℕ) (bytes : List ℕ) → is_some (cells_by f fuel bytes) ≡ is_some (cells_by g fuel bytes)
  same_cells fuel [] = refl
  same_cells zero (b ∷ bs) = refl
  same_cells (suc fuel) (b ∷ bs) =
      alike_then _ _ (f (b ∷ bs)) (g (b ∷ bs)) (alike_ends _ _ (same (b ∷ bs))) (λ x y e k.
      let rest : x.1 ≡ y.1 = rest_is _ _ x y (same (b ∷ bs)) e k in
      alike_map (val x.0) (val y.0) (cells_by f fuel x.1) (cells_by g fuel y.1) (same_cells fuel x.1 ∙ ap (λ (z : List ℕ). is_some (cells_by g fuel z)) rest))

  module _ (t u : Table) (names : (n : ℕ) → is_some (text_of t n) ≡ is_some (text_of u n)) where
    pub same_pairs : (low fuel : ℕ) (bytes : List ℕ) → is_some (pairs_by f t low fuel bytes) ≡ is_some (pairs_by g u low fuel bytes)
    same_pairs low fuel [] = refl
    same_pairs low zero (b ∷ bs) = refl
    same_pairs low (suc fuel) (b ∷ bs) = marked (λ next rest. same_pairs next fuel rest) (var_uint (b ∷ bs))
      where
        either : (c : Bool) (o q : Option Fields) → is_some o ≡ is_some q → is_some (cond c None o) ≡ is_some (cond c None q)
        either true o q e = refl
        either false o q e = e

        pair : ((next : ℕ) (rest : List ℕ) → is_some (pairs_by f t next fuel rest) ≡ is_some (pairs_by g u next fuel rest)) → (label : ℕ) (bytes : List ℕ) → is_some (option_and_then (λ name. option_and_then (λ x. option_map (field name x.0) (pairs_by f t (suc label) fuel x.1)) (f bytes)) (text_of t label)) ≡ is_some (option_and_then (λ name. option_and_then (λ x. option_map (field name x.0) (pairs_by g u (suc label) fuel x.1)) (g bytes)) (text_of u label))
        pair again label bytes =
            alike_then _ _ (text_of t label) (text_of u label) (names label) (λ name other m n.
            alike_then _ _ (f bytes) (g bytes) (alike_ends _ _ (same bytes)) (λ x y e k.
            let rest : x.1 ≡ y.1 = rest_is _ _ x y (same bytes) e k in
            alike_map (field name x.0) (field other y.0) (pairs_by f t (suc label) fuel x.1) (pairs_by g u (suc label) fuel y.1) (again (suc label) x.1 ∙ ap (λ (z : List ℕ). is_some (pairs_by g u (suc label) fuel z)) rest)))

        marked : ((next : ℕ) (rest : List ℕ) → is_some (pairs_by f t next fuel rest) ≡ is_some (pairs_by g u next fuel rest)) → (o : Option (ℕ × List ℕ)) → is_some (option_and_then (λ l. cond (ltb l.0 low) None (option_and_then (λ name. option_and_then (λ x. option_map (field name x.0) (pairs_by f t (suc l.0) fuel x.1)) (f l.1)) (text_of t l.0))) o) ≡ is_some (option_and_then (λ l. cond (ltb l.0 low) None (option_and_then (λ name. option_and_then (λ x. option_map (field name x.0) (pairs_by g u (suc l.0) fuel x.1)) (g l.1)) (text_of u l.0))) o)
        marked again None = refl
        marked again (Some l) = either (ltb l.0 low) _ _ (pair again l.0 l.1)

module _ (t u : Table) (names : (n : ℕ) → is_some (text_of t n) ≡ is_some (text_of u n)) where
  same_symbol : (payload : List ℕ) → is_some (symbol t payload) ≡ is_some (symbol u payload)
  same_symbol payload = either (ltb 4 (length payload)) _ _ (alike_map text text (text_of t (magnitude payload)) (text_of u (magnitude payload)) (names (magnitude payload)))
    where
      either : (c : Bool) (o q : Option Val) → is_some o ≡ is_some q → is_some (cond c None o) ≡ is_some (cond c None q)
      either true o q e = refl
      either false o q e = e

  same_scalar : SamePayloads (scalar t) (scalar u)
  unfolding scalar
  same_scalar k payload = go (eqb k 2) (eqb k 3) (eqb k 6) (eqb k 7) _ _ _ _ _ _ (same_symbol payload)
    where
      go : (a b c d : Bool) (v w x y z s : Option Val) → is_some y ≡ is_some z → is_some (cond a v (cond b w (cond c x (cond d y s)))) ≡ is_some (cond a v (cond b w (cond c x (cond d z s))))
      go true b c d v w x y z s e = refl
      go false true c d v w x y z s e = refl
      go false false true d v w x y z s e = refl
      go false false false true v w x y z s e = e
      go false false false false v w x y z s e = refl

  same_node : (f g : Reader) → Same f g → SamePayloads (node f t) (node g u)
  unfolding node
  same_node f g s k payload =
      go (eqb k 11) (eqb k 13) _ _ _ _ _ _ (alike_map list list (cells_by f (length payload) payload) (cells_by g (length payload) payload) (same_cells f g s (length payload) payload)) (alike_map struct struct (pairs_by f t 10 (length payload) payload) (pairs_by g u 10 (length payload) payload) (same_pairs f g s t u names 10 (length payload) payload)) (same_scalar k payload)
    where
      go : (a b : Bool) (v w x y z s : Option Val) → is_some v ≡ is_some w → is_some x ≡ is_some y → is_some z ≡ is_some s → is_some (cond a v (cond b x z)) ≡ is_some (cond a w (cond b y s))
      go true b v w x y z s e g h = e
      go false true v w x y z s e g h = g
      go false false v w x y z s e g h = h

  same_to : (room : ℕ) → Same (cell_to t room) (cell_to u room)
  unfolding cell_to flat_cell
  same_to zero bytes = same_by (scalar t) (scalar u) same_scalar bytes
  same_to (suc room) bytes = same_by (node (cell_to t room) t) (node (cell_to u room) u) (same_node (cell_to t room) (cell_to u room) (same_to room)) bytes

pub last_symbol_decides : LastSymbolDecides
last_symbol_decides t u room bytes e = same_to t u (same_symbols t u e) room bytes

-- for the answers that code compares
pub same_ends : (t u : Table) (room : ℕ) → length t ≡ length u → Same (cell_to t room) (cell_to u room)
same_ends t u room e bytes = last_symbol_decides t u room bytes e

ends_there_is : (o q : Option (Val × List ℕ)) → ends o ≡ ends q → ends_there o ≡ ends_there q
ends_there_is None None e = refl
ends_there_is None (Some y) e = absurd cc
ends_there_is (Some x) None e = absurd cc
ends_there_is (Some x) (Some y) e = let rest : x.1 ≡ y.1 = some_is _ _ e in rw rest refl

pub same_cell : (t u : Table) (bytes : List ℕ) → length t ≡ length u → is_cell t bytes ≡ is_cell u bytes
unfolding is_cell
same_cell t u bytes e = ends_there_is _ _ (last_symbol_decides t u 128 bytes e)

pub length_blank : (last : ℕ) → length (blank_table last) ≡ last - 9
length_blank last = length-replicate (last - 9) []

pub blank_is : (table : Table) (last : ℕ) → last ≡ last_symbol table → length (blank_table last) ≡ length table
blank_is table last e = omega (arith, length_blank last)

-- a cell under the blank table is one under each table with that last number
pub cell_of_blank : (table : Table) (last : ℕ) (bytes : List ℕ) → last ≡ last_symbol table → is_cell (blank_table last) bytes ≡ is_cell table bytes
cell_of_blank table last bytes e = same_cell (blank_table last) table bytes (blank_is table last e)

pub ends_of_blank : (table : Table) (last room : ℕ) (bytes : List ℕ) → last ≡ last_symbol table → ends (cell_to (blank_table last) room bytes) ≡ ends (cell_to table room bytes)
ends_of_blank table last room bytes e = last_symbol_decides (blank_table last) table room bytes (blank_is table last e)
