-- What is read under a table whose texts are UTF-8 and rise has names that rise and texts that are UTF-8, at every depth.
use Rattle.std.proofs.Common.{◌≡◌, ℕ, suc, ◌-◌, ◌<◌, ◌≤◌, true, false, List, [], ◌∷◌, Some, eqb, sym, ◌∙◌, arith, inl, inr}
use Rattle.std.specs.Str.{IsUtf8}
use Rattle.std.proofs.lemmas.Bool.Decides.{nat_tests}
use Rattle.std.proofs.lemmas.Cmp.{nat_list_cmp_total}
use Rattle.value_meaning.specs.Val.{Val, Vals, Fields, missing, null, truth, int, time, text, list, struct, no_vals, val, no_fields, field}
use Rattle.value_meaning.specs.Pairs.{IsBelow}
use Rattle.value_meaning.specs.Sound.{IsBelowFirst, IsSound, AreSound, HasSoundFields}
use Rattle.block_meaning.specs.Tables.{Table, text_from, text_of, TextsRise}
use Rattle.block_meaning.specs.Cells.{IsCell, AreCells, ArePairs}
use Rattle.block_meaning.specs.CellReading.{cell_to}
use Rattle.block_meaning.proofs.Answered.{chosen, some_is, none_is}
use Rattle.block_meaning.proofs.NestedReading.{reads_to}
use Rattle.block_meaning.proofs.Symbols.{before_first}

abbrev pub AreUtf8 : Table → Type 0
AreUtf8 [] = Unit {0}
AreUtf8 (t ∷ ts) = IsUtf8 t × AreUtf8 ts

-- a table as a block has it
pub record IsSoundTable (table : Table) : Type 0 where
  pub utf8 : AreUtf8 table
  pub rise : TextsRise table

text_utf8 : (table : Table) (first n : ℕ) (s : List ℕ) → AreUtf8 table → text_from first table n ≡ Some s → IsUtf8 s
text_utf8 [] first n s u e = absurd (none_is s e)
text_utf8 (t ∷ ts) first n s u e =
    elim (chosen (eqb n first) _ _ _ e) [
      | inl a ↦ rw (← some_is _ _ a.1) u.0
      | inr a ↦ text_utf8 ts (suc first) n s u.1 a.1
    ]

below_trans : (a b c : List ℕ) → IsBelow a b → IsBelow b c → IsBelow a c
below_trans = nat_list_cmp_total.trans

above_all : (t : List ℕ) (ts : Table) (first n : ℕ) (s : List ℕ) → TextsRise (t ∷ ts) → text_from first ts n ≡ Some s → IsBelow t s
above_all t [] first n s r e = absurd (none_is s e)
above_all t (u ∷ us) first n s r e =
    elim (chosen (eqb n first) _ _ _ e) [
      | inl a ↦ rw (← some_is _ _ a.1) r.0
      | inr a ↦ below_trans t u s r.0 (above_all u us (suc first) n s r.1 a.1)
    ]

rise_tail : (t : List ℕ) (ts : Table) → TextsRise (t ∷ ts) → TextsRise ts
rise_tail t [] r = tt
rise_tail t (u ∷ us) r = r.1

is_same : (n k : ℕ) → eqb n k ≡ true → n ≡ k
is_same n k e = grind (arith, nat_tests)

rise_from : (ts : Table) (first a b : ℕ) (s t : List ℕ) → TextsRise ts → a < b → text_from first ts a ≡ Some s → text_from first ts b ≡ Some t → IsBelow s t
rise_from [] first a b s t r l e f = absurd (none_is s e)
rise_from (u ∷ us) first a b s t r l e f =
    elim (chosen (eqb b first) _ _ _ f) [
      | inl y ↦
          let here : b ≡ first = is_same b first y.0 in
          let apart : eqb a first ≡ false = grind (arith, nat_tests) in
          let low : text_from (suc first) us a ≡ Some s = rw apart at e in
          absurd (none_is s (sym (before_first us (suc first) a (omega arith)) ∙ low))
      | inr y ↦ elim (chosen (eqb a first) _ _ _ e) [
        | inl x ↦ rw (← some_is _ _ x.1) (above_all u us (suc first) b t r y.1)
        | inr x ↦ rise_from us (suc first) a b s t (rise_tail u us r) l x.1 y.1
      ]
    ]

-- each number's text is UTF-8, and a greater number has a greater text
module _ (table : Table) (sound : IsSoundTable table) where
  pub text_of_utf8 : (n : ℕ) (s : List ℕ) → text_of table n ≡ Some s → IsUtf8 s
  unfolding text_of
  text_of_utf8 n s e = text_utf8 table 10 n s sound.utf8 e

  pub texts_of_rise : (a b : ℕ) (s t : List ℕ) → a < b → text_of table a ≡ Some s → text_of table b ≡ Some t → IsBelow s t
  unfolding text_of
  texts_of_rise a b s t l e f = rise_from table 10 a b s t sound.rise l e f

  above_label : (depth label : ℕ) (n : List ℕ) (fs : Fields) (rest : List ℕ) → text_of table label ≡ Some n → ArePairs table depth (suc label) fs rest → IsBelowFirst n fs
  above_label depth label n no_fields rest e c = tt
  above_label depth label n (field m v fs) rest e c = texts_of_rise label c.0 n m c.5 e c.6

  mutual
    pub cell_sound : (v : Val) (depth : ℕ) (bytes : List ℕ) → IsCell table depth v bytes → IsSound v
    cell_sound missing depth bytes c = tt
    cell_sound null depth bytes c = tt
    cell_sound (truth b) depth bytes c = tt
    cell_sound (int n) depth bytes c = tt
    cell_sound (time t) depth bytes c = tt
    cell_sound (text s) depth bytes (inl c) = text_of_utf8 c.1 s c.4
    cell_sound (text s) depth bytes (inr c) = c.1
    cell_sound (list vs) depth bytes c = cells_sound vs (suc depth) c.0 c.3
    cell_sound (struct fs) depth bytes c = pairs_sound fs (suc depth) 10 c.0 c.3

    pub cells_sound : (vs : Vals) (depth : ℕ) (bytes : List ℕ) → AreCells table depth vs bytes → AreSound vs
    cells_sound no_vals depth bytes c = tt
    cells_sound (val v vs) depth bytes c = (cell_sound v depth c.0 c.3, cells_sound vs depth c.1 c.4)

    pub pairs_sound : (fs : Fields) (depth low : ℕ) (bytes : List ℕ) → ArePairs table depth low fs bytes → HasSoundFields fs
    pairs_sound no_fields depth low bytes c = tt
    pairs_sound (field n v fs) depth low bytes c =
        (text_of_utf8 c.0 n c.6, above_label depth c.0 n fs c.3 c.6 c.9, cell_sound v depth c.2 c.8, pairs_sound fs depth (suc c.0) c.3 c.9)

  -- a value that was read
  pub read_sound : (room : ℕ) (bytes : List ℕ) (v : Val) (rest : List ℕ) → room ≤ 128 → cell_to table room bytes ≡ Some (v, rest) → IsSound v
  read_sound room bytes v rest few e =
      let r = reads_to table room (128 - room) (omega arith) in
      let c = r.takes bytes v rest e in
      cell_sound v (128 - room) c.0 c.2
