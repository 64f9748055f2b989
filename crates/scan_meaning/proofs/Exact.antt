-- Blocks, their ranges and their exclusion are exact.
use Rattle.std.proofs.Common.{◌≡◌, ℕ, zero, suc, ◌<◌, get_or, ℤ, Bool, true, false, cond, eqb, List, [], ◌∷◌, length, Option, Some, None, refl, sym, ap, ◌∙◌, subst, arith}
use Rattle.std.specs.Prelude.{◌↔◌, ◌≤ℤ◌, ◌<ℤ◌, int_le, int_lt, not, ◌&&◌, ◌||◌}
use Rattle.std.specs.Option.{option_and_then}
use Rattle.std.specs.List as list
use Rattle.std.specs.List.{list_all}
use Rattle.std.specs.Int.{int_min, int_max}
use Rattle.std.proofs.lemmas.Int.{ints, clamps}
use Rattle.std.proofs.lemmas.Bool.Decides.{nat_tests}
use Rattle.value_meaning.specs.Val.{Val, missing, null, truth, int, time, text, list as list_of, struct}
use Rattle.block_meaning.specs.Tables.{Table}
use Rattle.block_meaning.specs.Blocks.{IsBlock, IsDamaged, block_in}
use Rattle.block_meaning.proofs.BlockReading.{blocks_read, damaged_none, damaged_count}
use Rattle.file_meaning.specs.Files.{Entry}
use Rattle.tree_meaning.specs.Tree.{name}
use Rattle.eval_meaning.specs.Paths.{step_of}
use Rattle.range_meaning.specs.declared.Bounds.{Bounds}
use Rattle.range_meaning.specs.declared.Bounds.TheVariants.{All, Between}
use Rattle.range_meaning.specs.Excluded.{LiesWithin, IsExcluded, HoldsWithin, IsSoundEntry}
use Rattle.scan_meaning.specs.Blocks.{Block, stored_rows, lies_within, is_sound}
use Rattle.scan_meaning.specs.Wanted.{bounds_by, are_apart, is_wanted}
use Rattle.scan_meaning.specs.Laws.{BlocksAreExact, RangesAreExact, UnwantedAreExcluded}

-- the bytes are a block of these rows, as many as are told
abbrev IsCounted : ℕ → List ℕ → List Val → Type 0
IsCounted n bytes rows = (table : Table) × IsBlock table rows bytes × (length rows ≡ n)

abbrev counted_rows : ℕ → Option (Table × List Val) → Option (List Val)
counted_rows n o = option_and_then (λ x. cond (eqb (length x.1) n) (Some x.1) None) o

inside : {A : Type 0} (x y : A) → Some x ≡ Some y → x ≡ y
inside x y e = cc

-- what reading comes to, by cases
module _ (n : ℕ) (bytes : List ℕ) where
  read_one : (x : Table × List Val) (t : Bool) → block_in bytes ≡ Some x → eqb (length x.1) n ≡ t → (rows : List Val) → cond t (Some x.1) None ≡ Some rows → IsCounted n bytes rows
  read_one x true read same rows e =
      let count : length x.1 ≡ n = grind (arith, nat_tests) in
      subst (λ (l : List Val). IsCounted n bytes l) (inside x.1 rows e) (x.0, (blocks_read x.0 x.1 bytes).0 read, count)
  read_one x false read other rows e = absurd (cc)

  rows_read : (o : Option (Table × List Val)) → block_in bytes ≡ o → (rows : List Val) → counted_rows n o ≡ Some rows → IsCounted n bytes rows
  rows_read None read rows e = absurd (cc)
  rows_read (Some x) read rows e = read_one x (eqb (length x.1) n) read refl rows e

  none_one : (x : Table × List Val) (t : Bool) → block_in bytes ≡ Some x → eqb (length x.1) n ≡ t → cond t (Some x.1) None ≡ None → IsDamaged n bytes
  none_one x true read same e = absurd (cc)
  none_one x false read other e =
      damaged_count n bytes x.0 x.1 read (λ c. let no : true ≡ false = sym (grind (arith, nat_tests)) ∙ other in cc)

  none_read : (o : Option (Table × List Val)) → block_in bytes ≡ o → counted_rows n o ≡ None → IsDamaged n bytes
  none_read None read e = damaged_none n bytes read
  none_read (Some x) read e = none_one x (eqb (length x.1) n) read refl e

  same_count : (m : ℕ) → m ≡ n → eqb m n ≡ true
  same_count m e = grind (arith, nat_tests)

  rows_again : (rows : List Val) → IsCounted n bytes rows → counted_rows n (block_in bytes) ≡ Some rows
  rows_again rows h =
      ap (λ (o : Option (Table × List Val)). counted_rows n o) ((blocks_read h.0 rows bytes).1 h.1)
      ∙ ap (λ (t : Bool). cond t (Some rows) None) (same_count (length rows) h.2)

  none_again : IsDamaged n bytes → (o : Option (List Val)) → counted_rows n (block_in bytes) ≡ o → o ≡ None
  none_again damaged None e = refl
  none_again damaged (Some rows) e = let h = rows_read (block_in bytes) refl rows e in absurd (damaged h.0 rows h.2 h.1)

pub rows_exact : (b : Block) (rows : List Val) → (stored_rows b ≡ Some rows) ↔ ((table : Table) × IsBlock table rows b.bytes × (length rows ≡ b.place.entry.rows))
unfolding stored_rows
rows_exact b rows = (λ e. rows_read b.place.entry.rows b.bytes (block_in b.bytes) refl rows e, λ h. rows_again b.place.entry.rows b.bytes rows h)

pub damaged_exact : (b : Block) → (stored_rows b ≡ None) ↔ IsDamaged b.place.entry.rows b.bytes
unfolding stored_rows
damaged_exact b = (
  λ e. none_read b.place.entry.rows b.bytes (block_in b.bytes) refl e,
  λ h. none_again b.place.entry.rows b.bytes h (counted_rows b.place.entry.rows (block_in b.bytes)) refl,
)

pub blocks_exact : BlocksAreExact
blocks_exact = record { rows = rows_exact; damaged = damaged_exact }

-- ranges

both_true : (a b : Bool) → (a && b) ≡ true → (a ≡ true) × (b ≡ true)
both_true true b h = (refl, h)
both_true false b h = absurd (cc)

both_hold : (a b : Bool) → a ≡ true → b ≡ true → (a && b) ≡ true
both_hold a b x y = rw x y

le_is : (x y : ℤ) → int_le x y ≡ true → x ≤ℤ y
le_is x y h = grind (arith, ints)

le_was : (x y : ℤ) → x ≤ℤ y → int_le x y ≡ true
le_was x y h = grind (arith, ints)

lies_is : (e : Entry) (v : Val) → lies_within e v ≡ true → (t : ℤ) → v ≡ time t → LiesWithin e t
lies_is e v h t is =
    let k : lies_within e (time t) ≡ true = subst (λ (w : Val). lies_within e w ≡ true) is h in
    let both = both_true (int_le e.least t) (int_le t e.greatest) k in
    record { not_below = le_is e.least t both.0; not_above = le_is t e.greatest both.1 }

lies_was : (e : Entry) (v : Val) → ((t : ℤ) → v ≡ time t → LiesWithin e t) → lies_within e v ≡ true
lies_was e missing h = refl
lies_was e null h = refl
lies_was e (truth b) h = refl
lies_was e (int n) h = refl
lies_was e (time t) h = let k = h t refl in both_hold (int_le e.least t) (int_le t e.greatest) (le_was e.least t k.not_below) (le_was t e.greatest k.not_above)
lies_was e (text s) h = refl
lies_was e (list_of vs) h = refl
lies_was e (struct fs) h = refl

module _ (field : List ℕ) (e : Entry) where
  abbrev own : Val → Bool
  own row = lies_within e (step_of (name field) row)

  all_is : (rows : List Val) → list_all own rows ≡ true → (k : ℕ) (d : Val) → k < length rows → HoldsWithin field e (get_or rows k d)
  all_is [] h k d lt = absurd (omega arith)
  all_is (r ∷ rs) h zero d lt = let both = both_true (own r) (list_all own rs) h in lies_is e (step_of (name field) r) both.0
  all_is (r ∷ rs) h (suc k) d lt = let both = both_true (own r) (list_all own rs) h in all_is rs both.1 k d (omega arith)

  all_was : (rows : List Val) → list.All (HoldsWithin field e) rows → list_all own rows ≡ true
  all_was [] h = refl
  all_was (r ∷ rs) h = both_hold (own r) (list_all own rs) (lies_was e (step_of (name field) r) (h 0 r (omega arith))) (all_was rs (λ k d lt. h (suc k) d (omega arith)))

field_sound : (field : List ℕ) (e : Entry) (rows : List Val) → (((eqb (length field) 0) || list_all (own field e) rows) ≡ true) ↔ IsSoundEntry field e rows
field_sound [] e rows = (λ h none. absurd (none refl), λ h. refl)
field_sound (c ∷ cs) e rows =
    let off : eqb (suc (length cs)) 0 ≡ false = grind (arith, nat_tests) in
    let same : (eqb (suc (length cs)) 0 || list_all (own (c ∷ cs) e) rows) ≡ list_all (own (c ∷ cs) e) rows = ap (λ (t : Bool). t || list_all (own (c ∷ cs) e) rows) off in
    (λ h some. all_is (c ∷ cs) e rows (sym same ∙ h), λ h. same ∙ all_was (c ∷ cs) e rows (h (λ none. cc)))

pub ranges_exact : RangesAreExact
unfolding is_sound
ranges_exact field entry rows = field_sound field entry rows

-- exclusion

lt_is : (x y : ℤ) → int_lt x y ≡ true → x <ℤ y
lt_is x y h = grind (arith, ints)

apart_is : (e : Entry) (low high : ℤ) → (int_min e.greatest high <ℤ int_max e.least low) → IsExcluded e (Between low high)
apart_is e low high h = record {
  bound = λ is. cc;
  apart = λ t lies within. let from = within.not_below in let to = within.not_above in omega (arith, ints, clamps);
}

apart_was : (e : Entry) (low high : ℤ) → IsExcluded e (Between low high) → int_lt (int_min e.greatest high) (int_max e.least low) ≡ true
apart_was e low high excluded = go (int_lt (int_min e.greatest high) (int_max e.least low)) refl
  where
    go : (b : Bool) → int_lt (int_min e.greatest high) (int_max e.least low) ≡ b → b ≡ true
    go true is = refl
    go false is =
        let above : int_max e.least low ≤ℤ int_min e.greatest high = grind (arith, ints) in
        absurd (excluded.apart (int_max e.least low) (omega (arith, ints, clamps), omega (arith, ints, clamps)) (record { not_below = omega (arith, ints, clamps); not_above = omega (arith, ints, clamps) }))

not_false : (b : Bool) → not b ≡ false → b ≡ true
not_false true h = refl
not_false false h = absurd (cc)

-- the test of an entry is the exclusion of its block
pub apart_exact : (e : Entry) (b : Bounds) → (are_apart e b ≡ true) ↔ IsExcluded e b
apart_exact e All = (λ h. absurd (cc), λ x. absurd (x.bound refl))
apart_exact e (Between low high) = (λ h. apart_is e low high (lt_is (int_min e.greatest high) (int_max e.least low) h), λ x. apart_was e low high x)

bounds_exact : (e : Entry) (b : Bounds) → (not (are_apart e b) ≡ false) ↔ IsExcluded e b
bounds_exact e All = (λ h. absurd (cc), λ x. absurd (x.bound refl))
bounds_exact e (Between low high) = (
  λ h. apart_is e low high (lt_is (int_min e.greatest high) (int_max e.least low) (not_false (int_lt (int_min e.greatest high) (int_max e.least low)) h)),
  λ x. ap (λ (t : Bool). not t) (apart_was e low high x),
)

pub unwanted_excluded : UnwantedAreExcluded
unfolding is_wanted
unwanted_excluded q field entry = bounds_exact entry (bounds_by field q.filter)
