-- What is read is spelled: from what reading answers to a block file.
use Rattle.std.proofs.Common.{◌≡◌, ℕ, ◌+◌, ◌-◌, ◌*◌, ◌≤◌, zero, suc, Bool, true, false, cond, List, [], ◌∷◌, ◌++◌, length, take, drop, Option, Some, None, refl, sym, ap, ◌∙◌, subst, arith, length-drop}
use Rattle.std.specs.Prelude.{codes, flat_map, nat_le, ◌==◌, ◌&&◌, FitsSigned}
use Rattle.std.specs.Option.{option_map, option_and_then}
use Rattle.std.specs.Int.{to_be_bytes, cast_signed, cast_unsigned, w16, w32, w64}
use Rattle.std.specs.Str.{IsUtf8, is_utf8}
use Rattle.std.proofs.lemmas.Str.{IsUtf8-from_is_utf8}
use Rattle.std.proofs.lemmas.Int.{of_z-to_z}
use Rattle.std.proofs.lemmas.List.{drop-drop, take-append-drop, length-take-le, drop_all, take_all}
use Rattle.std.proofs.lemmas.Bool.{and_parts}
use Rattle.std.proofs.lemmas.Bool.Decides.{nat_tests}
use Rattle.std.proofs.lemmas.Slice.Eq.{bytes_eq-Decides}
use Rattle.std.proofs.Math.Facts.{sfits_to_z, Fits-of_lt}
use Rattle.file_meaning.specs.declared.TheConstants.{MOST_BLOCKS, MOST_NAME_BYTES, LEAST_INDEX_BYTES, MOST_INDEX_BYTES}
use Rattle.file_meaning.specs.Files.{Entry, IsEntry, IsIndex, SpellsIndex, IsFile, StandEndToEnd, entry_bytes, index_bytes, tail_bytes}
use Rattle.file_meaning.specs.Reading.{AreBytes, u16_at, u32_at, u64_at, has_magic, entry_at, stands_at, entries_at, named_at, index_in, can_be_index, gap_in, index_before, file_in}
use Rattle.file_meaning.proofs.Numbers.{u16_spells, u32_spells, u64_spells, u64_small, are_bytes_of, are_bytes_behind}
use Rattle.file_meaning.proofs.Spelled.{Answers}

-- a signed number has the bytes of its bits
signed_is : (at : ℕ) (bytes : List ℕ) → AreBytes bytes → to_be_bytes w64 (u64_at at bytes) ≡ to_be_bytes w64 (cast_unsigned w64 (cast_signed w64 (u64_at at bytes)))
signed_is at bytes all = ap (to_be_bytes w64) (sym (of_z-to_z w64 (u64_at at bytes) (u64_small at bytes all)))

-- the 32 bytes of an entry
pub entry_spells : (at : ℕ) (bytes : List ℕ) → AreBytes bytes → at + 32 ≤ length bytes → drop at bytes ≡ entry_bytes (entry_at at bytes) ++ drop (at + 32) bytes
unfolding entry_at
entry_spells at bytes all fits =
    let start = u64_spells at (at + 8) bytes all (omega arith) (omega arith) in
    let long = u32_spells (at + 8) (at + 12) bytes all (omega arith) (omega arith) in
    let rows = u32_spells (at + 12) (at + 16) bytes all (omega arith) (omega arith) in
    let least = u64_spells (at + 16) (at + 24) bytes all (omega arith) (omega arith) in
    let greatest = u64_spells (at + 24) (at + 32) bytes all (omega arith) (omega arith) in
    let low = signed_is (at + 16) bytes all in
    let high = signed_is (at + 24) bytes all in
    start ∙ ap (λ (l : List ℕ). to_be_bytes w64 (u64_at at bytes) ++ l)
    (long ∙ ap (λ (l : List ℕ). to_be_bytes w32 (u32_at (at + 8) bytes) ++ l)
    (rows ∙ ap (λ (l : List ℕ). to_be_bytes w32 (u32_at (at + 12) bytes) ++ l)
    (least ∙ ap (λ (l : List ℕ). l ++ drop (at + 24) bytes) low ∙ ap (λ (l : List ℕ). to_be_bytes w64 (cast_unsigned w64 (cast_signed w64 (u64_at (at + 16) bytes))) ++ l)
    (greatest ∙ ap (λ (l : List ℕ). l ++ drop (at + 32) bytes) high))))

signed_fits : (at : ℕ) (bytes : List ℕ) → AreBytes bytes → FitsSigned w64 (cast_signed w64 (u64_at at bytes))
signed_fits at bytes all = sfits_to_z (Fits-of_lt (u64_small at bytes all))

entry_fits : (at : ℕ) (bytes : List ℕ) → AreBytes bytes → FitsSigned w64 (entry_at at bytes).least × FitsSigned w64 (entry_at at bytes).greatest
unfolding entry_at
entry_fits at bytes all = (signed_fits (at + 16) bytes all, signed_fits (at + 24) bytes all)

stands_is : (from : ℕ) (e : Entry) → stands_at from e ≡ true → FitsSigned w64 e.least × FitsSigned w64 e.greatest → (e.start ≡ from) × IsEntry e
unfolding stands_at
stands_is from e holds fits = (
  grind (arith, nat_tests),
  record {
    some_bytes = grind (arith, nat_tests);
    few_bytes = grind (arith, nat_tests);
    some_rows = grind (arith, nat_tests);
    few_rows = grind (arith, nat_tests);
    least = fits.0;
    greatest = fits.1;
  },
)

-- what reading entries believes
pub record AreSpelled (from to count at : ℕ) (bytes : List ℕ) (es : List Entry) : Type 0 where
  pub spelled : drop at bytes ≡ flat_map entry_bytes es
  pub many : length es ≡ count
  pub stand : StandEndToEnd from es to

-- what the answer of each step says of the step before
nil_is : (b : Bool) (es : List Entry) → cond b (Some []) None ≡ Some es → (b ≡ true) × ([] ≡ es)
nil_is true es h = (refl, cc)
nil_is false es h = absurd (cc)

record ConsIs (b : Bool) (e : Entry) (o : Option (List Entry)) (es : List Entry) : Type 0 where
  pub holds : b ≡ true
  pub rest : List Entry
  pub rest_is : o ≡ Some rest
  pub all_is : e ∷ rest ≡ es

cons_is : (b : Bool) (e : Entry) (o : Option (List Entry)) (es : List Entry) → cond b (option_map (λ l. e ∷ l) o) None ≡ Some es → ConsIs b e o es
cons_is false e o es h = absurd (cc)
cons_is true e None es h = absurd (cc)
cons_is true e (Some l) es h = record { holds = refl; rest = l; rest_is = refl; all_is = cc }

pub entries_spell : (from to count at : ℕ) (bytes : List ℕ) (es : List Entry) → AreBytes bytes → length bytes ≡ at + 32 * count → entries_at from to count at bytes ≡ Some es → AreSpelled from to count at bytes es
unfolding entries_at
entries_spell from to zero at bytes es all long h =
    let n = nil_is (from == to) es h in
    let none : drop at bytes ≡ [] = drop_all at bytes (omega arith) in
    subst (λ (l : List Entry). AreSpelled from to zero at bytes l) n.1 (record { spelled = none; many = refl; stand = grind (arith, nat_tests) })
entries_spell from to (suc count) at bytes es all long h =
    let e = entry_at at bytes in
    let c = cons_is (stands_at from e) e (entries_at (from + e.length) to count (at + 32) bytes) es h in
    let range = stands_is from e c.holds (entry_fits at bytes all) in
    let rest = entries_spell (from + e.length) to count (at + 32) bytes c.rest all (omega arith) c.rest_is in
    let here = entry_spells at bytes all (omega arith) in
    let many = rest.many in
    subst (λ (l : List Entry). AreSpelled from to (suc count) at bytes l) c.all_is
    (record { spelled = here ∙ ap (λ (l : List ℕ). entry_bytes e ++ l) rest.spelled; many = ap suc many; stand = (range.0, range.1, rest.stand) })

-- the magic is there
magic_is : (at : ℕ) (bytes : List ℕ) → has_magic at bytes ≡ true → take 4 (drop at bytes) ≡ codes "SNX1"
unfolding has_magic
magic_is at bytes holds = (bytes_eq-Decides (take 4 (drop at bytes)) (codes "SNX1")).0 holds

record IfHolds {T : Type 0} (b : Bool) (o : Option T) (x : T) : Type 0 where
  pub holds : b ≡ true
  pub is : o ≡ Some x

if_holds : {T : Type 0} (b : Bool) (o : Option T) (x : T) → cond b o None ≡ Some x → IfHolds b o x
if_holds true o x h = record { holds = refl; is = h }
if_holds false o x h = absurd (cc)

-- what is in a Some is one
pub inside : {T : Type 0} (x y : T) → Some x ≡ Some y → x ≡ y
inside x y is = cc

record MapIs (name f : List ℕ) (o : Option (List Entry)) (es : List Entry) : Type 0 where
  pub named : name ≡ f
  pub listed : o ≡ Some es

map_is : (name f : List ℕ) (o : Option (List Entry)) (es : List Entry) → Answers (option_map (λ l. (name, l)) o) f es → MapIs name f o es
map_is name f None es h = absurd (cc)
map_is name f (Some l) es h =
    let x : List ℕ × List Entry = (name, l) in
    let y : List ℕ × List Entry = (f, es) in
    let same : x ≡ y = inside x y h in
    record { named = ap (λ (p : List ℕ × List Entry). p.0) same; listed = ap (λ (p : List ℕ × List Entry). Some p.1) same }

-- what reading the name and the entries believes
record AreNamed (to n count : ℕ) (bytes f : List ℕ) (es : List Entry) : Type 0 where
  pub short : n ≤ MOST_NAME_BYTES
  pub few : count ≤ MOST_BLOCKS
  pub long : length bytes ≡ 10 + n + 32 * count
  pub utf8 : IsUtf8 f
  pub name : take n (drop 6 bytes) ≡ f
  pub entries : AreSpelled 0 to count (10 + n) bytes es

named_spell : (to n count : ℕ) (bytes f : List ℕ) (es : List Entry) → AreBytes bytes → Answers (named_at to n count bytes) f es → AreNamed to n count bytes f es
unfolding named_at
named_spell to n count bytes f es all h =
    let name = take n (drop 6 bytes) in
    let y : List ℕ × List Entry = (f, es) in
    let t = if_holds (nat_le n MOST_NAME_BYTES && nat_le count MOST_BLOCKS && (length bytes == 10 + n + 32 * count) && is_utf8 name) (option_map (λ l. (name, l)) (entries_at 0 to count (10 + n) bytes)) y h in
    let u = and_parts (nat_le n MOST_NAME_BYTES && nat_le count MOST_BLOCKS && (length bytes == 10 + n + 32 * count)) (is_utf8 name) t.holds in
    let sizes : (n ≤ MOST_NAME_BYTES) × (count ≤ MOST_BLOCKS) × (length bytes ≡ 10 + n + 32 * count) = (grind (arith, nat_tests, u.0), grind (arith, nat_tests, u.0), grind (arith, nat_tests, u.0)) in
    let m = map_is name f (entries_at 0 to count (10 + n) bytes) es t.is in
    record {
      short = sizes.0;
      few = sizes.1;
      long = sizes.2;
      utf8 = subst IsUtf8 m.named (IsUtf8-from_is_utf8 name u.1);
      name = m.named;
      entries = entries_spell 0 to count (10 + n) bytes es all sizes.2 m.listed;
    }

-- what reading an index believes
pub index_spells : (to : ℕ) (bytes f : List ℕ) (es : List Entry) → AreBytes bytes → Answers (index_in to bytes) f es → SpellsIndex bytes f es to
unfolding index_in
index_spells to bytes f es all h =
    let n = u16_at 4 bytes in
    let count = u32_at (6 + n) bytes in
    let y : List ℕ × List Entry = (f, es) in
    let t = if_holds (has_magic 0 bytes) (named_at to n count bytes) y h in
    let p = named_spell to n count bytes f es all t.is in
    let magic = magic_is 0 bytes t.holds in
    let size = p.long in
    let first = u16_spells 4 6 bytes all refl (omega arith) in
    let second = u32_spells (6 + n) (10 + n) bytes all (omega arith) (omega arith) in
    let long : length f ≡ n = ap length (sym p.name) ∙ length-take-le n (drop 6 bytes) (omega (arith, length-drop 6 bytes)) in
    let many = p.entries.many in
    let tail : drop (10 + n) bytes ≡ flat_map entry_bytes es = p.entries.spelled in
    let counted : drop (6 + n) bytes ≡ to_be_bytes w32 (length es) ++ flat_map entry_bytes es = second ∙ ap (λ (l : List ℕ). to_be_bytes w32 count ++ l) tail ∙ ap (λ (k : ℕ). to_be_bytes w32 k ++ flat_map entry_bytes es) (sym many) in
    let named : drop 6 bytes ≡ f ++ (to_be_bytes w32 (length es) ++ flat_map entry_bytes es) = sym (take-append-drop n (drop 6 bytes)) ∙ ap (λ (l : List ℕ). l ++ drop n (drop 6 bytes)) p.name ∙ ap (λ (l : List ℕ). f ++ l) (drop-drop n 6 bytes ∙ counted) in
    let sized : drop 4 bytes ≡ to_be_bytes w16 (length f) ++ (f ++ (to_be_bytes w32 (length es) ++ flat_map entry_bytes es)) = first ∙ ap (λ (l : List ℕ). to_be_bytes w16 n ++ l) named ∙ ap (λ (k : ℕ). to_be_bytes w16 k ++ (f ++ (to_be_bytes w32 (length es) ++ flat_map entry_bytes es))) (sym long) in
    record {
      spelled = sym (take-append-drop 4 bytes) ∙ ap (λ (l : List ℕ). l ++ drop 4 bytes) magic ∙ ap (λ (l : List ℕ). codes "SNX1" ++ l) sized;
      within = record { short_name = omega arith; name = p.utf8; few = omega arith; stand = p.entries.stand };
    }

-- what reading a tail believes
pub record IsGap (at : ℕ) (tail : List ℕ) (gap : ℕ) : Type 0 where
  pub magic : has_magic 8 tail ≡ true
  pub is : at - u64_at 0 tail ≡ gap
  pub low : LEAST_INDEX_BYTES ≤ gap
  pub high : gap ≤ MOST_INDEX_BYTES

pub gap_is : (at : ℕ) (tail : List ℕ) (gap : ℕ) → gap_in at tail ≡ Some gap → IsGap at tail gap
unfolding gap_in
gap_is at tail gap h =
    let g = at - u64_at 0 tail in
    let t = if_holds (has_magic 8 tail && can_be_index g) (Some g) gap h in
    let u = and_parts (has_magic 8 tail) (can_be_index g) t.holds in
    let same : g ≡ gap = inside g gap t.is in
    record { magic = u.0; is = same; low = grind (arith, nat_tests, u.1); high = grind (arith, nat_tests, u.1) }

-- a tail spells where the index before it starts
pub tail_spells : (at : ℕ) (tail : List ℕ) (gap : ℕ) → AreBytes tail → length tail ≡ 12 → gap_in at tail ≡ Some gap → tail ≡ tail_bytes (at - gap)
tail_spells at tail gap all twelve answer =
    let g = gap_is at tail gap answer in
    let low = g.low in
    let is = g.is in
    let start : u64_at 0 tail ≡ at - gap = omega arith in
    let number = u64_spells 0 8 tail all refl (omega arith) in
    let magic : drop 8 tail ≡ codes "SNX1" = sym (take_all 4 (drop 8 tail) (omega (arith, length-drop 8 tail))) ∙ magic_is 8 tail g.magic in
    number ∙ ap (λ (l : List ℕ). to_be_bytes w64 (u64_at 0 tail) ++ l) magic ∙ ap tail_bytes start

-- the parts of a file that a reader of its index has seen
pub record HasRead (bytes tail part : List ℕ) (gap : ℕ) : Type 0 where
  pub enough : 12 ≤ length bytes
  pub within : gap ≤ length bytes - 12
  pub tail_is : tail ≡ drop (length bytes - 12) bytes
  pub part_is : part ≡ take gap (drop (length bytes - 12 - gap) bytes)

pub file_of_parts : (bytes tail part : List ℕ) (gap : ℕ) (f : List ℕ) (es : List Entry) → HasRead bytes tail part gap → tail ≡ tail_bytes (length bytes - 12 - gap) → SpellsIndex part f es (length bytes - 12 - gap) → IsFile bytes f es
file_of_parts bytes tail part gap f es read tail_spelled index =
    let at = length bytes - 12 in
    let to = at - gap in
    let enough = read.enough in
    let within = read.within in
    let together : to + gap ≡ at = omega arith in
    let blocks_long : length (take to bytes) ≡ to = length-take-le to bytes (omega arith) in
    let behind : drop to bytes ≡ part ++ tail = sym (take-append-drop gap (drop to bytes)) ∙ ap (λ (l : List ℕ). l ++ drop gap (drop to bytes)) (sym read.part_is) ∙ ap (λ (l : List ℕ). part ++ l) (drop-drop gap to bytes ∙ ap (λ (k : ℕ). drop k bytes) together ∙ sym read.tail_is) in
    let ended : tail ≡ tail_bytes (length (take to bytes)) = tail_spelled ∙ ap tail_bytes (sym blocks_long) in
    record {
      blocks = take to bytes;
      parts = sym (take-append-drop to bytes) ∙ ap (λ (l : List ℕ). take to bytes ++ l) (behind ∙ ap (λ (l : List ℕ). l ++ tail) index.spelled ∙ ap (λ (l : List ℕ). index_bytes f es ++ l) ended);
      index = subst (λ (n : ℕ). IsIndex f es n) (sym blocks_long) index.within;
    }

record ThenIs {S T : Type 0} (o : Option S) (k : S → Option T) (x : T) : Type 0 where
  pub first : S
  pub first_is : o ≡ Some first
  pub then_is : k first ≡ Some x

then_is : {S T : Type 0} (o : Option S) (k : S → Option T) (x : T) → option_and_then k o ≡ Some x → ThenIs o k x
then_is None k x h = absurd (cc)
then_is (Some y) k x h = record { first = y; first_is = refl; then_is = h }

-- a file that is read is one
pub file_is : (bytes f : List ℕ) (es : List Entry) → AreBytes bytes → Answers (file_in bytes) f es → IsFile bytes f es
unfolding file_in index_before
file_is bytes f es all h =
    let at = length bytes - 12 in
    let y : List ℕ × List Entry = (f, es) in
    let t = then_is (gap_in at (drop at bytes)) (λ gap. index_in (at - gap) (take gap (drop (at - gap) bytes))) y h in
    let gap = t.first in
    let part = take gap (drop (at - gap) bytes) in
    let g = gap_is at (drop at bytes) gap t.first_is in
    let low = g.low in
    let is = g.is in
    let twelve : length (drop at bytes) ≡ 12 = omega (arith, length-drop at bytes) in
    let read : HasRead bytes (drop at bytes) part gap = record { enough = omega arith; within = omega arith; tail_is = refl; part_is = refl } in
    let ended = tail_spells at (drop at bytes) gap (are_bytes_behind bytes at all) twelve t.first_is in
    let index = index_spells (at - gap) part f es (are_bytes_of bytes (at - gap) gap all) t.then_is in
    file_of_parts bytes (drop at bytes) part gap f es read ended index
