-- The first bytes of a cell: how they are read, and that they say the same where other bytes follow the cell.
use Rattle.std.proofs.Common.{◌≡◌, ℕ, ◌-◌, ◌+◌, ◌/◌, ◌%◌, ◌<◌, ◌≤◌, Bool, true, false, List, [], ◌∷◌, ◌++◌, length, take, drop, get_or, Some, None, eqb, ltb, refl, sym, ap, ◌∙◌, arith, inl, inr}
use Rattle.std.specs.Option.{option_map}
use Rattle.std.specs.Prelude.{is_some, not, ◌&&◌, nat_le}
use Rattle.std.proofs.Math.Seq.{take-add}
use Rattle.std.proofs.lemmas.Bool.{le-ltb}
use Rattle.std.proofs.lemmas.Bool.Decides.{nat_tests}
use Rattle.std.proofs.lemmas.List.{length-take-le, take-append-drop, append_cancel_right, drop-take, drop-drop}
use Rattle.block_meaning.specs.Cells.{IsHead}
use Rattle.block_meaning.specs.CellReading.{one_byte, head_at}
use Rattle.block_meaning.proofs.Answered.{chosen, some_is, none_is, map_is, and_true}
use Rattle.block_meaning.proofs.CellReading.{one_none, head_takes, head_again}
use Rattle.ion_cells.specs.declared.tag.Tag.{Tag}
use Rattle.ion_cells.specs.Tags.{tag_of_byte, tag_of_type, is_short, Opening, opening, Opens}
use Rattle.ion_cells.specs.Left.{behind_cell}

abbrev pub found : Tag → ℕ → List ℕ → Opening
found tag n rest = Some (tag, n, rest)

abbrev pub nothing : Opening
nothing = None

-- by the first byte

record Short (h : ℕ) : Type 0 where
  pub high : 32 ≤ h
  pub low : h % 16 < 14
  pub other : eqb h 209 ≡ false

short_parts : (h : ℕ) → is_short h ≡ true → Short h
short_parts h e =
    let p = and_true (nat_le 32 h && ltb (h % 16) 14) (not (eqb h 209)) e in
    let q = and_true (nat_le 32 h) (ltb (h % 16) 14) p.0 in
    record { high = grind (arith, nat_tests, q.0); low = grind (arith, nat_tests, q.1); other = other (eqb h 209) p.1 }
  where
    other : (b : Bool) → not b ≡ true → b ≡ false
    other true k = absurd cc
    other false k = refl

pub short_found : (bytes : List ℕ) → is_short (get_or bytes 0 0) ≡ true → 1 + get_or bytes 0 0 % 16 ≤ length bytes
    → found (tag_of_type (get_or bytes 0 0 / 16)) (1 + get_or bytes 0 0 % 16 - 1) (drop 1 bytes) ≡ opening bytes
unfolding opening head_at
short_found [] e h = absurd (omega arith)
short_found (b ∷ bytes) e h =
    let s = short_parts b e in
    let none = one_none b (omega (arith, s.low)) s.high in
    let small : ltb (b % 16) 14 ≡ true = grind (arith, nat_tests, s.low) in
    let room : ltb (length bytes) (b % 16) ≡ false = le-ltb _ _ (omega arith) in
    let count : 1 + b % 16 - 1 ≡ b % 16 = omega arith in
    rw (none, s.other, small, room, count) refl

pub short_lost : (bytes : List ℕ) → is_short (get_or bytes 0 0) ≡ true → length bytes < 1 + get_or bytes 0 0 % 16 → nothing ≡ opening bytes
unfolding opening head_at
short_lost [] e h = refl
short_lost (b ∷ bytes) e h =
    let s = short_parts b e in
    let none = one_none b (omega (arith, s.low)) s.high in
    let small : ltb (b % 16) 14 ≡ true = grind (arith, nat_tests, s.low) in
    let room : ltb (length bytes) (b % 16) ≡ true = grind (arith, nat_tests, h) in
    rw (none, s.other, small, room) refl

pub byte_found : (bytes : List ℕ) → 0 < length bytes → is_some (one_byte (get_or bytes 0 0)) ≡ true → found (tag_of_byte (get_or bytes 0 0)) (1 - 1) (drop 1 bytes) ≡ opening bytes
unfolding opening
byte_found [] h e = absurd (omega arith)
byte_found (b ∷ bytes) h e = rw e refl

-- by the head
pub by_head : (bytes : List ℕ) → is_some (one_byte (get_or bytes 0 0)) ≡ false → option_map (λ x. (tag_of_type x.0, x.1, x.2)) (head_at bytes) ≡ opening bytes
unfolding opening head_at
by_head [] e = refl
by_head (b ∷ bytes) e = rw e refl

pub head_found : (bytes : List ℕ) (t n start : ℕ) → is_some (one_byte (get_or bytes 0 0)) ≡ false → Some (t, n, drop start bytes) ≡ head_at bytes → found (tag_of_type t) (start + n - start) (drop start bytes) ≡ opening bytes
head_found bytes t n start e h =
    let m : start + n - start ≡ n = omega arith in
    let here = by_head bytes e in
    rw m (ap (option_map (λ (x : ℕ × ℕ × List ℕ). (tag_of_type x.0, x.1, x.2))) h ∙ here)

pub head_lost : (bytes : List ℕ) → is_some (one_byte (get_or bytes 0 0)) ≡ false → head_at bytes ≡ None → nothing ≡ opening bytes
head_lost bytes e h = sym (ap (option_map (λ (x : ℕ × ℕ × List ℕ). (tag_of_type x.0, x.1, x.2))) h) ∙ by_head bytes e

-- what follows the cell
pub behind_found : (bytes : List ℕ) (tag : Tag) (start end : ℕ) → start ≤ end → found tag (end - start) (drop start bytes) ≡ opening bytes → Some (drop end bytes) ≡ behind_cell bytes
unfolding behind_cell
behind_found bytes tag start end h e =
    let m : start + (end - start) ≡ end = omega arith in
    ap Some (ap (λ (k : ℕ). drop k bytes) (sym m) ∙ sym (drop-drop (end - start) start bytes)) ∙ ap (option_map (λ (x : Tag × ℕ × List ℕ). drop x.1 x.2)) e

pub behind_of : (bytes : List ℕ) (tag : Tag) (n : ℕ) (rest : List ℕ) → opening bytes ≡ found tag n rest → Some (drop n rest) ≡ behind_cell bytes
unfolding behind_cell
behind_of bytes tag n rest e = ap (option_map (λ (x : Tag × ℕ × List ℕ). drop x.1 x.2)) (sym e)

pub behind_lost : (bytes : List ℕ) → nothing ≡ opening bytes → None ≡ behind_cell bytes
unfolding behind_cell
behind_lost bytes e = ap (option_map (λ (x : Tag × ℕ × List ℕ). drop x.1 x.2)) e

-- The bytes up to where the cell ends say the same.
record Parted (bytes : List ℕ) (tag : Tag) (n : ℕ) (rest : List ℕ) : Type 0 where
  pub front : List ℕ
  pub parts : bytes ≡ front ++ rest
  pub fits : n ≤ length rest
  pub again : (other : List ℕ) → n ≤ length other → opening (front ++ other) ≡ found tag n other

parted : (bytes : List ℕ) (tag : Tag) (n : ℕ) (rest : List ℕ) → opening bytes ≡ found tag n rest → Parted bytes tag n rest
unfolding opening
parted [] tag n rest e = absurd (none_is _ e)
parted (h ∷ bytes) tag n rest e = elim (chosen (is_some (one_byte h)) _ _ _ e) [ inl a ↦ of_byte a.0 a.1 | inr a ↦ of_head a.0 a.1 ]
  where
    of_byte : is_some (one_byte h) ≡ true → found (tag_of_byte h) 0 bytes ≡ found tag n rest → Parted (h ∷ bytes) tag n rest
    of_byte k e =
        let s = some_is _ _ e in
        let count : 0 ≡ n = ap (λ (x : Tag × ℕ × List ℕ). x.1) s in
        let same : tag_of_byte h ≡ tag = ap (λ (x : Tag × ℕ × List ℕ). x.0) s in
        record {
          front = h ∷ [];
          parts = ap (λ (x : Tag × ℕ × List ℕ). h ∷ x.2) s;
          fits = omega arith;
          again = λ other enough. rw k (λ i. found (same i) (count i) other);
        }

    of_head : is_some (one_byte h) ≡ false → option_map (λ x. (tag_of_type x.0, x.1, x.2)) (head_at (h ∷ bytes)) ≡ found tag n rest → Parted (h ∷ bytes) tag n rest
    of_head k e =
        let m = map_is (λ (x : ℕ × ℕ × List ℕ). (tag_of_type x.0, x.1, x.2)) (head_at (h ∷ bytes)) _ e in
        let t = m.0.0 in
        let same : tag_of_type t ≡ tag = ap (λ (x : Tag × ℕ × List ℕ). x.0) m.2 in
        let count : m.0.1 ≡ n = ap (λ (x : Tag × ℕ × List ℕ). x.1) m.2 in
        let left : m.0.2 ≡ rest = ap (λ (x : Tag × ℕ × List ℕ). x.2) m.2 in
        let w = head_takes (h ∷ bytes) t m.0.1 m.0.2 m.1 in
        with_head w.head t m.0.1 m.0.2 w.heads w.parts w.fits same count left
      where
        with_head : (head : List ℕ) (t c : ℕ) (after : List ℕ) → IsHead t c head → h ∷ bytes ≡ head ++ after → c ≤ length after → tag_of_type t ≡ tag → c ≡ n → after ≡ rest → Parted (h ∷ bytes) tag n rest
        with_head [] t c after heads parts fits same count left = absurd heads
        with_head (b ∷ bs) t c after heads parts fits same count left =
            let first : h ≡ b = ap (λ (l : List ℕ). get_or l 0 0) parts in
            let other : is_some (one_byte b) ≡ false = ap (λ (x : ℕ). is_some (one_byte x)) (sym first) ∙ k in
            record {
              front = b ∷ bs;
              parts = parts ∙ ap (λ (l : List ℕ). (b ∷ bs) ++ l) left;
              fits = rw (← count, ← left) fits;
              again = λ more enough.
                  let read = head_again (b ∷ bs) t c more heads (omega (arith, count, enough)) in
                  rw (other, read) (λ i. found (same i) (count i) more);
            }

pub opening_fits : (bytes : List ℕ) (tag : Tag) (n : ℕ) (rest : List ℕ) → opening bytes ≡ found tag n rest → n ≤ length rest
opening_fits bytes tag n rest e = (parted bytes tag n rest e).fits

-- a first cell, whose content begins and which ends at these places
module _ (bytes : List ℕ) (tag : Tag) (start end : ℕ) (begins : start ≤ end) (ends : end ≤ length bytes) (e : found tag (end - start) (drop start bytes) ≡ opening bytes) where
  pub front_opens : Opens tag start (take end bytes)
  front_opens =
      let n = end - start in
      let p = parted bytes tag n (drop start bytes) (sym e) in
      let part = take n (drop start bytes) in
      let sum : end ≡ start + n = omega arith in
      let long : length part ≡ n = length-take-le n (drop start bytes) p.fits in
      let front : take start bytes ≡ p.front = append_cancel_right (take start bytes) p.front (drop start bytes) (take-append-drop start bytes ∙ p.parts) in
      let cut : take end bytes ≡ p.front ++ part = ap (λ (k : ℕ). take k bytes) sum ∙ take-add start n bytes ∙ ap (λ (l : List ℕ). l ++ part) front in
      let behind : part ≡ drop start (take end bytes) = sym (drop-take start n bytes) ∙ ap (λ (k : ℕ). drop start (take k bytes)) (sym sum) in
      let same : n ≡ length (take end bytes) - start = omega (arith, length-take-le end bytes ends) in
      ap opening cut ∙ p.again part (omega arith) ∙ (λ i. found tag (same i) (behind i))

  pub front_within : start ≤ length (take end bytes)
  front_within = omega (arith, length-take-le end bytes ends)
