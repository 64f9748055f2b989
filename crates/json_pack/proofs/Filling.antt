-- Lines that are packed up to a place, and the file so far.
use Rattle.std.proofs.Common.{◌≡◌, ℕ, ◌-◌, List, [], ◌∷◌, ◌++◌, length, take, Option, Some, None, Ok, Err, Result, refl, sym, ap, subst, ◌∙◌, arith, append-nil, inr}
use Rattle.std.specs.Prelude.{OnOk, OnErr, IfOk, IfErr, IfSome}
use Rattle.std.specs.Option.{ForSome, option_map}
use Rattle.std.proofs.lemmas.List.{take_all}
use Rattle.snel_device.specs.Contents.{Contents, Sets, Extends}
use Rattle.pack_meaning.specs.Lines.{Settings}
use Rattle.pack_meaning.specs.Packing.{Refusal, packed, refusal, refusal_from, sum_of}
use Rattle.pack_meaning.specs.Splitting.{lines_of}
use Rattle.pack_meaning.proofs.Files.{files_hold}
use Rattle.json_pack.specs.declared.packer.PackedRows.{PackedRows}
use Rattle.json_pack.specs.declared.packer.LinePacker.{LinePacker}
use Rattle.json_pack.specs.declared.sums.PackSum.{PackSum}
use Rattle.json_pack.specs.declared.sums.PackFault.{PackFault}
use Rattle.json_pack.specs.Reading.{IsAllRead}
use Rattle.json_pack.specs.Packs.{refusal_in, file_for, HoldsLines, HasFrontOf, LeavesFront, sum_view, counted}
use Rattle.json_pack.specs.Packing.{HasRead, CanPack, IsUpTo, IsToldUpTo, IsPacking, GoesOn, StopsAt, ExtendsFront, IsFilling}
use Rattle.json_pack.specs.Ending.{IsFront, EndsFile, BreaksFile, SumsUp}
use Rattle.pack_blocks.specs.Writing.{IsGoing}
use Rattle.json_pack.proofs.Fronts.{compose, extends_more, extends_same, front_of_front, front_trans, read_front, whole_front, sum_lines}

-- before the first line
pub starts : (s : Settings) (whole rest : Option (List ℕ)) (told : Option Contents) (name : List ℕ) (p : LinePacker) → HasRead s [] [] p.rows → p.number ≡ 0 → p.at ≡ 0 → rest ≡ whole → Extends told told name []
    → IsFilling s whole rest told told name p
starts s whole rest told name p k n a same e = record { given = []; packing = record { before = []; read = k; up_to = at whole rest same }; added = e }
  where
    at : (w r : Option (List ℕ)) → r ≡ w → IsToldUpTo s w r [] p
    at None r same = tt
    at (Some b) None same = cc
    at (Some b) (Some r) same =
        let is : b ≡ r = cc in
        record { split = ap lines_of is; refusals = ap (λ x. refusal s (lines_of x)) is; sized = sym a; numbered = n; low = omega (arith, n); within = omega (arith, a) }

pub starts_ahead : (left : Option (List ℕ)) (unread : List ℕ) → unread ≡ [] → option_map (λ b. unread ++ b) left ≡ left
starts_ahead None unread e = refl
starts_ahead (Some b) unread e = ap (λ x. Some x) (ap (λ u. u ++ b) e)

pub can_pack : (s : Settings) (whole rest : Option (List ℕ)) (old new : Option Contents) (name : List ℕ) (p : LinePacker) → IsFilling s whole rest old new name p → CanPack s p.rows
can_pack s whole rest old new name p f = record { before = f.packing.before; given = f.given; read = f.packing.read }

pub can_end : (s : Settings) (whole rest : Option (List ℕ)) (old new : Option Contents) (name : List ℕ) (p : LinePacker) → IsFilling s whole rest old new name p → IsGoing s.time_field p.rows.writer
can_end s whole rest old new name p f = record { most = s.most; done = packed s f.packing.before; given = f.given; is = f.packing.read.writer }

-- All lines are packed, and none is refused.
record IsAll (s : Settings) (bytes given : List ℕ) (r : PackedRows) : Type 0 where
  pub read : HasRead s (lines_of bytes) given r
  pub accepted : refusal s (lines_of bytes) ≡ None

all_in : (s : Settings) (bytes rest given : List ℕ) (before : List (List ℕ)) (p : LinePacker) → IsUpTo s bytes rest before p → rest ≡ [] → HasRead s before given p.rows → IsAll s bytes given p.rows
all_in s bytes rest given before p u z k =
    let all : lines_of bytes ≡ before = u.split ∙ ap (λ r. before ++ lines_of r) z ∙ append-nil before in
    record { read = subst (λ ls. HasRead s ls given p.rows) (sym all) k; accepted = u.refusals ∙ ap (λ r. refusal_from s before (lines_of r)) z }

all_read : (s : Settings) (whole rest : Option (List ℕ)) (given : List ℕ) (p : LinePacker) → IsPacking s whole rest given p → IsAllRead rest → (bytes : List ℕ) → whole ≡ Some bytes → IsAll s bytes given p.rows
all_read s whole rest given p k z bytes is = at whole rest k.up_to z is
  where
    at : (w r : Option (List ℕ)) → IsToldUpTo s w r k.before p → IsAllRead r → w ≡ Some bytes → IsAll s bytes given p.rows
    at None r u z is = cc
    at (Some b) None u z is = absurd u
    at (Some b) (Some r) u z is = let same : b ≡ bytes = cc in subst (λ x. IsAll s x given p.rows) same (all_in s b r given k.before p u z k.read)

module _ (s : Settings) (whole rest : Option (List ℕ)) (old told new : Option Contents) (name : List ℕ) (p : LinePacker) (f : IsFilling s whole rest old told name p) (z : IsAllRead rest) where
  all : (bytes : List ℕ) → whole ≡ Some bytes → IsAll s bytes f.given p.rows
  all bytes is = all_read s whole rest f.given p f.packing z bytes is

  pub filled_accepted : {T E : Type 0} (r : Result T E) → OnOk r (ForSome whole (λ b. refusal s (lines_of b) ≡ None))
  filled_accepted (Ok v) = λ b is. (all b is).accepted
  filled_accepted (Err e) = tt

  pub filled_holds : {T E : Type 0} (r : Result T E) → OnOk r (ForSome whole (λ b. HoldsLines s (lines_of b)))
  filled_holds (Ok v) = λ b is. files_hold s.time_field s.most (packed s (lines_of b)) (all b is).read.writer.may
  filled_holds (Err e) = tt

  pub filled_file : {T E : Type 0} (r : Result T E) → OnOk r (EndsFile s.time_field p.rows.writer told new name) → OnOk r (ForSome whole (λ b. Extends old new name (file_for s (lines_of b))))
  filled_file (Ok v) h = λ b is.
      let e = h s.most (packed s (lines_of b)) f.given (all b is).read.writer in
      extends_same old new name (f.given ++ e.0) (file_for s (lines_of b)) e.2 (extends_more old told new name f.given e.0 f.added e.1)
  filled_file (Err x) h = tt

  pub filled_sum : {E : Type 0} (r : Result PackSum E) → IfOk r (λ sum. SumsUp s.time_field p.rows (sum_view sum)) → IfOk r (λ sum. ForSome whole (λ b. sum_view sum ≡ counted (sum_of s (lines_of b))))
  filled_sum (Ok v) h = λ b is. sum_lines s (lines_of b) f.given p.rows (sum_view v) (all b is).read (h s.most (packed s (lines_of b)) f.given (all b is).read.writer)
  filled_sum (Err x) h = tt

  pub filled_front : {T E : Type 0} (r : Result T E) → OnErr r (BreaksFile s.time_field p.rows.writer told new name) → OnErr r (ForSome whole (λ b. (k : ℕ) × ExtendsFront s (take k (lines_of b)) old new name))
  filled_front (Ok v) h = tt
  filled_front (Err x) h = λ b is.
      let e = h s.most (packed s (lines_of b)) f.given (all b is).read.writer in
      let ls = lines_of b in
      let every : take (length ls) ls ≡ ls = take_all (length ls) ls (omega arith) in
      (length ls, (e.2.0, extends_same old new name (f.given ++ e.0) (take e.2.0 (file_for s (take (length ls) ls))) (e.2.1 ∙ ap (λ l. take e.2.0 (file_for s l)) (sym every)) (extends_more old told new name f.given e.0 f.added e.1)))

-- a line is refused
pub stop_refused : (s : Settings) (whole rest : Option (List ℕ)) (old new : Option Contents) (name : List ℕ) (p : LinePacker) (o : Option Refusal) → IsFilling s whole rest old new name p → IfSome o (λ r. StopsAt s rest p r)
    → IfSome o (λ r. ForSome whole (λ b. refusal s (lines_of b) ≡ Some r))
stop_refused s whole rest old new name p None f h = tt
stop_refused s whole rest old new name p (Some r) f h = λ b is. (h whole f.given f.packing b is).refused

pub stop_before : (s : Settings) (whole rest : Option (List ℕ)) (old new : Option Contents) (name : List ℕ) (p : LinePacker) (o : Option Refusal) → IsFilling s whole rest old new name p → IfSome o (λ r. StopsAt s rest p r)
    → IfSome o (λ r. ForSome whole (λ b. ExtendsFront s (take (r.number - 1) (lines_of b)) old new name))
stop_before s whole rest old new name p None f h = tt
stop_before s whole rest old new name p (Some r) f h = λ b is.
    let k = h whole f.given f.packing b is in
    (k.front.0, extends_same old new name f.given (take k.front.0 (file_for s (take (r.number - 1) (lines_of b)))) k.front.1 f.added)

pub still_filling : (s : Settings) (whole rest : Option (List ℕ)) (old new : Option Contents) (name : List ℕ) (p q : LinePacker) → IsFilling s whole rest old new name p → q ≡ p → IsFilling s whole rest old new name q
still_filling s whole rest old new name p q f e = subst (IsFilling s whole rest old new name) (sym e) f

-- what the file has so far
firsts : (before rest : List (List ℕ)) → take (length before) (before ++ rest) ≡ before
firsts [] rest = refl
firsts (x ∷ before) rest = ap (λ l. x ∷ l) (firsts before rest)

front_so_far : (s : Settings) (whole rest : Option (List ℕ)) (given : List ℕ) (p : LinePacker) → IsPacking s whole rest given p → (bytes : List ℕ) → whole ≡ Some bytes
    → (k : ℕ) × IsFront given (file_for s (take k (lines_of bytes)))
front_so_far s whole rest given p k bytes is = at whole rest k.up_to is
  where
    at : (w r : Option (List ℕ)) → IsToldUpTo s w r k.before p → w ≡ Some bytes → (n : ℕ) × IsFront given (file_for s (take n (lines_of bytes)))
    at None r u is = cc
    at (Some b) None u is = absurd u
    at (Some b) (Some r) u is =
        let same : b ≡ bytes = cc in
        let these : take (length k.before) (lines_of bytes) ≡ k.before = ap (λ x. take (length k.before) (lines_of x)) (sym same) ∙ ap (take (length k.before)) u.split ∙ firsts k.before (lines_of r) in
        (length k.before, subst (λ ls. IsFront given (file_for s ls)) (sym these) (read_front s k.before given p.rows k.read))

pub so_far : (s : Settings) (whole rest : Option (List ℕ)) (old new : Option Contents) (name : List ℕ) (p : LinePacker) → IsFilling s whole rest old new name p
    → ForSome whole (λ b. (k : ℕ) × ExtendsFront s (take k (lines_of b)) old new name)
so_far s whole rest old new name p f = λ b is.
    let k = front_so_far s whole rest f.given p f.packing b is in
    (k.0, (k.1.0, extends_same old new name f.given (take k.1.0 (file_for s (take k.0 (lines_of b)))) k.1.1 f.added))

-- the blocks that are closed are added, or not all of them
pub goes_further : (s : Settings) (whole old_rest new_rest : Option (List ℕ)) (old told new : Option Contents) (name closed piece : List ℕ) (p q : LinePacker) → IsFilling s whole old_rest old told name p → GoesOn s old_rest new_rest p q closed
    → piece ≡ closed → Extends told new name piece → IsFilling s whole new_rest old new name q
goes_further s whole old_rest new_rest old told new name closed piece p q f g same e = record {
  given = f.given ++ closed;
  packing = g whole f.given f.packing;
  added = extends_more old told new name f.given closed f.added (extends_same told new name piece closed same e);
}

-- an option that is there
pub if_some : {A : Type 0} (P : A → Type 0) (o : Option A) (x : A) → o ≡ Some x → IfSome o P → P x
if_some P None x e h = cc
if_some P (Some y) x e h = let same : y ≡ x = cc in subst P same h

pub breaks_off : (s : Settings) (whole old_rest new_rest : Option (List ℕ)) (old told new : Option Contents) (name closed piece : List ℕ) (p q : LinePacker) → IsFilling s whole old_rest old told name p → GoesOn s old_rest new_rest p q closed
    → piece ≡ closed → (n : ℕ) × Extends told new name (take n piece) → ForSome whole (λ b. (k : ℕ) × ExtendsFront s (take k (lines_of b)) old new name)
breaks_off s whole old_rest new_rest old told new name closed piece p q f g same cut = λ b is.
    let k = front_so_far s whole new_rest (f.given ++ closed) q (g whole f.given f.packing) b is in
    let n = cut.0 in
    let part = front_of_front n f.given closed (whole_front (f.given ++ closed)) in
    let all = front_trans (f.given ++ take n closed) (f.given ++ closed) (file_for s (take k.0 (lines_of b))) part k.1 in (
      k.0,
      (
        all.0,
        extends_same old new name (f.given ++ take n closed) (take all.0 (file_for s (take k.0 (lines_of b)))) all.1
            (extends_more old told new name f.given (take n closed) f.added (extends_same told new name (take n piece) (take n closed) (ap (take n) same) cut.1)),
      ),
    )

pub goes_further_some : (s : Settings) (whole old_rest new_rest : Option (List ℕ)) (old told new : Option Contents) (name closed piece : List ℕ) (p q : LinePacker) (o : Option (List ℕ)) → IsFilling s whole old_rest old told name p → o ≡ Some closed
    → IfSome o (λ x. GoesOn s old_rest new_rest p q x) → piece ≡ closed → Extends told new name piece → IsFilling s whole new_rest old new name q
goes_further_some s whole old_rest new_rest old told new name closed piece p q o f e g same x =
    goes_further s whole old_rest new_rest old told new name closed piece p q f (if_some (λ y. GoesOn s old_rest new_rest p q y) o closed e g) same x

pub breaks_off_some : (s : Settings) (whole old_rest new_rest : Option (List ℕ)) (old told new : Option Contents) (name closed piece : List ℕ) (p q : LinePacker) (o : Option (List ℕ)) → IsFilling s whole old_rest old told name p → o ≡ Some closed
    → IfSome o (λ x. GoesOn s old_rest new_rest p q x) → piece ≡ closed → (n : ℕ) × Extends told new name (take n piece) → ForSome whole (λ b. (k : ℕ) × ExtendsFront s (take k (lines_of b)) old new name)
breaks_off_some s whole old_rest new_rest old told new name closed piece p q o f e g same x =
    breaks_off s whole old_rest new_rest old told new name closed piece p q f (if_some (λ y. GoesOn s old_rest new_rest p q y) o closed e g) same x

-- over the empty file that was made before
pub set_front : {T E : Type 0} (r : Result T E) (left : Option (List ℕ)) (old mid new : Option Contents) (name : List ℕ) (s : Settings) → Sets old mid name []
    → OnErr r (ForSome left (λ b. (k : ℕ) × ExtendsFront s (take k (lines_of b)) mid new name)) → OnErr r (ForSome left (λ b. LeavesFront s (lines_of b) old new name))
set_front (Ok v) left old mid new name s e h = h
set_front (Err x) left old mid new name s e h = λ b is. let k = h b is in inr (k.0, (k.1.0, compose old mid new name _ e k.1.1))

pub set_before : {T : Type 0} (r : Result T PackFault) (left : Option (List ℕ)) (old mid new : Option Contents) (name : List ℕ) (s : Settings) → Sets old mid name []
    → IfErr r (λ fault. IfSome (refusal_in fault) (λ x. ForSome left (λ b. ExtendsFront s (take (x.number - 1) (lines_of b)) mid new name)))
    → IfErr r (λ fault. IfSome (refusal_in fault) (λ x. ForSome left (λ b. HasFrontOf s (take (x.number - 1) (lines_of b)) old new name)))
set_before (Ok v) left old mid new name s e h = h
set_before (Err fault) left old mid new name s e h = at (refusal_in fault) h
  where
    at : (o : Option Refusal) → IfSome o (λ x. ForSome left (λ b. ExtendsFront s (take (x.number - 1) (lines_of b)) mid new name)) → IfSome o (λ x. ForSome left (λ b. HasFrontOf s (take (x.number - 1) (lines_of b)) old new name))
    at None k = k
    at (Some x) k = λ b is. let m = k b is in (m.0, compose old mid new name _ e m.1)
