-- The order answers Equal exactly at equal values.
use Rattle.std.proofs.Common.{arith, ◌<◌, ◌≤◌, sym, ◌∙◌, ◌≡◌, ℕ, List, Bool, true, false, refl, ap, Ordering}
use Rattle.std.specs.declared.cmp.Ordering.TheVariants.{Less, Equal, Greater}
use Rattle.std.specs.Ordering.{nat_cmp, bool_cmp, ordering_then, ordering_reverse}
use Rattle.std.specs.Cmp.Lexicographic.{slice_cmp}
use Rattle.std.specs.Cmp.{IsTotalOrder, int_cmp_total}
use Rattle.std.proofs.lemmas.Cmp.{nat_list_cmp_total}
use Rattle.std.proofs.lemmas.Map.Lookups.{exact_signed, exact_bytes}
use Rattle.std.proofs.Common.{[], ◌∷◌}
use Rattle.value_meaning.specs.Val.{vals, fields, Val, Vals, Fields, missing, null, truth, int, time, text, list, struct, no_vals, val, no_fields, field}
use Rattle.value_meaning.specs.Order.{class, val_cmp, vals_cmp, fields_cmp, pair_cmp}

then_first : (o p : Ordering) → ordering_then o p ≡ Equal → o ≡ Equal
then_first Less p h = h
then_first Equal p h = refl
then_first Greater p h = h

then_second : (o p : Ordering) → ordering_then o p ≡ Equal → p ≡ Equal
then_second Less p h = cc
then_second Equal p h = h
then_second Greater p h = cc

bool_exact : (a b : Bool) → bool_cmp a b ≡ Equal → a ≡ b
bool_exact true true h = refl
bool_exact false false h = refl
bool_exact a b h = cc

own_mirror : (o : Ordering) → o ≡ ordering_reverse o → o ≡ Equal
own_mirror Less h = cc
own_mirror Equal h = refl
own_mirror Greater h = cc

same_itself : {K : Type 0} {R : K → K → Ordering} → IsTotalOrder R → (x : K) → R x x ≡ Equal
same_itself {R = R} t x = own_mirror (R x x) (t.antisymm x x)

mutual
  pub val_exact : (x y : Val) → val_cmp x y ≡ Equal → x ≡ y
  val_exact missing missing h = refl
  val_exact null null h = refl
  val_exact (truth a) (truth b) h = ap truth (bool_exact a b h)
  val_exact (int a) (int b) h = ap int (exact_signed a b h)
  val_exact (time a) (time b) h = ap time (exact_signed a b h)
  val_exact (text a) (text b) h = ap text (exact_bytes a b h)
  val_exact (list a) (list b) h = ap list (vals_exact a b h)
  val_exact (struct a) (struct b) h = ap struct (fields_exact a b h)
  val_exact x y h = cc

  pub vals_exact : (x y : Vals) → vals_cmp x y ≡ Equal → x ≡ y
  vals_exact no_vals no_vals h = refl
  vals_exact (val v vs) (val w ws) h = λ i. val (val_exact v w (then_first _ _ h) i) (vals_exact vs ws (then_second (val_cmp v w) _ h) i)
  vals_exact x y h = cc

  pub fields_exact : (x y : Fields) → fields_cmp x y ≡ Equal → x ≡ y
  fields_exact no_fields no_fields h = refl
  fields_exact (field n v fs) (field m w gs) h = λ i. field (exact_bytes n m (then_first _ _ h) i) (val_exact v w (then_first _ _ (then_second (slice_cmp nat_cmp n m) _ h)) i) (fields_exact fs gs (then_second (val_cmp v w) _ (then_second (slice_cmp nat_cmp n m) _ h)) i)
  fields_exact x y h = cc

bytes_same : (s : List ℕ) → slice_cmp nat_cmp s s ≡ Equal
bytes_same s = same_itself nat_list_cmp_total s

mutual
  pub val_same : (x : Val) → val_cmp x x ≡ Equal
  val_same missing = refl
  val_same null = refl
  val_same (truth true) = refl
  val_same (truth false) = refl
  val_same (int n) = same_itself int_cmp_total n
  val_same (time t) = same_itself int_cmp_total t
  val_same (text s) = bytes_same s
  val_same (list vs) = vals_same vs
  val_same (struct fs) = fields_same fs

  pub vals_same : (x : Vals) → vals_cmp x x ≡ Equal
  vals_same no_vals = refl
  vals_same (val v vs) = rw (val_same v) (vals_same vs)

  pub fields_same : (x : Fields) → fields_cmp x x ≡ Equal
  fields_same no_fields = refl
  fields_same (field n v fs) = rw (bytes_same n, val_same v) (fields_same fs)

reverse_then : (o p q r : Ordering) → o ≡ ordering_reverse q → p ≡ ordering_reverse r → ordering_then o p ≡ ordering_reverse (ordering_then q r)
reverse_then o p Less r e g = rw e refl
reverse_then o p Equal r e g = rw e g
reverse_then o p Greater r e g = rw e refl

bytes_antisymm : (a b : List ℕ) → slice_cmp nat_cmp a b ≡ ordering_reverse (slice_cmp nat_cmp b a)
bytes_antisymm = nat_list_cmp_total.antisymm

bool_antisymm : (a b : Bool) → bool_cmp a b ≡ ordering_reverse (bool_cmp b a)
bool_antisymm true true = refl
bool_antisymm true false = refl
bool_antisymm false true = refl
bool_antisymm false false = refl

mutual
  pub val_antisymm : (x y : Val) → val_cmp x y ≡ ordering_reverse (val_cmp y x)
  val_antisymm missing missing = refl
  val_antisymm null null = refl
  val_antisymm (truth a) (truth b) = bool_antisymm a b
  val_antisymm (int a) (int b) = int_cmp_total.antisymm a b
  val_antisymm (time a) (time b) = int_cmp_total.antisymm a b
  val_antisymm (text a) (text b) = bytes_antisymm a b
  val_antisymm (list a) (list b) = vals_antisymm a b
  val_antisymm (struct a) (struct b) = fields_antisymm a b
  val_antisymm x y = refl

  pub vals_antisymm : (x y : Vals) → vals_cmp x y ≡ ordering_reverse (vals_cmp y x)
  vals_antisymm no_vals no_vals = refl
  vals_antisymm (val v vs) (val w ws) = reverse_then _ _ _ _ (val_antisymm v w) (vals_antisymm vs ws)
  vals_antisymm x y = refl

  pub fields_antisymm : (x y : Fields) → fields_cmp x y ≡ ordering_reverse (fields_cmp y x)
  fields_antisymm no_fields no_fields = refl
  fields_antisymm (field n v fs) (field m w gs) = reverse_then _ _ _ _ (bytes_antisymm n m) (reverse_then _ _ _ _ (val_antisymm v w) (fields_antisymm fs gs))
  fields_antisymm x y = refl

then_trans : (a b c p q r : Ordering) → (a ≡ Less → b ≡ Less → c ≡ Less) → (a ≡ Equal → c ≡ b) → (b ≡ Equal → c ≡ a) → (p ≡ Less → q ≡ Less → r ≡ Less) → ordering_then a p ≡ Less → ordering_then b q ≡ Less → ordering_then c r ≡ Less
then_trans Less Less c p q r t l m u h k = rw (t refl refl) refl
then_trans Less Equal c p q r t l m u h k = rw (m refl) refl
then_trans Equal Less c p q r t l m u h k = rw (l refl) refl
then_trans Equal Equal c p q r t l m u h k = rw (l refl) (u h k)
then_trans Greater b c p q r t l m u h k = cc
then_trans Less Greater c p q r t l m u h k = cc
then_trans Equal Greater c p q r t l m u h k = cc

bool_trans : (a b c : Bool) → bool_cmp a b ≡ Less → bool_cmp b c ≡ Less → bool_cmp a c ≡ Less
bool_trans true true c h k = cc
bool_trans true false c h k = cc
bool_trans false true true h k = cc
bool_trans false true false h k = cc
bool_trans false false c h k = cc

bytes_trans : (a b c : List ℕ) → slice_cmp nat_cmp a b ≡ Less → slice_cmp nat_cmp b c ≡ Less → slice_cmp nat_cmp a c ≡ Less
bytes_trans = nat_list_cmp_total.trans

class_le : (x y : Val) → val_cmp x y ≡ Less → class x ≤ class y
class_le missing missing h = cc
class_le null null h = cc
class_le (truth a) (truth b) h = omega arith
class_le (int a) (int b) h = omega arith
class_le (time a) (time b) h = omega arith
class_le (text a) (text b) h = omega arith
class_le (list a) (list b) h = omega arith
class_le (struct a) (struct b) h = omega arith
class_le x y h = grind arith

below_class : (x y : Val) → class x < class y → val_cmp x y ≡ Less
below_class missing missing h = absurd (omega arith)
below_class null null h = absurd (omega arith)
below_class (truth a) (truth b) h = absurd (omega arith)
below_class (int a) (int b) h = absurd (omega arith)
below_class (time a) (time b) h = absurd (omega arith)
below_class (text a) (text b) h = absurd (omega arith)
below_class (list a) (list b) h = absurd (omega arith)
below_class (struct a) (struct b) h = absurd (omega arith)
below_class x y h = grind arith

mutual
  pub val_trans : (x y z : Val) → val_cmp x y ≡ Less → val_cmp y z ≡ Less → val_cmp x z ≡ Less
  val_trans missing missing z h k = cc
  val_trans null null z h k = cc
  val_trans (truth a) (truth b) (truth c) h k = bool_trans a b c h k
  val_trans (truth a) (truth b) z h k = k
  val_trans (int a) (int b) (int c) h k = int_cmp_total.trans a b c h k
  val_trans (int a) (int b) z h k = k
  val_trans (time a) (time b) (time c) h k = int_cmp_total.trans a b c h k
  val_trans (time a) (time b) z h k = k
  val_trans (text a) (text b) (text c) h k = bytes_trans a b c h k
  val_trans (text a) (text b) z h k = k
  val_trans (list a) (list b) (list c) h k = vals_trans a b c h k
  val_trans (list a) (list b) z h k = k
  val_trans (struct a) (struct b) (struct c) h k = fields_trans a b c h k
  val_trans (struct a) (struct b) z h k = k
  val_trans x y z h k = below_class x z (grind (arith, class_le y z k))

  pub vals_trans : (x y z : Vals) → vals_cmp x y ≡ Less → vals_cmp y z ≡ Less → vals_cmp x z ≡ Less
  vals_trans (val v vs) (val w ws) (val u us) h k =
      then_trans (val_cmp v w) (val_cmp w u) (val_cmp v u) _ _ _ (val_trans v w u) (λ e. ap (λ (t : Val). val_cmp t u) (val_exact v w e)) (λ e. ap (λ (t : Val). val_cmp v t) (sym (val_exact w u e))) (vals_trans vs ws us) h k
  vals_trans no_vals no_vals z h k = cc
  vals_trans no_vals (val w ws) no_vals h k = cc
  vals_trans no_vals (val w ws) (val u us) h k = refl
  vals_trans (val v vs) no_vals z h k = cc
  vals_trans (val v vs) (val w ws) no_vals h k = cc

  pub fields_trans : (x y z : Fields) → fields_cmp x y ≡ Less → fields_cmp y z ≡ Less → fields_cmp x z ≡ Less
  fields_trans (field n v fs) (field m w gs) (field l u hs) h k =
      then_trans (slice_cmp nat_cmp n m) (slice_cmp nat_cmp m l) (slice_cmp nat_cmp n l) _ _ _ (bytes_trans n m l) (λ e. ap (λ (t : List ℕ). slice_cmp nat_cmp t l) (exact_bytes n m e)) (λ e. ap (λ (t : List ℕ). slice_cmp nat_cmp n t) (sym (exact_bytes m l e))) (then_trans (val_cmp v w) (val_cmp w u) (val_cmp v u) _ _ _ (val_trans v w u) (λ e. ap (λ (t : Val). val_cmp t u) (val_exact v w e)) (λ e. ap (λ (t : Val). val_cmp v t) (sym (val_exact w u e))) (fields_trans fs gs hs)) h k
  fields_trans no_fields no_fields z h k = cc
  fields_trans no_fields (field m w gs) no_fields h k = cc
  fields_trans no_fields (field m w gs) (field l u hs) h k = refl
  fields_trans (field n v fs) no_fields z h k = cc
  fields_trans (field n v fs) (field m w gs) no_fields h k = cc

pub val_total : IsTotalOrder val_cmp
val_total = record { antisymm = val_antisymm; trans = val_trans; congr = λ x y z e. ap (λ (t : Val). val_cmp t z) (val_exact x y e) }

none_less : (o p : Ordering) → o ≡ ordering_reverse p → (o ≡ Less → ⊥) → (p ≡ Less → ⊥) → o ≡ Equal
none_less Less p e g h = absurd (g refl)
none_less Equal p e g h = refl
none_less Greater Less e g h = absurd (h refl)
none_less Greater Equal e g h = cc
none_less Greater Greater e g h = cc

-- neither is below the other
pub val_neither : (x y : Val) → (val_cmp x y ≡ Less → ⊥) → (val_cmp y x ≡ Less → ⊥) → x ≡ y
val_neither x y g h = val_exact x y (none_less _ _ (val_antisymm x y) g h)

pub val_not_less : (x y : Val) → x ≡ y → val_cmp x y ≡ Less → ⊥
val_not_less x y e h =
    let same : val_cmp x y ≡ Equal = rw e (val_same y) in
    cc

-- lists compare as std compares slices
pub vals_cmp-vals : (a b : List Val) → vals_cmp (vals a) (vals b) ≡ slice_cmp val_cmp a b
vals_cmp-vals [] [] = refl
vals_cmp-vals [] (w ∷ ws) = refl
vals_cmp-vals (v ∷ vs) [] = refl
vals_cmp-vals (v ∷ vs) (w ∷ ws) = ap (ordering_then (val_cmp v w)) (vals_cmp-vals vs ws)

then_then : (o p q : Ordering) → ordering_then o (ordering_then p q) ≡ ordering_then (ordering_then o p) q
then_then Less p q = refl
then_then Equal p q = refl
then_then Greater p q = refl

-- structs compare as std compares slices of pairs
pub fields_cmp-fields : (a b : List (List ℕ × Val)) → fields_cmp (fields a) (fields b) ≡ slice_cmp pair_cmp a b
fields_cmp-fields [] [] = refl
fields_cmp-fields [] (g ∷ gs) = refl
fields_cmp-fields (f ∷ fs) [] = refl
fields_cmp-fields (f ∷ fs) (g ∷ gs) =
    let step = ap (λ (o : Ordering). ordering_then (slice_cmp nat_cmp f.0 g.0) (ordering_then (val_cmp f.1 g.1) o)) (fields_cmp-fields fs gs) in
    step ∙ then_then (slice_cmp nat_cmp f.0 g.0) (val_cmp f.1 g.1) (slice_cmp pair_cmp fs gs)
