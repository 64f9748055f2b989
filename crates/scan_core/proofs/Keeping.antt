-- Each event keeps what a state keeps.
use Rattle.std.proofs.Common.{◌≡◌, ℕ, zero, suc, ◌+◌, ◌*◌, ◌<◌, ◌≤◌, ◌≢◌, ◌⊎◌, min, Bool, ◌||◌, true, false, Option, Some, None, List, [], ◌∷◌, ◌++◌, length, set, sym, refl, ap, ◌∙◌, subst, inl, inr, ⊎_elim, arith, add-one, length-append, nat_eq, if◌then◌else◌}
use Rattle.std.proofs.lemmas.Bool.Decides.{nat_tests}
use mathlib.Core.Option.{some, some-injective, some-ne-none}
use mathlib.Core.Logic.{dite}
use native.Mathlib.Decide.{dec_le, dec_lt}
use lib.ListN.{get_elem?}
use Rattle.scan_core.specs.declared.view.ScanView.{ScanView}
use Rattle.scan_core.specs.Times.{total, times}
use Rattle.scan_core.specs.Board.{Scan, total_below, lesser, AtMost, least_of, IsSound, Fits, Kept, empty_view, once_below, claimed, ending, reported, harmed, saw_rows, saw_damage, joined}

module _ {A : Type 0} where
  pub at_set : (l : List A) (i j : ℕ) (a b : A) → get_elem? (set l i a) j ≡ some b → ((j ≡ i) × (a ≡ b)) ⊎ ((j ≢ i) × (get_elem? l j ≡ some b))
  at_set [] i j a b e = absurd (some-ne-none b (sym e))
  at_set (x ∷ xs) zero zero a b e = inl (refl, some-injective a b e)
  at_set (x ∷ xs) zero (suc j) a b e = inr ((λ h. omega arith), e)
  at_set (x ∷ xs) (suc i) zero a b e = inr ((λ h. omega arith), e)
  at_set (x ∷ xs) (suc i) (suc j) a b e = ⊎_elim (λ t. inl (ap suc t.0, t.1)) (λ t. let n = t.0 in inr ((λ h. n (omega arith)), t.1)) (at_set xs i j a b e)

  pub at_snoc : (l : List A) (a b : A) (j : ℕ) → get_elem? (l ++ a ∷ []) j ≡ some b → (get_elem? l j ≡ some b) ⊎ (a ≡ b)
  at_snoc [] a b zero e = inr (some-injective a b e)
  at_snoc [] a b (suc j) e = absurd (some-ne-none b (sym e))
  at_snoc (x ∷ xs) a b zero e = inl e
  at_snoc (x ∷ xs) a b (suc j) e = at_snoc xs a b j e

  pub total-set : (f : A → ℕ) (l : List A) (i : ℕ) (v w : A) → get_elem? l i ≡ some v → total f (set l i w) + f v ≡ total f l + f w
  total-set f [] i v w e = absurd (some-ne-none v (sym e))
  total-set f (x ∷ xs) zero v w e = let is = ap f (some-injective x v e) in omega arith
  total-set f (x ∷ xs) (suc i) v w e = let r = total-set f xs i v w e in omega arith

  pub total-append : (f : A → ℕ) (l m : List A) → total f (l ++ m) ≡ total f l + total f m
  total-append f [] m = omega arith
  total-append f (x ∷ xs) m = omega (arith, total-append f xs m)

  pub total-at : (f : A → ℕ) (l : List A) (i : ℕ) (v : A) → get_elem? l i ≡ some v → f v ≤ total f l
  total-at f [] i v e = absurd (some-ne-none v (sym e))
  total-at f (x ∷ xs) zero v e = let is = ap f (some-injective x v e) in omega arith
  total-at f (x ∷ xs) (suc i) v e = omega (arith, total-at f xs i v e)

  pub total-le : (f g : A → ℕ) (l : List A) → ((i : ℕ) (v : A) → get_elem? l i ≡ some v → f v ≤ g v) → total f l ≤ total g l
  total-le f g [] h = omega arith
  total-le f g (x ∷ xs) h = omega (arith, h 0 x refl, total-le f g xs (λ i v e. h (suc i) v e))

pub lesser-none : (a : Option ℕ) → lesser a None ≡ a
lesser-none None = refl
lesser-none (Some a) = refl

pub lesser-comm : (a b : Option ℕ) → lesser a b ≡ lesser b a
lesser-comm None None = refl
lesser-comm None (Some b) = refl
lesser-comm (Some a) None = refl
lesser-comm (Some a) (Some b) = ap (λ (n : ℕ). Some n) (omega arith)

pub lesser-assoc : (a b c : Option ℕ) → lesser (lesser a b) c ≡ lesser a (lesser b c)
lesser-assoc None b c = refl
lesser-assoc (Some a) None c = refl
lesser-assoc (Some a) (Some b) None = refl
lesser-assoc (Some a) (Some b) (Some c) = ap (λ (n : ℕ). Some n) (omega arith)

pub lesser-same : (a : Option ℕ) → lesser a a ≡ a
lesser-same None = refl
lesser-same (Some a) = ap (λ (n : ℕ). Some n) (omega arith)

-- a lesser of some is at most each of them
pub at_most_first : (a b : Option ℕ) → AtMost (lesser a b) a
at_most_first a b = ap (λ (x : Option ℕ). lesser x a) (lesser-comm a b) ∙ lesser-assoc b a a ∙ ap (lesser b) (lesser-same a) ∙ lesser-comm b a

pub at_most-trans : (a b c : Option ℕ) → AtMost a b → AtMost b c → AtMost a c
at_most-trans a b c p q = ap (λ (x : Option ℕ). lesser x c) (sym p) ∙ lesser-assoc a b c ∙ ap (lesser a) q ∙ p

-- the least of the views, where one takes in x more
pub least-set : (l : List ScanView) (i : ℕ) (v w : ScanView) (x : Option ℕ) → get_elem? l i ≡ some v → w.least ≡ lesser v.least x → least_of (set l i w) ≡ lesser (least_of l) x
least-set [] i v w x e is = absurd (some-ne-none v (sym e))
least-set (u ∷ us) zero v w x e is =
    ap (λ (y : Option ℕ). lesser y (least_of us)) (is ∙ ap (λ (z : ScanView). lesser z.least x) (sym (some-injective u v e)))
    ∙ lesser-assoc u.least x (least_of us) ∙ ap (lesser u.least) (lesser-comm x (least_of us)) ∙ sym (lesser-assoc u.least (least_of us) x)
least-set (u ∷ us) (suc i) v w x e is = ap (lesser u.least) (least-set us i v w x e is) ∙ sym (lesser-assoc u.least (least_of us) x)

pub least-set_same : (l : List ScanView) (i : ℕ) (v w : ScanView) → get_elem? l i ≡ some v → w.least ≡ v.least → least_of (set l i w) ≡ least_of l
least-set_same l i v w e is = least-set l i v w None e (is ∙ sym (lesser-none v.least)) ∙ lesser-none (least_of l)

pub least-snoc : (l : List ScanView) → least_of (l ++ empty_view ∷ []) ≡ least_of l
least-snoc [] = refl
least-snoc (u ∷ us) = ap (lesser u.least) (least-snoc us)

abbrev pub changed : Scan → ℕ → ScanView → ℕ → ℕ → Option ℕ → Scan
changed s i w n r d = record { blocks = s.blocks; enough = s.enough; next = n; rows = r; damage = d; views = set s.views i w }

-- what the view of another seat keeps, later
pub fits_later : (s t : Scan) (v : ScanView) → t.blocks ≡ s.blocks → s.next ≤ t.next → t.next ≤ t.blocks → s.rows ≤ t.rows → AtMost t.damage s.damage → Fits s v → Fits t v
fits_later s t v same more in_bounds rows damage f = record {
  sound = f.sound;
  ended = λ e. let n = f.ended e in omega arith;
  seen_rows = let r = f.seen_rows in omega arith;
  seen_damage = at_most-trans t.damage s.damage v.seen_damage damage f.seen_damage;
}

-- one view changes
pub one_changes : (s : Scan) (i : ℕ) (v w : ScanView) (n r : ℕ) (d : Option ℕ) → Kept s → get_elem? s.views i ≡ some v
    → s.next ≤ n → n ≤ s.blocks → ((f : ℕ → ℕ) → total_below f n + total f v.claims ≡ total_below f s.next + total f w.claims)
    → r + v.rows ≡ s.rows + w.rows → s.rows ≤ r → d ≡ least_of (set s.views i w) → AtMost d s.damage → Fits (changed s i w n r d) w → Kept (changed s i w n r d)
one_changes s i v w n r d k at more in_bounds claims rows more_rows damage lower fits = record {
  bounded = in_bounds;
  claims = λ f. let c = k.claims f in let t = total-set (λ (u : ScanView). total f u.claims) s.views i v w at in let here = claims f in omega arith;
  rows = let t = total-set (λ (u : ScanView). u.rows) s.views i v w at in let was = k.rows in omega arith;
  damage = damage;
  each = λ j u e. ⊎_elim (λ t. subst (Fits (changed s i w n r d)) t.1 fits) (λ t. fits_later s (changed s i w n r d) u refl more in_bounds more_rows lower (k.each j u t.1)) (at_set s.views i j w u e);
}

pub times-append : (b : ℕ) (l m : List ℕ) → times b (l ++ m) ≡ times b l + times b m
times-append b l m = total-append _ l m

one_of_two : (a b : ℕ) → (a ≡ min a b) ⊎ (b ≡ min a b)
one_of_two a b = dite (dec_le a b) (λ h. inl (omega arith)) (λ h. inr (omega arith))

pub sound_claimed : (v : ScanView) (n : ℕ) → IsSound v → IsSound (claimed v n)
sound_claimed v n k = record {
  reports = let r = k.reports in omega (arith, length-append v.claims (n ∷ []));
  rows = k.rows;
  least = λ b e. omega (arith, k.least b e, times-append b v.claims (n ∷ []));
}

pub sound_ending : (v : ScanView) → IsSound v → IsSound (ending v)
sound_ending v k = record { reports = k.reports; rows = k.rows; least = k.least }

pub sound_reported : (v : ScanView) (n : ℕ) → v.reports < length v.claims → n ≤ 1048576 → IsSound v → IsSound (reported v n)
sound_reported v n some_left few k = record { reports = omega arith; rows = let r = k.rows in omega arith; least = k.least }

pub sound_harmed : (v : ScanView) (b : ℕ) → 0 < times b v.claims → IsSound v → IsSound (harmed v b)
sound_harmed v b mine k = record { reports = k.reports; rows = k.rows; least = λ c e. least_is v.least c (λ d. k.least d) e }
  where
    least_is : (a : Option ℕ) (c : ℕ) → ((d : ℕ) → a ≡ Some d → 0 < times d v.claims) → lesser a (Some b) ≡ Some c → 0 < times c v.claims
    least_is None c h e = let is : b ≡ c = cc in subst (λ (x : ℕ). 0 < times x v.claims) is mine
    least_is (Some a) c h e = let is : min a b ≡ c = cc in ⊎_elim
        (λ t. subst (λ (x : ℕ). 0 < times x v.claims) (t ∙ is) (h a refl))
        (λ t. subst (λ (x : ℕ). 0 < times x v.claims) (t ∙ is) mine)
        (one_of_two a b)

pub sound_saw : (v : ScanView) (n : ℕ) (d : Option ℕ) → IsSound v → IsSound (saw_damage (saw_rows v n) d)
sound_saw v n d k = record { reports = k.reports; rows = k.rows; least = k.least }

pub sound_empty : IsSound empty_view
sound_empty = record { reports = omega arith; rows = omega arith; least = λ b e. absurd (let no : None ≡ Some b = e in cc) }

pub kept_claim : (s : Scan) (i : ℕ) (v : ScanView) → Kept s → get_elem? s.views i ≡ some v → s.next < s.blocks
    → Kept (changed s i (claimed v s.next) (s.next + 1) s.rows s.damage)
kept_claim s i v k at room = let f0 = k.each i v at in let ended = f0.ended in
    one_changes s i v (claimed v s.next) (s.next + 1) s.rows s.damage k at (omega arith) (omega arith)
    (λ f. rw add-one (omega (arith, total-append f v.claims (s.next ∷ []))))
    (omega arith) (omega arith) (k.damage ∙ sym (least-set_same s.views i v (claimed v s.next) at refl)) (lesser-same s.damage)
    record {
      sound = sound_claimed v s.next f0.sound;
      ended = λ e. absurd (omega (arith, ended e));
      seen_rows = f0.seen_rows;
      seen_damage = f0.seen_damage;
    }

pub kept_end : (s : Scan) (i : ℕ) (v : ScanView) → Kept s → get_elem? s.views i ≡ some v → s.blocks ≤ s.next
    → Kept (changed s i (ending v) s.next s.rows s.damage)
kept_end s i v k at full = let f0 = k.each i v at in let b = k.bounded in
    one_changes s i v (ending v) s.next s.rows s.damage k at (omega arith) b (λ f. refl)
    (omega arith) (omega arith) (k.damage ∙ sym (least-set_same s.views i v (ending v) at refl)) (lesser-same s.damage)
    record { sound = sound_ending v f0.sound; ended = λ e. omega arith; seen_rows = f0.seen_rows; seen_damage = f0.seen_damage }

pub kept_rows : (s : Scan) (i : ℕ) (v : ScanView) (n : ℕ) → Kept s → get_elem? s.views i ≡ some v → v.reports < length v.claims → n ≤ 1048576
    → Kept (changed s i (reported v n) s.next (s.rows + n) s.damage)
kept_rows s i v n k at some_left few = let f0 = k.each i v at in let b = k.bounded in let seen = f0.seen_rows in
    one_changes s i v (reported v n) s.next (s.rows + n) s.damage k at (omega arith) b (λ f. refl)
    (omega arith) (omega arith) (k.damage ∙ sym (least-set_same s.views i v (reported v n) at refl)) (lesser-same s.damage)
    record { sound = sound_reported v n some_left few f0.sound; ended = f0.ended; seen_rows = omega arith; seen_damage = f0.seen_damage }

pub kept_damage : (s : Scan) (i : ℕ) (v : ScanView) (b : ℕ) → Kept s → get_elem? s.views i ≡ some v → 0 < times b v.claims
    → Kept (changed s i (harmed v b) s.next s.rows (lesser s.damage (Some b)))
kept_damage s i v b k at mine = let f0 = k.each i v at in
    one_changes s i v (harmed v b) s.next s.rows (lesser s.damage (Some b)) k at (omega arith) k.bounded (λ f. refl)
    (omega arith) (omega arith) (ap (λ (d : Option ℕ). lesser d (Some b)) k.damage ∙ sym (least-set s.views i v (harmed v b) (Some b) at refl)) (at_most_first s.damage (Some b))
    record {
      sound = sound_harmed v b mine f0.sound;
      ended = f0.ended;
      seen_rows = f0.seen_rows;
      seen_damage = at_most-trans (lesser s.damage (Some b)) s.damage v.seen_damage (at_most_first s.damage (Some b)) f0.seen_damage;
    }

pub kept_look_rows : (s : Scan) (i : ℕ) (v : ScanView) → Kept s → get_elem? s.views i ≡ some v → Kept (changed s i (saw_rows v s.rows) s.next s.rows s.damage)
kept_look_rows s i v k at = let f0 = k.each i v at in let b = k.bounded in
    one_changes s i v (saw_rows v s.rows) s.next s.rows s.damage k at (omega arith) b (λ f. refl)
    (omega arith) (omega arith) (k.damage ∙ sym (least-set_same s.views i v (saw_rows v s.rows) at refl)) (lesser-same s.damage)
    record { sound = sound_saw v s.rows v.seen_damage f0.sound; ended = f0.ended; seen_rows = omega arith; seen_damage = f0.seen_damage }

pub kept_look_damage : (s : Scan) (i : ℕ) (v : ScanView) → Kept s → get_elem? s.views i ≡ some v → Kept (changed s i (saw_damage v s.damage) s.next s.rows s.damage)
kept_look_damage s i v k at = let f0 = k.each i v at in let b = k.bounded in
    one_changes s i v (saw_damage v s.damage) s.next s.rows s.damage k at (omega arith) b (λ f. refl)
    (omega arith) (omega arith) (k.damage ∙ sym (least-set_same s.views i v (saw_damage v s.damage) at refl)) (lesser-same s.damage)
    record { sound = sound_saw v v.seen_rows s.damage f0.sound; ended = f0.ended; seen_rows = f0.seen_rows; seen_damage = lesser-same s.damage }

pub both_later : (a b c d : Option ℕ) → AtMost a c → AtMost a d → AtMost a (lesser c d)
both_later a b c d p q = sym (lesser-assoc a c d) ∙ ap (λ (x : Option ℕ). lesser x d) p ∙ q

least_among : (a b : Option ℕ) (l m : List ℕ) → ((d : ℕ) → a ≡ Some d → 0 < times d l) → ((d : ℕ) → b ≡ Some d → 0 < times d m)
    → (c : ℕ) → lesser a b ≡ Some c → 0 < times c (l ++ m)
least_among None b l m p q c e = omega (arith, q c e, times-append c l m)
least_among (Some a) None l m p q c e = let is : a ≡ c = cc in let h = p a refl in let h' = subst (λ (x : ℕ). 0 < times x l) is h in omega (arith, h', times-append c l m)
least_among (Some a) (Some b) l m p q c e = let is : min a b ≡ c = cc in ⊎_elim
    (λ t. let h' = subst (λ (x : ℕ). 0 < times x l) (t ∙ is) (p a refl) in omega (arith, h', times-append c l m))
    (λ t. let h' = subst (λ (x : ℕ). 0 < times x m) (t ∙ is) (q b refl) in omega (arith, h', times-append c l m))
    (one_of_two a b)

sound_joined : (v w : ScanView) → IsSound v → IsSound w → IsSound (joined v w)
sound_joined v w a b = record {
  reports = let x = a.reports in let y = b.reports in omega (arith, length-append v.claims w.claims);
  rows = let x = a.rows in let y = b.rows in omega arith;
  least = least_among v.least w.least v.claims w.claims a.least b.least;
}

pub either_ended : (a b : Bool) → (P : Type 0) → (a ≡ true → P) → (b ≡ true → P) → (a || b) ≡ true → P
either_ended true b P p q e = p refl
either_ended false b P p q e = q e

-- a view's least, taken out of the views' least
least-taken : (l : List ScanView) (j : ℕ) (w e : ScanView) → get_elem? l j ≡ some w → e.least ≡ None → least_of l ≡ lesser (least_of (set l j e)) w.least
least-taken [] j w e at none = absurd (some-ne-none w (sym at))
least-taken (x ∷ xs) zero w e at none =
    ap (λ (z : ScanView). lesser z.least (least_of xs)) (some-injective x w at) ∙ lesser-comm w.least (least_of xs) ∙ ap (λ (y : Option ℕ). lesser (lesser y (least_of xs)) w.least) (sym none)
least-taken (x ∷ xs) (suc j) w e at none = ap (lesser x.least) (least-taken xs j w e at none) ∙ sym (lesser-assoc x.least (least_of (set xs j e)) w.least)

-- the least of the views does not change where one takes in another
least-moved : (l : List ScanView) (i j : ℕ) (v w u e : ScanView) → get_elem? l i ≡ some v → get_elem? (set l i u) j ≡ some w → j ≢ i → u.least ≡ lesser v.least w.least → e.least ≡ None
    → least_of (set (set l i u) j e) ≡ least_of l
least-moved [] i j v w u e at other ne is none = absurd (some-ne-none v (sym at))
least-moved (x ∷ xs) zero zero v w u e at other ne is none = absurd (ne refl)
least-moved (x ∷ xs) zero (suc j) v w u e at other ne is none =
    let L : Option ℕ = least_of (set xs j e) in
    ap (λ (y : Option ℕ). lesser y L) (is ∙ ap (λ (z : ScanView). lesser z.least w.least) (sym (some-injective x v at)))
    ∙ lesser-assoc x.least w.least L ∙ ap (lesser x.least) (lesser-comm w.least L ∙ sym (least-taken xs j w e other none))
least-moved (x ∷ xs) (suc i) zero v w u e at other ne is none =
    ap (λ (y : Option ℕ). lesser y (least_of (set xs i u))) none
    ∙ least-set xs i v u w.least at is ∙ lesser-comm (least_of xs) w.least ∙ ap (λ (z : ScanView). lesser z.least (least_of xs)) (sym (some-injective x w other))
least-moved (x ∷ xs) (suc i) (suc j) v w u e at other ne is none = ap (lesser x.least) (least-moved xs i j v w u e at other (λ h. ne (ap suc h)) is none)

abbrev pub with_views : Scan → List ScanView → Scan
with_views s l = record { blocks = s.blocks; enough = s.enough; next = s.next; rows = s.rows; damage = s.damage; views = l }

pub refit : (s : Scan) (l : List ScanView) (v : ScanView) → Fits s v → Fits (with_views s l) v
refit s l v f = record { sound = f.sound; ended = f.ended; seen_rows = f.seen_rows; seen_damage = f.seen_damage }

pub fits_empty : (s : Scan) → Fits s empty_view
fits_empty s = record { sound = sound_empty; ended = λ e. absurd (let no : false ≡ true = e in cc); seen_rows = omega arith; seen_damage = lesser-none s.damage }

pub kept_join : (s : Scan) (i j : ℕ) (v w : ScanView) → Kept s → get_elem? s.views i ≡ some v → j ≢ i → get_elem? (set s.views i (joined v w)) j ≡ some w
    → Kept (with_views s (set (set s.views i (joined v w)) j empty_view))
kept_join s i j v w k at ne other = let u : ScanView = joined v w in let l = s.views in record {
  bounded = k.bounded;
  claims = λ f. let c = k.claims f in let a = total-set (λ (x : ScanView). total f x.claims) l i v u at in
      let b = total-set (λ (x : ScanView). total f x.claims) (set l i u) j w empty_view other in omega (arith, total-append f v.claims w.claims);
  rows = let c = k.rows in let a = total-set (λ (x : ScanView). x.rows) l i v u at in
      let b = total-set (λ (x : ScanView). x.rows) (set l i u) j w empty_view other in omega arith;
  damage = k.damage ∙ sym (least-moved l i j v w u empty_view at other ne refl refl);
  each = λ m x e. refit s _ x (⊎_elim (λ t. subst (Fits s) t.1 (fits_empty s)) (λ t. ⊎_elim (λ t'. subst (Fits s) t'.1 both) (λ t'. k.each m x t'.1) (at_set l i m u x t.1)) (at_set (set l i u) j m empty_view x e));
}
  where
    there : get_elem? s.views j ≡ some w
    there = ⊎_elim (λ t. absurd (ne t.0)) (λ t. t.1) (at_set s.views i j (joined v w) w other)

    first : Fits s v
    first = k.each i v at

    second : Fits s w
    second = k.each j w there

    both : Fits s (joined v w)
    both = record {
      sound = sound_joined v w first.sound second.sound;
      ended = either_ended v.ended w.ended (s.next ≡ s.blocks) first.ended second.ended;
      seen_rows = let a = first.seen_rows in let b = second.seen_rows in omega arith;
      seen_damage = both_later s.damage s.damage v.seen_damage w.seen_damage first.seen_damage second.seen_damage;
    }

pub kept_split : (s : Scan) → Kept s → Kept (with_views s (s.views ++ empty_view ∷ []))
kept_split s k = record {
  bounded = k.bounded;
  claims = λ f. let c = k.claims f in omega (arith, total-append (λ (x : ScanView). total f x.claims) s.views (empty_view ∷ []));
  rows = let c = k.rows in omega (arith, total-append (λ (x : ScanView). x.rows) s.views (empty_view ∷ []));
  damage = k.damage ∙ sym (least-snoc s.views);
  each = λ m x e. refit s _ x (⊎_elim (λ t. k.each m x t) (λ t. subst (Fits s) t (fits_empty s)) (at_snoc s.views empty_view x m e));
}

-- what follows

pub once : (x n : ℕ) → total_below (λ y. if nat_eq y x then 1 else 0) n ≡ once_below x n
once x zero = grind (arith, nat_tests)
once x (suc n) = let r = once x n in grind (arith, nat_tests, r)

pub some-positive : (f : ScanView → ℕ) (l : List ScanView) → 0 < total f l → (i : ℕ) × (v : ScanView) × (get_elem? l i ≡ some v) × (0 < f v)
some-positive f [] h = absurd (omega arith)
some-positive f (x ∷ xs) h = dite (dec_lt 0 (f x)) (λ here. (0, x, refl, here)) (λ no. let r = some-positive f xs (omega arith) in (suc r.0, r.1, r.2, r.3))

one_is : (a b : Option ℕ) (d : ℕ) → lesser a b ≡ Some d → (a ≡ Some d) ⊎ (b ≡ Some d)
one_is None b d e = inr e
one_is (Some a) None d e = inl e
one_is (Some a) (Some b) d e = let is : min a b ≡ d = cc in ⊎_elim (λ t. inl (ap (λ (n : ℕ). Some n) (t ∙ is))) (λ t. inr (ap (λ (n : ℕ). Some n) (t ∙ is))) (one_of_two a b)

pub is_least : (l : List ScanView) (d : ℕ) → least_of l ≡ Some d → (i : ℕ) × (v : ScanView) × (get_elem? l i ≡ some v) × (v.least ≡ Some d)
is_least [] d e = absurd (let no : None ≡ Some d = e in cc)
is_least (x ∷ xs) d e = ⊎_elim (λ t. (0, x, refl, t)) (λ t. let r = is_least xs d t in (suc r.0, r.1, r.2, r.3)) (one_is x.least (least_of xs) d e)

-- each number is claimed once where it is below `next`, and else never
pub claimed_once : (s : Scan) → Kept s → (x : ℕ) → total (λ v. times x v.claims) s.views ≡ once_below x s.next
claimed_once s k x = k.claims (λ y. if nat_eq y x then 1 else 0) ∙ once x s.next

pub below_is : (x n : ℕ) → x < n → once_below x n ≡ 1
below_is x n h = grind (arith, nat_tests)

pub is_claimed : (s : Scan) → Kept s → (x : ℕ) → x < s.next → (i : ℕ) × (v : ScanView) × (get_elem? s.views i ≡ some v) × (0 < times x v.claims)
is_claimed s k x h = some-positive (λ v. times x v.claims) s.views (let c = claimed_once s k x in let b = below_is x s.next h in omega arith)

pub claim_below : (s : Scan) → Kept s → (i : ℕ) (v : ScanView) → get_elem? s.views i ≡ some v → (x : ℕ) → 0 < times x v.claims → x < s.next
claim_below s k i v at x h = let c = claimed_once s k x in let t = total-at (λ (u : ScanView). times x u.claims) s.views i v at in
    dite (dec_lt x s.next) (λ y. y) (λ no. absurd (let z = above_is x s.next no in omega arith))
  where
    above_is : (x n : ℕ) → (x < n → ⊥) → once_below x n ≡ 0
    above_is x n h = grind (arith, nat_tests)

-- once a damage is known, each lower block is among the claims of a seat
pub harm_is_covered : (s : Scan) → Kept s → (d : ℕ) → s.damage ≡ Some d → (x : ℕ) → x < d → (i : ℕ) × (v : ScanView) × (get_elem? s.views i ≡ some v) × (0 < times x v.claims)
harm_is_covered s k d e x h = let l = is_least s.views d (sym k.damage ∙ e) in let mine = (k.each l.0 l.1 l.2).sound.least d l.3 in
    let b = claim_below s k l.0 l.1 l.2 d mine in is_claimed s k x (omega arith)

-- once a seat has ended, the claims are all blocks
pub ended_is_all : (s : Scan) → Kept s → (i : ℕ) (v : ScanView) → get_elem? s.views i ≡ some v → v.ended ≡ true → (x : ℕ) → total (λ u. times x u.claims) s.views ≡ once_below x s.blocks
ended_is_all s k i v at e x = claimed_once s k x ∙ ap (once_below x) ((k.each i v at).ended e)

pub total-same : (c : ℕ) (l : List ℕ) → total (λ _. c) l ≡ c * length l
total-same c [] = omega arith
total-same c (x ∷ xs) = omega (arith, total-same c xs)

pub total_below-same : (c n : ℕ) → total_below (λ _. c) n ≡ c * n
total_below-same c zero = omega arith
total_below-same c (suc n) = omega (arith, total_below-same c n)

-- the rows of a state are few
pub rows_bound : (s : Scan) → Kept s → s.rows ≤ 1048576 * s.next
rows_bound s k = let c = k.claims (λ _. 1048576) in let rows = k.rows in
    let few = total-le (λ (v : ScanView). v.rows) (λ (v : ScanView). total (λ _. 1048576) v.claims) s.views
    (λ i v e. let f = (k.each i v e).sound in let a = f.rows in let b = f.reports in omega (arith, total-same 1048576 v.claims)) in
    omega (arith, total_below-same 1048576 s.next)

-- the least of the views is at most each
pub least-at : (l : List ScanView) (i : ℕ) (v : ScanView) → get_elem? l i ≡ some v → AtMost (least_of l) v.least
least-at [] i v e = absurd (some-ne-none v (sym e))
least-at (x ∷ xs) zero v e = subst (λ (z : ScanView). AtMost (lesser x.least (least_of xs)) z.least) (some-injective x v e) (at_most_first x.least (least_of xs))
least-at (x ∷ xs) (suc i) v e = lesser-assoc x.least (least_of xs) v.least ∙ ap (lesser x.least) (least-at xs i v e)

-- a seat has at most as many claims as there are numbers below `next`
pub claims_bound : (s : Scan) → Kept s → (i : ℕ) (v : ScanView) → get_elem? s.views i ≡ some v → length v.claims ≤ s.next
claims_bound s k i v at = let c = k.claims (λ _. 1) in let own = total-at (λ (u : ScanView). total (λ _. 1) u.claims) s.views i v at in
    omega (arith, total-same 1 v.claims, total_below-same 1 s.next)
