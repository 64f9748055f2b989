-- One lane more that shows something.
use Rattle.std.proofs.Common.{◌≡◌, ◌≢◌, ℕ, ℤ, ◌<◌, Bool, true, false, cond, List, length, nat_eq, refl, ap, ◌∙◌, arith, ⊎_elim, get_or-set_same, get_or-set_other}
use Rattle.std.specs.Prelude.{◌||◌, slice_index_or, slice_set}
use Rattle.std.specs.Borrow.{Bor}
use Rattle.std.proofs.lemmas.Bool.{cases_eq}
use Rattle.std.proofs.lemmas.Bool.Decides.{nat_tests}
use Rattle.lane_base.specs.declared.lanes.Lanes.{Lanes}
use Rattle.lane_base.specs.Bits.{has}
use Rattle.lane_base.specs.Shown.{Shown, show_as, value_under, IsLegal}
use Rattle.lane_base.specs.Shown as to
use Rattle.lane_base.specs.Registers.{number_at, span_at, no_span, shown}

show_int : (e n y f i t x r : Bool) (z : ℤ) (s : List ℕ) (w v : ℤ) → (e ≡ true → show_as n y f i t x r z s ≡ to.Missing) → w ≡ cond e v z → show_as n y f (e || i) t x r w s ≡ cond e (to.Int v) (show_as n y f i t x r z s)
show_int false n y f i t x r z s w v h q = ap (λ (u : ℤ). show_as n y f i t x r u s) q
show_int true true y f i t x r z s w v h q = absurd (let m = h refl in cc)
show_int true false true f i t x r z s w v h q = absurd (let m = h refl in cc)
show_int true false false true i t x r z s w v h q = absurd (let m = h refl in cc)
show_int true false false false i t x r z s w v h q = ap to.Int q

show_time : (e n y f i t x r : Bool) (z : ℤ) (s : List ℕ) (w v : ℤ) → (e ≡ true → show_as n y f i t x r z s ≡ to.Missing) → w ≡ cond e v z → show_as n y f i (e || t) x r w s ≡ cond e (to.Time v) (show_as n y f i t x r z s)
show_time false n y f i t x r z s w v h q = ap (λ (u : ℤ). show_as n y f i t x r u s) q
show_time true true y f i t x r z s w v h q = absurd (let m = h refl in cc)
show_time true false true f i t x r z s w v h q = absurd (let m = h refl in cc)
show_time true false false true i t x r z s w v h q = absurd (let m = h refl in cc)
show_time true false false false true t x r z s w v h q = absurd (let m = h refl in cc)
show_time true false false false false t x r z s w v h q = ap to.Time q

show_text : (e n y f i t x r : Bool) (z : ℤ) (s : List ℕ) (w v : List ℕ) → (e ≡ true → show_as n y f i t x r z s ≡ to.Missing) → w ≡ cond e v s → show_as n y f i t (e || x) r z w ≡ cond e (to.Text v) (show_as n y f i t x r z s)
show_text false n y f i t x r z s w v h q = ap (λ (u : List ℕ). show_as n y f i t x r z u) q
show_text true true y f i t x r z s w v h q = absurd (let m = h refl in cc)
show_text true false true f i t x r z s w v h q = absurd (let m = h refl in cc)
show_text true false false true i t x r z s w v h q = absurd (let m = h refl in cc)
show_text true false false false true t x r z s w v h q = absurd (let m = h refl in cc)
show_text true false false false false true x r z s w v h q = absurd (let m = h refl in cc)
show_text true false false false false false x r z s w v h q = ap to.Text q

show_tree : (e n y f i t x r : Bool) (z : ℤ) (s : List ℕ) (w v : List ℕ) → (e ≡ true → show_as n y f i t x r z s ≡ to.Missing) → w ≡ cond e v s → show_as n y f i t x (e || r) z w ≡ cond e (to.Tree v) (show_as n y f i t x r z s)
show_tree false n y f i t x r z s w v h q = ap (λ (u : List ℕ). show_as n y f i t x r z u) q
show_tree true true y f i t x r z s w v h q = absurd (let m = h refl in cc)
show_tree true false true f i t x r z s w v h q = absurd (let m = h refl in cc)
show_tree true false false true i t x r z s w v h q = absurd (let m = h refl in cc)
show_tree true false false false true t x r z s w v h q = absurd (let m = h refl in cc)
show_tree true false false false false true x r z s w v h q = absurd (let m = h refl in cc)
show_tree true false false false false false true r z s w v h q = absurd (let m = h refl in cc)
show_tree true false false false false false false r z s w v h q = ap to.Tree q

pub put_at : {X : Type 0} (xs : List X) (lane i : ℕ) (v d : X) → lane < length xs → slice_index_or (slice_set xs lane v) i d ≡ cond (nat_eq i lane) v (slice_index_or xs i d)
put_at xs lane i v d within =
    ⊎_elim
    (λ (e : i ≡ lane). let t : nat_eq i lane ≡ true = grind (arith, nat_tests) in rw (t, e) (get_or-set_same xs lane v d within))
    (λ (ne : i ≢ lane). let f : nat_eq i lane ≡ false = grind (arith, nat_tests) in rw f (get_or-set_other xs lane i v d ne))
    (cases_eq i lane)

now_of : (b : Bool) (v d : Bor (List ℕ)) → (cond b v d).now ≡ cond b v.now d.now
now_of true v d = refl
now_of false v d = refl

pub span_put : (xs : List (Bor (List ℕ))) (lane i : ℕ) (v : Bor (List ℕ)) → lane < length xs → span_at (slice_set xs lane v) i ≡ cond (nat_eq i lane) v.now (span_at xs i)
span_put xs lane i v within = ap (λ (s : Bor (List ℕ)). s.now) (put_at xs lane i v no_span within) ∙ now_of (nat_eq i lane) v (slice_index_or xs i no_span)

module _ (lanes : Lanes) (mask lane i : ℕ) (missing : shown lanes lane ≡ to.Missing) where
  at_lane : nat_eq i lane ≡ true → shown lanes i ≡ to.Missing
  at_lane e =
      let same : i ≡ lane = grind (arith, nat_tests) in
      ap (shown lanes) same ∙ missing

  module _ (v w : ℤ) (q : w ≡ cond (nat_eq i lane) v (number_at lanes.nums.lanes i)) where
    pub int_put : has mask i ≡ (nat_eq i lane || has lanes.int.0 i) → show_as (has lanes.null.0 i) (has lanes.yes.0 i) (has lanes.no.0 i) (has mask i) (has lanes.time.0 i) (has lanes.text.0 i) (has lanes.tree.0 i) w (span_at lanes.spans.lanes i) ≡ cond (nat_eq i lane) (to.Int v) (shown lanes i)
    int_put e = rw e (show_int (nat_eq i lane) (has lanes.null.0 i) (has lanes.yes.0 i) (has lanes.no.0 i) (has lanes.int.0 i) (has lanes.time.0 i) (has lanes.text.0 i) (has lanes.tree.0 i) (number_at lanes.nums.lanes i) (span_at lanes.spans.lanes i) w v at_lane q)

    pub time_put : has mask i ≡ (nat_eq i lane || has lanes.time.0 i) → show_as (has lanes.null.0 i) (has lanes.yes.0 i) (has lanes.no.0 i) (has lanes.int.0 i) (has mask i) (has lanes.text.0 i) (has lanes.tree.0 i) w (span_at lanes.spans.lanes i) ≡ cond (nat_eq i lane) (to.Time v) (shown lanes i)
    time_put e = rw e (show_time (nat_eq i lane) (has lanes.null.0 i) (has lanes.yes.0 i) (has lanes.no.0 i) (has lanes.int.0 i) (has lanes.time.0 i) (has lanes.text.0 i) (has lanes.tree.0 i) (number_at lanes.nums.lanes i) (span_at lanes.spans.lanes i) w v at_lane q)

  module _ (v w : List ℕ) (q : w ≡ cond (nat_eq i lane) v (span_at lanes.spans.lanes i)) where
    pub text_put : has mask i ≡ (nat_eq i lane || has lanes.text.0 i) → show_as (has lanes.null.0 i) (has lanes.yes.0 i) (has lanes.no.0 i) (has lanes.int.0 i) (has lanes.time.0 i) (has mask i) (has lanes.tree.0 i) (number_at lanes.nums.lanes i) w ≡ cond (nat_eq i lane) (to.Text v) (shown lanes i)
    text_put e = rw e (show_text (nat_eq i lane) (has lanes.null.0 i) (has lanes.yes.0 i) (has lanes.no.0 i) (has lanes.int.0 i) (has lanes.time.0 i) (has lanes.text.0 i) (has lanes.tree.0 i) (number_at lanes.nums.lanes i) (span_at lanes.spans.lanes i) w v at_lane q)

    pub tree_put : has mask i ≡ (nat_eq i lane || has lanes.tree.0 i) → show_as (has lanes.null.0 i) (has lanes.yes.0 i) (has lanes.no.0 i) (has lanes.int.0 i) (has lanes.time.0 i) (has lanes.text.0 i) (has mask i) (number_at lanes.nums.lanes i) w ≡ cond (nat_eq i lane) (to.Tree v) (shown lanes i)
    tree_put e = rw e (show_tree (nat_eq i lane) (has lanes.null.0 i) (has lanes.yes.0 i) (has lanes.no.0 i) (has lanes.int.0 i) (has lanes.time.0 i) (has lanes.text.0 i) (has lanes.tree.0 i) (number_at lanes.nums.lanes i) (span_at lanes.spans.lanes i) w v at_lane q)
