-- A comparison that holds has a time in the interval.
use Rattle.std.proofs.Common.{◌≡◌, ℤ, true, false, refl, sym, ◌∙◌, arith, ◌⊎◌, inl, inr, subst, ⊎_elim}
use Rattle.std.specs.Prelude.{FitsSigned}
use Rattle.std.specs.Int.{w64}
use Rattle.std.specs.Ordering.{int_cmp}
use Rattle.std.proofs.lemmas.Int.{ints, clamps}
use Rattle.value_meaning.specs.Val.{Val, missing, null, truth, int, time, text, list, struct}
use Rattle.tree_meaning.specs.declared.BinOp.{BinOp}
use Rattle.tree_meaning.specs.declared.BinOp.TheVariants as op
use Rattle.eval_meaning.specs.Logic.{Logic, holds, fails, unknown, other, logic_of, and_logic, and_of, is_true}
use Rattle.eval_meaning.specs.Comparisons.{meets, compare, between_of}
use Rattle.eval_meaning.specs.Evaluation.{binary}
use Rattle.range_meaning.specs.declared.Bounds.{Bounds}
use Rattle.range_meaning.specs.declared.Bounds.TheVariants.{All, Between}
use Rattle.range_meaning.specs.Intervals.{interval, meet, LiesIn}
use Rattle.range_meaning.specs.Binding.{mirrored}
use Rattle.range_meaning.proofs.MeetLaws.{meet_all}

-- the value is a time that lies in the bounds
pub record IsTimeIn (v : Val) (b : Bounds) : Type 0 where
  pub t : ℤ
  pub is : v ≡ time t
  pub lies : FitsSigned w64 t → LiesIn t b

-- where there are bounds
abbrev pub IsAllowed : Val → Bounds → Type 0
IsAllowed v b = (b ≡ All) ⊎ IsTimeIn v b

lies_in : (o : BinOp) (t x : ℤ) → FitsSigned w64 x → meets o (int_cmp x t) ≡ true → LiesIn x (interval o t)
lies_in o t x fits h = grind (arith, ints)

mirrors : (o : BinOp) (t x : ℤ) → meets o (int_cmp t x) ≡ true → meets (mirrored o) (int_cmp x t) ≡ true
mirrors o t x h = grind (arith, ints)

first : (o : BinOp) (v : Val) (t : ℤ) → is_true (compare o v (time t)) ≡ true → IsTimeIn v (interval o t)
first o (time x) t h = record { t = x; is = refl; lies = λ fits. lies_in o t x fits h }
first o missing t h = cc
first o null t h = cc
first o (truth b) t h = cc
first o (int n) t h = cc
first o (text s) t h = cc
first o (list vs) t h = cc
first o (struct fs) t h = cc

second : (o : BinOp) (v : Val) (t : ℤ) → is_true (compare o (time t) v) ≡ true → IsTimeIn v (interval (mirrored o) t)
second o (time x) t h = record { t = x; is = refl; lies = λ fits. lies_in (mirrored o) t x fits (mirrors o t x h) }
second o missing t h = cc
second o null t h = cc
second o (truth b) t h = cc
second o (int n) t h = cc
second o (text s) t h = cc
second o (list vs) t h = cc
second o (struct fs) t h = cc

-- the field compared with a moment, and a moment with the field
pub holds_first : (o : BinOp) (v : Val) (t : ℤ) → is_true (binary o v (time t)) ≡ true → IsAllowed v (interval o t)
holds_first op.Eq v t h = inr (first op.Eq v t h)
holds_first op.Lt v t h = inr (first op.Lt v t h)
holds_first op.Le v t h = inr (first op.Le v t h)
holds_first op.Gt v t h = inr (first op.Gt v t h)
holds_first op.Ge v t h = inr (first op.Ge v t h)
holds_first o v t h = inl refl

pub holds_second : (o : BinOp) (v : Val) (t : ℤ) → is_true (binary o (time t) v) ≡ true → IsAllowed v (interval (mirrored o) t)
holds_second op.Eq v t h = inr (second op.Eq v t h)
holds_second op.Lt v t h = inr (second op.Lt v t h)
holds_second op.Le v t h = inr (second op.Le v t h)
holds_second op.Gt v t h = inr (second op.Gt v t h)
holds_second op.Ge v t h = inr (second op.Ge v t h)
holds_second o v t h = inl refl

-- both operands of an AND that is true are
both_logic : (p q : Logic) → is_true (Rattle.eval_meaning.specs.Logic.of_logic (and_logic p q)) ≡ true → (p ≡ holds) × (q ≡ holds)
both_logic holds holds h = (refl, refl)
both_logic holds fails h = cc
both_logic holds unknown h = cc
both_logic holds other h = cc
both_logic fails q h = cc
both_logic unknown holds h = cc
both_logic unknown fails h = cc
both_logic unknown unknown h = cc
both_logic unknown other h = cc
both_logic other holds h = cc
both_logic other fails h = cc
both_logic other unknown h = cc
both_logic other other h = cc

one_logic : (v : Val) → logic_of v ≡ holds → is_true v ≡ true
one_logic (truth true) h = refl
one_logic (truth false) h = cc
one_logic missing h = cc
one_logic null h = cc
one_logic (int n) h = cc
one_logic (time t) h = cc
one_logic (text s) h = cc
one_logic (list vs) h = cc
one_logic (struct fs) h = cc

pub both_true : (v w : Val) → is_true (and_of v w) ≡ true → (is_true v ≡ true) × (is_true w ≡ true)
both_true v w h = let both = both_logic (logic_of v) (logic_of w) h in (one_logic v both.0, one_logic w both.1)

time_same : (t s : ℤ) → time t ≡ time s → t ≡ s
time_same t s e = cc

-- a time at both ends is one time
module _ (v : Val) (b c : Bounds) (p : IsTimeIn v b) (q : IsTimeIn v c) where
  same : p.t ≡ q.t
  same = time_same p.t q.t (sym p.is ∙ q.is)

  pub also : FitsSigned w64 p.t → LiesIn p.t c
  also fits = subst (λ (t : ℤ). LiesIn t c) (sym same) (q.lies (subst (λ (t : ℤ). FitsSigned w64 t) same fits))

-- the field between two moments
pub holds_between : (v : Val) (low high : ℤ) → is_true (between_of v (time low) (time high)) ≡ true → IsTimeIn v (Between low high)
holds_between v low high h =
    let both = both_true (compare op.Ge v (time low)) (compare op.Le v (time high)) h in
    from_both v low high (first op.Ge v low both.0) (first op.Le v high both.1)
  where
    from_both : (v : Val) (low high : ℤ) → IsTimeIn v (interval op.Ge low) → IsTimeIn v (interval op.Le high) → IsTimeIn v (Between low high)
    from_both v low high from to =
        record {
          t = from.t;
          is = from.is;
          lies = λ fits. ((from.lies fits).0, (also v (interval op.Ge low) (interval op.Le high) from to fits).1);
        }

lies_in_both : (b c : Bounds) (t : ℤ) → LiesIn t b → LiesIn t c → LiesIn t (meet b c)
lies_in_both All c t p q = q
lies_in_both (Between l h) All t p q = p
lies_in_both (Between l h) (Between m k) t p q = (omega (arith, ints, clamps), omega (arith, ints, clamps))

time_in_both : (v : Val) (b c : Bounds) → IsTimeIn v b → IsTimeIn v c → IsTimeIn v (meet b c)
time_in_both v b c p q =
    record { t = p.t; is = p.is; lies = λ fits. lies_in_both b c p.t (p.lies fits) (also v b c p q fits) }

-- what is allowed by both is allowed by the meet
pub allowed_by_both : (v : Val) (b c : Bounds) → IsAllowed v b → IsAllowed v c → IsAllowed v (meet b c)
allowed_by_both v b c =
    ⊎_elim
    (λ (e : b ≡ All) (q : IsAllowed v c). subst (λ (x : Bounds). IsAllowed v (meet x c)) (sym e) q)
    (λ (p : IsTimeIn v b). ⊎_elim
    (λ (e : c ≡ All). subst (λ (x : Bounds). IsAllowed v (meet b x)) (sym e) (subst (λ (x : Bounds). IsAllowed v x) (sym (meet_all b)) (inr p)))
    (λ (q : IsTimeIn v c). inr (time_in_both v b c p q)))
