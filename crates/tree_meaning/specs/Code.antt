-- The code of trees, by which a proof tells them apart.
use Rattle.std.specs.Prelude.{◌≡◌, ℕ, refl, [], ◌∷◌, slice_index_or}
use Rattle.std.proofs.Common.{ap, sym, ◌∙◌, arith}
use base.Stored.{Gv, gnil, gnum, gcons, Coded, coded_ℕ, coded_list}
use Rattle.value_meaning.specs.Code.{coded_val}
use Rattle.tree_meaning.specs.declared.BinOp.{BinOp}
use Rattle.tree_meaning.specs.declared.BinOp.TheVariants as op
use Rattle.tree_meaning.specs.declared.IsWhat.{IsWhat}
use Rattle.tree_meaning.specs.declared.IsWhat.TheVariants as what
use Rattle.tree_meaning.specs.declared.How.{How}
use Rattle.tree_meaning.specs.declared.How.TheVariants as how
use Rattle.tree_meaning.specs.declared.CastTo.{CastTo}
use Rattle.tree_meaning.specs.declared.CastTo.TheVariants as to
use Rattle.tree_meaning.specs.declared.Func.{Func}
use Rattle.tree_meaning.specs.declared.Func.TheVariants as func
use Rattle.tree_meaning.specs.declared.Part.{Part}
use Rattle.tree_meaning.specs.declared.Part.TheVariants as part
use Rattle.tree_meaning.specs.declared.AggName.{AggName}
use Rattle.tree_meaning.specs.declared.AggName.TheVariants as aggs
use Rattle.tree_meaning.specs.Tree.{Step, name, at, Ex, Exs, Arms, lit, path, neg, no, bin, is, member, between, matching, choice, cast, call, trunc, extract, shift, agg_of_rows, agg, no_exs, ex, no_arms, arm}

abbrev right : Gv → Gv
right gnil = gnil
right (gnum n) = gnil
right (gcons a b) = b

abbrev left : Gv → Gv
left gnil = gnil
left (gnum n) = gnil
left (gcons a b) = a

abbrev number : Gv → ℕ
number gnil = 0
number (gnum n) = n
number (gcons a b) = 0

abbrev pub op_number : BinOp → ℕ
op_number op.Add = 0
op_number op.Sub = 1
op_number op.Mul = 2
op_number op.Div = 3
op_number op.Rem = 4
op_number op.Eq = 5
op_number op.Ne = 6
op_number op.Lt = 7
op_number op.Le = 8
op_number op.Gt = 9
op_number op.Ge = 10
op_number op.And = 11
op_number op.Or = 12

abbrev op_of : ℕ → BinOp
op_of n = slice_index_or (op.Add ∷ op.Sub ∷ op.Mul ∷ op.Div ∷ op.Rem ∷ op.Eq ∷ op.Ne ∷ op.Lt ∷ op.Le ∷ op.Gt ∷ op.Ge ∷ op.And ∷ op.Or ∷ []) n op.Add

op_back : (x : BinOp) → op_of (op_number x) ≡ x
op_back op.Add = refl
op_back op.Sub = refl
op_back op.Mul = refl
op_back op.Div = refl
op_back op.Rem = refl
op_back op.Eq = refl
op_back op.Ne = refl
op_back op.Lt = refl
op_back op.Le = refl
op_back op.Gt = refl
op_back op.Ge = refl
op_back op.And = refl
op_back op.Or = refl

pub op_inj : (x y : BinOp) → gnum (op_number x) ≡ gnum (op_number y) → x ≡ y
op_inj x y p = sym (op_back x) ∙ ap (λ g. op_of (number g)) p ∙ op_back y

abbrev pub what_number : IsWhat → ℕ
what_number what.Null = 0
what_number what.Missing = 1
what_number what.True = 2
what_number what.False = 3

abbrev what_of : ℕ → IsWhat
what_of n = slice_index_or (what.Null ∷ what.Missing ∷ what.True ∷ what.False ∷ []) n what.Null

what_back : (x : IsWhat) → what_of (what_number x) ≡ x
what_back what.Null = refl
what_back what.Missing = refl
what_back what.True = refl
what_back what.False = refl

pub what_inj : (x y : IsWhat) → gnum (what_number x) ≡ gnum (what_number y) → x ≡ y
what_inj x y p = sym (what_back x) ∙ ap (λ g. what_of (number g)) p ∙ what_back y

abbrev pub how_number : How → ℕ
how_number how.Like = 0
how_number how.ILike = 1
how_number how.Starts = 2
how_number how.Ends = 3
how_number how.Contains = 4

abbrev how_of : ℕ → How
how_of n = slice_index_or (how.Like ∷ how.ILike ∷ how.Starts ∷ how.Ends ∷ how.Contains ∷ []) n how.Like

how_back : (x : How) → how_of (how_number x) ≡ x
how_back how.Like = refl
how_back how.ILike = refl
how_back how.Starts = refl
how_back how.Ends = refl
how_back how.Contains = refl

pub how_inj : (x y : How) → gnum (how_number x) ≡ gnum (how_number y) → x ≡ y
how_inj x y p = sym (how_back x) ∙ ap (λ g. how_of (number g)) p ∙ how_back y

abbrev pub to_number : CastTo → ℕ
to_number to.Integer = 0
to_number to.Boolean = 1

abbrev to_of : ℕ → CastTo
to_of n = slice_index_or (to.Integer ∷ to.Boolean ∷ []) n to.Integer

to_back : (x : CastTo) → to_of (to_number x) ≡ x
to_back to.Integer = refl
to_back to.Boolean = refl

pub to_inj : (x y : CastTo) → gnum (to_number x) ≡ gnum (to_number y) → x ≡ y
to_inj x y p = sym (to_back x) ∙ ap (λ g. to_of (number g)) p ∙ to_back y

abbrev pub func_number : Func → ℕ
func_number func.Coalesce = 0
func_number func.NullIf = 1
func_number func.CharLength = 2
func_number func.UnixEpoch = 3
func_number func.UnixMicro = 4

abbrev func_of : ℕ → Func
func_of n = slice_index_or (func.Coalesce ∷ func.NullIf ∷ func.CharLength ∷ func.UnixEpoch ∷ func.UnixMicro ∷ []) n func.Coalesce

func_back : (x : Func) → func_of (func_number x) ≡ x
func_back func.Coalesce = refl
func_back func.NullIf = refl
func_back func.CharLength = refl
func_back func.UnixEpoch = refl
func_back func.UnixMicro = refl

pub func_inj : (x y : Func) → gnum (func_number x) ≡ gnum (func_number y) → x ≡ y
func_inj x y p = sym (func_back x) ∙ ap (λ g. func_of (number g)) p ∙ func_back y

abbrev pub part_number : Part → ℕ
part_number part.Microsecond = 0
part_number part.Second = 1
part_number part.Minute = 2
part_number part.Hour = 3
part_number part.Day = 4
part_number part.Week = 5
part_number part.Month = 6
part_number part.Quarter = 7
part_number part.Year = 8

abbrev part_of : ℕ → Part
part_of n = slice_index_or (part.Microsecond ∷ part.Second ∷ part.Minute ∷ part.Hour ∷ part.Day ∷ part.Week ∷ part.Month ∷ part.Quarter ∷ part.Year ∷ []) n part.Microsecond

part_back : (x : Part) → part_of (part_number x) ≡ x
part_back part.Microsecond = refl
part_back part.Second = refl
part_back part.Minute = refl
part_back part.Hour = refl
part_back part.Day = refl
part_back part.Week = refl
part_back part.Month = refl
part_back part.Quarter = refl
part_back part.Year = refl

pub part_inj : (x y : Part) → gnum (part_number x) ≡ gnum (part_number y) → x ≡ y
part_inj x y p = sym (part_back x) ∙ ap (λ g. part_of (number g)) p ∙ part_back y

abbrev pub aggs_number : AggName → ℕ
aggs_number aggs.CountAll = 0
aggs_number aggs.Count = 1
aggs_number aggs.Sum = 2
aggs_number aggs.Min = 3
aggs_number aggs.Max = 4
aggs_number aggs.Avg = 5
aggs_number aggs.Earliest = 6
aggs_number aggs.Latest = 7
aggs_number aggs.BoolAnd = 8
aggs_number aggs.BoolOr = 9

abbrev aggs_of : ℕ → AggName
aggs_of n = slice_index_or (aggs.CountAll ∷ aggs.Count ∷ aggs.Sum ∷ aggs.Min ∷ aggs.Max ∷ aggs.Avg ∷ aggs.Earliest ∷ aggs.Latest ∷ aggs.BoolAnd ∷ aggs.BoolOr ∷ []) n aggs.CountAll

aggs_back : (x : AggName) → aggs_of (aggs_number x) ≡ x
aggs_back aggs.CountAll = refl
aggs_back aggs.Count = refl
aggs_back aggs.Sum = refl
aggs_back aggs.Min = refl
aggs_back aggs.Max = refl
aggs_back aggs.Avg = refl
aggs_back aggs.Earliest = refl
aggs_back aggs.Latest = refl
aggs_back aggs.BoolAnd = refl
aggs_back aggs.BoolOr = refl

pub aggs_inj : (x y : AggName) → gnum (aggs_number x) ≡ gnum (aggs_number y) → x ≡ y
aggs_inj x y p = sym (aggs_back x) ∙ ap (λ g. aggs_of (number g)) p ∙ aggs_back y

abbrev pub code_step : Step → Gv
code_step (name n) = gcons (gnum 0) ((coded_list coded_ℕ).code n)
code_step (at i) = gcons (gnum 1) (gnum i)

pub step_inj : (x y : Step) → code_step x ≡ code_step y → x ≡ y
step_inj (name m) (name n) p = ap name ((coded_list coded_ℕ).inj m n (ap right p))
step_inj (at i) (at j) p = ap (λ g. at (number (right g))) p
step_inj x y p = cc

abbrev pub coded_step : Coded Step
coded_step = record { code = code_step; inj = step_inj }

abbrev mutual
  pub code_ex : Ex → Gv
  code_ex (lit v) = gcons (gnum 0) ((coded_val).code v)
  code_ex (path r ss) = gcons (gnum 1) (gcons (gnum r) ((coded_list coded_step).code ss))
  code_ex (neg e) = gcons (gnum 2) (code_ex e)
  code_ex (no e) = gcons (gnum 3) (code_ex e)
  code_ex (bin o a b) = gcons (gnum 4) (gcons (gnum (op_number o)) (gcons (code_ex a) (code_ex b)))
  code_ex (is w e) = gcons (gnum 5) (gcons (gnum (what_number w)) (code_ex e))
  code_ex (member e es) = gcons (gnum 6) (gcons (code_ex e) (code_exs es))
  code_ex (between e a b) = gcons (gnum 7) (gcons (code_ex e) (gcons (code_ex a) (code_ex b)))
  code_ex (matching h e s) = gcons (gnum 8) (gcons (gnum (how_number h)) (gcons (code_ex e) ((coded_list coded_ℕ).code s)))
  code_ex (choice r e) = gcons (gnum 9) (gcons (code_arms r) (code_ex e))
  code_ex (cast c e) = gcons (gnum 10) (gcons (gnum (to_number c)) (code_ex e))
  code_ex (call f es) = gcons (gnum 11) (gcons (gnum (func_number f)) (code_exs es))
  code_ex (trunc p e) = gcons (gnum 12) (gcons (gnum (part_number p)) (code_ex e))
  code_ex (extract p e) = gcons (gnum 13) (gcons (gnum (part_number p)) (code_ex e))
  code_ex (shift p a e) = gcons (gnum 14) (gcons (gnum (part_number p)) (gcons (code_ex a) (code_ex e)))
  code_ex (agg_of_rows n) = gcons (gnum 15) (gnum (aggs_number n))
  code_ex (agg n e) = gcons (gnum 16) (gcons (gnum (aggs_number n)) (code_ex e))

  pub code_exs : Exs → Gv
  code_exs no_exs = gnil
  code_exs (ex e es) = gcons (code_ex e) (code_exs es)

  pub code_arms : Arms → Gv
  code_arms no_arms = gnil
  code_arms (arm a b r) = gcons (gcons (code_ex a) (code_ex b)) (code_arms r)

mutual
  pub ex_inj : (x y : Ex) → code_ex x ≡ code_ex y → x ≡ y
  ex_inj (lit v) (lit w) p = ap lit ((coded_val).inj v w (ap right p))
  ex_inj (path r ss) (path q ts) p = λ i. path (ap (λ g. number (left (right g))) p i) ((coded_list coded_step).inj ss ts (ap (λ g. right (right g)) p) i)
  ex_inj (neg a) (neg b) p = ap neg (ex_inj a b (ap right p))
  ex_inj (no a) (no b) p = ap no (ex_inj a b (ap right p))
  ex_inj (bin o a b) (bin q c d) p = λ i. bin (op_inj o q (ap (λ g. left (right g)) p) i) (ex_inj a c (ap (λ g. left (right (right g))) p) i) (ex_inj b d (ap (λ g. right (right (right g))) p) i)
  ex_inj (is w a) (is v b) p = λ i. is (what_inj w v (ap (λ g. left (right g)) p) i) (ex_inj a b (ap (λ g. right (right g)) p) i)
  ex_inj (member a as') (member b bs) p = λ i. member (ex_inj a b (ap (λ g. left (right g)) p) i) (exs_inj as' bs (ap (λ g. right (right g)) p) i)
  ex_inj (between a b c) (between d e f) p = λ i. between (ex_inj a d (ap (λ g. left (right g)) p) i) (ex_inj b e (ap (λ g. left (right (right g))) p) i) (ex_inj c f (ap (λ g. right (right (right g))) p) i)
  ex_inj (matching h a s) (matching k b t) p = λ i. matching (how_inj h k (ap (λ g. left (right g)) p) i) (ex_inj a b (ap (λ g. left (right (right g))) p) i) ((coded_list coded_ℕ).inj s t (ap (λ g. right (right (right g))) p) i)
  ex_inj (choice a e) (choice b f) p = λ i. choice (arms_inj a b (ap (λ g. left (right g)) p) i) (ex_inj e f (ap (λ g. right (right g)) p) i)
  ex_inj (cast c a) (cast d b) p = λ i. cast (to_inj c d (ap (λ g. left (right g)) p) i) (ex_inj a b (ap (λ g. right (right g)) p) i)
  ex_inj (call f as') (call h bs) p = λ i. call (func_inj f h (ap (λ g. left (right g)) p) i) (exs_inj as' bs (ap (λ g. right (right g)) p) i)
  ex_inj (trunc c a) (trunc d b) p = λ i. trunc (part_inj c d (ap (λ g. left (right g)) p) i) (ex_inj a b (ap (λ g. right (right g)) p) i)
  ex_inj (extract c a) (extract d b) p = λ i. extract (part_inj c d (ap (λ g. left (right g)) p) i) (ex_inj a b (ap (λ g. right (right g)) p) i)
  ex_inj (shift c x a) (shift d y b) p = λ i. shift (part_inj c d (ap (λ g. left (right g)) p) i) (ex_inj x y (ap (λ g. left (right (right g))) p) i) (ex_inj a b (ap (λ g. right (right (right g))) p) i)
  ex_inj (agg_of_rows m) (agg_of_rows n) p = ap agg_of_rows (aggs_inj m n (ap right p))
  ex_inj (agg m a) (agg n b) p = λ i. agg (aggs_inj m n (ap (λ g. left (right g)) p) i) (ex_inj a b (ap (λ g. right (right g)) p) i)
  ex_inj x y p = absurd (omega (arith, ap (λ g. number (left g)) p))

  pub exs_inj : (x y : Exs) → code_exs x ≡ code_exs y → x ≡ y
  exs_inj no_exs no_exs p = refl
  exs_inj (ex a r) (ex c s) p = λ i. ex (ex_inj a c (ap left p) i) (exs_inj r s (ap right p) i)
  exs_inj x y p = cc

  pub arms_inj : (x y : Arms) → code_arms x ≡ code_arms y → x ≡ y
  arms_inj no_arms no_arms p = refl
  arms_inj (arm a b r) (arm c d s) p = λ i. arm (ex_inj a c (ap (λ g. left (left g)) p) i) (ex_inj b d (ap (λ g. right (left g)) p) i) (arms_inj r s (ap right p) i)
  arms_inj x y p = cc

abbrev pub coded_ex : Coded Ex
coded_ex = record { code = code_ex; inj = ex_inj }
