-- An expression is known by its head and the expressions that stand in it.
use Rattle.std.proofs.Common.{◌≡◌, ℕ, List, [], ◌∷◌, ◌++◌, refl, sym, ◌∙◌, ap}
use Rattle.std.specs.Prelude.{slice_get, unwrap_or}
use Rattle.value_meaning.specs.Val.{missing}
use Rattle.tree_meaning.specs.Tree.{Ex, Exs, Arms, lit, path, neg, no, bin, is, member, between, matching, choice, cast, call, trunc, extract, shift, agg_of_rows, agg, no_exs, ex, no_arms, arm, items, exs}
use Rattle.check_meaning.specs.Operands.{operands, arm_operands}
use Rattle.tree_meaning.specs.declared.BinOp.{BinOp}
use Rattle.tree_meaning.specs.declared.BinOp.TheVariants as op
use Rattle.tree_meaning.specs.declared.IsWhat.{IsWhat}
use Rattle.tree_meaning.specs.declared.IsWhat.TheVariants as what
use Rattle.tree_meaning.specs.declared.How.{How}
use Rattle.tree_meaning.specs.declared.How.TheVariants as how
use Rattle.tree_meaning.specs.declared.CastTo.{CastTo}
use Rattle.tree_meaning.specs.declared.CastTo.TheVariants as to
use Rattle.tree_meaning.specs.declared.Func.{Func}
use Rattle.tree_meaning.specs.declared.Func.TheVariants as func
use Rattle.tree_meaning.specs.declared.Part.{Part}
use Rattle.tree_meaning.specs.declared.Part.TheVariants as part
use Rattle.tree_meaning.specs.declared.AggName.{AggName}
use Rattle.tree_meaning.specs.declared.AggName.TheVariants as aggs
use Rattle.query_walk.specs.declared.head.Detail.{Detail}
use Rattle.query_walk.specs.declared.head.Detail.TheVariants as detail
use Rattle.query_walk.specs.Heads.{SameHead, kind_of, detail_of, steps_of, text_of, value_of}

abbrev blank : Ex
blank = lit missing

-- the operand at a place
abbrev at : ℕ → List Ex → Ex
at k es = unwrap_or (slice_get es k) blank

exs_items : (es : Exs) → exs (items es) ≡ es
exs_items no_exs = refl
exs_items (ex e es) = ap (ex e) (exs_items es)

abbrev tail : List Ex → List Ex
tail [] = []
tail (e ∷ es) = es

same_exs : (xs ys : Exs) → items xs ≡ items ys → xs ≡ ys
same_exs xs ys h = sym (exs_items xs) ∙ ap exs h ∙ exs_items ys

-- the arms and the ELSE value of their expressions
abbrev case_of : List Ex → Arms × Ex
case_of [] = (no_arms, blank)
case_of (e ∷ []) = (no_arms, e)
case_of (a ∷ b ∷ es) = (arm a b (case_of es).0, (case_of es).1)

case_back : (r : Arms) (e : Ex) → ◌≡◌ {A = Arms × Ex} (case_of (arm_operands r ++ e ∷ [])) (r, e)
case_back no_arms e = refl
case_back (arm a b r) e = ap (λ p. (arm a b p.0, p.1)) (case_back r e)

case_is : (r s : Arms) (e f : Ex) → arm_operands r ++ e ∷ [] ≡ arm_operands s ++ f ∷ [] → ◌≡◌ {A = Arms × Ex} (r, e) (s, f)
case_is r s e f h = sym (case_back r e) ∙ ap case_of h ∙ case_back s f

-- what equal details name
abbrev row_of : Detail → ℕ
row_of (detail.Row r) = r
row_of d = 0

abbrev op_of : Detail → BinOp
op_of (detail.Op o) = o
op_of d = op.Add

abbrev what_of : Detail → IsWhat
what_of (detail.What w) = w
what_of d = what.Null

abbrev how_of : Detail → How
how_of (detail.How h) = h
how_of d = how.Like

abbrev to_of : Detail → CastTo
to_of (detail.To c) = c
to_of d = to.Integer

abbrev func_of : Detail → Func
func_of (detail.Func f) = f
func_of d = func.Coalesce

abbrev part_of : Detail → Part
part_of (detail.Part p) = p
part_of d = part.Day

abbrev aggs_of : Detail → AggName
aggs_of (detail.Agg n) = n
aggs_of d = aggs.Count

rebuilt : (a b : Ex) → kind_of a ≡ kind_of b → detail_of a ≡ detail_of b → steps_of a ≡ steps_of b → text_of a ≡ text_of b → value_of a ≡ value_of b → operands a ≡ operands b → a ≡ b
rebuilt (lit v) (lit w) k d s t u h = ap (λ o. lit (unwrap_or o v)) u
rebuilt (path r ss) (path q ts) k d s t u h = λ i. path (row_of (d i)) (unwrap_or (s i) ss)
rebuilt (neg a) (neg b) k d s t u h = ap (λ l. neg (at 0 l)) h
rebuilt (no a) (no b) k d s t u h = ap (λ l. no (at 0 l)) h
rebuilt (bin o a b) (bin q e f) k d s t u h = λ i. bin (op_of (d i)) (at 0 (h i)) (at 1 (h i))
rebuilt (is w a) (is v b) k d s t u h = λ i. is (what_of (d i)) (at 0 (h i))
rebuilt (member a xs) (member b ys) k d s t u h = λ i. member (at 0 (h i)) (same_exs xs ys (ap tail h) i)
rebuilt (between a b c) (between e f g) k d s t u h = λ i. between (at 0 (h i)) (at 1 (h i)) (at 2 (h i))
rebuilt (matching m a p) (matching n b q) k d s t u h = λ i. matching (how_of (d i)) (at 0 (h i)) (t i)
rebuilt (choice r e) (choice q f) k d s t u h = ap (λ p. choice p.0 p.1) (case_is r q e f h)
rebuilt (cast m a) (cast n b) k d s t u h = λ i. cast (to_of (d i)) (at 0 (h i))
rebuilt (call m xs) (call n ys) k d s t u h = λ i. call (func_of (d i)) (same_exs xs ys h i)
rebuilt (trunc m a) (trunc n b) k d s t u h = λ i. trunc (part_of (d i)) (at 0 (h i))
rebuilt (extract m a) (extract n b) k d s t u h = λ i. extract (part_of (d i)) (at 0 (h i))
rebuilt (shift m a e) (shift n b f) k d s t u h = λ i. shift (part_of (d i)) (at 0 (h i)) (at 1 (h i))
rebuilt (agg_of_rows m) (agg_of_rows n) k d s t u h = λ i. agg_of_rows (aggs_of (d i))
rebuilt (agg m a) (agg n b) k d s t u h = λ i. agg (aggs_of (d i)) (at 0 (h i))
rebuilt a b k d s t u h = cc

pub same_of_head : (a b : Ex) → SameHead a b → operands a ≡ operands b → a ≡ b
same_of_head a b h e = rebuilt a b h.kinds h.details h.steps h.texts h.values e

pub head_of_same : (a b : Ex) → a ≡ b → SameHead a b
head_of_same a b e = record { kinds = ap kind_of e; details = ap detail_of e; steps = ap steps_of e; texts = ap text_of e; values = ap value_of e }

pub same_heads : (a b c d : Ex) → a ≡ c → b ≡ d → SameHead a b → SameHead c d
same_heads a b c d e f h = rw (← e, ← f) h
