-- IN and COALESCE, operand by operand from the first on.
use Rattle.std.proofs.Common.{◌≡◌, Bool, true, false, cond, refl, ap, sym, ◌∙◌, List, [], ◌∷◌, ◌++◌, Option, Some, None}
use Rattle.std.specs.Prelude.{◌||◌}
use Rattle.std.specs.declared.cmp.Ordering.{Ordering}
use Rattle.value_meaning.specs.Val.{Val, missing, null, truth, int, time, text, list, struct}
use Rattle.tree_meaning.specs.declared.BinOp.TheVariants as op
use Rattle.eval_meaning.specs.Logic.{Logic, holds, fails, unknown, other, logic_of, of_logic, or_logic, or_of, is_null, is_missing, first_of, coalesce}
use Rattle.eval_meaning.specs.Comparisons.{order_of, meets, compared, compare, member_of}

-- what OR reads of what it gives
read_again : (p : Logic) → logic_of (of_logic p) ≡ p
read_again holds = refl
read_again fails = refl
read_again unknown = refl
read_again other = refl

or_logic_assoc : (p q r : Logic) → or_logic (or_logic p q) r ≡ or_logic p (or_logic q r)
or_logic_assoc holds q r = refl
or_logic_assoc fails q r = refl
or_logic_assoc unknown holds r = refl
or_logic_assoc unknown fails r = refl
or_logic_assoc unknown unknown holds = refl
or_logic_assoc unknown unknown fails = refl
or_logic_assoc unknown unknown unknown = refl
or_logic_assoc unknown unknown other = refl
or_logic_assoc unknown other holds = refl
or_logic_assoc unknown other fails = refl
or_logic_assoc unknown other unknown = refl
or_logic_assoc unknown other other = refl
or_logic_assoc other holds r = refl
or_logic_assoc other fails r = refl
or_logic_assoc other unknown holds = refl
or_logic_assoc other unknown fails = refl
or_logic_assoc other unknown unknown = refl
or_logic_assoc other unknown other = refl
or_logic_assoc other other holds = refl
or_logic_assoc other other fails = refl
or_logic_assoc other other unknown = refl
or_logic_assoc other other other = refl

or_of_assoc : (a b c : Val) → or_of (or_of a b) c ≡ or_of a (or_of b c)
or_of_assoc a b c =
    ap (λ q. of_logic (or_logic q (logic_of c))) (read_again (or_logic (logic_of a) (logic_of b)))
    ∙ ap of_logic (or_logic_assoc (logic_of a) (logic_of b) (logic_of c))
    ∙ sym (ap (λ q. of_logic (or_logic (logic_of a) q)) (read_again (or_logic (logic_of b) (logic_of c))))

or_logic_fails : (p : Logic) → or_logic p fails ≡ p
or_logic_fails holds = refl
or_logic_fails fails = refl
or_logic_fails unknown = refl
or_logic_fails other = refl

-- a truth value, NULL or MISSING is what OR makes of what it reads of it
truth_again : (b : Bool) → of_logic (logic_of (truth b)) ≡ truth b
truth_again true = refl
truth_again false = refl

compared_again : (b c : Bool) (o : Option Ordering) → of_logic (logic_of (cond b missing (cond c null (compared op.Eq o)))) ≡ cond b missing (cond c null (compared op.Eq o))
compared_again true c o = refl
compared_again false true o = refl
compared_again false false None = refl
compared_again false false (Some o) = truth_again (meets op.Eq o)

compare_again : (v w : Val) → of_logic (logic_of (compare op.Eq v w)) ≡ compare op.Eq v w
compare_again v w = compared_again (is_missing v || is_missing w) (is_null v || is_null w) (order_of v w)

-- one member
pub member_of_one : (v w : Val) → member_of v (w ∷ []) ≡ compare op.Eq v w
member_of_one v w = ap of_logic (or_logic_fails (logic_of (compare op.Eq v w))) ∙ compare_again v w

-- a member more
pub member_of_more : (v : Val) (ws : List Val) (w : Val) → member_of v (ws ++ w ∷ []) ≡ or_of (member_of v ws) (compare op.Eq v w)
member_of_more v [] w = ap of_logic (or_logic_fails (logic_of (compare op.Eq v w)))
member_of_more v (u ∷ ws) w =
    ap (or_of (compare op.Eq v u)) (member_of_more v ws w) ∙ sym (or_of_assoc (compare op.Eq v u) (member_of v ws) (compare op.Eq v w))

first_of_null : (c : Val) → first_of null c ≡ first_of null (first_of null c)
first_of_null missing = refl
first_of_null null = refl
first_of_null (truth b) = refl
first_of_null (int n) = refl
first_of_null (time t) = refl
first_of_null (text s) = refl
first_of_null (list vs) = refl
first_of_null (struct fs) = refl

first_of_assoc : (a b c : Val) → first_of (first_of a b) c ≡ first_of a (first_of b c)
first_of_assoc missing b c = refl
first_of_assoc null missing c = refl
first_of_assoc null null c = first_of_null c
first_of_assoc null (truth b) c = refl
first_of_assoc null (int n) c = refl
first_of_assoc null (time t) c = refl
first_of_assoc null (text s) c = refl
first_of_assoc null (list vs) c = refl
first_of_assoc null (struct fs) c = refl
first_of_assoc (truth a) b c = refl
first_of_assoc (int n) b c = refl
first_of_assoc (time t) b c = refl
first_of_assoc (text s) b c = refl
first_of_assoc (list vs) b c = refl
first_of_assoc (struct fs) b c = refl

first_of_missing : (v : Val) → first_of v missing ≡ v
first_of_missing missing = refl
first_of_missing null = refl
first_of_missing (truth b) = refl
first_of_missing (int n) = refl
first_of_missing (time t) = refl
first_of_missing (text s) = refl
first_of_missing (list vs) = refl
first_of_missing (struct fs) = refl

-- one operand
pub coalesce_one : (v : Val) → coalesce (v ∷ []) ≡ v
coalesce_one v = first_of_missing v

-- an operand more
pub coalesce_more : (vs : List Val) (w : Val) → coalesce (vs ++ w ∷ []) ≡ first_of (coalesce vs) w
coalesce_more [] w = first_of_missing w
coalesce_more (v ∷ vs) w = ap (first_of v) (coalesce_more vs w) ∙ sym (first_of_assoc v (coalesce vs) w)
