-- Programs that go on by the instructions of expressions.
use Rattle.std.specs.Prelude.{◌≡◌, ℕ, ◌<◌, true, not, ◌&&◌, if◌then◌else◌, List, [], ◌∷◌, length, All, Option, map}
use Rattle.value_meaning.specs.Val.{Val}
use Rattle.tree_meaning.specs.declared.BinOp.{BinOp}
use Rattle.tree_meaning.specs.Tree.{Ex, arms}
use Rattle.eval_meaning.specs.Logic.{is_true}
use Rattle.eval_meaning.specs.Evaluation.{binary, eval, choices}
use Rattle.eval_meaning.specs.Passed.{is_kept}
use Rattle.program_meaning.specs.Instructions.{Instr}
use Rattle.program_meaning.specs.Instructions as instr
use Rattle.program_meaning.specs.Programs.{mask_count, value_count, Extends}
use Rattle.program_meaning.specs.Registers.{Lane, mask_at, value_at, after}

-- the program begins with the mask 0 of the live lanes, and the row as the value 0
abbrev pub Begins : List Instr → Type 0
Begins xs = Extends (instr.all ∷ instr.root 0 ∷ []) xs

-- so does this one, and it has the mask m
pub record IsBegun (xs : List Instr) (m : ℕ) : Type 0 where
  pub begins : Begins xs
  pub mask : m < mask_count xs

-- the program has these value registers
abbrev pub HasValues : List Instr → List ℕ → Type 0
HasValues xs rs = All (λ (r : ℕ). r < value_count xs) rs

-- what a program shows in these registers
abbrev pub values_in : Lane → List Instr → List ℕ → List Val
values_in l xs rs = map (λ r. value_at (after l xs) r) rs

-- The second program goes on from the first, and its register r shows this in each lane of mask m of the first.
pub record Shows (old new : List Instr) (shown : Lane → Val) (m r : ℕ) : Type 0 where
  pub extends : Extends old new
  pub made : r < value_count new
  pub value : (l : Lane) → mask_at (after l old) m ≡ true → value_at (after l new) r ≡ shown l

-- the value of an expression on the lane's pair
abbrev pub Emits : List Instr → List Instr → Ex → ℕ → ℕ → Type 0
Emits old new e m r = Shows old new (λ l. eval e l.pair) m r

-- a function of what the first shows in register a, in registers a and b, and in registers rs
abbrev pub Applies : List Instr → List Instr → (Val → Val) → ℕ → ℕ → ℕ → Type 0
Applies old new f m a r = Shows old new (λ l. f (value_at (after l old) a)) m r

abbrev pub AppliesTwo : List Instr → List Instr → (Val → Val → Val) → ℕ → ℕ → ℕ → ℕ → Type 0
AppliesTwo old new f m a b r = Shows old new (λ l. f (value_at (after l old) a) (value_at (after l old) b)) m r

abbrev pub AppliesAll : List Instr → List Instr → (List Val → Val) → ℕ → List ℕ → ℕ → Type 0
AppliesAll old new f m rs r = Shows old new (λ l. f (values_in l old rs)) m r

-- a function of what the first shows in register a, and in registers rs
abbrev pub AppliesAmong : List Instr → List Instr → (Val → List Val → Val) → ℕ → ℕ → List ℕ → ℕ → Type 0
AppliesAmong old new f m a rs r = Shows old new (λ l. f (value_at (after l old) a) (values_in l old rs)) m r

-- an operator of what the first shows in register a and of the value of an expression
abbrev pub Compares : List Instr → List Instr → BinOp → ℕ → Ex → ℕ → ℕ → Type 0
Compares old new op a e m r = Shows old new (λ l. binary op (value_at (after l old) a) (eval e l.pair)) m r

-- the second program shows the values of expressions, each in its register
pub record EmitsAll (old new : List Instr) (es : List Ex) (m : ℕ) (rs : List ℕ) : Type 0 where
  pub extends : Extends old new
  pub count : length rs ≡ length es
  pub made : HasValues new rs
  pub values : (l : Lane) → mask_at (after l old) m ≡ true → values_in l new rs ≡ map (λ e. eval e l.pair) es

-- The second program goes on from the first, and its mask register k has the lanes of mask m in which WHERE keeps the pair.
pub record Keeps (old new : List Instr) (filter : Option Ex) (m k : ℕ) : Type 0 where
  pub extends : Extends old new
  pub made : k < mask_count new
  pub mask : (l : Lane) → mask_at (after l new) k ≡ (mask_at (after l old) m && is_kept filter l.pair)

-- An arm of CASE: the second program's mask register pick has the lanes of mask m in which the arm's condition is true, and
-- there its register r shows the arm's value.
pub record Picks (old new : List Instr) (arm : Ex × Ex) (m pick r : ℕ) : Type 0 where
  pub extends : Extends old new
  pub pick_made : pick < mask_count new
  pub made : r < value_count new
  pub mask : (l : Lane) → mask_at (after l new) pick ≡ (mask_at (after l old) m && is_true (eval arm.0 l.pair))
  pub value : (l : Lane) → mask_at (after l new) pick ≡ true → value_at (after l new) r ≡ eval arm.1 l.pair

-- Some arms of CASE: in the lanes of mask m of the first program, the second's mask register left has those in which no
-- condition is true, and in the others its register shown shows what the arms give.
pub record Chooses (old new : List Instr) (xs : List (Ex × Ex)) (m left shown : ℕ) : Type 0 where
  pub extends : Extends old new
  pub left_made : left < mask_count new
  pub made : shown < value_count new
  pub value :
      (l : Lane) → mask_at (after l old) m ≡ true → (other : Val)
      → (if mask_at (after l new) left then other else value_at (after l new) shown) ≡ choices (arms xs) l.pair other

-- the lanes of a mask in which register a is true
pub record Holds (old new : List Instr) (m a k : ℕ) : Type 0 where
  pub extends : Extends old new
  pub made : k < mask_count new
  pub mask : (l : Lane) → mask_at (after l new) k ≡ (mask_at (after l old) m && is_true (value_at (after l old) a))

-- the lanes of a mask that aren't in another
pub record Leaves (old new : List Instr) (m less k : ℕ) : Type 0 where
  pub extends : Extends old new
  pub made : k < mask_count new
  pub mask : (l : Lane) → mask_at (after l new) k ≡ (mask_at (after l old) m && not (mask_at (after l old) less))

-- one of two registers, by a mask
abbrev pub Merges : List Instr → List Instr → ℕ → ℕ → ℕ → ℕ → ℕ → Type 0
Merges old new m pick a b r =
    Shows old new (λ l. if mask_at (after l old) pick then value_at (after l old) a else value_at (after l old) b) m r
