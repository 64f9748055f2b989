-- What a program shows when it goes on by an instruction, or by more.
use Rattle.std.proofs.Common.{◌≡◌, ℕ, ◌+◌, ◌<◌, refl, ap, ◌∙◌, arith, Bool, true, false, cond, not, ◌&&◌, List, [], ◌∷◌, ◌++◌, Some, None, Result, Ok, Err, IfOk}
use Rattle.std.proofs.lemmas.List.Sums.{sum_by-append}
use Rattle.value_meaning.specs.Val.{Val}
use Rattle.tree_meaning.specs.Tree.{Ex}
use Rattle.eval_meaning.specs.Logic.{is_true}
use Rattle.eval_meaning.specs.Evaluation.{eval}
use Rattle.program_meaning.specs.Instructions.{Instr, makes_mask}
use Rattle.program_meaning.specs.Instructions as instr
use Rattle.program_meaning.specs.Programs.{makes_value, mask_count, value_count, number_after, Extends}
use Rattle.program_meaning.specs.Registers.{Lane, after, mask_at, value_at, within, in_mask, made_by}
use Rattle.program_meaning.proofs.Programs.{mask_count-push, value_count-push}
use Rattle.program_meaning.proofs.Persist.{extends_itself, extends_further, extends_by_one, mask_stays, value_stays, mask_made, value_made}
use Rattle.std.proofs.Math.ListN.{get_or}
use Rattle.plan_lower.specs.Emitting.{IsBegun, HasValues, values_in, Shows, Emits, Keeps, Holds, Leaves}
use Rattle.plan_lower.proofs.Items.{all_first, all_rest}

pub ap2 : {A B C : Type 0} (f : A → B → C) {a b : A} {c d : B} → a ≡ b → c ≡ d → f a c ≡ f b d
ap2 f {b = b} {c = c} p q = ap (λ x. f x c) p ∙ ap (λ y. f b y) q

pub if_ok : {T E : Type 0} {P Q : T → Type 0} (x : Result T E) → ((y : T) → P y → Q y) → IfOk x P → IfOk x Q
if_ok (Ok y) f p = f y p
if_ok (Err e) f p = tt

pub if_ok_both : {T E : Type 0} {P Q R : T → Type 0} (x : Result T E) → ((y : T) → P y → Q y → R y) → IfOk x P → IfOk x Q → IfOk x R
if_ok_both (Ok y) f p q = f y p q
if_ok_both (Err e) f p q = tt

-- the registers that a program has, it has when it goes on
pub mask_known : (old new : List Instr) (m : ℕ) → Extends old new → m < mask_count old → m < mask_count new
mask_known old new m ext h =
    let e : mask_count new ≡ mask_count old + mask_count ext.code = ap mask_count ext.is ∙ sum_by-append (λ x. cond (makes_mask x) 1 0) old ext.code in
    omega (arith, e, h)

pub value_known : (old new : List Instr) (r : ℕ) → Extends old new → r < value_count old → r < value_count new
value_known old new r ext h =
    let e : value_count new ≡ value_count old + value_count ext.code = ap value_count ext.is ∙ sum_by-append (λ x. cond (makes_value x) 1 0) old ext.code in
    omega (arith, e, h)

pub values_known : (old new : List Instr) (rs : List ℕ) → Extends old new → HasValues old rs → HasValues new rs
values_known old new rs ext h k d p = value_known old new (get_or rs k d) ext (h k d p)

-- what these show stays
pub values_stay : (l : Lane) (old new : List Instr) (rs : List ℕ) → Extends old new → HasValues old rs → values_in l new rs ≡ values_in l old rs
values_stay l old new [] ext h = refl
values_stay l old new (r ∷ rs) ext h =
    ap2 (λ (v : Val) (vs : List Val). v ∷ vs) (value_stays l old new r ext (all_first (λ (r : ℕ). r < value_count old) r rs h)) (values_stay l old new rs ext (all_rest (λ (r : ℕ). r < value_count old) r rs h))

-- what is begun stays so
pub stays_begun : (old new : List Instr) (m : ℕ) → IsBegun old m → Extends old new → IsBegun new m
stays_begun old new m h ext =
    record {
      begins = extends_further (instr.all ∷ instr.root 0 ∷ []) old new h.begins ext;
      mask = mask_known old new m ext h.mask;
    }

-- so it is under any mask that the longer program has
pub begun_under : (old new : List Instr) (m k : ℕ) → IsBegun old m → Extends old new → k < mask_count new → IsBegun new k
begun_under old new m k h ext known =
    record {
      begins = extends_further (instr.all ∷ instr.root 0 ∷ []) old new h.begins ext;
      mask = known;
    }

-- the program is longer by one instruction, and the register is the one that it makes
abbrev pub Grows : {E : Type 0} → Result ℕ E → List Instr → List Instr → Instr → Type 0
Grows result old new x = IfOk result (λ r. new ≡ old ++ x ∷ [])

abbrev pub IsNumbered : {E : Type 0} → Result ℕ E → List Instr → Instr → Type 0
IsNumbered result old x = IfOk result (λ r. r ≡ number_after old x)

-- what an instruction makes under mask m behind a program
abbrev pub MakesUnder : List Instr → Instr → ℕ → (Lane → Val) → Type 0
MakesUnder old x m shown = (l : Lane) → made_by l (after l old) x ≡ in_mask (after l old) m (shown l)

pub shows_last : (old new : List Instr) (x : Instr) (m : ℕ) (shown : Lane → Val) (r : ℕ) → makes_mask x ≡ false → MakesUnder old x m shown
    → new ≡ old ++ x ∷ [] → r ≡ number_after old x → Shows old new shown m r
shows_last old new x m shown r kind makes p n =
    let number : r ≡ value_count old = n ∙ ap (λ b. cond b (mask_count old) (value_count old)) kind in
    let more : value_count new ≡ value_count old + 1 = ap value_count p ∙ value_count-push old x ∙ ap (λ b. value_count old + cond (not b) 1 0) kind in
    record {
      extends = extends_by_one old new x p;
      made = omega (arith, number, more);
      value = λ l h.
          ap (value_at (after l new)) number
          ∙ value_made l old new x _ p (makes l)
          ∙ ap (λ b. within b (shown l)) h;
    }

module _ {E : Type 0} (result : Result ℕ E) where
  -- an instruction of a value
  pub put_shows : (old new : List Instr) (x : Instr) (m : ℕ) (shown : Lane → Val) → makes_mask x ≡ false → MakesUnder old x m shown
      → Grows result old new x → IsNumbered result old x → IfOk result (λ r. Shows old new shown m r)
  put_shows old new x m shown kind makes = if_ok_both result (λ r p n. shows_last old new x m shown r kind makes p n)

-- a lane of a mask stays in it
pub stays_in : (old mid : List Instr) (m : ℕ) → m < mask_count old → (l : Lane) → Extends old mid → mask_at (after l old) m ≡ true → mask_at (after l mid) m ≡ true
stays_in old mid m known l ext h = mask_stays l old mid m ext known ∙ h

-- What is shown behind a program that goes on from another is shown behind the other, if it is the same in the lanes of the
-- mask.
pub shows_behind : (old mid new : List Instr) (m r : ℕ) (f g : Lane → Val) → m < mask_count old → Extends old mid
    → ((l : Lane) → mask_at (after l old) m ≡ true → f l ≡ g l) → Shows mid new f m r → Shows old new g m r
shows_behind old mid new m r f g known ext same h =
    record {
      extends = extends_further old mid new ext h.extends;
      made = h.made;
      value = λ l inside. h.value l (stays_in old mid m known l ext inside) ∙ same l inside;
    }

-- the same in each lane of the mask
pub shows_same : (old new : List Instr) (m r : ℕ) (f g : Lane → Val) → ((l : Lane) → mask_at (after l old) m ≡ true → f l ≡ g l) → Shows old new f m r → Shows old new g m r
shows_same old new m r f g same h = record { extends = h.extends; made = h.made; value = λ l inside. h.value l inside ∙ same l inside }

-- a register that the program has already
pub shows_here : (old : List Instr) (m r : ℕ) (f : Lane → Val) → r < value_count old → ((l : Lane) → mask_at (after l old) m ≡ true → value_at (after l old) r ≡ f l) → Shows old old f m r
shows_here old m r f known is = record { extends = extends_itself old; made = known; value = is }

holds_within : (b : Bool) (v w : Val) → (b ≡ true → v ≡ w) → (b && is_true v) ≡ (b && is_true w)
holds_within true v w h = ap is_true (h refl)
holds_within false v w h = refl

holds_last : (old new : List Instr) (m a k : ℕ) → new ≡ old ++ instr.holding m a ∷ [] → k ≡ mask_count old → Holds old new m a k
holds_last old new m a k p n =
    let more : mask_count new ≡ mask_count old + 1 = ap mask_count p ∙ mask_count-push old (instr.holding m a) in
    record {
      extends = extends_by_one old new (instr.holding m a) p;
      made = omega (arith, n, more);
      mask = λ l. ap (mask_at (after l new)) n ∙ mask_made l old new (instr.holding m a) _ p refl;
    }

-- a condition: the mask of the lanes in which it is true
pub keeps_holding : (old mid new : List Instr) (e : Ex) (m a k : ℕ) → m < mask_count old → Emits old mid e m a → Holds mid new m a k → Keeps old new (Some e) m k
keeps_holding old mid new e m a k known h j =
    record {
      extends = extends_further old mid new h.extends j.extends;
      made = j.made;
      mask = λ l.
          j.mask l
          ∙ ap (λ b. b && is_true (value_at (after l mid) a)) (mask_stays l old mid m h.extends known)
          ∙ holds_within (mask_at (after l old) m) (value_at (after l mid) a) (eval e l.pair) (h.value l);
    }

and_true : (b : Bool) → b ≡ (b && true)
and_true true = refl
and_true false = refl

pub keeps_all : (old : List Instr) (m : ℕ) → m < mask_count old → Keeps old old None m m
keeps_all old m known = record { extends = extends_itself old; made = known; mask = λ l. and_true (mask_at (after l old) m) }

leaves_last : (old new : List Instr) (m less k : ℕ) → new ≡ old ++ instr.minus m less ∷ [] → k ≡ mask_count old → Leaves old new m less k
leaves_last old new m less k p n =
    let more : mask_count new ≡ mask_count old + 1 = ap mask_count p ∙ mask_count-push old (instr.minus m less) in
    record {
      extends = extends_by_one old new (instr.minus m less) p;
      made = omega (arith, n, more);
      mask = λ l. ap (mask_at (after l new)) n ∙ mask_made l old new (instr.minus m less) _ p refl;
    }

module _ {E : Type 0} (result : Result ℕ E) where
  pub put_holds : (old new : List Instr) (m a : ℕ) → Grows result old new (instr.holding m a) → IsNumbered result old (instr.holding m a) → IfOk result (λ k. Holds old new m a k)
  put_holds old new m a = if_ok_both result (λ k p n. holds_last old new m a k p n)

  pub put_leaves : (old new : List Instr) (m less : ℕ) → Grows result old new (instr.minus m less) → IsNumbered result old (instr.minus m less) → IfOk result (λ k. Leaves old new m less k)
  put_leaves old new m less = if_ok_both result (λ k p n. leaves_last old new m less k p n)
