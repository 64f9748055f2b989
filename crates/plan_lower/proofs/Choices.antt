-- CASE, arm by arm from the first on.
use Rattle.std.proofs.Common.{◌≡◌, ℕ, ◌<◌, ◌+◌, Bool, true, false, cond, not, ◌&&◌, refl, ap, sym, ◌∙◌, List, [], ◌∷◌, ◌++◌, take, length, ◌≤◌, Some, subst}
use Rattle.std.specs.Prelude.{slice_get}
use Rattle.value_meaning.specs.Val.{Val}
use Rattle.tree_meaning.specs.Tree.{Ex, arms, choice}
use Rattle.eval_meaning.specs.Logic.{is_true, choice_of}
use Rattle.eval_meaning.specs.Pair.{Pair}
use Rattle.eval_meaning.specs.Evaluation.{eval, choices}
use Rattle.program_meaning.specs.Instructions.{Instr}
use Rattle.program_meaning.specs.Programs.{mask_count}
use Rattle.program_meaning.specs.Registers.{Lane, after, mask_at, value_at}
use Rattle.program_meaning.proofs.Persist.{extends_further, mask_stays, value_stays}
use Rattle.plan_lower.specs.Emitting.{Emits, Keeps, Picks, Chooses, Leaves, Merges}
use Rattle.plan_lower.proofs.Items.{take_more, whole}
use Rattle.plan_lower.proofs.Showing.{ap2, mask_known, value_known, shows_behind, stays_in}

-- an arm: its condition, and its value where that is true
pub arm_picks : (old mid new : List Instr) (arm : Ex × Ex) (m pick r : ℕ) → Keeps old mid (Some arm.0) m pick → Emits mid new arm.1 pick r → Picks old new arm m pick r
arm_picks old mid new arm m pick r h k =
    record {
      extends = extends_further old mid new h.extends k.extends;
      pick_made = mask_known mid new pick k.extends h.made;
      made = k.made;
      mask = λ l. mask_stays l mid new pick k.extends h.made ∙ h.mask l;
      value = λ l inside. k.value l (sym (mask_stays l mid new pick k.extends h.made) ∙ inside);
    }

first_chosen : (k : Bool) (v w other : Val) → (k ≡ true → w ≡ v) → cond (not k) other w ≡ cond k v other
first_chosen true v w other h = h refl
first_chosen false v w other h = refl

next_chosen : (a k : Bool) (v w s other : Val) → ((a && k) ≡ true → w ≡ v) → cond (a && not (a && k)) other (cond (a && k) w s) ≡ cond a (cond k v other) s
next_chosen true true v w s other h = h refl
next_chosen true false v w s other h = refl
next_chosen false k v w s other h = refl

last_chosen : (a : Bool) (v w s : Val) → (a ≡ true → w ≡ v) → cond a w s ≡ cond a v s
last_chosen true v w s h = h refl
last_chosen false v w s h = refl

-- an arm more
choices_more : (xs : List (Ex × Ex)) (x : Ex × Ex) (p : Pair) (other : Val) → choices (arms (xs ++ x ∷ [])) p other ≡ choices (arms xs) p (choice_of (eval x.0 p) (eval x.1 p) other)
choices_more [] x p other = refl
choices_more (y ∷ xs) x p other = ap (choice_of (eval y.0 p) (eval y.1 p)) (choices_more xs x p other)

module _ (old : List Instr) (m : ℕ) (known : m < mask_count old) where
  -- the first arm
  pub chooses_first : (mid new : List Instr) (x : Ex × Ex) (pick r left : ℕ) → Picks old mid x m pick r → Leaves mid new m pick left → Chooses old new (x ∷ []) m left r
  chooses_first mid new x pick r left h k =
      record {
        extends = extends_further old mid new h.extends k.extends;
        left_made = k.made;
        made = value_known mid new r k.extends h.made;
        value = value;
      }
    where
      value : (l : Lane) → mask_at (after l old) m ≡ true → (other : Val) → cond (mask_at (after l new) left) other (value_at (after l new) r) ≡ choices (arms (x ∷ [])) l.pair other
      value l inside other =
          let picked : mask_at (after l mid) pick ≡ is_true (eval x.0 l.pair) = h.mask l ∙ ap (λ b. b && is_true (eval x.0 l.pair)) inside in
          let leaves : mask_at (after l new) left ≡ not (is_true (eval x.0 l.pair)) = k.mask l ∙ ap2 (λ b c. b && not c) (stays_in old mid m known l h.extends inside) picked in
          ap2 (λ b w. cond b other w) leaves (value_stays l mid new r k.extends h.made)
          ∙ first_chosen (is_true (eval x.0 l.pair)) (eval x.1 l.pair) (value_at (after l mid) r) other (λ t. h.value l (picked ∙ t))

  -- an arm more, in the lanes that are left
  pub chooses_more : (p q q1 q2 : List Instr) (xs : List (Ex × Ex)) (x : Ex × Ex) (left shown pick r shown' left' : ℕ) → Chooses old p xs m left shown → Picks p q x left pick r → Merges q q1 m pick r shown shown' → Leaves q1 q2 left pick left'
      → Chooses old q2 (xs ++ x ∷ []) m left' shown'
  chooses_more p q q1 q2 xs x left shown pick r shown' left' h k merged leaves =
      let pq = k.extends in
      let oq = extends_further old p q h.extends pq in
      let oq1 = extends_further old q q1 oq merged.extends in
      record {
        extends = extends_further old q1 q2 oq1 leaves.extends;
        left_made = leaves.made;
        made = value_known q1 q2 shown' leaves.extends merged.made;
        value = value;
      }
    where
      value : (l : Lane) → mask_at (after l old) m ≡ true → (other : Val) → cond (mask_at (after l q2) left') other (value_at (after l q2) shown') ≡ choices (arms (xs ++ x ∷ [])) l.pair other
      value l inside other =
          let t = is_true (eval x.0 l.pair) in
          let a = mask_at (after l p) left in
          let oq = extends_further old p q h.extends k.extends in
          let pq1 = extends_further p q q1 k.extends merged.extends in
          let picked : mask_at (after l q) pick ≡ (a && t) = k.mask l in
          let picked1 : mask_at (after l q1) pick ≡ (a && t) = mask_stays l q q1 pick merged.extends k.pick_made ∙ picked in
          let left1 : mask_at (after l q1) left ≡ a = mask_stays l p q1 left pq1 h.left_made in
          let left2 : mask_at (after l q2) left' ≡ (a && not (a && t)) = leaves.mask l ∙ ap2 (λ b c. b && not c) left1 picked1 in
          let before : value_at (after l q) shown ≡ value_at (after l p) shown = value_stays l p q shown k.extends h.made in
          let now : value_at (after l q2) shown' ≡ cond (a && t) (value_at (after l q) r) (value_at (after l p) shown) =
          value_stays l q1 q2 shown' leaves.extends merged.made
          ∙ merged.value l (stays_in old q m known l oq inside)
          ∙ ap2 (λ b w. cond b (value_at (after l q) r) w) picked before in
          ap2 (λ b w. cond b other w) left2 now
          ∙ next_chosen a t (eval x.1 l.pair) (value_at (after l q) r) (value_at (after l p) shown) other (λ e. k.value l (picked ∙ e))
          ∙ h.value l inside (choice_of (eval x.0 l.pair) (eval x.1 l.pair) other)
          ∙ sym (choices_more xs x l.pair other)

  -- ELSE, in the lanes that are left
  pub chooses_last : (p q new : List Instr) (xs : List (Ex × Ex)) (e : Ex) (left shown b r : ℕ) → Chooses old p xs m left shown → Emits p q e left b → Merges q new m left b shown r → Emits old new (choice (arms xs) e) m r
  chooses_last p q new xs e left shown b r h k merged =
      let oq = extends_further old p q h.extends k.extends in
      shows_behind old q new m r _ (λ l. eval (choice (arms xs) e) l.pair) known oq
      (λ l inside.
      ap2 (λ c w. cond c (value_at (after l q) b) w) (mask_stays l p q left k.extends h.left_made) (value_stays l p q shown k.extends h.made)
      ∙ last_chosen (mask_at (after l p) left) (eval e l.pair) (value_at (after l q) b) (value_at (after l p) shown) (k.value l)
      ∙ h.value l inside (eval e l.pair))
      merged

  -- the arms up to a place
  pub first_arm : (mid new : List Instr) (xs : List (Ex × Ex)) (x : Ex × Ex) (pick r left : ℕ) → slice_get xs 0 ≡ Some x → Picks old mid x m pick r → Leaves mid new m pick left → Chooses old new (take 1 xs) m left r
  first_arm mid new xs x pick r left at h k = subst (λ l. Chooses old new l m left r) (sym (take_more xs 0 x at)) (chooses_first mid new x pick r left h k)

  pub next_arm : (p q q1 q2 : List Instr) (xs : List (Ex × Ex)) (at : ℕ) (x : Ex × Ex) (left shown pick r shown' left' : ℕ) → slice_get xs at ≡ Some x → Chooses old p (take at xs) m left shown → Picks p q x left pick r → Merges q q1 m pick r shown shown'
      → Leaves q1 q2 left pick left' → Chooses old q2 (take (at + 1) xs) m left' shown'
  next_arm p q q1 q2 xs at x left shown pick r shown' left' is h k merged leaves =
      subst (λ l. Chooses old q2 l m left' shown') (sym (take_more xs at x is)) (chooses_more p q q1 q2 (take at xs) x left shown pick r shown' left' h k merged leaves)

  pub last_arm : (p q new : List Instr) (xs : List (Ex × Ex)) (at : ℕ) (e : Ex) (left shown b r : ℕ) → length xs ≤ at → Chooses old p (take at xs) m left shown → Emits p q e left b → Merges q new m left b shown r → Emits old new (choice (arms xs) e) m r
  last_arm p q new xs at e left shown b r done h k merged =
      subst (λ l. Emits old new (choice (arms l) e) m r) (whole xs at done) (chooses_last p q new (take at xs) e left shown b r h k merged)
