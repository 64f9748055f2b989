-- Operators, IN, BETWEEN and functions: what stands behind their operands shows their value.
use Rattle.std.proofs.Common.{◌≡◌, ℕ, ◌+◌, ◌<◌, ap, sym, subst, ◌∙◌, List, [], ◌∷◌, ◌++◌, take, Some, cond, ◌&&◌}
use Rattle.std.proofs.lemmas.List.{map-append}
use Rattle.std.specs.Prelude.{slice_get}
use Rattle.value_meaning.specs.Val.{null}
use Rattle.tree_meaning.specs.declared.BinOp.{BinOp}
use Rattle.tree_meaning.specs.declared.BinOp.TheVariants as op
use Rattle.tree_meaning.specs.declared.Func.{Func}
use Rattle.tree_meaning.specs.Tree.{Ex, member, between, call, exs}
use Rattle.eval_meaning.specs.Logic.{coalesce, first_of, or_of, and_of, is_true}
use Rattle.eval_meaning.specs.Comparisons.{member_of, compare, null_if}
use Rattle.eval_meaning.specs.Evaluation.{binary, call_of, eval}
use Rattle.program_meaning.specs.Instructions.{Instr}
use Rattle.program_meaning.specs.Programs.{mask_count, value_count}
use Rattle.program_meaning.specs.Registers.{after, mask_at, value_at}
use Rattle.program_meaning.proofs.Persist.{extends_further, mask_stays, value_stays}
use Rattle.plan_lower.specs.Emitting.{HasValues, values_in, Shows, Emits, Applies, AppliesTwo, AppliesAll, AppliesAmong, Compares, EmitsAll, Holds, Merges}
use Rattle.plan_lower.specs.Operands.{operand_of, of_operand, operands_of, of_operands}
use Rattle.plan_lower.proofs.Items.{take_more, all_at}
use Rattle.plan_lower.proofs.Operands.{value_of_one, value_of_two, values_of}
use Rattle.plan_lower.proofs.Members.{member_of_one, member_of_more, coalesce_one, coalesce_more}
use Rattle.plan_lower.proofs.Showing.{ap2, stays_in, shows_behind, shows_same, shows_here}

module _ (old : List Instr) (m : ℕ) (known : m < mask_count old) where
  -- a form of one operand
  pub one_shown : (mid new : List Instr) (e d : Ex) (a r : ℕ) → operand_of e ≡ Some d → Emits old mid d m a → Applies mid new (of_operand e) m a r → Emits old new e m r
  one_shown mid new e d a r is h k =
      shows_behind old mid new m r (λ l. of_operand e (value_at (after l mid) a)) (λ l. eval e l.pair) known h.extends
      (λ l inside. ap (of_operand e) (h.value l inside) ∙ value_of_one e d l.pair is)
      k

  -- a form of two
  pub two_shown : (mid end new : List Instr) (e c d : Ex) (a b r : ℕ) → operands_of e ≡ Some (c, d) → Emits old mid c m a → Emits mid end d m b → AppliesTwo end new (of_operands e) m a b r → Emits old new e m r
  two_shown mid end new e c d a b r is h k j =
      shows_behind old end new m r (λ l. of_operands e (value_at (after l end) a) (value_at (after l end) b)) (λ l. eval e l.pair) known (extends_further old mid end h.extends k.extends)
      (λ l inside.
      ap2 (of_operands e) (value_stays l mid end a k.extends h.made ∙ h.value l inside) (k.value l (stays_in old mid m known l h.extends inside))
      ∙ value_of_two e c d l.pair is)
      j

  -- an operator of a register and an expression
  pub compared_shown : (mid new : List Instr) (o : BinOp) (a b r : ℕ) (e : Ex) → a < value_count old → Emits old mid e m b → AppliesTwo mid new (binary o) m a b r → Compares old new o a e m r
  compared_shown mid new o a b r e made h k =
      shows_behind old mid new m r (λ l. binary o (value_at (after l mid) a) (value_at (after l mid) b)) (λ l. binary o (value_at (after l old) a) (eval e l.pair)) known h.extends
      (λ l inside. ap2 (binary o) (value_stays l old mid a h.extends made) (h.value l inside))
      k

  -- BETWEEN
  pub between_shown : (p q s new : List Instr) (e low high : Ex) (a x y r : ℕ) → Emits old p e m a → Compares p q op.Ge a low m x → Compares q s op.Le a high m y → AppliesTwo s new (binary op.And) m x y r
      → Emits old new (between e low high) m r
  between_shown p q s new e low high a x y r h above below j =
      let to_q = extends_further old p q h.extends above.extends in
      let to_s = extends_further old q s to_q below.extends in
      shows_behind old s new m r (λ l. and_of (value_at (after l s) x) (value_at (after l s) y)) (λ l. eval (between e low high) l.pair) known to_s
      (λ l inside.
      ap2 and_of
      (value_stays l q s x below.extends above.made
      ∙ above.value l (stays_in old p m known l h.extends inside)
      ∙ ap (λ v. compare op.Ge v (eval low l.pair)) (h.value l inside))
      (below.value l (stays_in old q m known l to_q inside)
      ∙ ap (λ v. compare op.Le v (eval high l.pair)) (value_stays l p q a above.extends h.made ∙ h.value l inside)))
      j

  -- IN
  pub member_shown : (p q new : List Instr) (e : Ex) (es : List Ex) (a r : ℕ) (rs : List ℕ) → Emits old p e m a → EmitsAll p q es m rs → AppliesAmong q new member_of m a rs r → Emits old new (member e (exs es)) m r
  member_shown p q new e es a r rs h k j =
      shows_behind old q new m r (λ l. member_of (value_at (after l q) a) (values_in l q rs)) (λ l. eval (member e (exs es)) l.pair) known (extends_further old p q h.extends k.extends)
      (λ l inside.
      ap2 member_of (value_stays l p q a k.extends h.made ∙ h.value l inside)
      (k.values l (stays_in old p m known l h.extends inside) ∙ values_of es l.pair))
      j

  -- a function
  pub call_shown : (mid new : List Instr) (f : Func) (es : List Ex) (rs : List ℕ) (r : ℕ) → EmitsAll old mid es m rs → AppliesAll mid new (call_of f) m rs r → Emits old new (call f (exs es)) m r
  call_shown mid new f es rs r h k =
      shows_behind old mid new m r (λ l. call_of f (values_in l mid rs)) (λ l. eval (call f (exs es)) l.pair) known h.extends
      (λ l inside. ap (call_of f) (h.values l inside ∙ values_of es l.pair))
      k

  -- the first member
  pub first_member : (new : List Instr) (members : List ℕ) (a b r : ℕ) → slice_get members 0 ≡ Some b → AppliesTwo old new (binary op.Eq) m a b r → AppliesAmong old new member_of m a (take 1 members) r
  first_member new members a b r at h =
      subst (λ rs. AppliesAmong old new member_of m a rs r) (sym (take_more members 0 b at))
      (shows_same old new m r (λ l. compare op.Eq (value_at (after l old) a) (value_at (after l old) b)) (λ l. member_of (value_at (after l old) a) (values_in l old (b ∷ [])))
      (λ l inside. sym (member_of_one (value_at (after l old) a) (value_at (after l old) b)))
      h)

  -- a member more: its equality, and OR
  pub next_member : (p q new : List Instr) (members : List ℕ) (k a b s t r : ℕ) → slice_get members k ≡ Some b → a < value_count old → HasValues old members → AppliesAmong old p member_of m a (take k members) s
      → AppliesTwo p q (binary op.Eq) m a b t → AppliesTwo q new (binary op.Or) m s t r → AppliesAmong old new member_of m a (take (k + 1) members) r
  next_member p q new members k a b s t r at a_made made h eq j =
      let rs = take k members in
      let b_made : b < value_count old = all_at (λ (r : ℕ). r < value_count old) members k b at made in
      let to_q = extends_further old p q h.extends eq.extends in
      subst (λ rs. AppliesAmong old new member_of m a rs r) (sym (take_more members k b at))
      (shows_behind old q new m r (λ l. or_of (value_at (after l q) s) (value_at (after l q) t)) (λ l. member_of (value_at (after l old) a) (values_in l old (rs ++ b ∷ []))) known to_q
      (λ l inside.
      ap2 or_of
      (value_stays l p q s eq.extends h.made ∙ h.value l inside)
      (eq.value l (stays_in old p m known l h.extends inside)
      ∙ ap2 (compare op.Eq) (value_stays l old p a h.extends a_made) (value_stays l old p b h.extends b_made))
      ∙ sym (member_of_more (value_at (after l old) a) (values_in l old rs) (value_at (after l old) b))
      ∙ ap (member_of (value_at (after l old) a)) (sym (map-append (λ r. value_at (after l old) r) rs (b ∷ []))))
      j)

  -- the first operand of COALESCE
  pub first_operand : (args : List ℕ) (r : ℕ) → slice_get args 0 ≡ Some r → HasValues old args → AppliesAll old old coalesce m (take 1 args) r
  first_operand args r at made =
      subst (λ rs. AppliesAll old old coalesce m rs r) (sym (take_more args 0 r at))
      (shows_here old m r (λ l. coalesce (values_in l old (r ∷ []))) (all_at (λ (r : ℕ). r < value_count old) args 0 r at made) (λ l inside. sym (coalesce_one (value_at (after l old) r))))

  -- an operand more
  pub next_operand : (p new : List Instr) (args : List ℕ) (k b s r : ℕ) → slice_get args k ≡ Some b → HasValues old args → AppliesAll old p coalesce m (take k args) s → AppliesTwo p new first_of m s b r
      → AppliesAll old new coalesce m (take (k + 1) args) r
  next_operand p new args k b s r at made h j =
      let rs = take k args in
      subst (λ rs. AppliesAll old new coalesce m rs r) (sym (take_more args k b at))
      (shows_behind old p new m r (λ l. first_of (value_at (after l p) s) (value_at (after l p) b)) (λ l. coalesce (values_in l old (rs ++ b ∷ []))) known h.extends
      (λ l inside.
      ap2 first_of (h.value l inside) (value_stays l old p b h.extends (all_at (λ (r : ℕ). r < value_count old) args k b at made))
      ∙ sym (coalesce_more (values_in l old rs) (value_at (after l old) b))
      ∙ ap coalesce (sym (map-append (λ r. value_at (after l old) r) rs (b ∷ []))))
      j)

  -- NULLIF
  pub null_if_shown : (p q s new : List Instr) (a b of pick n r : ℕ) → a < value_count old → AppliesTwo old p (binary op.Eq) m a b of → Holds p q m of pick → Shows q s (λ l. null) m n → Merges s new m pick n a r → AppliesTwo old new null_if m a b r
  null_if_shown p q s new a b of pick n r made eq true_in nothing j =
      let to_q = extends_further old p q eq.extends true_in.extends in
      let to_s = extends_further old q s to_q nothing.extends in
      shows_behind old s new m r (λ l. cond (mask_at (after l s) pick) (value_at (after l s) n) (value_at (after l s) a)) (λ l. null_if (value_at (after l old) a) (value_at (after l old) b)) known to_s
      (λ l inside.
      let is_equal = is_true (compare op.Eq (value_at (after l old) a) (value_at (after l old) b)) in
      let picked : mask_at (after l s) pick ≡ is_equal =
      mask_stays l q s pick nothing.extends true_in.made
      ∙ true_in.mask l
      ∙ ap2 (λ c v. c && is_true v) (stays_in old p m known l eq.extends inside) (eq.value l inside) in
      ap2 (λ c v. cond c v (value_at (after l s) a)) picked (nothing.value l (stays_in old q m known l to_q inside))
      ∙ ap (cond is_equal null) (value_stays l old s a to_s made))
      j
