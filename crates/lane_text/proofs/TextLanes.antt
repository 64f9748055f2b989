-- What an operator of texts gives at one lane.
use Rattle.std.proofs.Common.{◌≡◌, ℕ, ℤ, List, refl, ap, sym, ◌∙◌, subst, Bool, true, false, cond, not, ◌&&◌}
use Rattle.std.specs.Str.{IsUtf8}
use Rattle.value_meaning.specs.Val.{Val, missing, null, truth, int, list, struct}
use Rattle.block_meaning.specs.Tables.{Table}
use Rattle.block_meaning.specs.CellReading.{cell_value}
use Rattle.eval_meaning.specs.Operands.{of_one, on_text}
use Rattle.lane_base.specs.declared.lanes.Lanes.{Lanes}
use Rattle.lane_base.specs.Bits.{has, at_most_one, none_of}
use Rattle.lane_base.specs.Shown.{show_as, value_under, is_nested, IsLegal}
use Rattle.lane_base.specs.Shown as to
use Rattle.lane_base.specs.Registers.{shown, value_at, under, truth_as, one_as, number_at, span_at}
use Rattle.lane_base.proofs.Every.{every7-at}
use Rattle.lane_base.proofs.TruthTables.{at_most_one3, when, used}

-- a lane that is a text is of no other kind
only_text : (n y f i t x r : Bool) → at_most_one n y f i t x r ≡ true → when x (none_of n y f i t r) ≡ true
only_text n y f i t x r = used _ _ (every7-at (λ n y f i t x r. when (at_most_one n y f i t x r) (when x (none_of n y f i t r))) refl n y f i t x r)

shows_text : (n y f i t r : Bool) (z : ℤ) (s : List ℕ) → none_of n y f i t r ≡ true → show_as n y f i t true r z s ≡ to.Text s
shows_text true y f i t r z s h = absurd (cc)
shows_text false true f i t r z s h = absurd (cc)
shows_text false false true i t r z s h = absurd (cc)
shows_text false false false true t r z s h = absurd (cc)
shows_text false false false false true r z s h = absurd (cc)
shows_text false false false false false r z s h = refl

not_null : (n y f i t r : Bool) → none_of n y f i t r ≡ true → n ≡ false
not_null true y f i t r h = absurd (cc)
not_null false y f i t r h = refl

-- a list or a struct is no text
nested_text : (rule : List ℕ → Val) (v : Val) → is_nested v ≡ true → of_one (on_text rule) v ≡ missing
nested_text rule (list vs) h = refl
nested_text rule (struct fs) h = refl
nested_text rule v h = absurd (cc)

-- an operator of texts at a lane: NULL of NULL, by its rule of a text, else MISSING
text_value : (table : Table) (rule : List ℕ → Val) (n y f i t x r : Bool) (z : ℤ) (s : List ℕ) → at_most_one n y f i t x r ≡ true
    → IsLegal table (show_as n y f i t x r z s) → of_one (on_text rule) (value_under table (show_as n y f i t x r z s)) ≡ cond n null (cond x (rule s) missing)
text_value table rule n y f i t true r z s d h =
    let none : none_of n y f i t r ≡ true = only_text n y f i t true r d in
    ap (λ v. of_one (on_text rule) (value_under table v)) (shows_text n y f i t r z s none)
    ∙ ap (λ b. cond b null (rule s)) (sym (not_null n y f i t r none))
text_value table rule true y f i t false r z s d h = refl
text_value table rule false true f i t false r z s d h = refl
text_value table rule false false true i t false r z s d h = refl
text_value table rule false false false true t false r z s d h = refl
text_value table rule false false false false true false r z s d h = refl
text_value table rule false false false false false false true z s d h = nested_text rule (cell_value table s) h.nested
text_value table rule false false false false false false false z s d h = refl

text_legal : (table : Table) (n y f i t x r m : Bool) (z : ℤ) (s : List ℕ) → at_most_one n y f i t x r ≡ true
    → (m ≡ true → IsLegal table (show_as n y f i t x r z s)) → (m && x) ≡ true → IsUtf8 s
text_legal table n y f i t true r true z s d h e = subst (IsLegal table) (shows_text n y f i t r z s (only_text n y f i t true r d)) (h refl)
text_legal table n y f i t false r true z s d h e = absurd (cc)
text_legal table n y f i t x r false z s d h e = absurd (cc)

-- a lane is no text where it is NULL
null_or_text : (n y f i t x r : Bool) → at_most_one n y f i t x r ≡ true → (n && x) ≡ false
null_or_text true y f i t true r d = absurd (let none = not_null true y f i t r (only_text true y f i t true r d) in cc)
null_or_text true y f i t false r d = refl
null_or_text false y f i t x r d = refl

-- the masks of a match, of which q is the lanes that match
apart : (n x m q : Bool) → (n && x) ≡ false → q ≡ ((m && x) && q) → at_most_one3 (m && n) q ((m && x) && not q) ≡ true
apart n x false true w e = absurd (cc)
apart n x false false w e = refl
apart true true true q w e = absurd (cc)
apart true false true true w e = absurd (cc)
apart true false true false w e = refl
apart false true true true w e = refl
apart false true true false w e = refl
apart false false true true w e = absurd (cc)
apart false false true false w e = refl

as_masks : (n x m q : Bool) → truth_as (m && n) ((m && x) && q) ((m && x) && not ((m && x) && q)) ≡ under m (cond n null (cond x (truth q) missing))
as_masks n x false q = refl
as_masks true x true q = refl
as_masks false true true true = refl
as_masks false true true false = refl
as_masks false false true q = refl

-- the masks of a count
apart_two : (n x m : Bool) → (n && x) ≡ false → ((m && n) && (m && x)) ≡ false
apart_two n x true w = w
apart_two n x false w = refl

as_number : (n x m : Bool) (v w : Val) → ((m && x) ≡ true → v ≡ w) → one_as (m && n) (m && x) v ≡ under m (cond n null (cond x w missing))
as_number n x false v w e = refl
as_number true x true v w e = refl
as_number false true true v w e = e refl
as_number false false true v w e = refl

module _ (table : Table) (l : Lanes) (k : ℕ) where
  -- the bytes of a text are UTF-8
  pub span_utf8 : (m : Bool) → (m ≡ true → IsLegal table (shown l k)) → (m && has l.text.0 k) ≡ true → IsUtf8 (span_at l.spans.lanes k)
  span_utf8 m =
      text_legal table (has l.null.0 k) (has l.yes.0 k) (has l.no.0 k) (has l.int.0 k) (has l.time.0 k) (has l.text.0 k) (has l.tree.0 k) m
      (number_at l.nums.lanes k) (span_at l.spans.lanes k) (l.disjoint k)

  by_rule : (rule : List ℕ → Val) → IsLegal table (shown l k)
      → of_one (on_text rule) (value_at table l k) ≡ cond (has l.null.0 k) null (cond (has l.text.0 k) (rule (span_at l.spans.lanes k)) missing)
  by_rule rule =
      text_value table rule (has l.null.0 k) (has l.yes.0 k) (has l.no.0 k) (has l.int.0 k) (has l.time.0 k) (has l.text.0 k) (has l.tree.0 k)
      (number_at l.nums.lanes k) (span_at l.spans.lanes k) (l.disjoint k)

  within_mask : (m : Bool) (rule : List ℕ → Val) → (m ≡ true → IsLegal table (shown l k))
      → under m (cond (has l.null.0 k) null (cond (has l.text.0 k) (rule (span_at l.spans.lanes k)) missing)) ≡ under m (of_one (on_text rule) (value_at table l k))
  within_mask true rule h = sym (by_rule rule (h refl))
  within_mask false rule h = refl

  -- a test of texts
  pub test_value : (m q : Bool) (test : List ℕ → Bool) → (m ≡ true → IsLegal table (shown l k)) → q ≡ ((m && has l.text.0 k) && test (span_at l.spans.lanes k))
      → truth_as (m && has l.null.0 k) q ((m && has l.text.0 k) && not q) ≡ under m (of_one (on_text (λ s. truth (test s))) (value_at table l k))
  test_value m q test h e =
      ap (λ b. truth_as (m && has l.null.0 k) b ((m && has l.text.0 k) && not b)) e
      ∙ as_masks (has l.null.0 k) (has l.text.0 k) m (test (span_at l.spans.lanes k)) ∙ within_mask m (λ s. truth (test s)) h

  -- a number of texts
  pub number_value : (m : Bool) (n : ℤ) (number : List ℕ → ℤ) → (m ≡ true → IsLegal table (shown l k)) → ((m && has l.text.0 k) ≡ true → n ≡ number (span_at l.spans.lanes k))
      → one_as (m && has l.null.0 k) (m && has l.text.0 k) (int n) ≡ under m (of_one (on_text (λ s. int (number s))) (value_at table l k))
  number_value m n number h e =
      as_number (has l.null.0 k) (has l.text.0 k) m (int n) (int (number (span_at l.spans.lanes k))) (λ b. ap int (e b)) ∙ within_mask m (λ s. int (number s)) h

pub test_apart : (l : Lanes) (k : ℕ) (m q : Bool) → q ≡ ((m && has l.text.0 k) && q) → at_most_one3 (m && has l.null.0 k) q ((m && has l.text.0 k) && not q) ≡ true
test_apart l k m q =
    apart (has l.null.0 k) (has l.text.0 k) m q
    (null_or_text (has l.null.0 k) (has l.yes.0 k) (has l.no.0 k) (has l.int.0 k) (has l.time.0 k) (has l.text.0 k) (has l.tree.0 k) (l.disjoint k))

pub number_apart : (l : Lanes) (k : ℕ) (m : Bool) → ((m && has l.null.0 k) && (m && has l.text.0 k)) ≡ false
number_apart l k m =
    apart_two (has l.null.0 k) (has l.text.0 k) m
    (null_or_text (has l.null.0 k) (has l.yes.0 k) (has l.no.0 k) (has l.int.0 k) (has l.time.0 k) (has l.text.0 k) (has l.tree.0 k) (l.disjoint k))
