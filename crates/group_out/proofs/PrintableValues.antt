-- The value of an expression is one that a line can show, where the values that are known of its parts are.
use Rattle.std.proofs.Common.{◌≡◌, ℕ, zero, suc, Bool, true, false, cond, List, [], ◌∷◌, Option, Some, None, refl, sym, ap, subst}
use Rattle.std.specs.Prelude.{unwrap_or}
use Rattle.std.specs.Option.{option_or}
use Rattle.value_meaning.specs.Val.{Val, missing, null, truth, int, time, text, list, struct}
use Rattle.lane_time.proofs.TimeLanes.{is_time-true}
use Rattle.tree_meaning.specs.Tree.{Ex, Exs, Arms, lit, path, neg, no, bin, is, member, between, matching, choice, cast, call, trunc, extract, shift, agg_of_rows, agg, no_exs, ex, no_arms, arm, Query}
use Rattle.tree_meaning.specs.WellFormed.{IsLiteral, IsFormed, AreFormed, ArmsAreFormed}
use Rattle.check_meaning.specs.Same.{same_ex}
use Rattle.check_meaning.specs.Aggregates.{aggregates}
use Rattle.eval_meaning.specs.Pair.{Pair, alone, source_of}
use Rattle.eval_meaning.specs.Evaluation.{eval, evals, choices}
use Rattle.made_meaning.specs.OverGroups.{value_beside, filled, filled_exs, filled_arms}
use Rattle.eval_row.specs.Known.{filled_within}
use Rattle.eval_row.proofs.Filling.{filled_known, filled_unknown}
use Rattle.group_out.specs.Summaries.{IsPrintable, IsPrintableRow}
use Rattle.group_out.specs.Values.{known_of_row, value_of_row}
use Rattle.group_out.proofs.Each.{Each, each_of}
use Rattle.group_out.proofs.Printable.{nothing, in_range, path_value, negative_value, not_value, binary_value, is_value, member_value, between_value, matching_value, choice_value, cast_value, call_value, trunc_value, extract_value, shift_value}

literal_value : (v : Val) → IsLiteral v → IsPrintable v
literal_value missing h = nothing
literal_value null h = record { times = tt; missing = tt }
literal_value (truth b) h = record { times = tt; missing = tt }
literal_value (int n) h = record { times = tt; missing = tt }
literal_value (time t) h = in_range t (is_time-true t h)
literal_value (text s) h = record { times = tt; missing = tt }
literal_value (list vs) h = absurd h
literal_value (struct fs) h = absurd h

module _ (t : Ex → Option Val) (pair : Pair) (known : (e : Ex) (v : Val) → t e ≡ Some v → IsPrintable v) (row : IsPrintable pair.row) (item : IsPrintable pair.item) where
  source_value : (n : ℕ) → IsPrintable (source_of n pair)
  source_value zero = row
  source_value (suc n) = item

  -- what is known of an expression may be shown, else what its form gives
  or_known : (e : Ex) → IsPrintable (eval (filled_within t e) pair) → IsPrintable (eval (filled t e) pair)
  or_known e h = go (t e) refl
    where
      go : (o : Option Val) → t e ≡ o → IsPrintable (eval (filled t e) pair)
      go None k = subst (λ x. IsPrintable (eval x pair)) (sym (filled_unknown t e k)) h
      go (Some v) k = subst (λ x. IsPrintable (eval x pair)) (sym (filled_known t e v k)) (known e v k)

  mutual
    unfolding filled_exs filled_arms

    pub printable : (e : Ex) → IsFormed e → IsPrintable (eval (filled t e) pair)
    printable (lit v) f = or_known (lit v) (literal_value v f)
    printable (path r ss) f = or_known (path r ss) (path_value ss (source_of r pair) (source_value r))
    printable (neg e) f = or_known (neg e) (negative_value (eval (filled t e) pair))
    printable (no e) f = or_known (no e) (not_value _)
    printable (bin o a b) f = or_known (bin o a b) (binary_value o (eval (filled t a) pair) (eval (filled t b) pair))
    printable (is w e) f = or_known (is w e) (is_value w (eval (filled t e) pair))
    printable (member e es) f = or_known (member e es) (member_value (eval (filled t e) pair) (evals (filled_exs t es) pair))
    printable (between e a b) f = or_known (between e a b) (between_value (eval (filled t e) pair) (eval (filled t a) pair) (eval (filled t b) pair))
    printable (matching h e s) f = or_known (matching h e s) (matching_value h s (eval (filled t e) pair))
    printable (choice r e) f = or_known (choice r e) (printable_choice r (eval (filled t e) pair) f.0 (printable e f.2))
    printable (cast c e) f = or_known (cast c e) (cast_value c (eval (filled t e) pair))
    printable (call g es) f = or_known (call g es) (call_value g (evals (filled_exs t es) pair) (printable_all es f.0))
    printable (trunc p e) f = or_known (trunc p e) (trunc_value p (eval (filled t e) pair))
    printable (extract p e) f = or_known (extract p e) (extract_value p (eval (filled t e) pair))
    printable (shift p a e) f = or_known (shift p a e) (shift_value p (eval (filled t a) pair) (eval (filled t e) pair))
    printable (agg_of_rows n) f = or_known (agg_of_rows n) nothing
    printable (agg n e) f = or_known (agg n e) nothing

    printable_all : (es : Exs) → AreFormed es → Each IsPrintable (evals (filled_exs t es) pair)
    printable_all no_exs f = tt
    printable_all (ex e es) f = (printable e f.0, printable_all es f.1)

    printable_choice : (r : Arms) (other : Val) → ArmsAreFormed r → IsPrintable other → IsPrintable (choices (filled_arms t r) pair other)
    printable_choice no_arms other f h = h
    printable_choice (arm a b r) other f h =
        choice_value (eval (filled t a) pair) (eval (filled t b) pair) (choices (filled_arms t r) pair other) (printable b f.1) (printable_choice r other f.2 h)

some_is : {A : Type 0} (x y : A) → Some x ≡ Some y → x ≡ y
some_is x y h = ap (λ o. unwrap_or o x) h

first_beside : (b : Bool) (w v : Val) (o : Option Val) → IsPrintable w → (o ≡ Some v → IsPrintable v) → cond b (Some w) o ≡ Some v → IsPrintable v
first_beside true w v o h later m = subst IsPrintable (some_is w v m) h
first_beside false w v o h later m = later m

-- a value beside an expression is one of the values
beside_printable : (es : List Ex) (vs : List Val) (e : Ex) (v : Val) → Each IsPrintable vs → value_beside es vs e ≡ Some v → IsPrintable v
beside_printable [] vs e v h k = cc
beside_printable (x ∷ es) [] e v h k = cc
beside_printable (x ∷ es) (w ∷ vs) e v h k = first_beside (same_ex x e) w v (value_beside es vs e) h.0 (λ m. beside_printable es vs e v h.1 m) k

either_printable : (o p : Option Val) (v : Val) → (o ≡ Some v → IsPrintable v) → (p ≡ Some v → IsPrintable v) → option_or o p ≡ Some v → IsPrintable v
either_printable None p v h k m = k m
either_printable (Some w) p v h k m = h m

-- over a group, from the group's row
pub row_value : (q : Query) (row : List Val × List Val) → IsPrintableRow row → (e : Ex) → IsFormed e → IsPrintable (value_of_row q row e)
unfolding value_of_row
row_value q row h e f =
    printable (known_of_row q row) (alone missing)
    (λ e v. either_printable (value_beside q.keys row.0 e) (value_beside (aggregates q) row.1 e) v
    (beside_printable q.keys row.0 e v (each_of IsPrintable row.0 h.keys)) (beside_printable (aggregates q) row.1 e v (each_of IsPrintable row.1 h.aggs)))
    nothing nothing e f
