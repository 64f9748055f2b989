-- The parts of partial aggregates join, whatever the order.
use Rattle.std.proofs.Common.{◌≡◌, ℕ, ℤ, ◌+ℤ◌, ◌+◌, List, [], ◌∷◌, ◌++◌, length, Bool, true, false, refl, sym, ap, ◌∙◌, arith, length-append}
use Rattle.std.proofs.lemmas.Int.{ints, clamps}
use Rattle.std.specs.List.{reduce, flat_map, filter}
use Rattle.std.specs.Int.{int_min, int_max}
use Rattle.std.specs.List.Sorted.{IsPermutation}
use Rattle.value_meaning.specs.Val.{Val}
use Rattle.tree_meaning.specs.declared.AggName.{AggName}
use Rattle.tree_meaning.specs.declared.AggName.TheVariants as aggs
use Rattle.eval_meaning.specs.LogicLaws.{is_present}
use Rattle.agg_meaning.specs.Operands.{number_in, time_in, truth_in, numbers, truths}
use Rattle.agg_meaning.specs.Aggregates.{aggregate, total, both, either}
use Rattle.agg_meaning.specs.Partials.{partial_of, joined, finished, counted, summed, best_number, best_time, truth_so_far}
use Rattle.agg_meaning.specs.Better.{better}
use Rattle.agg_meaning.proofs.Summaries.{Joins, join-append, join-shuffled, reduce-append, better-assoc, better-comm}

pub total-append : (ms ns : List ℤ) → total (ms ++ ns) ≡ total ms +ℤ total ns
total-append [] ns = omega (arith, ints)
total-append (m ∷ ms) ns = let rest = total-append ms ns in omega (arith, ints)

-- the best by op of what g finds
module _ {A : Type 0} (op : A → A → A) (g : Val → List A) (assoc : (a b c : A) → op (op a b) c ≡ op a (op b c)) (comm : (a b : A) → op a b ≡ op b a) where
  pub best_joins : Joins (λ vs. reduce op (flat_map g vs)) (λ v. reduce op (g v)) (better op)
  best_joins = record {
    empty = λ s. refl;
    cons = λ v vs. reduce-append op assoc (g v) (flat_map g vs);
    assoc = better-assoc op assoc;
    comm = better-comm op comm;
  }

pub min_assoc : (a b c : ℤ) → int_min (int_min a b) c ≡ int_min a (int_min b c)
min_assoc a b c = omega (arith, ints, clamps)

pub min_comm : (a b : ℤ) → int_min a b ≡ int_min b a
min_comm a b = omega (arith, ints, clamps)

pub max_assoc : (a b c : ℤ) → int_max (int_max a b) c ≡ int_max a (int_max b c)
max_assoc a b c = omega (arith, ints, clamps)

pub max_comm : (a b : ℤ) → int_max a b ≡ int_max b a
max_comm a b = omega (arith, ints, clamps)

pub both_assoc : (a b c : Bool) → both (both a b) c ≡ both a (both b c)
both_assoc true b c = refl
both_assoc false b c = refl

pub both_comm : (a b : Bool) → both a b ≡ both b a
both_comm true true = refl
both_comm true false = refl
both_comm false true = refl
both_comm false false = refl

pub either_assoc : (a b c : Bool) → either (either a b) c ≡ either a (either b c)
either_assoc true b c = refl
either_assoc false b c = refl

pub either_comm : (a b : Bool) → either a b ≡ either b a
either_comm true true = refl
either_comm true false = refl
either_comm false true = refl
either_comm false false = refl

abbrev pub one_if : Bool → ℕ
one_if true = 1
one_if false = 0

count-cons : (v : Val) (vs : List Val) → length (filter is_present (v ∷ vs)) ≡ one_if (is_present v) + length (filter is_present vs)
count-cons v vs = grind arith

abbrev add : ℕ → ℕ → ℕ
add a b = a + b

abbrev add_ℤ : ℤ → ℤ → ℤ
add_ℤ a b = a +ℤ b

pub rows_join : Joins length (λ (v : Val). 1) add
rows_join = record { empty = λ s. omega arith; cons = λ v vs. omega arith; assoc = λ a b c. omega arith; comm = λ a b. omega arith }

pub there_joins : Joins (λ vs. length (filter is_present vs)) (λ v. one_if (is_present v)) add
there_joins = record { empty = λ s. omega arith; cons = count-cons; assoc = λ a b c. omega arith; comm = λ a b. omega arith }

pub numbers_join : Joins (λ vs. length (numbers vs)) (λ v. length (number_in v)) add
numbers_join = record { empty = λ s. omega arith; cons = λ v vs. length-append (number_in v) (numbers vs); assoc = λ a b c. omega arith; comm = λ a b. omega arith }

pub total_joins : Joins (λ vs. total (numbers vs)) (λ v. total (number_in v)) add_ℤ
total_joins = record { empty = λ s. omega (arith, ints); cons = λ v vs. total-append (number_in v) (numbers vs); assoc = λ a b c. omega (arith, ints); comm = λ a b. omega (arith, ints) }

pub least_joins : (g : Val → List ℤ) → Joins (λ vs. reduce int_min (flat_map g vs)) (λ v. reduce int_min (g v)) (better int_min)
least_joins g = best_joins int_min g min_assoc min_comm

pub greatest_joins : (g : Val → List ℤ) → Joins (λ vs. reduce int_max (flat_map g vs)) (λ v. reduce int_max (g v)) (better int_max)
greatest_joins g = best_joins int_max g max_assoc max_comm

pub both_joins : Joins (λ vs. reduce both (truths vs)) (λ v. reduce both (truth_in v)) (better both)
both_joins = best_joins both truth_in both_assoc both_comm

pub either_joins : Joins (λ vs. reduce either (truths vs)) (λ v. reduce either (truth_in v)) (better either)
either_joins = best_joins either truth_in either_assoc either_comm

summed_joined : (vs ws : List Val) → summed (length (numbers (vs ++ ws))) (total (numbers (vs ++ ws))) ≡ summed (length (numbers vs) + length (numbers ws)) (total (numbers vs) +ℤ total (numbers ws))
summed_joined vs ws = λ i. summed (join-append _ _ _ numbers_join vs ws i) (join-append _ _ _ total_joins vs ws i)

-- of a list that is made of two
pub partial_joined : (n : AggName) (vs ws : List Val) → partial_of n (vs ++ ws) ≡ joined n (partial_of n vs) (partial_of n ws)
partial_joined aggs.CountAll vs ws = ap counted (join-append _ _ _ rows_join vs ws)
partial_joined aggs.Count vs ws = ap counted (join-append _ _ _ there_joins vs ws)
partial_joined aggs.Sum vs ws = summed_joined vs ws
partial_joined aggs.Avg vs ws = summed_joined vs ws
partial_joined aggs.Min vs ws = ap best_number (join-append _ _ _ (least_joins number_in) vs ws)
partial_joined aggs.Max vs ws = ap best_number (join-append _ _ _ (greatest_joins number_in) vs ws)
partial_joined aggs.Earliest vs ws = ap best_time (join-append _ _ _ (least_joins time_in) vs ws)
partial_joined aggs.Latest vs ws = ap best_time (join-append _ _ _ (greatest_joins time_in) vs ws)
partial_joined aggs.BoolAnd vs ws = ap truth_so_far (join-append _ _ _ both_joins vs ws)
partial_joined aggs.BoolOr vs ws = ap truth_so_far (join-append _ _ _ either_joins vs ws)

summed_shuffled : (vs ws : List Val) → IsPermutation vs ws → summed (length (numbers ws)) (total (numbers ws)) ≡ summed (length (numbers vs)) (total (numbers vs))
summed_shuffled vs ws p = λ i. summed (join-shuffled _ _ _ numbers_join vs ws p i) (join-shuffled _ _ _ total_joins vs ws p i)

pub partial_shuffled : (n : AggName) (vs ws : List Val) → IsPermutation vs ws → partial_of n ws ≡ partial_of n vs
partial_shuffled aggs.CountAll vs ws p = ap counted (join-shuffled _ _ _ rows_join vs ws p)
partial_shuffled aggs.Count vs ws p = ap counted (join-shuffled _ _ _ there_joins vs ws p)
partial_shuffled aggs.Sum vs ws p = summed_shuffled vs ws p
partial_shuffled aggs.Avg vs ws p = summed_shuffled vs ws p
partial_shuffled aggs.Min vs ws p = ap best_number (join-shuffled _ _ _ (least_joins number_in) vs ws p)
partial_shuffled aggs.Max vs ws p = ap best_number (join-shuffled _ _ _ (greatest_joins number_in) vs ws p)
partial_shuffled aggs.Earliest vs ws p = ap best_time (join-shuffled _ _ _ (least_joins time_in) vs ws p)
partial_shuffled aggs.Latest vs ws p = ap best_time (join-shuffled _ _ _ (greatest_joins time_in) vs ws p)
partial_shuffled aggs.BoolAnd vs ws p = ap truth_so_far (join-shuffled _ _ _ both_joins vs ws p)
partial_shuffled aggs.BoolOr vs ws p = ap truth_so_far (join-shuffled _ _ _ either_joins vs ws p)

summed_value : (n : AggName) (ns : List ℤ) → finished aggs.Sum (summed (length ns) (total ns)) ≡ Rattle.agg_meaning.specs.Aggregates.sum_of ns
summed_value n [] = refl
summed_value n (m ∷ ms) = refl

averaged_value : (ns : List ℤ) → finished aggs.Avg (summed (length ns) (total ns)) ≡ Rattle.agg_meaning.specs.Aggregates.average_of ns
averaged_value [] = refl
averaged_value (m ∷ ms) = refl

pub partial_value : (n : AggName) (vs : List Val) → finished n (partial_of n vs) ≡ aggregate n vs
partial_value aggs.CountAll vs = refl
partial_value aggs.Count vs = refl
partial_value aggs.Sum vs = summed_value aggs.Sum (numbers vs)
partial_value aggs.Avg vs = averaged_value (numbers vs)
partial_value aggs.Min vs = refl
partial_value aggs.Max vs = refl
partial_value aggs.Earliest vs = refl
partial_value aggs.Latest vs = refl
partial_value aggs.BoolAnd vs = refl
partial_value aggs.BoolOr vs = refl

pub aggregate_shuffled : (n : AggName) (vs ws : List Val) → IsPermutation vs ws → aggregate n ws ≡ aggregate n vs
aggregate_shuffled n vs ws p = sym (partial_value n ws) ∙ ap (finished n) (partial_shuffled n vs ws p) ∙ partial_value n vs
