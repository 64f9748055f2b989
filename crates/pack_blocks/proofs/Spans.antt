-- The span of times, one by one.
use Rattle.std.proofs.Common.{◌≡◌, ◌≢◌, ◌↔◌, ℕ, ◌+◌, ◌<◌, ◌≤◌, Bool, true, false, ℤ, pos, List, [], ◌∷◌, ◌++◌, length, take, drop, get_or, fold, Option, None, Some, IsTrue, refl, sym, ap, ◌∙◌, arith, add-one, append-nil, append_assoc}
use Rattle.std.specs.Int.{int_min, int_max}
use Rattle.std.specs.List.{filter_map, cons_option}
use Rattle.std.specs.Prelude.{unwrap_or}
use Rattle.std.proofs.Math.Seq.{take-suc}
use Rattle.std.proofs.lemmas.List.{drop_more, length-map, get_or-map, take_all}
use Rattle.value_meaning.specs.Pairs.{Pairs, value_of}
use Rattle.snel_values.specs.declared.value.Value.{Value}
use Rattle.snel_values.specs.View.{view, views}
use Rattle.value_meaning.specs.Val.{Val, missing, struct, fields, pairs}
use Rattle.tree_meaning.specs.Tree.{name}
use Rattle.eval_meaning.specs.Paths.{step_of}
use Rattle.pack_meaning.specs.PackedFiles.{as_moment, times_in, least_of, greatest_of}
use Rattle.pack_blocks.specs.declared.span.Span.{Span}
use Rattle.pack_blocks.specs.Spans.{IsSpan, grown}

fold_more : (f : ℤ → ℤ → ℤ) (a : ℤ) (ts : List ℤ) (t : ℤ) → fold f a (ts ++ t ∷ []) ≡ f (fold f a ts) t
fold_more f a [] t = refl
fold_more f a (u ∷ ts) t = fold_more f (f a u) ts t

not_none : (ts : List ℤ) (t : ℤ) → ts ++ t ∷ [] ≢ []
not_none [] t e = cc
not_none (u ∷ ts) t e = cc

-- no time yet
pub span_none : (s : Span) → s.any ≡ false → s.least ≡ pos 1 → s.greatest ≡ pos 0 → IsSpan [] s
span_none s n l g = record { some = (λ h. absurd (false_true (sym n ∙ h)), λ h. absurd (h refl)); least = l; greatest = g }
  where
    false_true : false ≡ true → ⊥
    false_true e = cc

-- the first time
pub span_first : (ts : List ℤ) (old new : Span) (t : ℤ) → IsSpan ts old → old.any ≡ false → new.any ≡ true → new.least ≡ t → new.greatest ≡ t → IsSpan (ts ++ t ∷ []) new
span_first [] old new t k n a l g = record { some = (λ h. not_none [] t, λ h. a); least = l; greatest = g }
span_first (u ∷ ts) old new t k n a l g = absurd (no (sym n ∙ k.some.1 more))
  where
    no : false ≡ true → ⊥
    no e = cc

    more : u ∷ ts ≢ []
    more e = cc

-- a further time
pub span_more : (ts : List ℤ) (old new : Span) (t : ℤ) → IsSpan ts old → old.any ≡ true → new.any ≡ true → new.least ≡ int_min old.least t → new.greatest ≡ int_max old.greatest t
    → IsSpan (ts ++ t ∷ []) new
span_more [] old new t k y a l g = absurd (k.some.0 y refl)
span_more (u ∷ ts) old new t k y a l g = record {
  some = (λ h. not_none (u ∷ ts) t, λ h. a);
  least = l ∙ ap (λ x. int_min x t) k.least ∙ sym (fold_more int_min u ts t);
  greatest = g ∙ ap (λ x. int_max x t) k.greatest ∙ sym (fold_more int_max u ts t);
}

-- a further time, as it is taken in
pub span_wider : (ts : List ℤ) (old middle new : Span) (t : ℤ) → IsSpan ts old → old.any ≡ true → middle ≡ record old { least = int_min old.least t } → new ≡ record middle { greatest = int_max middle.greatest t }
    → IsSpan (ts ++ t ∷ []) new
span_wider ts old middle new t k y e f =
    span_more ts old new t k y (ap (λ (s : Span). s.any) f ∙ ap (λ (s : Span). s.any) e ∙ y) (ap (λ (s : Span). s.least) f ∙ ap (λ (s : Span). s.least) e)
    (ap (λ (s : Span). s.greatest) f ∙ ap (λ (s : Span). int_max s.greatest t) e)

-- the times of the rows up to a place, and of one more row
own : List ℕ → Val → Option ℤ
own n row = as_moment (step_of (name n) row)

map_more : (h : Val → Option ℤ) (rows : List Val) (r : Val) → filter_map h (rows ++ r ∷ []) ≡ grown (h r) (filter_map h rows)
map_more h [] r = last (h r)
  where
    last : (o : Option ℤ) → cons_option o [] ≡ grown o []
    last None = refl
    last (Some t) = refl
map_more h (q ∷ rows) r = rw (map_more h rows r) (inner (h q) (h r) (filter_map h rows))
  where
    inner : (o p : Option ℤ) (ts : List ℤ) → cons_option o (grown p ts) ≡ grown p (cons_option o ts)
    inner None None ts = refl
    inner None (Some t) ts = refl
    inner (Some u) None ts = refl
    inner (Some u) (Some t) ts = refl

pub times_more : (n : List ℕ) (rows : List Val) (r : Val) → times_in (Some n) (rows ++ r ∷ []) ≡ grown (as_moment (step_of (name n) r)) (times_in (Some n) rows)
times_more n rows r = map_more (λ row. as_moment (step_of (name n) row)) rows r

pairs_of_fields : (fs : Pairs) → pairs (fields fs) ≡ fs
pairs_of_fields [] = refl
pairs_of_fields (f ∷ fs) = ap (λ l. f ∷ l) (pairs_of_fields fs)

-- the own pair of a name is there, or not
pub own_found : (n : List ℕ) (fs : Pairs) (v : Val) → Some v ≡ value_of n fs → as_moment v ≡ as_moment (step_of (name n) (struct (fields fs)))
own_found n fs v e = ap (λ o. as_moment (unwrap_or o missing)) (e ∙ ap (value_of n) (sym (pairs_of_fields fs)))

pub own_absent : (n : List ℕ) (fs : Pairs) → None ≡ value_of n fs → None ≡ as_moment (step_of (name n) (struct (fields fs)))
own_absent n fs e = ap (λ o. as_moment (unwrap_or o missing)) (e ∙ ap (value_of n) (sym (pairs_of_fields fs)))

one_more : (xs : List Value) (i : ℕ) (x : Value) → i < length xs → x ≡ get_or xs i x → take (i + 1) (views xs) ≡ take i (views xs) ++ view x ∷ []
one_more xs i x h e =
    let k : i < length (views xs) = omega (arith, h, length-map xs view) in
    rw (add-one, take-suc (views xs) i (view x) k, get_or-map view xs i x (view x) h, ← e) refl

-- the span of one more row
pub span_step : (n : List ℕ) (xs : List Value) (i : ℕ) (x : Value) (s : Span) → i < length xs → x ≡ get_or xs i x
    → IsSpan (grown (as_moment (step_of (name n) (view x))) (times_in (Some n) (take i (views xs)))) s → IsSpan (times_in (Some n) (take (i + 1) (views xs))) s
span_step n xs i x s h e k = rw (one_more xs i x h e, times_more n (take i (views xs)) (view x)) k

pub span_all : (n : List ℕ) (xs : List Value) (i : ℕ) (s : Span) → length xs ≤ i → IsSpan (times_in (Some n) (take i (views xs))) s → IsSpan (times_in (Some n) (views xs)) s
span_all n xs i s h k =
    let all : take i (views xs) ≡ views xs = take_all i (views xs) (omega (arith, h, length-map xs view)) in
    rw all at k
