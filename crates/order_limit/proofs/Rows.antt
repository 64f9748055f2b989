-- Rows that are moved and sorted.
use Rattle.std.proofs.Common.{◌≡◌, ℕ, ◌+◌, ◌<◌, List, [], ◌∷◌, ◌++◌, length, get_or, map, take, drop, Option, None, Some, Bool, sym, ap, ◌∙◌, subst, arith, append_assoc}
use Rattle.std.specs.List.{All}
use Rattle.std.specs.List.Sorted.{IsPermutation, IsSortedBy, IsSortedByKey}
use Rattle.std.specs.Ordering.{is_lt}
use Rattle.std.proofs.lemmas.List.{get_or-map, length-map, get_or_default, take-map, drop-map}
use Rattle.std.proofs.lemmas.List.Sorted.{IsPermutation-trans, IsPermutation-append_comm, IsPermutation-append_right}
use Rattle.snel_values.specs.declared.made.MadeRow.{MadeRow}
use Rattle.snel_values.specs.Made.{row_view}
use Rattle.answer_meaning.specs.Answers.{limited, keys_cmp}
use Rattle.order_limit.specs.Arranged.{Row}
use Rattle.order_limit.specs.Padded.{padded_cmp}
use Rattle.order_limit.proofs.Keys.{padded_is}

pub moved : {X : Type 0} (start rows before : List X) (r : X) (all new : List X) → IsPermutation start (before ++ all) → before ≡ rows ++ r ∷ [] → new ≡ all ++ r ∷ [] → IsPermutation start (rows ++ new)
moved start rows before r all new p e g =
    let split : IsPermutation start (rows ++ (r ∷ all)) = subst (IsPermutation start) (ap (λ l. l ++ all) e ∙ append_assoc rows (r ∷ []) all) p in
    let turn = IsPermutation-append_right rows (r ∷ all) (all ++ r ∷ []) (IsPermutation-append_comm (r ∷ []) all) in
    subst (λ l. IsPermutation start (rows ++ l)) (sym g) (IsPermutation-trans start (rows ++ (r ∷ all)) (rows ++ (all ++ r ∷ [])) split turn)

pub sorted_rows : (falling : List Bool) (items : List MadeRow) → All (λ (r : Row). length r.0 ≡ length falling) (map row_view items) → IsSortedBy (λ (x y : MadeRow). is_lt (padded_cmp falling x.keys y.keys)) items → IsSortedByKey (λ (r : Row). r.0) (keys_cmp falling) (map row_view items)
sorted_rows falling [] keyed up k d low below = absurd (omega arith)
sorted_rows falling (x ∷ xs) keyed up k d low below =
    let items = x ∷ xs in
    let l = length-map items row_view in
    let h : k < length items = omega arith in
    let n : k + 1 < length items = omega arith in
    let here = get_or_default (map row_view items) k d (row_view x) (omega arith) ∙ get_or-map row_view items k x (row_view x) h in
    let next = get_or_default (map row_view items) (k + 1) d (row_view x) (omega arith) ∙ get_or-map row_view items (k + 1) x (row_view x) n in
    ap is_lt (padded_is falling (get_or (map row_view items) (k + 1) d).0 (get_or (map row_view items) k d).0 (keyed (k + 1) d below) (keyed k d (omega arith)))
    ∙ (λ j. is_lt (padded_cmp falling (next j).0 (here j).0))
    ∙ up k x low n

pub cut_rows : {A B : Type 0} (f : A → B) (most : Option ℕ) (skip : ℕ) (xs : List A) → map f (limited most (drop skip xs)) ≡ limited most (drop skip (map f xs))
cut_rows f None skip xs = sym (drop-map f skip xs)
cut_rows f (Some n) skip xs = sym (take-map f n (drop skip xs)) ∙ ap (take n) (sym (drop-map f skip xs))
