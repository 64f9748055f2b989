-- What a query makes of rows can be arranged, so there is an answer.
use Rattle.std.proofs.Common.{◌≡◌, ℕ, ◌+◌, List, [], ◌∷◌, length, get_or, map, Bool, true, false, cond, Option, Some, None, refl, sym, ap, ◌∙◌, arith, Ordering}
use Rattle.std.specs.declared.cmp.Ordering.TheVariants.{Equal}
use Rattle.std.specs.Ordering.{ordering_then, is_lt}
use Rattle.std.specs.Cmp.{IsTotalOrder}
use Rattle.std.specs.List.{All}
use Rattle.std.specs.List.Sorted.{IsSortedBy, IsSortedByKey}
use Rattle.std.specs.Prelude.{drop, if◌then◌else◌}
use Rattle.std.specs.Io.KnownBytes.{Appends, Keeps}
use Rattle.std.proofs.lemmas.Cmp.{on_total, then_total, back_total}
use Rattle.std.proofs.lemmas.List.{length-map, append-nil}
use Rattle.std.proofs.lemmas.List.Elements.{All-nil, All-cons}
use Rattle.std.proofs.lemmas.List.Sorted.{ranks_by, All-permutation}
use Rattle.value_meaning.specs.Val.{Val, missing}
use Rattle.value_meaning.specs.Order.{val_cmp}
use Rattle.value_meaning.proofs.OrderLaws.{val_total}
use Rattle.tree_meaning.specs.Tree.{Ex, Query}
use Rattle.check_meaning.specs.Places.{order_ex}
use Rattle.check_meaning.specs.Aggregates.{is_grouped}
use Rattle.eval_meaning.specs.Evaluation.{eval}
use Rattle.eval_meaning.specs.Passed.{passed}
use Rattle.answer_meaning.specs.Made.{Made}
use Rattle.answer_meaning.specs.Answers.{keys_cmp, limited}
use Rattle.answer_meaning.specs.Lines.{print}
use Rattle.made_meaning.specs.OverGroups.{groups, over}
use Rattle.made_meaning.specs.MadeRows.{made, made_row, made_group, kept_groups, made_groups, made_rows}
use Rattle.scan_meaning.specs.Answers.{falling, AddsAnswer}
use Rattle.scan_meaning.specs.Laws.{SomeAnswer}
use Rattle.scan_meaning.proofs.Sorting.{sorted, sorted_is, sorted_up}

-- the order by sort keys on lists of any length, where an absent key is as MISSING: it is total
abbrev first : List Val → Val
first [] = missing
first (v ∷ vs) = v

abbrev rest : List Val → List Val
rest [] = []
rest (v ∷ vs) = vs

abbrev key_cmp : Bool → Val → Val → Ordering
key_cmp falls v w = if falls then val_cmp w v else val_cmp v w

abbrev padded_cmp : List Bool → List Val → List Val → Ordering
padded_cmp [] vs ws = Equal
padded_cmp (falls ∷ fs) vs ws = ordering_then (key_cmp falls (first vs) (first ws)) (padded_cmp fs (rest vs) (rest ws))

key_total : (falls : Bool) → IsTotalOrder (key_cmp falls)
key_total true = back_total val_total
key_total false = val_total

none_total : IsTotalOrder (padded_cmp [])
none_total = record { antisymm = λ x y. refl; trans = λ x y z h k. cc; congr = λ x y z h. refl }

padded_total : (falling : List Bool) → IsTotalOrder (padded_cmp falling)
padded_total [] = none_total
padded_total (f ∷ fs) = then_total (on_total first (key_total f)) (on_total rest (padded_total fs))

padded_is : (falling : List Bool) (vs ws : List Val) → length vs ≡ length falling → length ws ≡ length falling → keys_cmp falling vs ws ≡ padded_cmp falling vs ws
padded_is [] vs ws a b = refl
padded_is (f ∷ fs) [] ws a b = absurd (omega arith)
padded_is (f ∷ fs) (v ∷ vs) [] a b = absurd (omega arith)
padded_is (f ∷ fs) (v ∷ vs) (w ∷ ws) a b = ap (ordering_then (key_cmp f v w)) (padded_is fs vs ws (omega arith) (omega arith))

-- each made row has a key for each of the query's
abbrev HasKeys : Query → Made → Type 0
HasKeys q m = length m.keys ≡ length (falling q)

made_has : {X : Type 0} (q : Query) (f : X → Made) → ((x : X) → HasKeys q (f x)) → (xs : List X) → All (HasKeys q) (map f xs)
made_has q f h [] = All-nil (HasKeys q)
made_has q f h (x ∷ xs) = All-cons (HasKeys q) (f x) (map f xs) (h x) (made_has q f h xs)

keys_long : (q : Query) (value : Ex → Val) → length (map (λ (k : Ex × Bool). value (order_ex q.outs k.0)) q.order) ≡ length (falling q)
keys_long q value = length-map q.order (λ (k : Ex × Bool). value (order_ex q.outs k.0)) ∙ sym (length-map q.order (λ (k : Ex × Bool). k.1))

all_keyed : (q : Query) (rows : List Val) → All (HasKeys q) (made q rows)
unfolding made
all_keyed q rows = on (is_grouped q)
  where
    on : (b : Bool) → All (HasKeys q) (cond b (made_groups q (passed q rows)) (made_rows q (passed q rows)))
    on true = made_has q (made_group q) (λ g. keys_long q (over q g)) (kept_groups q (groups q.keys (passed q rows)))
    on false = made_has q (made_row q) (λ p. keys_long q (λ e. eval e p)) (passed q rows)

sorted_by_keys : (falls : List Bool) (ms : List Made) → All (λ (m : Made). length m.keys ≡ length falls) ms → IsSortedBy (λ (x y : Made). is_lt (padded_cmp falls x.keys y.keys)) ms → IsSortedByKey (λ (m : Made). m.keys) (keys_cmp falls) ms
sorted_by_keys falls ms keyed up k d low below =
    ap is_lt (padded_is falls (get_or ms (k + 1) d).keys (get_or ms k d).keys (keyed (k + 1) d below) (keyed k d (omega arith)))
    ∙ up k d low below

pub some_answer : SomeAnswer
some_answer q rows =
    let falls = falling q in
    let ranked = ranks_by (padded_total falls) (λ (m : Made). m.keys) in
    let lt = λ (x y : Made). is_lt (padded_cmp falls x.keys y.keys) in
    let ms = sorted lt ranked (made q rows) in
    let permutes = sorted_is lt ranked (made q rows) in (
      limited q.take (drop q.skip (map (λ (m : Made). m.output) ms)),
      record {
        arrangement = ms;
        permutes = permutes;
        sorted = sorted_by_keys falls ms (All-permutation (HasKeys q) (made q rows) ms permutes (all_keyed q rows)) (sorted_up lt ranked (made q rows));
        cut = refl;
      },
    )

-- a sink that took nothing took the beginning of an answer
pub adds_nothing : (q : Query) (rows : List Val) (status : ℕ) (old new : Option (List ℕ)) → (status ≡ 0 → ⊥) → Keeps old new → AddsAnswer q rows status old new
adds_nothing q rows status old new other kept =
    let a = some_answer q rows in
    record { outputs = a.0; answer = a.1; added = []; appends = took old new kept; whole = λ e. absurd (other e); front = (print a.0, refl) }
  where
    took : (a b : Option (List ℕ)) → Keeps a b → Appends a b []
    took None b h = tt
    took (Some xs) None h = h
    took (Some xs) (Some ys) h = h ∙ sym (append-nil xs)
