-- Keys that are hashed and compared one by one where they lie.
use Rattle.std.proofs.Common.{◌≡◌, ℕ, zero, suc, ◌+◌, ◌<◌, ◌≤◌, List, [], ◌∷◌, ◌++◌, length, map, take, drop, get_or, Bool, true, false, Option, Some, None, refl, sym, ap, subst, ◌∙◌, arith, add-one}
use Rattle.std.specs.Prelude.{All, slice_get, ◌↔◌}
use Rattle.std.proofs.lemmas.List.{get_or-map, length-map, drop_all}
use Rattle.std.proofs.lemmas.List.Elements.{All-append, All-cons, All-nil, All-tail}
use Rattle.std.specs.declared.hash.DefaultHasher.{DefaultHasher}
use Rattle.value_meaning.specs.Val.{Val, vals}
use Rattle.value_meaning.proofs.OrderLaws.{val_same}
use Rattle.agg_meaning.specs.Keys.{same_keys}
use Rattle.agg_meaning.proofs.Keys.{same_keys-exact}
use Rattle.key_places.specs.Hashes.{fed_value, fed_vals}

-- what is left of what is made of a list
pub left_of : {A : Type 0} (f : A → Val) (xs : List A) (i : ℕ) (x : A) → Some x ≡ slice_get xs i → drop i (map f xs) ≡ f x ∷ drop (i + 1) (map f xs)
left_of {A = A} f xs i x h = on xs i h ∙ ap (λ n. f x ∷ drop n (map f xs)) (sym (add-one i))
  where
    on : (ys : List A) (j : ℕ) → Some x ≡ slice_get ys j → drop j (map f ys) ≡ f x ∷ drop (suc j) (map f ys)
    on [] j e = absurd (cc)
    on (y ∷ ys) zero e = let same : x ≡ y = cc in ap (λ z. f z ∷ map f ys) (sym same)
    on (y ∷ ys) (suc j) e = on ys j e

pub left_at : {A : Type 0} (f : A → Val) (xs : List A) (i : ℕ) (x : A) → i < length xs → x ≡ get_or xs i x → drop i (map f xs) ≡ f x ∷ drop (i + 1) (map f xs)
left_at {A = A} f xs i x below h = on xs i below h ∙ ap (λ n. f x ∷ drop n (map f xs)) (sym (add-one i))
  where
    on : (ys : List A) (j : ℕ) → j < length ys → x ≡ get_or ys j x → drop j (map f ys) ≡ f x ∷ drop (suc j) (map f ys)
    on [] j b e = absurd (omega arith)
    on (y ∷ ys) zero b e = ap (λ z. f z ∷ map f ys) (sym e)
    on (y ∷ ys) (suc j) b e = on ys j (omega arith) e

-- one more is fed
pub fed_more : (vs : List Val) (i : ℕ) (v : Val) (before now next : DefaultHasher) → drop i vs ≡ v ∷ drop (i + 1) vs → next ≡ fed_value v now → fed_vals (vals (drop i vs)) now ≡ fed_vals (vals vs) before
    → fed_vals (vals (drop (i + 1) vs)) next ≡ fed_vals (vals vs) before
fed_more vs i v before now next e f h = ap (fed_vals (vals (drop (i + 1) vs))) f ∙ sym (ap (λ l. fed_vals (vals l) now) e) ∙ h

pub fed_all : (vs : List Val) (i : ℕ) (before now : DefaultHasher) → length vs ≤ i → fed_vals (vals (drop i vs)) now ≡ fed_vals (vals vs) before → now ≡ fed_vals (vals vs) before
fed_all vs i before now l h = sym (ap (λ ws. fed_vals (vals ws) now) (drop_all i vs l)) ∙ h

one_way : (b : Bool) → (b ≡ true → ⊥) → false ≡ b
one_way true h = absurd (h refl)
one_way false h = refl

abbrev head_or : Val → List Val → Val
head_or d [] = d
head_or d (v ∷ vs) = v

after : (v w : Val) (vs ws : List Val) → v ≡ w → same_keys (v ∷ vs) (w ∷ ws) ≡ same_keys vs ws
after v w vs ws e = rw (e, val_same w) refl

module _ (vs ws : List Val) (i : ℕ) (v w : Val) (o : Bool) (left : drop i vs ≡ v ∷ drop (i + 1) vs) (right : drop i ws ≡ w ∷ drop (i + 1) ws) (test : (o ≡ true) ↔ (v ≡ w)) (sofar : same_keys vs ws ≡ same_keys (drop i vs) (drop i ws)) where
  here : same_keys vs ws ≡ same_keys (v ∷ drop (i + 1) vs) (w ∷ drop (i + 1) ws)
  here = sofar ∙ (λ k. same_keys (left k) (right k))

  pub told_apart : o ≡ false → false ≡ same_keys vs ws
  told_apart no_test = one_way (same_keys vs ws) (λ all.
      let whole = same_keys-exact (v ∷ drop (i + 1) vs) (w ∷ drop (i + 1) ws) (sym here ∙ all) in
      let one : v ≡ w = ap (head_or v) whole in
      let holds = test.1 one in
      cc)

  pub still_alike : o ≡ true → same_keys vs ws ≡ same_keys (drop (i + 1) vs) (drop (i + 1) ws)
  still_alike holds = here ∙ after v w (drop (i + 1) vs) (drop (i + 1) ws) (test.0 holds)

pub alike : (vs ws : List Val) (i : ℕ) → length vs ≤ i → length ws ≤ i → same_keys vs ws ≡ same_keys (drop i vs) (drop i ws) → true ≡ same_keys vs ws
alike vs ws i h k sofar = sym (sofar ∙ (λ j. same_keys (drop_all i vs h j) (drop_all i ws k j)))

pub unlike : (vs ws : List Val) → (length vs ≡ length ws → ⊥) → false ≡ same_keys vs ws
unlike vs ws h = one_way (same_keys vs ws) (λ e. h (ap length (same_keys-exact vs ws e)))

-- lists of one key each
pub one_alike : (vs ws : List Val) (v w : Val) (o : Bool) → length vs ≤ 1 → length ws ≤ 1 → vs ≡ v ∷ drop 1 vs → ws ≡ w ∷ drop 1 ws → (o ≡ true) ↔ (v ≡ w) → o ≡ same_keys vs ws
one_alike vs ws v w true h k left right test = alike vs ws 1 h k (still_alike vs ws 0 v w true left right test refl refl)
one_alike vs ws v w false h k left right test = told_apart vs ws 0 v w false left right test refl refl

-- one more of a list passes
pub all_more : {A : Type 0} (P : A → Type 0) (xs : List A) (i : ℕ) (x : A) → Some x ≡ slice_get xs i → P x → All P (take i xs) → All P (take (i + 1) xs)
all_more {A = A} P xs i x h p sofar = subst (λ l. All P l) (on xs i h ∙ ap (λ n. take n xs) (sym (add-one i))) (All-append P (take i xs) (x ∷ []) sofar (All-cons P x [] p (All-nil P)))
  where
    on : (ys : List A) (j : ℕ) → Some x ≡ slice_get ys j → take j ys ++ x ∷ [] ≡ take (suc j) ys
    on [] j e = absurd (cc)
    on (y ∷ ys) zero e = let same : x ≡ y = cc in ap (λ z. z ∷ []) same
    on (y ∷ ys) (suc j) e = ap (λ l. y ∷ l) (on ys j e)

-- what passes at each place
pub passes_at : {A : Type 0} (P : A → Type 0) (xs : List A) (i : ℕ) (x : A) → Some x ≡ slice_get xs i → All P xs → P x
passes_at P [] i x e h = absurd (cc)
passes_at P (y ∷ xs) zero x e h = let same : y ≡ x = cc in subst P same (h 0 y (omega arith))
passes_at P (y ∷ xs) (suc i) x e h = passes_at P xs i x e (All-tail P y xs h)

-- there is something at each place below the end
pub none_past : {A : Type 0} (xs : List A) (i : ℕ) → i < length xs → None ≡ slice_get xs i → ⊥
none_past [] i b e = absurd (omega arith)
none_past (x ∷ xs) zero b e = absurd (cc)
none_past (x ∷ xs) (suc i) b e = none_past xs i (omega arith) e
