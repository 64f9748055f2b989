-- Partials that are joined one by one.
use Rattle.std.proofs.Common.{◌≡◌, ℕ, zero, suc, ◌+◌, ◌<◌, List, [], ◌∷◌, ◌++◌, length, get_or, set, take, map, refl, sym, ap, ◌∙◌, subst, arith, add-one}
use Rattle.std.proofs.lemmas.List.{get_or-map, length-map, map-set, map-append}
use Rattle.std.proofs.Math.Seq.{map-set_same, take-suc}
use Rattle.tree_meaning.specs.declared.AggName.{AggName}
use Rattle.agg_meaning.specs.Partials.{Partial, partial_of, joined}
use Rattle.hash_agg.specs.Groups.{joined_all, partials_of}
use Rattle.agg_laws.specs.declared.seen.Seen.{Seen}
use Rattle.agg_laws.specs.declared.any_part.AnyPart.{AnyPart}
use Rattle.agg_laws.specs.Alone.{alone}
use Rattle.agg_laws.specs.Room.{HasRoom, HaveRoom}
use Rattle.agg_laws.specs.Parts.{part_name, part_kept}
use Rattle.hash_agg.specs.Items.{alone_all, EachHasRoom, EachTwoHaveRoom}

-- the first i are joined
abbrev pub partially : ℕ → List AggName → List Partial → List Partial → List Partial
partially zero ns ss ts = ss
partially (suc i) (n ∷ ns) (s ∷ ss) (t ∷ ts) = joined n s t ∷ partially i ns ss ts
partially (suc i) ns ss ts = ss

pub partially-at : (i : ℕ) (ns : List AggName) (ss ts : List Partial) (d : Partial) → get_or (partially i ns ss ts) i d ≡ get_or ss i d
partially-at zero ns ss ts d = refl
partially-at (suc i) (n ∷ ns) (s ∷ ss) (t ∷ ts) d = partially-at i ns ss ts d
partially-at (suc i) [] ss ts d = refl
partially-at (suc i) (n ∷ ns) [] ts d = refl
partially-at (suc i) (n ∷ ns) (s ∷ ss) [] d = refl

pub partially-step : (i : ℕ) (ns : List AggName) (ss ts : List Partial) (n : AggName) (s t : Partial) → i < length ns → i < length ss → i < length ts → set (partially i ns ss ts) i (joined (get_or ns i n) (get_or ss i s) (get_or ts i t)) ≡ partially (suc i) ns ss ts
partially-step zero (m ∷ ns) (r ∷ ss) (u ∷ ts) n s t a b c = refl
partially-step (suc i) (m ∷ ns) (r ∷ ss) (u ∷ ts) n s t a b c = ap (λ l. joined m r u ∷ l) (partially-step i ns ss ts n s t (omega arith) (omega arith) (omega arith))
partially-step i [] ss ts n s t a b c = absurd (omega arith)
partially-step i (m ∷ ns) [] ts n s t a b c = absurd (omega arith)
partially-step i (m ∷ ns) (r ∷ ss) [] n s t a b c = absurd (omega arith)

pub partially-all : (i : ℕ) (ns : List AggName) (ss ts : List Partial) → length ns ≡ i → length ss ≡ i → length ts ≡ i → partially i ns ss ts ≡ joined_all ns ss ts
partially-all zero [] [] [] a b c = refl
partially-all (suc i) (m ∷ ns) (r ∷ ss) (u ∷ ts) a b c = ap (λ l. joined m r u ∷ l) (partially-all i ns ss ts (omega arith) (omega arith) (omega arith))
partially-all i [] (r ∷ ss) ts a b c = absurd (omega arith)
partially-all i [] [] (u ∷ ts) a b c = absurd (omega arith)
partially-all (suc i) [] [] [] a b c = absurd (omega arith)
partially-all i (m ∷ ns) [] ts a b c = absurd (omega arith)
partially-all i (m ∷ ns) (r ∷ ss) [] a b c = absurd (omega arith)
partially-all zero (m ∷ ns) (r ∷ ss) (u ∷ ts) a b c = absurd (omega arith)

pub length-alone : (ns : List AggName) (is : List Seen) → length ns ≡ length is → length (alone_all ns is) ≡ length ns
length-alone [] is h = refl
length-alone (n ∷ ns) [] h = absurd (omega arith)
length-alone (n ∷ ns) (x ∷ is) h = let rest = length-alone ns is (omega arith) in omega arith

pub alone-at : (i : ℕ) (ns : List AggName) (is : List Seen) (n : AggName) (x : Seen) (t : Partial) → i < length ns → i < length is → get_or (alone_all ns is) i t ≡ alone (get_or ns i n) (get_or is i x)
alone-at i [] is n x t a b = absurd (omega arith)
alone-at i (m ∷ ns) [] n x t a b = absurd (omega arith)
alone-at zero (m ∷ ns) (y ∷ is) n x t a b = refl
alone-at (suc i) (m ∷ ns) (y ∷ is) n x t a b = alone-at i ns is n x t (omega arith) (omega arith)

module _ (parts old : List AnyPart) (i : ℕ) (p : AnyPart) (below : i < length parts) (long : length parts ≡ length old) (names : map part_name parts ≡ map part_name old) where
  -- what stands at i is as it was
  pub name_here : part_name (get_or parts i p) ≡ get_or (map part_name old) i (part_name p)
  name_here = sym (get_or-map part_name parts i p (part_name p) below) ∙ ap (λ l. get_or l i (part_name p)) names

  module _ (ts : List Partial) (states : map part_kept parts ≡ partially i (map part_name old) (map part_kept old) ts) where
    pub state_here : part_kept (get_or parts i p) ≡ get_or (map part_kept old) i (part_kept p)
    state_here =
        sym (get_or-map part_kept parts i p (part_kept p) below) ∙ ap (λ l. get_or l i (part_kept p)) states ∙ partially-at i (map part_name old) (map part_kept old) ts (part_kept p)

    pub room_here : EachHasRoom (map part_name old) (map part_kept old) → HasRoom (part_name (get_or parts i p)) (part_kept (get_or parts i p))
    room_here room =
        let there : i < length (map part_name old) = let l = length-map old part_name in omega arith in
        subst (λ (z : AggName × Partial). HasRoom z.0 z.1) (λ j. (sym name_here j, sym state_here j)) (room i (part_name p) (part_kept p) there)

    pub two_room_here : (others : List Partial) (t u : Partial) → u ≡ get_or others i t → EachTwoHaveRoom (map part_name old) (map part_kept old) others → HaveRoom (part_name (get_or parts i p)) (part_kept (get_or parts i p)) u
    two_room_here others t u e room =
        let there : i < length (map part_name old) = let l = length-map old part_name in omega arith in
        subst (λ (z : AggName × (Partial × Partial)). HaveRoom z.0 z.1.0 z.1.1) (λ j. (sym name_here j, (sym state_here j, sym e j))) (room i (part_name p) (part_kept p) t there)

    pub more_names : (q : AnyPart) → part_name q ≡ part_name (get_or parts i p) → map part_name (set parts i q) ≡ map part_name old
    more_names q e = map-set_same part_name parts i q p e ∙ names

    pub more_states : (q : AnyPart) (t : Partial) → length ts ≡ length old → part_kept q ≡ joined (part_name (get_or parts i p)) (part_kept (get_or parts i p)) (get_or ts i t) → map part_kept (set parts i q) ≡ partially (i + 1) (map part_name old) (map part_kept old) ts
    more_states q t few e =
        let now : part_kept q ≡ joined (get_or (map part_name old) i (part_name p)) (get_or (map part_kept old) i (part_kept p)) (get_or ts i t) =
        e ∙ (λ j. joined (name_here j) (state_here j) (get_or ts i t)) in
        let ln = length-map old part_name in
        let ls = length-map old part_kept in
        map-set part_kept parts i q ∙ (λ j. set (states j) i (now j)) ∙ partially-step i (map part_name old) (map part_kept old) ts (part_name p) (part_kept p) t (omega arith) (omega arith) (omega arith) ∙ ap (λ k. partially k (map part_name old) (map part_kept old) ts) (sym (add-one i))

-- one more element of a mapped list
pub taken : {A B : Type 0} (f : A → B) (xs : List A) (i : ℕ) (x : A) (y : B) (old new : List B) → i < length xs → y ≡ f (get_or xs i x) → new ≡ old ++ y ∷ [] → old ≡ take i (map f xs) → new ≡ take (i + 1) (map f xs)
taken f xs i x y old new h e is sofar =
    let l = length-map xs f in
    is ∙ ap (λ k. k ++ y ∷ []) sofar ∙ ap (λ z. take i (map f xs) ++ z ∷ []) (e ∙ sym (get_or-map f xs i x (f x) h)) ∙ sym (take-suc (map f xs) i (f x) (omega arith)) ∙ ap (λ n. take n (map f xs)) (sym (add-one i))

-- the same, of elements that are seen by g
pub taken_seen : {A B C : Type 0} (f : A → B) (g : C → B) (xs : List A) (i : ℕ) (x : A) (y : C) (old new : List C) → i < length xs → g y ≡ f (get_or xs i x) → new ≡ old ++ y ∷ [] → map g old ≡ take i (map f xs) → map g new ≡ take (i + 1) (map f xs)
taken_seen f g xs i x y old new h e is sofar =
    taken f xs i x (g y) (map g old) (map g new) h e (ap (map g) is ∙ map-append g old (y ∷ [])) sofar

-- the same, of elements that are seen as those of the list
pub taken_named : {A C : Type 0} (g : C → A) (xs : List A) (i : ℕ) (x : A) (y : C) (old new : List C) → i < length xs → g y ≡ get_or xs i x → new ≡ old ++ y ∷ [] → map g old ≡ take i xs → map g new ≡ take (i + 1) xs
taken_named g xs i x y old new h e is sofar =
    ap (map g) is ∙ map-append g old (y ∷ []) ∙ ap (λ k. k ++ g y ∷ []) sofar ∙ ap (λ z. take i xs ++ z ∷ []) e ∙ sym (take-suc xs i x h) ∙ ap (λ n. take n xs) (sym (add-one i))

-- the partials of no rows
pub no_partials : (names : List AggName) → map (λ n. partial_of n []) names ≡ partials_of names []
no_partials [] = refl
no_partials (n ∷ ns) = ap (λ l. partial_of n [] ∷ l) (no_partials ns)
