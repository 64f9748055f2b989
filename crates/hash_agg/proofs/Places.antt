-- Entries of key lists that are apart.
use Rattle.std.proofs.Common.{◌≡◌, ℕ, zero, suc, ◌<◌, List, [], ◌∷◌, ◌++◌, length, get_or, set, take, map, ◌+◌, add-one, Option, None, Some, Bool, true, false, refl, sym, ap, ◌∙◌, arith, cond}
use Rattle.std.proofs.Math.Seq.{take-suc}
use Rattle.std.proofs.lemmas.List.{get_or-map, length-map, get_or_default}
use Rattle.value_meaning.specs.Val.{Val}
use Rattle.tree_meaning.specs.declared.AggName.{AggName}
use Rattle.agg_meaning.specs.Partials.{Partial}
use Rattle.agg_meaning.specs.Keys.{same_keys}
use Rattle.hash_agg.specs.Groups.{Entry, partials_at, AreApart, joined_all, merged_at}
use Rattle.agg_meaning.proofs.Keys.{same_keys-exact, same_keys-same}
use Rattle.hash_agg.specs.declared.group.Group.{Group}
use Rattle.hash_agg.specs.Entries.{entry_of}
use Rattle.hash_agg.specs.Adds.{only_at}

-- a test by cases
pub by_test : {P : Type 0} (b : Bool) → (b ≡ true → P) → (b ≡ false → P) → P
by_test true f g = f refl
by_test false f g = g refl

pub hit : (ks : List Val) (e : Entry) (es : List Entry) → same_keys ks e.0 ≡ true → partials_at ks (e ∷ es) ≡ Some e.1
hit ks e es h = rw h refl

pub miss : (ks : List Val) (e : Entry) (es : List Entry) → same_keys ks e.0 ≡ false → partials_at ks (e ∷ es) ≡ partials_at ks es
miss ks e es h = rw h refl

pub itself : (ks ls : List Val) → ls ≡ ks → same_keys ks ls ≡ true
itself ks ls e = rw e (same_keys-same ks)

-- at its own key list an entry is found
pub found_at : (es : List Entry) (i : ℕ) (d : Entry) (ks : List Val) → AreApart es → i < length es → (get_or es i d).0 ≡ ks → partials_at ks es ≡ Some (get_or es i d).1
found_at [] i d ks a h e = absurd (omega arith)
found_at (f ∷ fs) zero d ks a h e = hit ks f fs (itself ks f.0 e)
found_at (f ∷ fs) (suc i) d ks a h e =
    let later = found_at fs i d ks a.1 (omega arith) e in
    by_test (same_keys ks f.0)
    (λ t. let same = same_keys-exact ks f.0 t in let none : partials_at ks fs ≡ None = ap (λ l. partials_at l fs) same ∙ a.0 in cc)
    (λ t. miss ks f fs t ∙ later)

-- the partials of an entry are replaced
pub replaced : (es : List Entry) (i : ℕ) (d : Entry) (ks : List Val) (ss : List Partial) (ls : List Val) → AreApart es → i < length es → (get_or es i d).0 ≡ ks → partials_at ls (set es i (ks, ss)) ≡ cond (same_keys ls ks) (Some ss) (partials_at ls es)
replaced [] i d ks ss ls a h e = absurd (omega arith)
replaced (f ∷ fs) zero d ks ss ls a h e =
    by_test (same_keys ls ks)
    (λ t. rw t refl)
    (λ t. let other : same_keys ls f.0 ≡ false = ap (same_keys ls) e ∙ t in miss ls (ks, ss) fs t ∙ sym (miss ls f fs other) ∙ (rw t refl))
replaced (f ∷ fs) (suc i) d ks ss ls a h e =
    by_test (same_keys ls f.0)
    (λ t.
    let later = found_at fs i d ks a.1 (omega arith) e in
    let apart : same_keys ls ks ≡ false = by_test (same_keys ls ks) (λ u. let one = same_keys-exact ls ks u in let two = same_keys-exact ls f.0 t in let none : partials_at ks fs ≡ None = ap (λ l. partials_at l fs) (sym one ∙ two) ∙ a.0 in cc) (λ u. u) in
    hit ls f (set fs i (ks, ss)) t ∙ sym (hit ls f fs t) ∙ (rw apart refl))
    (λ t. miss ls f (set fs i (ks, ss)) t ∙ replaced fs i d ks ss ls a.1 (omega arith) e ∙ ap (cond (same_keys ls ks) (Some ss)) (sym (miss ls f fs t)))

none_replaced : (es : List Entry) (i : ℕ) (d : Entry) (ks : List Val) (ss : List Partial) (ls : List Val) → (get_or es i d).0 ≡ ks → i < length es → partials_at ls es ≡ None → partials_at ls (set es i (ks, ss)) ≡ None
none_replaced [] i d ks ss ls e h n = absurd (omega arith)
none_replaced (f ∷ fs) zero d ks ss ls e h n =
    by_test (same_keys ls f.0)
    (λ t. let there = hit ls f fs t in cc)
    (λ t. let other : same_keys ls ks ≡ false = ap (same_keys ls) (sym e) ∙ t in miss ls (ks, ss) fs other ∙ sym (miss ls f fs t) ∙ n)
none_replaced (f ∷ fs) (suc i) d ks ss ls e h n =
    by_test (same_keys ls f.0)
    (λ t. let there = hit ls f fs t in cc)
    (λ t. miss ls f (set fs i (ks, ss)) t ∙ none_replaced fs i d ks ss ls e (omega arith) (sym (miss ls f fs t) ∙ n))

pub apart_replaced : (es : List Entry) (i : ℕ) (d : Entry) (ks : List Val) (ss : List Partial) → AreApart es → i < length es → (get_or es i d).0 ≡ ks → AreApart (set es i (ks, ss))
apart_replaced [] i d ks ss a h e = absurd (omega arith)
apart_replaced (f ∷ fs) zero d ks ss a h e = (ap (λ l. partials_at l fs) (sym e) ∙ a.0, a.1)
apart_replaced (f ∷ fs) (suc i) d ks ss a h e = (none_replaced fs i d ks ss f.0 e (omega arith) a.0, apart_replaced fs i d ks ss a.1 (omega arith) e)

-- of two, the first that is there
abbrev pub first_of : Option (List Partial) → Option (List Partial) → Option (List Partial)
first_of None b = b
first_of (Some a) b = Some a

pub partials_at-append : (ls : List Val) (es fs : List Entry) → partials_at ls (es ++ fs) ≡ first_of (partials_at ls es) (partials_at ls fs)
partials_at-append ls [] fs = refl
partials_at-append ls (e ∷ es) fs =
    by_test (same_keys ls e.0)
    (λ t. hit ls e (es ++ fs) t ∙ ap (λ o. first_of o (partials_at ls fs)) (sym (hit ls e es t)))
    (λ t. miss ls e (es ++ fs) t ∙ partials_at-append ls es fs ∙ ap (λ o. first_of o (partials_at ls fs)) (sym (miss ls e es t)))

pub apart_pushed : (es : List Entry) (ks : List Val) (ss : List Partial) → AreApart es → partials_at ks es ≡ None → AreApart (es ++ (ks, ss) ∷ [])
apart_pushed [] ks ss a n = (refl, tt)
apart_pushed (e ∷ es) ks ss a n =
    let differs : same_keys ks e.0 ≡ false = by_test (same_keys ks e.0) (λ t. let there = hit ks e es t in cc) (λ t. t) in
    let turned : same_keys e.0 ks ≡ false = by_test (same_keys e.0 ks) (λ t. let same = itself ks e.0 (same_keys-exact e.0 ks t) in cc) (λ t. t) in
    let later : partials_at ks es ≡ None = sym (miss ks e es differs) ∙ n in
    (partials_at-append e.0 es ((ks, ss) ∷ []) ∙ ap (λ o. first_of o (partials_at e.0 ((ks, ss) ∷ []))) a.0 ∙ miss e.0 (ks, ss) [] turned, apart_pushed es ks ss a.1 later)

module _ (names : List AggName) where
  pub merged_none : (o : Option (List Partial)) → merged_at names o None ≡ o
  merged_none None = refl
  merged_none (Some ss) = refl

  -- a row of a key list that was there
  pub joined_there : (es : List Entry) (i : ℕ) (d : Entry) (ks : List Val) (old more : List Partial) → AreApart es → i < length es → (get_or es i d).0 ≡ ks → (get_or es i d).1 ≡ old → (ls : List Val) → partials_at ls (set es i (ks, joined_all names old more)) ≡ merged_at names (partials_at ls es) (only_at ks more ls)
  joined_there es i d ks old more a h e g ls =
      replaced es i d ks (joined_all names old more) ls a h e
      ∙ by_test (same_keys ls ks)
      (λ t.
      let is : partials_at ls es ≡ Some old = ap (λ l. partials_at l es) (same_keys-exact ls ks t) ∙ found_at es i d ks a h e ∙ ap Some g in
      rw (t, is) refl)
      (λ t. (rw t refl) ∙ sym (merged_none (partials_at ls es)) ∙ (rw t refl))

  -- one that wasn't
  pub joined_new : (es : List Entry) (ks : List Val) (more : List Partial) → partials_at ks es ≡ None → (ls : List Val) → partials_at ls (es ++ (ks, more) ∷ []) ≡ merged_at names (partials_at ls es) (only_at ks more ls)
  joined_new es ks more n ls =
      partials_at-append ls es ((ks, more) ∷ [])
      ∙ by_test (same_keys ls ks)
      (λ t. let is : partials_at ls es ≡ None = ap (λ l. partials_at l es) (same_keys-exact ls ks t) ∙ n in rw (is, t) refl)
      (λ t. (rw t (kept (partials_at ls es))))
    where
      kept : (o : Option (List Partial)) → first_of o None ≡ merged_at names o None
      kept None = refl
      kept (Some ss) = refl

-- a place further none is found
pub none_more : (ks : List Val) (es : List Entry) (i : ℕ) (d : Entry) → i < length es → partials_at ks (take i es) ≡ None → same_keys ks (get_or es i d).0 ≡ false → partials_at ks (take (i + 1) es) ≡ None
none_more ks es i d h n t =
    ap (λ k. partials_at ks (take k es)) (add-one i) ∙ ap (partials_at ks) (take-suc es i d h) ∙ partials_at-append ks (take i es) (get_or es i d ∷ []) ∙ ap (λ o. first_of o (partials_at ks (get_or es i d ∷ []))) n ∙ miss ks (get_or es i d) [] t

-- the entry of a group at a place
pub entry_at : (all : List Group) (i : ℕ) (g : Group) (e : Entry) → i < length all → g ≡ get_or all i g → get_or (map entry_of all) i e ≡ entry_of g
entry_at all i g e h is =
    let l = length-map all entry_of in
    get_or_default (map entry_of all) i e (entry_of g) (omega arith) ∙ get_or-map entry_of all i g (entry_of g) h ∙ ap entry_of (sym is)
