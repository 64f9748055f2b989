-- Groups that are joined one by one, from the last of the others on.
use Rattle.std.proofs.Common.{◌≡◌, ℕ, ◌+◌, ◌<◌, ◌≤◌, take, map, length, get_or, add-one, List, [], ◌∷◌, ◌++◌, Option, None, Some, false, refl, sym, ap, subst, ◌∙◌, arith, length-append}
use Rattle.std.proofs.Math.Seq.{take-suc}
use Rattle.std.proofs.lemmas.List.{length-map, get_or_append_left}
use Rattle.std.proofs.lemmas.Grind.{get_or_at_push}
use Rattle.value_meaning.specs.Val.{Val}
use Rattle.tree_meaning.specs.declared.AggName.{AggName}
use Rattle.agg_meaning.specs.Partials.{Partial}
use Rattle.agg_meaning.specs.Keys.{same_keys}
use Rattle.hash_agg.specs.Groups.{Entry, partials_at, AreApart, merged_at}
use Rattle.agg_meaning.proofs.Keys.{same_keys-exact, same_keys-same}
use Rattle.hash_agg.specs.declared.group.Group.{Group}
use Rattle.hash_agg.specs.Entries.{entry_of, names_of}
use Rattle.hash_agg.proofs.Rows.{HaveNames}
use Rattle.hash_agg.specs.Adds.{only_at, count_new, one_if_none}
use Rattle.hash_agg.proofs.Places.{entry_at, by_test, hit, miss, itself, first_of, partials_at-append, merged_none}

-- of a key list: what is left of the others, what is held now, what was held, and what the others were
abbrev pub Progress : List AggName → Option (List Partial) → Option (List Partial) → Option (List Partial) → Option (List Partial) → Type 0
Progress names None now old other = now ≡ merged_at names old other
Progress names (Some ts) now old other = (now ≡ old) × (other ≡ Some ts)

first_none : (o p : Option (List Partial)) → first_of o p ≡ None → (o ≡ None) × (p ≡ None)
first_none None p h = (refl, h)
first_none (Some a) p h = cc

none_after : (o : Option (List Partial)) → first_of o None ≡ o
none_after None = refl
none_after (Some a) = refl

pub turned : (ks ls : List Val) → same_keys ks ls ≡ false → same_keys ls ks ≡ false
turned ks ls h = by_test (same_keys ls ks) (λ t. let same = itself ks ls (same_keys-exact ls ks t) in cc) (λ t. t)

pub apart_front : (es : List Entry) (e : Entry) → AreApart (es ++ e ∷ []) → AreApart es × (partials_at e.0 es ≡ None)
apart_front [] e a = (tt, refl)
apart_front (f ∷ fs) e a =
    let later = apart_front fs e a.1 in
    let two = first_none (partials_at f.0 fs) (partials_at f.0 (e ∷ [])) (sym (partials_at-append f.0 fs (e ∷ [])) ∙ a.0) in
    let differs : same_keys f.0 e.0 ≡ false = by_test (same_keys f.0 e.0) (λ t. let there = hit f.0 e [] t in let none = two.1 in cc) (λ t. t) in
    ((two.0, later.0), miss e.0 f fs (turned f.0 e.0 differs) ∙ later.1)

pub last_found : (es : List Entry) (e : Entry) → AreApart (es ++ e ∷ []) → partials_at e.0 (es ++ e ∷ []) ≡ Some e.1
last_found es e a =
    let none = (apart_front es e a).1 in
    partials_at-append e.0 es (e ∷ []) ∙ ap (λ o. first_of o (partials_at e.0 (e ∷ []))) none ∙ hit e.0 e [] (same_keys-same e.0)

module _ (names : List AggName) (rest : List Entry) (e : Entry) (now old other : List Val → Option (List Partial)) (apart : AreApart (rest ++ e ∷ [])) (sofar : (ks : List Val) → Progress names (partials_at ks (rest ++ e ∷ [])) (now ks) (old ks) (other ks)) where
  -- the last of the others hasn't been joined yet
  pub at_last : (now e.0 ≡ old e.0) × (other e.0 ≡ Some e.1)
  at_last = subst (λ o. Progress names o (now e.0) (old e.0) (other e.0)) (last_found rest e apart) (sofar e.0)

  pub joined_last : (new : List Val → Option (List Partial)) → ((ks : List Val) → new ks ≡ merged_at names (now ks) (only_at e.0 e.1 ks)) → (ks : List Val) → Progress names (partials_at ks rest) (new ks) (old ks) (other ks)
  joined_last new step ks = by_test (same_keys ks e.0)
      (λ t.
      let same = same_keys-exact ks e.0 t in
      let none : partials_at ks rest ≡ None = ap (λ l. partials_at l rest) same ∙ (apart_front rest e apart).1 in
      let last = at_last in
      let now_is : now ks ≡ old ks = ap now same ∙ last.0 ∙ ap old (sym same) in
      let other_is : other ks ≡ Some e.1 = ap other same ∙ last.1 in
      let only_is : only_at e.0 e.1 ks ≡ Some e.1 = rw t refl in
      let new_is : new ks ≡ merged_at names (old ks) (other ks) = step ks ∙ (λ i. merged_at names (now_is i) ((only_is ∙ sym other_is) i)) in
      subst (λ o. Progress names o (new ks) (old ks) (other ks)) (sym none) new_is)
      (λ t.
      let only_is : only_at e.0 e.1 ks ≡ None = rw t refl in
      let new_is : new ks ≡ now ks = step ks ∙ ap (merged_at names (now ks)) only_is ∙ merged_none names (now ks) in
      let rest_is : partials_at ks (rest ++ e ∷ []) ≡ partials_at ks rest = partials_at-append ks rest (e ∷ []) ∙ ap (first_of (partials_at ks rest)) (miss ks e [] t) ∙ none_after (partials_at ks rest) in
      subst (λ n. Progress names (partials_at ks rest) n (old ks) (other ks)) (sym new_is) (subst (λ o. Progress names o (now ks) (old ks) (other ks)) rest_is (sofar ks)))

pub count_last : (there es : List Entry) (e : Entry) → count_new there (es ++ e ∷ []) ≡ count_new there es + one_if_none (partials_at e.0 there)
count_last there [] e = omega arith
count_last there (f ∷ fs) e = let rest = count_last there fs e in omega arith

pub none_progress : (names : List AggName) (o t : Option (List Partial)) → Progress names t o o t
none_progress names o None = sym (merged_none names o)
none_progress names o (Some ts) = (refl, refl)

pub one_at_most : (o : Option (List Partial)) → one_if_none o ≤ 1
one_at_most None = omega arith
one_at_most (Some ss) = omega arith

-- one more entry is counted
pub count_more : (there : List Entry) (more : List Group) (i : ℕ) (g : Group) → i < length more → g ≡ get_or more i g → count_new there (take (i + 1) (map entry_of more)) ≡ count_new there (take i (map entry_of more)) + one_if_none (partials_at g.keys there)
count_more there more i g h is =
    let l = length-map more entry_of in
    ap (λ k. count_new there (take k (map entry_of more))) (add-one i) ∙ ap (count_new there) (take-suc (map entry_of more) i (entry_of g) (omega arith)) ∙ ap (λ e. count_new there (take i (map entry_of more) ++ e ∷ [])) (entry_at more i g (entry_of g) h is) ∙ count_last there (take i (map entry_of more)) (entry_of g)

-- the last group and those before it
pub last_named : (names : List AggName) (rest : List Group) (g : Group) → HaveNames names (rest ++ g ∷ []) → names_of g ≡ names
last_named names rest g named =
    let l = length-append rest (g ∷ []) in
    sym (ap names_of ((get_or_at_push rest g).1)) ∙ named (length rest) g (omega arith)

pub front_named : (names : List AggName) (rest : List Group) (g : Group) → HaveNames names (rest ++ g ∷ []) → HaveNames names rest
front_named names rest g named k d below =
    let l = length-append rest (g ∷ []) in
    sym (ap names_of (get_or_append_left rest (g ∷ []) d k below)) ∙ named k d (omega arith)
