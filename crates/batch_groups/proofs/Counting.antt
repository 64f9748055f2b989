-- How many distinct lists of keys rows have, and how many groups stand for them.
use Rattle.std.proofs.Common.{◌≡◌, ℕ, suc, ◌+◌, ◌<◌, ◌≤◌, List, [], ◌∷◌, ◌++◌, length, map, Bool, true, false, cond, Option, None, Some, refl, sym, ap, subst, ◌∙◌, arith}
use Rattle.std.specs.Prelude.{◌||◌, is_some}
use Rattle.std.specs.List.{list_any, filter}
use Rattle.std.specs.List.Sorted.{IsPermutation}
use Rattle.std.proofs.lemmas.List.{length-map, map-append}
use Rattle.std.proofs.lemmas.List.Folds.{list_any-append}
use Rattle.std.proofs.lemmas.List.Sorted.{IsPermutation-refl, IsPermutation-sym, IsPermutation-trans, IsPermutation-cons, IsPermutation-map, IsPermutation-middle, IsPermutation-to_front, IsPermutation-append_comm, length_permutation}
use Rattle.value_meaning.specs.Val.{Val}
use Rattle.tree_meaning.specs.declared.AggName.{AggName}
use Rattle.agg_meaning.specs.Keys.{same_keys, with_keys, distinct_keys}
use Rattle.agg_meaning.proofs.Keys.{same_keys-exact, same_keys-same}
use Rattle.agg_meaning.proofs.DistinctKeys.{distinct_shuffled}
use Rattle.hash_agg.specs.Groups.{Keyed, Entry, has_keys, group_of, group_partials, partials_at, AreApart, GroupsStandFor}
use Rattle.hash_agg.specs.Adds.{count_new, one_if_none}
use Rattle.hash_agg.proofs.Places.{by_test, hit, miss}
use Rattle.agg_meaning.specs.Partials.{Partial}
use Rattle.batch_groups.specs.Keyed.{count_keys}

abbrev Keys : Type 0
Keys = List Val

-- whether keys are among others
abbrev pub has : Keys → List Keys → Bool
has k l = list_any (same_keys k) l

-- each list of keys stands once
abbrev pub AreOnce : List Keys → Type 0
AreOnce [] = Unit {0}
AreOnce (x ∷ xs) = (has x xs ≡ false) × AreOnce xs

or_false : (a b : Bool) → (a || b) ≡ false → (a ≡ false) × (b ≡ false)
or_false true b h = absurd (cc)
or_false false b h = (refl, h)

or_right : (a b : Bool) → b ≡ true → (a || b) ≡ true
or_right true b h = refl
or_right false b h = h

or_swap : (a b : Bool) → (a || b) ≡ (b || a)
or_swap true true = refl
or_swap true false = refl
or_swap false true = refl
or_swap false false = refl

differ : (k x : Keys) → same_keys k x ≡ false → same_keys x k ≡ false
differ k x h = by_test (same_keys x k) (λ t. let e = same_keys-exact x k t in let s = same_keys-same x in let g : same_keys k x ≡ true = ap (λ l. same_keys l x) (sym e) ∙ s in absurd (cc)) (λ t. t)

with_there : (x : Keys) (d : List Keys) → has x d ≡ true → with_keys x d ≡ d
with_there x d h = rw h refl

with_new : (x : Keys) (d : List Keys) → has x d ≡ false → with_keys x d ≡ x ∷ d
with_new x d h = rw h refl

one_more : (k x : Keys) (l : List Keys) → ((j : Keys) → has j (distinct_keys l) ≡ has j l) → has k (with_keys x (distinct_keys l)) ≡ has k (x ∷ l)
one_more k x l same = by_test (has x (distinct_keys l))
    (λ t.
    ap (has k) (with_there x (distinct_keys l) t) ∙ same k
    ∙ by_test (same_keys k x)
    (λ u.
    let e = same_keys-exact k x u in
    let g : has k l ≡ true = ap (λ y. has y l) e ∙ sym (same x) ∙ t in
    g ∙ (rw u refl))
    (λ u. rw u refl))
    (λ t. ap (has k) (with_new x (distinct_keys l) t) ∙ ap (λ b. same_keys k x || b) (same k))

-- the distinct ones are the same ones
pub has_distinct : (k : Keys) (l : List Keys) → has k (distinct_keys l) ≡ has k l
has_distinct k [] = refl
has_distinct k (x ∷ l) = one_more k x l (λ j. has_distinct j l)

pub distinct_once : (l : List Keys) → AreOnce (distinct_keys l)
distinct_once [] = tt
distinct_once (x ∷ l) = by_test (has x (distinct_keys l))
    (λ t. subst AreOnce (sym (with_there x (distinct_keys l) t)) (distinct_once l))
    (λ t. subst AreOnce (sym (with_new x (distinct_keys l) t)) (t, distinct_once l))

pub once_distinct : (l : List Keys) → AreOnce l → distinct_keys l ≡ l
once_distinct [] a = refl
once_distinct (x ∷ l) a = ap (with_keys x) (once_distinct l a.1) ∙ with_new x l a.0

-- a list with the keys in it
record Split (k : Keys) (ys : List Keys) : Type 0 where
  before : List Keys
  after : List Keys
  is : ys ≡ before ++ k ∷ after

split : (k : Keys) (ys : List Keys) → has k ys ≡ true → Split k ys
split k [] h = absurd (cc)
split k (y ∷ ys) h = by_test (same_keys k y)
    (λ t. let e = same_keys-exact k y t in record { before = []; after = ys; is = ap (λ x. x ∷ ys) (sym e) })
    (λ t.
    let g : has k ys ≡ true = ap (λ b. b || has k ys) (sym t) ∙ h in
    let s = split k ys g in
    record { before = y ∷ s.before; after = s.after; is = ap (λ l. y ∷ l) s.is })

has_append : (k : Keys) (xs ys : List Keys) → has k (xs ++ ys) ≡ (has k xs || has k ys)
has_append k xs ys = list_any-append (same_keys k) xs ys

both_false : (k : Keys) (xs ys : List Keys) → has k xs ≡ false → has k ys ≡ false → has k (xs ++ ys) ≡ false
both_false k xs ys h g = has_append k xs ys ∙ (rw (h, g) refl)

-- without keys that stand once
without : (before after : List Keys) (k : Keys) → AreOnce (before ++ k ∷ after) → AreOnce (before ++ after) × (has k (before ++ after) ≡ false)
without [] after k a = (a.1, a.0)
without (b ∷ bs) after k a =
    let rest = without bs after k a.1 in
    let two = or_false (has b bs) (has b (k ∷ after)) (sym (has_append b bs (k ∷ after)) ∙ a.0) in
    let more = or_false (same_keys b k) (has b after) two.1 in
    let none : same_keys k b ≡ false = differ b k more.0 in
    let others = rest.1 in
    ((both_false b bs after two.0 more.1, rest.0), rw none others)

-- lists of the same keys, each once
pub same_members : (xs ys : List Keys) → AreOnce xs → AreOnce ys → ((k : Keys) → has k xs ≡ has k ys) → IsPermutation xs ys
same_members [] [] a b h = IsPermutation-refl []
same_members [] (y ∷ ys) a b h =
    let s = same_keys-same y in
    let g : has y (y ∷ ys) ≡ true = rw s refl in
    let f : false ≡ true = h y ∙ g in
    absurd (cc)
same_members (x ∷ xs) ys a b h =
    let s = same_keys-same x in
    let g : has x (x ∷ xs) ≡ true = rw s refl in
    let t : has x ys ≡ true = sym (h x) ∙ g in
    let p = split x ys t in
    let w = without p.before p.after x (subst AreOnce p.is b) in
    let rest = same_members xs (p.before ++ p.after) a.1 w.0 (λ k. members p.before p.after k p.is w.1) in
    let whole = IsPermutation-trans (x ∷ xs) (x ∷ (p.before ++ p.after)) (p.before ++ x ∷ p.after) (IsPermutation-cons x xs (p.before ++ p.after) rest) (IsPermutation-sym (p.before ++ x ∷ p.after) (x ∷ (p.before ++ p.after)) (IsPermutation-middle p.before x p.after)) in
    subst (λ l. IsPermutation (x ∷ xs) l) (sym p.is) whole
  where
    members : (before after : List Keys) (k : Keys) → ys ≡ before ++ x ∷ after → has x (before ++ after) ≡ false → has k xs ≡ has k (before ++ after)
    members before after k e none = by_test (same_keys k x)
        (λ u.
        let same = same_keys-exact k x u in
        ap (λ y. has y xs) same ∙ a.0 ∙ sym none ∙ ap (λ y. has y (before ++ after)) (sym same))
        (λ u.
        let here : has k xs ≡ has k (x ∷ xs) = rw u refl in
        let there : has k (x ∷ after) ≡ has k after = rw u refl in
        here ∙ h k ∙ ap (has k) e ∙ has_append k before (x ∷ after) ∙ ap (λ b. has k before || b) there ∙ sym (has_append k before after))

pub members_permute : (l m : List Keys) → ((k : Keys) → has k l ≡ has k m) → IsPermutation (distinct_keys l) (distinct_keys m)
members_permute l m h = same_members (distinct_keys l) (distinct_keys m) (distinct_once l) (distinct_once m) (λ k. has_distinct k l ∙ h k ∙ sym (has_distinct k m))

abbrev pub keys_of : List Entry → List Keys
keys_of es = map (λ (e : Entry). e.0) es

abbrev pub key_lists : List Keyed → List Keys
key_lists rows = map (λ (r : Keyed). r.0) rows

-- entries have the keys for which they have partials
has_entries : (k : Keys) (es : List Entry) → has k (keys_of es) ≡ is_some (partials_at k es)
has_entries k [] = refl
has_entries k (e ∷ es) = by_test (same_keys k e.0)
    (λ t. (rw t refl) ∙ ap is_some (sym (hit k e es t)))
    (λ t. (rw t (has_entries k es)) ∙ ap is_some (sym (miss k e es t)))

entries_once : (es : List Entry) → AreApart es → AreOnce (keys_of es)
entries_once [] a = tt
entries_once (e ∷ es) a = (has_entries e.0 es ∙ ap is_some a.0, entries_once es a.1)

-- and rows those of which there is a group
has_rows : (names : List AggName) (k : Keys) (rows : List Keyed) → has k (key_lists rows) ≡ is_some (group_partials names (group_of k rows))
has_rows names k [] = refl
has_rows names k (r ∷ rows) = by_test (same_keys k r.0)
    (λ t. rw t refl)
    (λ t. rw t (has_rows names k rows))

-- the keys of groups are the distinct keys of the rows for which they stand
pub entries_permute : (names : List AggName) (es : List Entry) (rows : List Keyed) → AreApart es → GroupsStandFor names es rows → IsPermutation (distinct_keys (key_lists rows)) (keys_of es)
entries_permute names es rows a stand =
    same_members (distinct_keys (key_lists rows)) (keys_of es) (distinct_once (key_lists rows)) (entries_once es a)
    (λ k. has_distinct k (key_lists rows) ∙ has_rows names k rows ∙ ap is_some (sym (stand k)) ∙ sym (has_entries k es))

pub count_is : (names : List AggName) (es : List Entry) (rows : List Keyed) → AreApart es → GroupsStandFor names es rows → count_keys rows ≡ length es
count_is names es rows a stand =
    sym (length_permutation (distinct_keys (key_lists rows)) (keys_of es) (entries_permute names es rows a stand)) ∙ length-map es (λ (e : Entry). e.0)

-- the order of the rows is free
pub count_shuffled : (xs ys : List Keyed) → IsPermutation xs ys → count_keys ys ≡ count_keys xs
count_shuffled xs ys p =
    length_permutation (distinct_keys (key_lists xs)) (distinct_keys (key_lists ys)) (distinct_shuffled (key_lists xs) (key_lists ys) (IsPermutation-map (λ (r : Keyed). r.0) xs ys p))

-- more rows have no fewer keys
no_fewer : (x : Keys) (d : List Keys) → length d ≤ length (with_keys x d)
no_fewer x d = by_test (has x d)
    (λ t. let e = ap length (with_there x d t) in omega arith)
    (λ t. let e = ap length (with_new x d t) in omega arith)

behind : (l m : List Keys) → length (distinct_keys m) ≤ length (distinct_keys (l ++ m))
behind [] m = omega arith
behind (x ∷ l) m =
    let rest = behind l m in
    let more = no_fewer x (distinct_keys (l ++ m)) in
    omega arith

pub count_behind : (xs ys : List Keyed) → count_keys ys ≤ count_keys (xs ++ ys)
count_behind xs ys =
    let h = behind (key_lists xs) (key_lists ys) in
    let e = ap (λ l. length (distinct_keys l)) (map-append (λ (r : Keyed). r.0) xs ys) in
    omega arith

pub count_before : (xs ys : List Keyed) → count_keys xs ≤ count_keys (xs ++ ys)
count_before xs ys =
    let h = count_behind ys xs in
    let e = count_shuffled (ys ++ xs) (xs ++ ys) (IsPermutation-append_comm ys xs) in
    omega arith

-- a row whose keys have no group, where there are as many groups as may be
pub over_added : (names : List AggName) (es : List Entry) (rows : List Keyed) (keys : Keys) (operands : List Val) (limit : ℕ) → AreApart es → GroupsStandFor names es rows → partials_at keys es ≡ None → limit ≤ length es
    → limit < count_keys (rows ++ (keys, operands) ∷ [])
over_added names es rows keys operands limit a stand none most =
    let r : Keyed = (keys, operands) in
    let there : has keys (distinct_keys (key_lists rows)) ≡ false = has_distinct keys (key_lists rows) ∙ has_rows names keys rows ∙ ap is_some (sym (stand keys)) ∙ ap is_some none in
    let one = count_shuffled (rows ++ r ∷ []) (r ∷ rows) (IsPermutation-to_front rows r) in
    let two = ap length (with_new keys (distinct_keys (key_lists rows)) there) in
    let many = count_is names es rows a stand in
    omega arith

count_one : (es : List Entry) (f : Entry) (fs : List Entry) → partials_at f.0 fs ≡ None → length (distinct_keys (keys_of fs ++ keys_of es)) ≡ length es + count_new es fs
    → length (with_keys f.0 (distinct_keys (keys_of fs ++ keys_of es))) ≡ length es + (one_if_none (partials_at f.0 es) + count_new es fs)
count_one es f fs b rest = on (partials_at f.0 es) refl
  where
    there : has f.0 (distinct_keys (keys_of fs ++ keys_of es)) ≡ is_some (partials_at f.0 es)
    there =
        let none : has f.0 (keys_of fs) ≡ false = has_entries f.0 fs ∙ ap is_some b in
        has_distinct f.0 (keys_of fs ++ keys_of es) ∙ has_append f.0 (keys_of fs) (keys_of es) ∙ ap (λ h. h || has f.0 (keys_of es)) none ∙ has_entries f.0 es

    on : (o : Option (List Partial)) → partials_at f.0 es ≡ o → length (with_keys f.0 (distinct_keys (keys_of fs ++ keys_of es))) ≡ length es + (one_if_none (partials_at f.0 es) + count_new es fs)
    on None e =
        let new = ap length (with_new f.0 (distinct_keys (keys_of fs ++ keys_of es)) (there ∙ ap is_some e)) in
        let one : one_if_none (partials_at f.0 es) ≡ 1 = ap one_if_none e in
        omega arith
    on (Some ss) e =
        let old = ap length (with_there f.0 (distinct_keys (keys_of fs ++ keys_of es)) (there ∙ ap is_some e)) in
        let one : one_if_none (partials_at f.0 es) ≡ 0 = ap one_if_none e in
        omega arith

-- entries of two lists together
count_both : (es fs : List Entry) → AreApart es → AreApart fs → length (distinct_keys (keys_of fs ++ keys_of es)) ≡ length es + count_new es fs
count_both es [] a b =
    let one = ap length (once_distinct (keys_of es) (entries_once es a)) in
    let two = length-map es (λ (e : Entry). e.0) in
    omega arith
count_both es (f ∷ fs) a b = count_one es f fs b.0 (count_both es fs a b.1)

-- groups of two that together are more than may be
pub over_merged : (names : List AggName) (es fs : List Entry) (xs ys : List Keyed) (limit : ℕ) → AreApart es → AreApart fs → GroupsStandFor names es xs → GroupsStandFor names fs ys → limit < length es + count_new es fs
    → limit < count_keys (xs ++ ys)
over_merged names es fs xs ys limit a b stand more l =
    let members : (k : Keys) → has k (keys_of fs ++ keys_of es) ≡ has k (key_lists (xs ++ ys)) =
    λ k.
    has_append k (keys_of fs) (keys_of es)
    ∙ (λ i. (has_entries k fs ∙ ap is_some (more k) ∙ sym (has_rows names k ys)) i || (has_entries k es ∙ ap is_some (stand k) ∙ sym (has_rows names k xs)) i)
    ∙ or_swap (has k (key_lists ys)) (has k (key_lists xs))
    ∙ sym (has_append k (key_lists xs) (key_lists ys))
    ∙ ap (has k) (sym (map-append (λ (r : Keyed). r.0) xs ys)) in
    let many = length_permutation (distinct_keys (keys_of fs ++ keys_of es)) (distinct_keys (key_lists (xs ++ ys))) (members_permute (keys_of fs ++ keys_of es) (key_lists (xs ++ ys)) members) in
    let both = count_both es fs a b in
    omega arith
