-- The texts of lists, member by member, and of a whole query, clause by clause.
use Rattle.std.proofs.Common.{◌≡◌, ℕ, zero, suc, ◌+◌, ◌≤◌, List, [], ◌∷◌, ◌++◌, length, drop, Bool, true, false, cond, Option, Some, None, refl, ap, sym, ◌∙◌, arith, append_assoc, append-nil}
use Rattle.std.specs.Prelude.{codes, slice_get, decimal, ◌==◌}
use Rattle.query_meaning.specs.declared.Mark.{Mark}
use Rattle.query_meaning.specs.declared.Mark.TheVariants as m
use Rattle.tree_meaning.specs.Tree.{Step, name, at, Ex, exs, arms, Outs, star, named, Query}
use Rattle.query_meaning.specs.Tokens.{num}
use Rattle.query_meaning.specs.RowName.{row_name}
use Rattle.print_meaning.specs.Pieces.{Pieces, token, doubled, in_quotes, spelling, spelled}
use Rattle.print_meaning.specs.Print.{title, put_between, put_steps, put, put_other_exs, put_arms, put_others, put_list, put_alias, put_item, put_outs, put_filter, put_groups, put_direction, put_key, put_order, put_count, skipped, printed, query_text}
use Rattle.print_meaning.specs.Texts.{steps_text, text, list_text, arms_text, alias_text, outs_text, items_text, keys_text, clause_text, count_text, groups_text, order_text, separator}
use Rattle.print_meaning.proofs.PrintedTexts.{ex_text}

drop_at : {A : Type 0} (xs : List A) (i : ℕ) (x : A) → slice_get xs i ≡ Some x → drop i xs ≡ x ∷ drop (suc i) xs
drop_at [] zero x e = absurd cc
drop_at [] (suc i) x e = absurd cc
drop_at (y ∷ xs) zero x e = let same : y ≡ x = cc in rw same refl
drop_at (y ∷ xs) (suc i) x e = drop_at xs i x e

past_end : {A : Type 0} (xs : List A) (i : ℕ) → length xs ≤ i → drop i xs ≡ []
past_end [] zero h = refl
past_end [] (suc i) h = refl
past_end (x ∷ xs) zero h = absurd (omega (arith, h))
past_end (x ∷ xs) (suc i) h = past_end xs i (omega (arith, h))

-- Members one behind the other.

abbrev pub joined_text : {A : Type 0} → (A → List ℕ) → List A → List ℕ
joined_text each [] = []
joined_text each (x ∷ xs) = each x ++ joined_text each xs

-- what is written and what is left are what was there and all that is to be written
abbrev pub Joins : {A : Type 0} → (A → List ℕ) → List ℕ → List ℕ → ℕ → List A → Type 0
Joins each old now place xs = now ++ joined_text each (drop place xs) ≡ old ++ joined_text each xs

pub joins_one : {A : Type 0} (each : A → List ℕ) (old now next : List ℕ) (place : ℕ) (xs : List A) (x : A) → slice_get xs place ≡ Some x → next ≡ now ++ each x → Joins each old now place xs → Joins each old next (place + 1) xs
joins_one each old now next place xs x e f h =
    let one : place + 1 ≡ suc place = omega arith in
    let parts : joined_text each (drop place xs) ≡ each x ++ joined_text each (drop (suc place) xs) = ap (joined_text each) (drop_at xs place x e) in
    rw (one, f) (append_assoc now (each x) (joined_text each (drop (suc place) xs)) ∙ ap (λ (z : List ℕ). now ++ z) (sym parts) ∙ h)

pub joins_all : {A : Type 0} (each : A → List ℕ) (old now : List ℕ) (place : ℕ) (xs : List A) → length xs ≤ place → Joins each old now place xs → now ≡ old ++ joined_text each xs
joins_all each old now place xs h e =
    let none : joined_text each (drop place xs) ≡ [] = ap (joined_text each) (past_end xs place h) in
    sym (append-nil now) ∙ ap (λ (z : List ℕ). now ++ z) (sym none) ∙ e

-- Members with `, ` between them.

abbrev pub others_text : {A : Type 0} → (A → List ℕ) → List A → List ℕ
others_text each [] = []
others_text each (x ∷ xs) = 44 ∷ 32 ∷ (each x ++ others_text each xs)

abbrev pub members_text : {A : Type 0} → (A → List ℕ) → List A → List ℕ
members_text each [] = []
members_text each (x ∷ xs) = each x ++ others_text each xs

-- what is left from a place on
abbrev pub left_text : {A : Type 0} → (A → List ℕ) → ℕ → List A → List ℕ
left_text each zero xs = members_text each xs
left_text each (suc place) xs = others_text each (drop (suc place) xs)

abbrev pub Lists : {A : Type 0} → (A → List ℕ) → List ℕ → List ℕ → ℕ → List A → Type 0
Lists each old now place xs = now ++ left_text each place xs ≡ old ++ members_text each xs

left_one : {A : Type 0} (each : A → List ℕ) (place : ℕ) (xs : List A) (x : A) → slice_get xs place ≡ Some x → left_text each place xs ≡ separator place ++ (each x ++ left_text each (suc place) xs)
left_one each zero [] x e = absurd cc
left_one each zero (y ∷ xs) x e = let same : y ≡ x = cc in rw same refl
left_one each (suc place) xs x e = ap (others_text each) (drop_at xs (suc place) x e)

left_none : {A : Type 0} (each : A → List ℕ) (place : ℕ) (xs : List A) → length xs ≤ place → left_text each place xs ≡ []
left_none each zero [] h = refl
left_none each zero (x ∷ xs) h = absurd (omega (arith, h))
left_none each (suc place) xs h = ap (others_text each) (past_end xs (suc place) h)

pub lists_one : {A : Type 0} (each : A → List ℕ) (old now next : List ℕ) (place : ℕ) (xs : List A) (x : A) → slice_get xs place ≡ Some x → next ≡ now ++ (separator place ++ each x) → Lists each old now place xs → Lists each old next (place + 1) xs
lists_one each old now next place xs x e f h =
    let one : place + 1 ≡ suc place = omega arith in
    rw (one, f) (append_assoc now (separator place ++ each x) (left_text each (suc place) xs) ∙ ap (λ (z : List ℕ). now ++ z) (append_assoc (separator place) (each x) (left_text each (suc place) xs) ∙ sym (left_one each place xs x e)) ∙ h)

pub lists_all : {A : Type 0} (each : A → List ℕ) (old now : List ℕ) (place : ℕ) (xs : List A) → length xs ≤ place → Lists each old now place xs → now ≡ old ++ members_text each xs
lists_all each old now place xs h e =
    let none = left_none each place xs h in
    sym (append-nil now) ∙ ap (λ (z : List ℕ). now ++ z) (sym none) ∙ e

-- What the printed lists are.

abbrev pub twice : ℕ → ℕ → List ℕ
twice quote b = cond (b == quote) (quote ∷ quote ∷ []) (b ∷ [])

pub doubled_is : (quote : ℕ) (bs : List ℕ) → doubled quote bs ≡ joined_text (twice quote) bs
doubled_is quote [] = refl
doubled_is quote (b ∷ bs) = go (b == quote) (doubled_is quote bs)
  where
    go : (t : Bool) → doubled quote bs ≡ joined_text (twice quote) bs → cond t (quote ∷ quote ∷ doubled quote bs) (b ∷ doubled quote bs) ≡ cond t (quote ∷ quote ∷ []) (b ∷ []) ++ joined_text (twice quote) bs
    go true e = ap (λ (z : List ℕ). quote ∷ quote ∷ z) e
    go false e = ap (λ (z : List ℕ). b ∷ z) e

abbrev pub step_text : Step → List ℕ
step_text s = steps_text (s ∷ [])

pub steps_is : (ss : List Step) → steps_text ss ≡ joined_text step_text ss
unfolding steps_text
steps_is [] = refl
steps_is (s ∷ ss) = spelled_one s ss ∙ ap (λ (z : List ℕ). spelled (put_steps (s ∷ []) []) ++ z) (steps_is ss)
  where
    spelled_one : (s : Step) (ss : List Step) → spelled (put_steps (s ∷ ss) []) ≡ spelled (put_steps (s ∷ []) []) ++ spelled (put_steps ss [])
    spelled_one (name n) ss = simp append_assoc
    spelled_one (at i) ss = simp append_assoc

module _ (row : List ℕ) where
  other_exs_are : (es : List Ex) → spelled (put_other_exs row (exs es) []) ≡ others_text (text row) es
  unfolding spelling
  other_exs_are [] = refl
  other_exs_are (e ∷ es) = ap (λ (z : List ℕ). 44 ∷ 32 ∷ z) (ex_text row e (put_other_exs row (exs es) []) ∙ ap (λ (z : List ℕ). text row e ++ z) (other_exs_are es))

  pub list_is : (es : List Ex) → list_text row es ≡ members_text (text row) es
  unfolding list_text
  list_is [] = refl
  list_is (e ∷ es) = ex_text row e (put_other_exs row (exs es) []) ∙ ap (λ (z : List ℕ). text row e ++ z) (other_exs_are es)

  abbrev pub arm_text : Ex × Ex → List ℕ
  arm_text a = codes " WHEN " ++ (text row a.0 ++ (codes " THEN " ++ text row a.1))

  pub arms_are : (xs : List (Ex × Ex)) → arms_text row xs ≡ joined_text arm_text xs
  unfolding arms_text spelling
  arms_are [] = refl
  arms_are (x ∷ xs) =
      let rest = put_arms row (arms xs) [] in
      ap (λ (z : List ℕ). codes " WHEN " ++ z) (ex_text row x.0 (put_between m.Then (put row x.1 rest)) ∙ ap (λ (z : List ℕ). text row x.0 ++ (codes " THEN " ++ z)) (ex_text row x.1 rest ∙ ap (λ (z : List ℕ). text row x.1 ++ z) (arms_are xs)))
      ∙ (simp append_assoc)

  -- lists of members that are printed before something as alone
  module _ {A : Type 0} (print : A → Pieces → Pieces) (each : A → List ℕ) (front : (x : A) (s : Pieces) → spelled (print x s) ≡ each x ++ spelled s) where
    others_are : (xs : List A) (s : Pieces) → spelled (put_others print xs s) ≡ others_text each xs ++ spelled s
    unfolding spelling
    others_are [] s = refl
    others_are (x ∷ xs) s =
        ap (λ (z : List ℕ). 44 ∷ 32 ∷ z) (front x (put_others print xs s) ∙ ap (λ (z : List ℕ). each x ++ z) (others_are xs s) ∙ sym (append_assoc (each x) (others_text each xs) (spelled s)))

    members_are : (xs : List A) (s : Pieces) → spelled (put_list print xs s) ≡ members_text each xs ++ spelled s
    members_are [] s = refl
    members_are (x ∷ xs) s =
        front x (put_others print xs s) ∙ ap (λ (z : List ℕ). each x ++ z) (others_are xs s) ∙ sym (append_assoc (each x) (others_text each xs) (spelled s))

    members_alone : (xs : List A) → spelled (put_list print xs []) ≡ members_text each xs
    members_alone xs = members_are xs [] ∙ append-nil (members_text each xs)

  alias_front : (n : Option (List ℕ)) (s : Pieces) → spelled (put_alias n s) ≡ alias_text n ++ spelled s
  unfolding spelling
  alias_front None s = refl
  alias_front (Some n) s = refl

  abbrev pub item_text : Ex × Option (List ℕ) → List ℕ
  item_text i = text row i.0 ++ alias_text i.1

  item_front : (i : Ex × Option (List ℕ)) (s : Pieces) → spelled (put_item row i s) ≡ item_text i ++ spelled s
  item_front i s = ex_text row i.0 (put_alias i.1 s) ∙ ap (λ (z : List ℕ). text row i.0 ++ z) (alias_front i.1 s) ∙ sym (append_assoc (text row i.0) (alias_text i.1) (spelled s))

  abbrev pub direction_text : Bool → List ℕ
  direction_text falling = cond falling (codes " DESC") []

  direction_front : (falling : Bool) (s : Pieces) → spelled (put_direction falling s) ≡ direction_text falling ++ spelled s
  unfolding spelling
  direction_front true s = refl
  direction_front false s = refl

  abbrev pub key_text : Ex × Bool → List ℕ
  key_text k = text row k.0 ++ direction_text k.1

  key_front : (k : Ex × Bool) (s : Pieces) → spelled (put_key row k s) ≡ key_text k ++ spelled s
  key_front k s = ex_text row k.0 (put_direction k.1 s) ∙ ap (λ (z : List ℕ). text row k.0 ++ z) (direction_front k.1 s) ∙ sym (append_assoc (text row k.0) (direction_text k.1) (spelled s))

  pub items_are : (xs : List (Ex × Option (List ℕ))) → items_text row xs ≡ members_text item_text xs
  unfolding items_text
  items_are xs = members_alone (put_item row) item_text item_front xs

  pub keys_are : (xs : List (Ex × Bool)) → keys_text row xs ≡ members_text key_text xs
  unfolding keys_text
  keys_are xs = members_alone (put_key row) key_text key_front xs

  pub outs_are : (items : List (Ex × Option (List ℕ))) → outs_text row (named items) ≡ items_text row items
  unfolding outs_text items_text
  outs_are items = refl

  outs_front : (o : Outs) (s : Pieces) → spelled (put_outs row o s) ≡ outs_text row o ++ spelled s
  unfolding outs_text spelling
  outs_front star s = refl
  outs_front (named items) s =
      members_are (put_item row) item_text item_front items s ∙ ap (λ (z : List ℕ). z ++ spelled s) (sym (members_alone (put_item row) item_text item_front items))

  filter_front : (k : Mark) (word : List ℕ) (o : Option Ex) (s : Pieces) → ((t : Pieces) → spelled (put_between k t) ≡ word ++ spelled t) → spelled (put_filter k row o s) ≡ clause_text word row o ++ spelled s
  filter_front k word None s w = refl
  filter_front k word (Some e) s w = w (put row e s) ∙ ap (λ (z : List ℕ). word ++ z) (ex_text row e s) ∙ sym (append_assoc word (text row e) (spelled s))

  groups_front : (es : List Ex) (s : Pieces) → spelled (put_groups row es s) ≡ groups_text row es ++ spelled s
  unfolding spelling
  groups_front [] s = refl
  groups_front (e ∷ es) s =
      ap (λ (z : List ℕ). codes " GROUP BY " ++ z) (members_are (put row) (text row) (ex_text row) (e ∷ es) s ∙ ap (λ (z : List ℕ). z ++ spelled s) (sym (list_is (e ∷ es))))

  order_front : (ks : List (Ex × Bool)) (s : Pieces) → spelled (put_order row ks s) ≡ order_text row ks ++ spelled s
  unfolding spelling
  order_front [] s = refl
  order_front (k ∷ ks) s =
      ap (λ (z : List ℕ). codes " ORDER BY " ++ z) (members_are (put_key row) key_text key_front (k ∷ ks) s ∙ ap (λ (z : List ℕ). z ++ spelled s) (sym (keys_are (k ∷ ks))))

  count_front : (k : Mark) (word : List ℕ) (n : Option ℕ) (s : Pieces) → ((t : Pieces) → spelled (put_between k t) ≡ word ++ spelled t) → spelled (put_count k n s) ≡ count_text word n ++ spelled s
  unfolding spelling
  count_front k word None s w = refl
  count_front k word (Some n) s w = w (token (num n) ∷ s) ∙ sym (append_assoc word (decimal n) (spelled s))

-- a query's text, in the pieces in which it is written
pub query_is : (q : Query) → query_text q ≡ codes "SELECT " ++ (outs_text (row_name q) q.outs ++ (codes " FROM " ++ (in_quotes 34 q.source ++ (alias_text q.alias ++ (clause_text (codes " WHERE ") (row_name q) q.filter ++ (groups_text (row_name q) q.keys ++ (clause_text (codes " HAVING ") (row_name q) q.having ++ (order_text (row_name q) q.order ++ (count_text (codes " LIMIT ") q.take ++ count_text (codes " OFFSET ") (skipped q.skip))))))))))
unfolding query_text printed spelling
query_is q =
    let row = row_name q in
    let skip = put_count m.Offset (skipped q.skip) [] in
    let take = put_count m.Limit q.take skip in
    let order = put_order row q.order take in
    let having = put_filter m.Having row q.having order in
    let groups = put_groups row q.keys having in
    let filter = put_filter m.Where row q.filter groups in
    ap (λ (z : List ℕ). codes "SELECT " ++ z) (outs_front row q.outs (put_between m.From (title q.source ∷ put_alias q.alias filter))
    ∙ ap (λ (z : List ℕ). outs_text row q.outs ++ (codes " FROM " ++ (in_quotes 34 q.source ++ z))) (alias_front row q.alias filter
    ∙ ap (λ (z : List ℕ). alias_text q.alias ++ z) (filter_front row m.Where (codes " WHERE ") q.filter groups (λ t. refl)
    ∙ ap (λ (z : List ℕ). clause_text (codes " WHERE ") row q.filter ++ z) (groups_front row q.keys having
    ∙ ap (λ (z : List ℕ). groups_text row q.keys ++ z) (filter_front row m.Having (codes " HAVING ") q.having order (λ t. refl)
    ∙ ap (λ (z : List ℕ). clause_text (codes " HAVING ") row q.having ++ z) (order_front row q.order take
    ∙ ap (λ (z : List ℕ). order_text row q.order ++ z) (count_front row m.Limit (codes " LIMIT ") q.take skip (λ t. refl)
    ∙ ap (λ (z : List ℕ). count_text (codes " LIMIT ") q.take ++ z) (count_front row m.Offset (codes " OFFSET ") (skipped q.skip) [] (λ t. refl) ∙ append-nil (count_text (codes " OFFSET ") (skipped q.skip))))))))))

-- What is between quotes is written byte by byte.
pub quoted_all : (old first now items text : List ℕ) (quote place : ℕ) → first ≡ old ++ quote ∷ [] → items ≡ text → length items ≤ place → Joins (twice quote) first now place items → now ++ quote ∷ [] ≡ old ++ quote ∷ (doubled quote text ++ quote ∷ [])
quoted_all old first now items text quote place e f h j =
    let all : now ≡ first ++ doubled quote text = joins_all (twice quote) first now place items h j ∙ ap (λ (z : List ℕ). first ++ joined_text (twice quote) z) f ∙ ap (λ (z : List ℕ). first ++ z) (sym (doubled_is quote text)) in
    rw (all, e) (simp append_assoc)
