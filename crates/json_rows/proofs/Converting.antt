-- Steps of the loops that make values of what was read.
use Rattle.std.proofs.Common.{◌≡◌, ℕ, ◌+◌, ◌<◌, ◌≤◌, min, ◌^◌, ◌-◌, List, [], ◌∷◌, ◌++◌, length, get_or, drop, map, Option, Some, None, option_map, String, Global, string_bytes, Less, nat_cmp, refl, sym, ap, ◌∙◌, arith, append_assoc, append-nil}
use Rattle.std.proofs.lemmas.List.{drop_more, drop_all}
use Rattle.std.specs.Cmp.Lexicographic.{slice_cmp}
use Rattle.std.specs.List.{AllByRecursion}
use Rattle.std.specs.List.Sorted.{IsStrictlySortedBy}
use Rattle.std.specs.Map.{keys_of}
use Rattle.std.specs.Option.{unwrap_or}
use Rattle.std.specs.String.{string_cmp}
use Rattle.serde_json.specs.View.{view, items_view, members_view}
use Rattle.serde_json.specs.declared.value.Value.{Value}
use Rattle.value_meaning.specs.Val.{Val, null, Vals, no_vals, val, Fields, no_fields, field, vals, items, fields, pairs}
use Rattle.value_meaning.specs.Pairs.{Pairs, IsBelow, IsAboveLast}
use Rattle.pack_meaning.specs.Rows.{value_in, values_in, pairs_in, with_pair, timed, timed_value, fractions, item_fractions, member_fractions}
use Rattle.json_rows.specs.Counts.{raised}

abbrev pub Entry : Type 0
Entry = String Global × Value

-- the values of the items from a place on
abbrev pub values_from : ℕ → List Value → List Val
values_from i xs = items (values_in (items_view (drop i xs)))

here : (xs : List Value) (i : ℕ) (x : Value) → i < length xs → x ≡ get_or xs i x → drop i xs ≡ x ∷ drop (i + 1) xs
here xs i x h is = drop_more xs i x h ∙ ap (λ y. y ∷ drop (i + 1) xs) (sym is)

-- one more item
pub item_made : (xs : List Value) (i : ℕ) (x : Value) (old new : List Val) (v : Val) (all : List Val)
    → i < length xs → x ≡ get_or xs i x → v ≡ unwrap_or (value_in (view x)) null → new ≡ old ++ v ∷ []
    → old ++ values_from i xs ≡ all → new ++ values_from (i + 1) xs ≡ all
item_made xs i x old new v all h is made grown sofar =
    let ahead : values_from i xs ≡ unwrap_or (value_in (view x)) null ∷ values_from (i + 1) xs = rw (here xs i x h is) refl in
    rw (grown, append_assoc, made) (rw ahead at sofar)

pub item_counted : (xs : List Value) (i : ℕ) (x : Value) → i < length xs → x ≡ get_or xs i x
    → item_fractions (items_view (drop i xs)) ≡ item_fractions (items_view (x ∷ drop (i + 1) xs))
item_counted xs i x h is = rw (here xs i x h is) refl

-- the pairs of the members that are left
abbrev pub pairs_left : Option (List ℕ) → List Entry → Pairs
pairs_left tf es = pairs (timed tf (pairs_in (members_view es)))

-- each name that is left is above the last
abbrev pub AllAbove : Pairs → List Entry → Type 0
AllAbove done [] = Unit {0}
AllAbove done (e ∷ es) = IsAboveLast (string_bytes e.0) done × AllAbove done es

pub above_none : (es : List Entry) → AllAbove [] es
above_none [] = tt
above_none (e ∷ es) = (tt, above_none es)

above_pushed : (done : Pairs) (f : List ℕ × Val) (n : List ℕ) → IsBelow f.0 n → IsAboveLast n (done ++ f ∷ [])
above_pushed [] f n h = h
above_pushed (g ∷ []) f n h = h
above_pushed (g ∷ g' ∷ done) f n h = above_pushed (g' ∷ done) f n h

all_above : (done : Pairs) (k : String Global) (v : Val) (es : List Entry) → AllByRecursion (λ y. string_cmp k y ≡ Less) (keys_of es)
    → AllAbove (done ++ (string_bytes k, v) ∷ []) es
all_above done k v [] h = tt
all_above done k v (e ∷ es) h = (above_pushed done (string_bytes k, v) (string_bytes e.0) h.0, all_above done k v es h.1)

-- What the loop over members keeps: the names that are left rise and are above the last.
pub record Rises (done : Pairs) (left : List Entry) : Type 0 where
  pub sorted : IsStrictlySortedBy string_cmp (keys_of left)
  pub above : AllAbove done left

pub rises_first : (es : List Entry) → IsStrictlySortedBy string_cmp (keys_of es) → Rises [] es
rises_first es h = record { sorted = h; above = above_none es }

pub rises_skipped : (done : Pairs) (e : Entry) (es : List Entry) → Rises done (e ∷ es) → Rises done es
unfolding IsStrictlySortedBy
rises_skipped done e es r = record { sorted = r.sorted.1; above = r.above.1 }

pub rises_pushed : (done : Pairs) (e : Entry) (v : Val) (es : List Entry) → Rises done (e ∷ es) → Rises (done ++ (string_bytes e.0, v) ∷ []) es
unfolding IsStrictlySortedBy
rises_pushed done e v es r = record { sorted = r.sorted.1; above = all_above done e.0 v es r.sorted.0 }

pub vals_of_items : (vs : Vals) → vals (items vs) ≡ vs
vals_of_items no_vals = refl
vals_of_items (val v vs) = ap (val v) (vals_of_items vs)

pub fields_of_pairs : (fs : Fields) → fields (pairs fs) ≡ fs
fields_of_pairs no_fields = refl
fields_of_pairs (field n v fs) = ap (field n v) (fields_of_pairs fs)

-- all items are made
pub items_done : (xs all : List Value) (i : ℕ) (made : List Val) → xs ≡ all → length xs ≤ i → made ++ values_from i xs ≡ values_from 0 xs → vals made ≡ values_in (items_view all)
items_done xs all i made same h e =
    let none : drop i xs ≡ [] = drop_all i xs h in
    let left : made ++ [] ≡ values_from 0 xs = rw none at e in
    ap vals (sym (append-nil made) ∙ left) ∙ vals_of_items (values_in (items_view xs)) ∙ ap (λ ys. values_in (items_view ys)) same

pub items_counted : (xs all : List Value) (i now before : ℕ) → xs ≡ all → length xs ≤ i → now < 2 ^ 64
    → raised now (item_fractions (items_view (drop i xs))) ≡ raised before (item_fractions (items_view xs)) → now ≡ raised before (item_fractions (items_view all))
items_counted xs all i now before same h fits e =
    let none : drop i xs ≡ [] = drop_all i xs h in
    let left : raised now 0 ≡ raised before (item_fractions (items_view xs)) = rw none at e in
    let is : now ≡ raised now 0 = omega arith in
    is ∙ left ∙ ap (λ ys. raised before (item_fractions (items_view ys))) same

-- all members are made
pub pairs_done : (tf : Option (List ℕ)) (left all : List Entry) (made : Pairs) → left ≡ [] → made ++ pairs_left tf left ≡ pairs_left tf all → fields made ≡ timed tf (pairs_in (members_view all))
pairs_done tf left all made none e =
    let nothing : pairs_left tf [] ≡ [] = no_pairs tf in
    let last : made ++ [] ≡ pairs_left tf all = rw (none, nothing) at e in
    ap fields (sym (append-nil made) ∙ last) ∙ fields_of_pairs (timed tf (pairs_in (members_view all)))
  where
    no_pairs : (tf : Option (List ℕ)) → pairs_left tf [] ≡ []
    no_pairs None = refl
    no_pairs (Some name) = refl

pub members_counted : (left all : List Entry) (now before : ℕ) → left ≡ [] → now < 2 ^ 64
    → raised now (member_fractions (members_view left)) ≡ raised before (member_fractions (members_view all)) → now ≡ raised before (member_fractions (members_view all))
members_counted left all now before none fits e =
    let last : raised now 0 ≡ raised before (member_fractions (members_view all)) = rw none at e in
    let is : now ≡ raised now 0 = omega arith in
    is ∙ last

timed-field : (tf : Option (List ℕ)) (n : List ℕ) (v : Val) (fs : Fields) → timed tf (field n v fs) ≡ field n (timed_value tf n v) (timed tf fs)
timed-field None n v fs = refl
timed-field (Some name) n v fs = refl

-- one more member, whose value is no fraction
pub pair_made : (tf : Option (List ℕ)) (done new : Pairs) (e : Entry) (left : List Entry) (v w : Val) (all : Pairs) → value_in (view e.1) ≡ Some v → w ≡ timed_value tf (string_bytes e.0) v
    → new ≡ done ++ (string_bytes e.0, w) ∷ [] → done ++ pairs_left tf (e ∷ left) ≡ all → new ++ pairs_left tf left ≡ all
pair_made tf done new e left v w all is in_time grown sofar = rw (grown, append_assoc, in_time) (rw (is, timed-field tf) at sofar)

-- one more member, whose value is a fraction
pub pair_left_out : (tf : Option (List ℕ)) (done : Pairs) (e : Entry) (left : List Entry) (all : Pairs) → value_in (view e.1) ≡ None
    → done ++ pairs_left tf (e ∷ left) ≡ all → done ++ pairs_left tf left ≡ all
pair_left_out tf done e left all is sofar = rw is at sofar

pub member_counted : (e : Entry) (left : List Entry) (now next all : ℕ) → next ≡ raised now (fractions (view e.1))
    → raised now (member_fractions (members_view (e ∷ left))) ≡ all → raised next (member_fractions (members_view left)) ≡ all
member_counted e left now next all is sofar = omega (arith, is, sofar)
