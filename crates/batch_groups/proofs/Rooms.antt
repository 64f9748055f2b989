-- Groups of few rows have room.
use Rattle.std.proofs.Common.{◌≡◌, ℕ, zero, suc, ◌+◌, ◌<◌, ◌≤◌, List, [], ◌∷◌, length, map, Bool, true, false, cond, Option, None, Some, refl, sym, ap, subst, ◌∙◌, arith}
use Rattle.std.specs.List.{filter}
use Rattle.std.proofs.lemmas.List.{length-map}
use Rattle.value_meaning.specs.Val.{Val}
use Rattle.tree_meaning.specs.declared.AggName.{AggName}
use Rattle.agg_meaning.specs.Partials.{Partial}
use Rattle.agg_laws.specs.Room.{most_values}
use Rattle.hash_agg.specs.Groups.{Keyed, Entry, first, rest, has_keys, group_of, group_partials, partials_of, partials_at, GroupsStandFor}
use Rattle.hash_agg.specs.Items.{EachHasRoom, EachTwoHaveRoom}
use Rattle.hash_agg.specs.Held.{Held}
use Rattle.hash_agg.specs.Adds.{TwoHaveRoom}
use Rattle.batch_groups.specs.Gathered.{AreOf}

partials_room : (names : List AggName) (rows : List (List Val)) → length rows + 1 < most_values → EachHasRoom names (partials_of names rows)
partials_room [] rows l i n s below = absurd (omega arith)
partials_room (m ∷ ns) rows l zero n s below = let e = length-map rows first in (map first rows, refl, omega arith)
partials_room (m ∷ ns) rows l (suc i) n s below = let e = length-map rows rest in partials_room ns (map rest rows) (omega arith) i n s (omega arith)

two_room : (names : List AggName) (rows more : List (List Val)) → length rows + length more < most_values → EachTwoHaveRoom names (partials_of names rows) (partials_of names more)
two_room [] rows more l i n s t below = absurd (omega arith)
two_room (m ∷ ns) rows more l zero n s t below = let e = length-map rows first in let f = length-map more first in (map first rows, map first more, refl, refl, omega arith)
two_room (m ∷ ns) rows more l (suc i) n s t below = let e = length-map rows rest in let f = length-map more rest in two_room ns (map rest rows) (map rest more) (omega arith) i n s t (omega arith)

longer : (b : Bool) (r : Keyed) (l : List Keyed) (n : ℕ) → length l ≤ n → length (cond b (r ∷ l) l) ≤ n + 1
longer true r l n h = omega arith
longer false r l n h = omega arith

filter_short : (p : Keyed → Bool) (rows : List Keyed) → length (filter p rows) ≤ length rows
filter_short p [] = omega arith
filter_short p (r ∷ rows) = let h = longer (p r) r (filter p rows) (length rows) (filter_short p rows) in omega arith

group_short : (ks : List Val) (rows : List Keyed) → length (group_of ks rows) ≤ length rows
group_short ks rows =
    let e = length-map (filter (has_keys ks) rows) (λ (r : Keyed). r.1) in
    let h = filter_short (has_keys ks) rows in
    omega arith

-- the partials that are there are those of a group
pub there : (names : List AggName) (l : List (List Val)) (ss : List Partial) → Some ss ≡ group_partials names l → ss ≡ partials_of names l
there names [] ss h = absurd (cc)
there names (r ∷ rs) ss h = cc

pub partials_are : (names : List AggName) (es : List Entry) (rows : List Keyed) (ks : List Val) (ss : List Partial) → GroupsStandFor names es rows → partials_at ks es ≡ Some ss → ss ≡ partials_of names (group_of ks rows)
partials_are names es rows ks ss stand e = there names (group_of ks rows) ss (sym e ∙ stand ks)

pub room_to_add : (g : Held) (count : ℕ) → AreOf g count → (ks : List Val) (ss : List Partial) → partials_at ks g.entries ≡ Some ss → EachHasRoom g.names ss
room_to_add g count h ks ss e =
    let a = h.few in
    let b = h.short in
    let c = group_short ks h.rows in
    subst (EachHasRoom g.names) (sym (partials_are g.names g.entries h.rows ks ss h.stand e)) (partials_room g.names (group_of ks h.rows) (omega arith))

pub room_to_merge : (g o : Held) (count more : ℕ) → AreOf g count → AreOf o more → count + more ≤ 35_184_372_088_832 → g.names ≡ o.names → TwoHaveRoom g.names g.entries o.entries
room_to_merge g o count more h k few same ks ss ts e f =
    let a = h.short in
    let b = k.short in
    let c = group_short ks h.rows in
    let d = group_short ks k.rows in
    let t : ts ≡ partials_of g.names (group_of ks k.rows) = partials_are o.names o.entries k.rows ks ts k.stand f ∙ ap (λ ns. partials_of ns (group_of ks k.rows)) (sym same) in
    subst (λ x. EachTwoHaveRoom g.names x ts) (sym (partials_are g.names g.entries h.rows ks ss h.stand e))
    (subst (λ x. EachTwoHaveRoom g.names (partials_of g.names (group_of ks h.rows)) x) (sym t)
    (two_room g.names (group_of ks h.rows) (group_of ks k.rows) (omega arith)))
