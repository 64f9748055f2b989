-- The groups of rows: one for each distinct key list, with all rows that have it.
use Rattle.std.specs.Prelude.{◌≡◌, List, [], ◌∷◌, map, filter, Bool, Option, None, Some, if◌then◌else◌}
use Rattle.value_meaning.specs.Val.{Val, missing}
use Rattle.tree_meaning.specs.declared.AggName.{AggName}
use Rattle.agg_meaning.specs.Aggregates.{aggregate}
use Rattle.agg_meaning.specs.Better.{better}
use Rattle.agg_meaning.specs.Keys.{same_keys}
use Rattle.agg_meaning.specs.Partials.{Partial, partial_of, joined, finished}

-- a row, by the values of its group keys and the values of the aggregates' operands, one for each aggregate
abbrev pub Keyed : Type 0
Keyed = List Val × List Val

abbrev pub first : List Val → Val
first [] = missing
first (v ∷ vs) = v

abbrev pub rest : List Val → List Val
rest [] = []
rest (v ∷ vs) = vs

abbrev pub has_keys : List Val → Keyed → Bool
has_keys ks row = same_keys ks row.0

-- the operands of the rows of a group, in order
abbrev pub group_of : List Val → List Keyed → List (List Val)
group_of ks rows = map (λ r. r.1) (filter (has_keys ks) rows)

-- the value of each aggregate over a group, and its partial
abbrev pub aggregates_of : List AggName → List (List Val) → List Val
aggregates_of [] rows = []
aggregates_of (n ∷ ns) rows = aggregate n (map first rows) ∷ aggregates_of ns (map rest rows)

abbrev pub partials_of : List AggName → List (List Val) → List Partial
partials_of [] rows = []
partials_of (n ∷ ns) rows = partial_of n (map first rows) ∷ partials_of ns (map rest rows)

abbrev pub values_of : List AggName → List Partial → List Val
values_of (n ∷ ns) (s ∷ ss) = finished n s ∷ values_of ns ss
values_of ns ss = []

-- there is no group without a row
abbrev pub group_partials : List AggName → List (List Val) → Option (List Partial)
group_partials names [] = None
group_partials names (r ∷ rs) = Some (partials_of names (r ∷ rs))

-- partials of the same aggregates, joined one by one, and of key lists of which one may have no group
abbrev pub joined_all : List AggName → List Partial → List Partial → List Partial
joined_all (n ∷ ns) (s ∷ ss) (t ∷ ts) = joined n s t ∷ joined_all ns ss ts
joined_all ns ss ts = []

abbrev pub merged_at : List AggName → Option (List Partial) → Option (List Partial) → Option (List Partial)
merged_at names = better (joined_all names)

-- a key list with its partials
abbrev pub Entry : Type 0
Entry = List Val × List Partial

-- the partials of a key list
abbrev pub partials_at : List Val → List Entry → Option (List Partial)
partials_at ks [] = None
partials_at ks (e ∷ es) = if same_keys ks e.0 then Some e.1 else partials_at ks es

-- no key list stands twice
abbrev pub AreApart : List Entry → Type 0
AreApart [] = Unit {0}
AreApart (e ∷ es) = (partials_at e.0 es ≡ None) × AreApart es

-- the entries stand for the rows: each key list has the partials of its rows, and none that no row has is there
abbrev pub GroupsStandFor : List AggName → List Entry → List Keyed → Type 0
GroupsStandFor names entries rows = (ks : List Val) → partials_at ks entries ≡ group_partials names (group_of ks rows)
