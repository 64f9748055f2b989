-- What adding a row and joining other groups make of the rows for which groups stand.
use Rattle.std.specs.Prelude.{◌≡◌, List, [], ◌∷◌, ◌++◌, length}
use Rattle.value_meaning.specs.Val.{Val}
use Rattle.hash_agg.specs.Groups.{Keyed, GroupsStandFor, partials_at}
use Rattle.agg_laws.specs.declared.seen.Seen.{Seen}
use Rattle.hash_agg.specs.Items.{ShowsAll, alone_all}
use Rattle.hash_agg.specs.Held.{Held}
use Rattle.hash_agg.specs.Adds.{Joins, only_at}

-- a row is added at the end
abbrev pub AddingStands : Type 0
AddingStands =
    (old new : Held) (keys : List Val) (items : List Seen) (operands : List Val) (rows : List Keyed)
    → length items ≡ length old.names → ShowsAll items operands → Joins (only_at keys (alone_all old.names items)) old new
    → GroupsStandFor old.names old.entries rows → GroupsStandFor new.names new.entries (rows ++ (keys, operands) ∷ [])

-- the others' rows are added at the end
abbrev pub JoiningStands : Type 0
JoiningStands =
    (old other new : Held) (rows more : List Keyed)
    → other.names ≡ old.names → Joins (λ ks. partials_at ks other.entries) old new
    → GroupsStandFor old.names old.entries rows → GroupsStandFor other.names other.entries more → GroupsStandFor new.names new.entries (rows ++ more)
