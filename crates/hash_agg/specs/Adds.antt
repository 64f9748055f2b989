-- What adding a row and joining other groups change.
use Rattle.std.specs.Prelude.{ℕ, ◌+◌, [], ◌∷◌, ◌≡◌, List, Option, None, Some, if◌then◌else◌}
use Rattle.value_meaning.specs.Val.{Val}
use Rattle.agg_meaning.specs.Keys.{same_keys}
use Rattle.agg_meaning.specs.Partials.{Partial}
use Rattle.hash_agg.specs.Groups.{Entry, partials_at, merged_at}
use Rattle.tree_meaning.specs.declared.AggName.{AggName}
use Rattle.hash_agg.specs.Items.{EachTwoHaveRoom}
use Rattle.hash_agg.specs.Held.{Held}

-- the partials of one key list alone
abbrev pub only_at : List Val → List Partial → List Val → Option (List Partial)
only_at keys states ks = if same_keys ks keys then Some states else None

-- at each key list the partials are those that were there, joined with the others
pub record Joins (other : List Val → Option (List Partial)) (old new : Held) : Type 0 where
  pub names : new.names ≡ old.names
  pub limit : new.limit ≡ old.limit
  pub entries : (ks : List Val) → partials_at ks new.entries ≡ merged_at old.names (partials_at ks old.entries) (other ks)

-- how many of the entries have a key list that isn't there
abbrev pub one_if_none : Option (List Partial) → ℕ
one_if_none None = 1
one_if_none (Some ss) = 0

abbrev pub count_new : List Entry → List Entry → ℕ
count_new there [] = 0
count_new there (e ∷ es) = one_if_none (partials_at e.0 there) + count_new there es

-- the two partials of each key list of both have room together
abbrev pub TwoHaveRoom : List AggName → List Entry → List Entry → Type 0
TwoHaveRoom names entries others =
    (ks : List Val) (ss ts : List Partial) → partials_at ks entries ≡ Some ss → partials_at ks others ≡ Some ts
    → EachTwoHaveRoom names ss ts
