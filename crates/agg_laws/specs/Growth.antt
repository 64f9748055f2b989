-- What partial aggregates stand for after they were added to and joined.
use Rattle.std.specs.Prelude.{List, [], ◌∷◌, ◌++◌}
use Rattle.value_meaning.specs.Val.{Val}
use Rattle.tree_meaning.specs.declared.AggName.{AggName}
use Rattle.agg_meaning.specs.Partials.{Partial, StandsFor}
use Rattle.agg_laws.specs.declared.seen.Seen.{Seen}
use Rattle.agg_laws.specs.Shows.{Shows}

-- the new one stands for each list for which the old one stood, with a value that the item shows at its end
abbrev pub AddsItem : AggName → Partial → Seen → Partial → Type 0
AddsItem n old item new =
    (vs : List Val) (v : Val) → StandsFor n old vs → Shows item v → StandsFor n new (vs ++ v ∷ [])

-- the new one stands for each list for which the old one stood, followed by each for which the other stands
abbrev pub AddsList : AggName → Partial → Partial → Partial → Type 0
AddsList n old other new =
    (vs ws : List Val) → StandsFor n old vs → StandsFor n other ws → StandsFor n new (vs ++ ws)
