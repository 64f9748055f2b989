-- Room in a partial aggregate: it stands for lists that are short enough for its counts and its sum.
use Rattle.std.specs.Prelude.{ℕ, ◌+◌, ◌<◌, List, length}
use Rattle.value_meaning.specs.Val.{Val}
use Rattle.tree_meaning.specs.declared.AggName.{AggName}
use Rattle.agg_meaning.specs.Partials.{Partial, StandsFor}

-- a partial aggregate is of fewer values than this, 2 ^ 46
abbrev pub most_values : ℕ
most_values = 70_368_744_177_664

-- the partial stands for some list that may grow by a value
abbrev pub HasRoom : AggName → Partial → Type 0
HasRoom n s = (vs : List Val) × StandsFor n s vs × length vs + 1 < most_values

-- the two stand for some lists of few enough values together
abbrev pub HaveRoom : AggName → Partial → Partial → Type 0
HaveRoom n s t =
    (vs : List Val) × (ws : List Val) × StandsFor n s vs × StandsFor n t ws × length vs + length ws < most_values
