-- The query that is put to a log once it is made: how many rows have each status.
use Rattle.std.specs.Prelude.{ℕ, List, [], ◌∷◌, false, Option, Some, None, codes}
use Rattle.value_meaning.specs.Val.{Val}
use Rattle.tree_meaning.specs.declared.AggName.TheVariants.{CountAll}
use Rattle.tree_meaning.specs.Tree.{name, Ex, path, agg_of_rows, named, Query}
use Rattle.scan_meaning.specs.Answers.{AddsAnswer}
use Rattle.scan_meaning.specs.Verdicts.{IsAmong}

-- the text of the query
abbrev pub text : List ℕ
text = codes "SELECT status, COUNT(*) AS n FROM logs GROUP BY status ORDER BY status"

abbrev pub status : Ex
status = path 0 (name (codes "status") ∷ [])

-- the query of that text
abbrev pub query : Query
query =
    record {
      outs = named ((status, None) ∷ (agg_of_rows CountAll, Some (codes "n")) ∷ []);
      source = codes "logs";
      alias = None;
      filter = None;
      keys = status ∷ [];
      having = None;
      order = (status, false) ∷ [];
      take = None;
      skip = 0;
    }

-- The query ended over these rows with this status and this in the sink: the lines of its answer at status 0, else a front of them. No
-- other file, block or group stands in its way.
pub record EndsOver (rows : List Val) (status : ℕ) (old new : Option (List ℕ)) : Type 0 where
  pub allowed : IsAmong status (8 ∷ 9 ∷ 0 ∷ 10 ∷ [])
  pub wrote : AddsAnswer query rows status old new
