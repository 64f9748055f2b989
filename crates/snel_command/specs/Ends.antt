-- With which status a call may end, and what the output then holds.
use Rattle.std.specs.Prelude.{ℕ, List, [], ◌∷◌, Option}
use Rattle.std.specs.Io.KnownBytes.{Keeps}
use Rattle.snel_device.specs.Contents.{Contents}
use Rattle.scan_meaning.specs.Verdicts.{IsAmong}
use Rattle.query_run.specs.Ends as of_query
use Rattle.query_run.specs.Checking.{Checks}
use Rattle.query_run.specs.Explained.{EndsExplained}
use Rattle.snel_words.specs.Words.{Ask, nothing, query, check, pack, explain, make}
use Rattle.snel_command.specs.Packs.{EndsPack}
use Rattle.snel_command.specs.Makes.{EndsMake}

-- A call ended that asks nothing: nothing was written.
pub record EndsUnasked (status : ℕ) (old new : Option (List ℕ)) : Type 0 where
  pub allowed : IsAmong status (2 ∷ 10 ∷ [])
  pub wrote : Keeps old new

-- A call ended as what it asks, the files and the input allow.
abbrev pub Ends : Ask → Option Contents → Option (List ℕ) → ℕ → Option (List ℕ) → Option (List ℕ) → Type 0
Ends nothing told left status old new = EndsUnasked status old new
Ends (query settings sql names) told left status old new = of_query.Ends sql settings.groups names told status old new
Ends (check names) told left status old new = Checks names told status old new
Ends (pack p name) told left status old new = EndsPack p name told left status old new
Ends (make start count name) told left status old new = EndsMake start count told status old new
Ends (explain sql) told left status old new = EndsExplained sql status old new
