-- Laws of the query over a log.
use Rattle.std.specs.Prelude.{◌≡◌, ◌≤◌, ℕ, List, [], ◌∷◌, length, Option, Some, None}
use Rattle.snel_device.specs.Contents.{Contents}
use Rattle.value_meaning.specs.Val.{Val}
use Rattle.query_meaning.specs.Faults.{ComesTo, is_query}
use Rattle.check_meaning.specs.Verdict.{fault_of}
use Rattle.scan_meaning.specs.Verdicts.{Verdict, Finds}
use Rattle.scan_meaning.specs.Answers.{EndsAs}
use Rattle.pack_meaning.specs.PackedFiles.{HoldsRows}
use Rattle.make_meaning.specs.LogQuery.{text, query, EndsOver}

-- the text is the query, which has no fault
pub record LogQueryIsAccepted : Type 0 where
  pub comes : ComesTo text (is_query query)
  pub faultless : fault_of query ≡ None

-- over a file of rows whose entries are sound, and which are no more than the limit on groups, the query ends over these rows
abbrev pub LogQueryEnds : Type 0
LogQueryEnds =
    (limit : ℕ) (field bytes name : List ℕ) (rows : List Val) (files : Contents) (ended : ℕ) (old new : Option (List ℕ))
    → HoldsRows field bytes rows → files name ≡ Some bytes → length rows ≤ limit
    → ((v : Verdict) → Finds query (name ∷ []) (Some files) v → EndsAs query limit v ended old new)
    → EndsOver rows ended old new
