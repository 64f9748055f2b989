-- What explaining a query owes: the listing of a job that simulates it.
use Rattle.std.specs.Prelude.{◌≡◌, ◌≢◌, ◌⊎◌, ℕ, List, [], ◌∷◌, ⊤, Option, Result, Ok, Err}
use Rattle.std.specs.Io.KnownBytes.{Keeps, Appends}
use Rattle.tree_meaning.specs.Tree.{Query}
use Rattle.program_meaning.specs.Jobs.{Job}
use Rattle.program_meaning.specs.Simulation.{Simulates}
use Rattle.plan_lower.specs.Listing.{listing_text}
use Rattle.scan_meaning.specs.Answers.{IsPrefix}
use Rattle.query_run.specs.Queries.{Accepts, IsAccepted, IsRefused, Refuses}
use Rattle.query_run.specs.TextFaults.{refused_view}
use Rattle.scan_meaning.specs.Verdicts.{IsAmong}
use Rattle.query_run.specs.declared.query_fault.QueryFault.{QueryFault}
use Rattle.query_run.specs.declared.query_fault.QueryFault.TheVariants.{Text, WriteFault, OutOfMemory}

-- A sink took the listing of a job that simulates the query: the whole listing at status 0, else a prefix of one.
pub record AddsListing (q : Query) (status : ℕ) (old new : Option (List ℕ)) : Type 0 where
  pub job : Job
  pub simulates : Simulates job q
  pub added : List ℕ
  pub appends : Appends old new added
  pub whole : status ≡ 0 → added ≡ listing_text job
  pub front : IsPrefix added (listing_text job)

-- A text was explained with this status, and with this in the sink.
pub record EndsExplained (sql : List ℕ) (status : ℕ) (old new : Option (List ℕ)) : Type 0 where
  pub only : IsAmong status (3 ∷ 9 ∷ 0 ∷ 10 ∷ [])
  pub refused : IsRefused sql → IsAmong status (3 ∷ 10 ∷ [])
  pub accepted : IsAccepted sql → IsAmong status (9 ∷ 0 ∷ 10 ∷ [])
  pub listed : (q : Query) → Accepts sql q → (status ≡ 0) ⊎ (status ≡ 9) → AddsListing q status old new
  pub quiet : status ≢ 0 → status ≢ 9 → Keeps old new

-- what a fault says of a text that is explained
abbrev pub SaysOfExplained : List ℕ → QueryFault → Type 0
SaysOfExplained sql (Text f) = Refuses sql (refused_view f)
SaysOfExplained sql WriteFault = IsAccepted sql
SaysOfExplained sql OutOfMemory = ⊤
SaysOfExplained sql fault = ⊥

abbrev pub HasExplainCause : {A : Type 0} → List ℕ → Result A QueryFault → Type 0
HasExplainCause sql (Ok a) = IsAccepted sql
HasExplainCause sql (Err fault) = SaysOfExplained sql fault
