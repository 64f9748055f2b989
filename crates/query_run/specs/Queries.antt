-- Which texts of queries are answered, and why the others aren't.
use Rattle.std.specs.Prelude.{◌≡◌, ℕ, List, ⊤, None, Some}
use Rattle.tree_meaning.specs.Tree.{Query}
use Rattle.query_meaning.specs.Faults as text
use Rattle.query_meaning.specs.Faults.{ComesTo, is_query}
use Rattle.check_meaning.specs.Fault.{Fault}
use Rattle.check_meaning.specs.Verdict.{fault_of}

-- why a text isn't answered: it is no text of a query, or its query isn't accepted
pub data Refused : Type 0 where
  unread : text.Verdict → Refused
  unchecked : Fault → Refused

-- the text is this query, which is accepted
pub record Accepts (sql : List ℕ) (q : Query) : Type 0 where
  pub comes : ComesTo sql (is_query q)
  pub faultless : fault_of q ≡ None

-- the verdict on a text is a fault
abbrev pub IsTextFault : text.Verdict → Type 0
IsTextFault (text.is_query q) = ⊥
IsTextFault v = ⊤

-- the first that stands against the text
pub data Refuses (sql : List ℕ) : Refused → Type 0 where
  by_reading : {v : text.Verdict} → ComesTo sql v → IsTextFault v → Refuses sql (unread v)
  by_checking : {q : Query} {f : Fault} → ComesTo sql (is_query q) → fault_of q ≡ Some f → Refuses sql (unchecked f)

abbrev pub IsAccepted : List ℕ → Type 0
IsAccepted sql = (q : Query) × Accepts sql q

abbrev pub IsRefused : List ℕ → Type 0
IsRefused sql = (f : Refused) × Refuses sql f
