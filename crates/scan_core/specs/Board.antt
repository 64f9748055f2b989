-- The state of a scan, and what is kept of it.
use Rattle.std.specs.Prelude.{◌≡◌, ℕ, zero, suc, ◌+◌, ◌*◌, ◌<◌, ◌≤◌, min, max, true, false, ◌||◌, Option, Some, None, List, [], ◌∷◌, ◌++◌, length, nat_lt, if◌then◌else◌}
use mathlib.Core.Option.{some}
use lib.ListN.{get_elem?}
use Rattle.scan_core.specs.Times.{total, times}
use Rattle.scan_core.specs.declared.view.ScanView.{ScanView}

-- the state of a scan: how many blocks there are, how many rows are enough, the block that is claimed next, the rows and the least damage that were reported, and the view of each seat
pub record Scan : Type 0 where
  pub blocks : ℕ
  pub enough : Option ℕ
  pub next : ℕ
  pub rows : ℕ
  pub damage : Option ℕ
  pub views : List ScanView

-- f of each number below n, added up
abbrev pub total_below : (ℕ → ℕ) → ℕ → ℕ
total_below f zero = 0
total_below f (suc n) = total_below f n + f n

-- the lesser of two numbers that may be absent
abbrev pub lesser : Option ℕ → Option ℕ → Option ℕ
lesser None b = b
lesser (Some a) None = Some a
lesser (Some a) (Some b) = Some (min a b)

-- a is there where b is, and is at most b
abbrev pub AtMost : Option ℕ → Option ℕ → Type 0
AtMost a b = lesser a b ≡ a

-- the least damage of these views
abbrev pub least_of : List ScanView → Option ℕ
least_of [] = None
least_of (v ∷ vs) = lesser v.least (least_of vs)

-- the most rows of one block
abbrev pub most_rows : ℕ
most_rows = 1048576

-- what one view keeps, whatever the others did
pub record IsSound (v : ScanView) : Type 0 where
  pub reports : v.reports ≤ length v.claims
  pub rows : v.rows ≤ most_rows * v.reports
  pub least : (b : ℕ) → v.least ≡ Some b → 0 < times b v.claims

-- what one view keeps in a state
pub record Fits (s : Scan) (v : ScanView) : Type 0 where
  pub sound : IsSound v
  pub ended : v.ended ≡ true → s.next ≡ s.blocks
  pub seen_rows : v.seen_rows ≤ s.rows
  pub seen_damage : AtMost s.damage v.seen_damage

-- what a state keeps. Whatever the claims are weighed by, together they weigh what the numbers below `next` weigh: they are these, each once
pub record Kept (s : Scan) : Type 0 where
  pub bounded : s.next ≤ s.blocks
  pub claims : (f : ℕ → ℕ) → total (λ v. total f v.claims) s.views ≡ total_below f s.next
  pub rows : s.rows ≡ total (λ v. v.rows) s.views
  pub damage : s.damage ≡ least_of s.views
  pub each : (i : ℕ) (v : ScanView) → get_elem? s.views i ≡ some v → Fits s v

-- the view of a seat that has done and seen nothing
abbrev pub empty_view : ScanView
empty_view = record { claims = []; rows = 0; reports = 0; least = None; seen_rows = 0; seen_damage = None; ended = false }

-- 1 where x is below n, and else 0
abbrev pub once_below : ℕ → ℕ → ℕ
once_below x n = if nat_lt x n then 1 else 0

-- the view with one more claim
abbrev pub claimed : ScanView → ℕ → ScanView
claimed v n = record v { claims = v.claims ++ n ∷ [] }

-- the view once no block was left
abbrev pub ending : ScanView → ScanView
ending v = record v { ended = true }

-- the view with the rows of one more block
abbrev pub reported : ScanView → ℕ → ScanView
reported v n = record v { rows = v.rows + n; reports = v.reports + 1 }

-- the view with one more damaged block
abbrev pub harmed : ScanView → ℕ → ScanView
harmed v b = record v { least = lesser v.least (Some b) }

-- the view once these rows were seen
abbrev pub saw_rows : ScanView → ℕ → ScanView
saw_rows v n = record v { seen_rows = n }

-- the view once this damage was seen
abbrev pub saw_damage : ScanView → Option ℕ → ScanView
saw_damage v d = record v { seen_damage = d }

-- what two seats did and saw together
abbrev pub joined : ScanView → ScanView → ScanView
joined v w = record {
  claims = v.claims ++ w.claims;
  rows = v.rows + w.rows;
  reports = v.reports + w.reports;
  least = lesser v.least w.least;
  seen_rows = max v.seen_rows w.seen_rows;
  seen_damage = lesser v.seen_damage w.seen_damage;
  ended = v.ended || w.ended;
}

-- a state by its parts
abbrev pub scan : ℕ → Option ℕ → ℕ → ℕ → Option ℕ → List ScanView → Scan
scan b e n r d vs = record { blocks = b; enough = e; next = n; rows = r; damage = d; views = vs }
