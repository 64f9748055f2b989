-- Which event of the machine each kind of step is.
use Rattle.std.specs.Prelude.{◌≡◌, ℕ, [], slice_index}
use mathlib.Core.Option.{none, some}
use lib.ListN.{get_elem?}
use Rattle.atomic_table.specs.Table.{State, Step, step, keeps, stepped}
use Rattle.scan_core.specs.declared.event.ScanEvent.{ScanEvent}
use Rattle.scan_core.specs.Events.{May, after}
use Rattle.scan_board.specs.declared.running.Running.{Running}
use Rattle.scan_board.specs.declared.running.BoardKey.{BoardKey}
use Rattle.scan_board.specs.Rule.{Held, shown, Holds}

-- A step of the seat id from the board s to the board t: f of what it finds in the word is put there, and the seat's view m becomes w, as the kind of step says
pub record IsStep (word operand : ℕ) (f : ℕ → ℕ) (kind : Step (Unit {0}) → Held → ℕ → Held → Type 0) (id : ℕ) (m w : Running) (s t : State (Unit {0}) Running) : Type 0 where
  pub there : get_elem? s.views id ≡ some m
  pub tells : kind (step 0 word operand 0 none) (m, []) (slice_index s.words word) (w, [])
  pub after : t ≡ stepped s word (f (slice_index s.words word)) id [] w keeps

-- Whatever the board is, such a step of a seat that may do this is this event of that seat, and nothing else
abbrev pub IsEvent : BoardKey → ℕ → ℕ → (ℕ → ℕ) → (Step (Unit {0}) → Held → ℕ → Held → Type 0) → (ℕ → ScanEvent) → Type 0
IsEvent key word operand f kind event =
    (s t : State (Unit {0}) Running) (id : ℕ) (m w : Running) → Holds key s → m.seats ≡ 1 → May (shown key s) (event id)
    → IsStep word operand f kind id m w s t → shown key t ≡ after (shown key s) (event id)
