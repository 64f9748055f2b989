-- What holds after every list of events.
use Rattle.std.specs.Prelude.{◌≡◌, ℕ, ◌<◌, ◌≤◌, true, Some, List}
use mathlib.Core.Option.{some}
use lib.ListN.{get_elem?}
use Rattle.scan_core.specs.declared.view.ScanView.{ScanView}
use Rattle.scan_core.specs.Times.{total, times}
use Rattle.scan_core.specs.declared.event.ScanEvent.{ScanEvent}
use Rattle.scan_core.specs.Board.{Scan, once_below, AtMost}
use Rattle.scan_core.specs.Events.{AllLawful, run}

-- once a damage is known, each lower block is among the claims of a seat
abbrev pub CoveredBelow : Scan → Type 0
CoveredBelow s = (d : ℕ) → s.damage ≡ Some d → (x : ℕ) → x < d → (i : ℕ) × (v : ScanView) × (get_elem? s.views i ≡ some v) × (0 < times x v.claims)

-- once a seat has ended, the claims are all blocks
abbrev pub EndedIsAll : Scan → Type 0
EndedIsAll s = (i : ℕ) (v : ScanView) → get_elem? s.views i ≡ some v → v.ended ≡ true → (x : ℕ) → total (λ u. times x u.claims) s.views ≡ once_below x s.blocks

-- what a seat of s has seen holds in t
abbrev pub StaysTrue : Scan → Scan → Type 0
StaysTrue s t = (i : ℕ) (v : ScanView) → get_elem? s.views i ≡ some v → (v.seen_rows ≤ t.rows) × AtMost t.damage v.seen_damage

-- P holds after every list of lawful events from s
abbrev pub AfterAll : Scan → (Scan → Type 0) → Type 0
AfterAll s P = (es : List ScanEvent) → AllLawful s es → P (run s es)
