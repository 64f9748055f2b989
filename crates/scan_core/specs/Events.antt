-- The events of a scan, as plain data.
use Rattle.std.specs.Prelude.{◌≡◌, ℕ, ◌+◌, ◌<◌, ◌≤◌, false, Option, Some, None, List, [], ◌∷◌, length, slice_index_or, slice_set, nat_lt, if◌then◌else◌, replicate}
use Rattle.scan_core.specs.declared.view.ScanView.{ScanView}
use Rattle.scan_core.specs.declared.event.ScanEvent.{ScanEvent}
use Rattle.scan_core.specs.declared.event.ScanEvent.TheVariants as event
use Rattle.scan_core.specs.declared.event.Told.{Told}
use Rattle.scan_core.specs.declared.event.Told.TheVariants as told
use Rattle.scan_core.specs.Times.{times}
use Rattle.scan_core.specs.Board.{Scan, scan, most_rows, lesser, empty_view, claimed, ending, reported, harmed, saw_rows, saw_damage}

-- the view of a seat
abbrev pub at : Scan → ℕ → ScanView
at s k = slice_index_or s.views k empty_view

-- the seat of an event
abbrev pub seat_of : ScanEvent → ℕ
seat_of (event.Claim k) = k
seat_of (event.Rows k n) = k
seat_of (event.Damage k b) = k
seat_of (event.LookRows k) = k
seat_of (event.LookDamage k) = k

-- what the event asks of its seat
abbrev pub Lawful : Scan → ScanEvent → Type 0
Lawful s (event.Claim k) = (at s k).ended ≡ false
Lawful s (event.Rows k n) = ((at s k).reports < length (at s k).claims) × (n ≤ most_rows)
Lawful s (event.Damage k b) = 0 < times b (at s k).claims
Lawful s (event.LookRows k) = Unit {0}
Lawful s (event.LookDamage k) = Unit {0}

-- the state with another view, next block, number of rows and damage
abbrev pub with : Scan → ℕ → ScanView → ℕ → ℕ → Option ℕ → Scan
with s k v n r d = scan s.blocks s.enough n r d (slice_set s.views k v)

-- the state after an event that is lawful
abbrev pub after : Scan → ScanEvent → Scan
after s (event.Claim k) = if nat_lt s.next s.blocks then with s k (claimed (at s k) s.next) (s.next + 1) s.rows s.damage else with s k (ending (at s k)) s.next s.rows s.damage
after s (event.Rows k n) = with s k (reported (at s k) n) s.next (s.rows + n) s.damage
after s (event.Damage k b) = with s k (harmed (at s k) b) s.next s.rows (lesser s.damage (Some b))
after s (event.LookRows k) = with s k (saw_rows (at s k) s.rows) s.next s.rows s.damage
after s (event.LookDamage k) = with s k (saw_damage (at s k) s.damage) s.next s.rows s.damage

-- what the event tells its seat
abbrev pub tells : Scan → ScanEvent → Told
tells s (event.Claim k) = if nat_lt s.next s.blocks then told.Block s.next else told.NoBlock
tells s (event.Rows k n) = told.Done
tells s (event.Damage k b) = told.Done
tells s (event.LookRows k) = told.Rows s.rows
tells s (event.LookDamage k) = told.Damage s.damage

-- the seat is there, and the event is lawful
abbrev pub May : Scan → ScanEvent → Type 0
May s e = (seat_of e < length s.views) × Lawful s e

-- each event may happen where it comes
abbrev pub AllLawful : Scan → List ScanEvent → Type 0
AllLawful s [] = Unit {0}
AllLawful s (e ∷ es) = May s e × AllLawful (after s e) es

-- the state after these events
abbrev pub run : Scan → List ScanEvent → Scan
run s [] = s
run s (e ∷ es) = run (after s e) es

-- nothing is claimed, reported or seen
abbrev pub opening : ℕ → ℕ → Option ℕ → Scan
opening seats blocks enough = scan blocks enough 0 0 None (replicate seats empty_view)
