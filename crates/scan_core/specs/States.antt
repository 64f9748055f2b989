-- What one step of the code does.
use Rattle.std.specs.Prelude.{◌≡◌, ◌<◌, ◌≤◌, length, Result, Ok, Err}
use Rattle.scan_core.specs.declared.state.ScanState.{ScanState}
use Rattle.scan_core.specs.declared.event.ScanEvent.{ScanEvent}
use Rattle.scan_core.specs.declared.event.ScanEvent.TheVariants as event
use Rattle.scan_core.specs.declared.event.Told.{Told}
use Rattle.scan_core.specs.declared.event.StepFault.{StepFault}
use Rattle.scan_core.specs.declared.event.StepFault.TheVariants.{NoSuchSeat, Unlawful, OutOfMemory}
use Rattle.scan_core.specs.Board.{Scan, scan}
use Rattle.scan_core.specs.Events.{seat_of, Lawful, May, after, tells}

-- the state that the code's state stands for
abbrev pub shown : ScanState → Scan
shown s = scan s.blocks s.enough s.next s.rows s.damage s.views

-- the event puts one more block among the claims of its seat
abbrev pub TakesClaim : Scan → ScanEvent → Type 0
TakesClaim s (event.Claim k) = s.next < s.blocks
TakesClaim s (event.Rows k n) = ⊥
TakesClaim s (event.Damage k b) = ⊥
TakesClaim s (event.LookRows k) = ⊥
TakesClaim s (event.LookDamage k) = ⊥

-- what a step from s to t with this result says
abbrev pub Steps : ScanState → ScanEvent → ScanState → Result Told StepFault → Type 0
Steps s e t (Ok x) = May (shown s) e × (shown t ≡ after (shown s) e) × (x ≡ tells (shown s) e)
Steps s e t (Err NoSuchSeat) = (length s.views ≤ seat_of e) × (shown t ≡ shown s)
Steps s e t (Err Unlawful) = (seat_of e < length s.views) × (Lawful (shown s) e → ⊥) × (shown t ≡ shown s)
Steps s e t (Err OutOfMemory) = May (shown s) e × TakesClaim (shown s) e × (shown t ≡ shown s)
