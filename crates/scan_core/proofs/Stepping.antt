-- What each result of a step says.
use Rattle.std.proofs.Common.{◌≡◌, ◌<◌, ◌≤◌, ◌↔◌, length, Result, Ok, Err, IfOk, OnErr, IsErrOf, refl, arith}
use Rattle.scan_core.specs.declared.state.ScanState.{ScanState}
use Rattle.scan_core.specs.declared.event.ScanEvent.{ScanEvent}
use Rattle.scan_core.specs.declared.event.Told.{Told}
use Rattle.scan_core.specs.declared.event.StepFault.{StepFault}
use Rattle.scan_core.specs.declared.event.StepFault.TheVariants.{NoSuchSeat, Unlawful, OutOfMemory}
use Rattle.scan_core.specs.Events.{seat_of, Lawful, May, after, tells}
use Rattle.scan_core.specs.States.{shown, Steps, TakesClaim}

module _ (s : ScanState) (e : ScanEvent) (t : ScanState) where
  pub is_allowed : (r : Result Told StepFault) → Steps s e t r → IfOk r (λ _. May (shown s) e)
  is_allowed (Ok x) p = p.0
  is_allowed (Err x) p = tt

  pub is_after : (r : Result Told StepFault) → Steps s e t r → IfOk r (λ _. shown t ≡ after (shown s) e)
  is_after (Ok x) p = p.1
  is_after (Err x) p = tt

  pub is_told : (r : Result Told StepFault) → Steps s e t r → IfOk r (λ x. x ≡ tells (shown s) e)
  is_told (Ok x) p = p.2
  is_told (Err x) p = tt

  pub is_same : (r : Result Told StepFault) → Steps s e t r → OnErr r (shown t ≡ shown s)
  is_same (Ok x) p = tt
  is_same (Err NoSuchSeat) p = p.1
  is_same (Err Unlawful) p = p.2
  is_same (Err OutOfMemory) p = p.2

  pub no_seat : (r : Result Told StepFault) → Steps s e t r → IsErrOf r NoSuchSeat ↔ (length s.views ≤ seat_of e)
  no_seat (Ok x) p = let h = p.0.0 in (λ q. absurd (let no : Ok x ≡ Err NoSuchSeat = q in cc), λ q. absurd (omega arith))
  no_seat (Err NoSuchSeat) p = (λ _. p.0, λ _. refl)
  no_seat (Err Unlawful) p = let h = p.0 in (λ q. absurd (let no : Err Unlawful ≡ Err NoSuchSeat = q in cc), λ q. absurd (omega arith))
  no_seat (Err OutOfMemory) p = let h = p.0.0 in (λ q. absurd (let no : Err OutOfMemory ≡ Err NoSuchSeat = q in cc), λ q. absurd (omega arith))

  pub is_unlawful : (r : Result Told StepFault) → Steps s e t r → IsErrOf r Unlawful ↔ ((seat_of e < length s.views) × (Lawful (shown s) e → ⊥))
  is_unlawful (Ok x) p = (λ q. absurd (let no : Ok x ≡ Err Unlawful = q in cc), λ q. absurd (q.1 p.0.1))
  is_unlawful (Err NoSuchSeat) p = let h = p.0 in (λ q. absurd (let no : Err NoSuchSeat ≡ Err Unlawful = q in cc), λ q. absurd (let there = q.0 in omega arith))
  is_unlawful (Err Unlawful) p = (λ _. (p.0, p.1), λ _. refl)
  is_unlawful (Err OutOfMemory) p = (λ q. absurd (let no : Err OutOfMemory ≡ Err Unlawful = q in cc), λ q. absurd (q.1 p.0.1))

  pub wants_memory : (r : Result Told StepFault) → Steps s e t r → IsErrOf r OutOfMemory → TakesClaim (shown s) e
  wants_memory (Ok x) p q = absurd (let no : Ok x ≡ Err OutOfMemory = q in cc)
  wants_memory (Err NoSuchSeat) p q = absurd (let no : Err NoSuchSeat ≡ Err OutOfMemory = q in cc)
  wants_memory (Err Unlawful) p q = absurd (let no : Err Unlawful ≡ Err OutOfMemory = q in cc)
  wants_memory (Err OutOfMemory) p q = p.1
