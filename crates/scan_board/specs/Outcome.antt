-- What a board came to.
use Rattle.std.specs.Prelude.{ℕ, Option, List}
use Rattle.scan_core.specs.declared.view.ScanView.{ScanView}
use Rattle.scan_core.specs.Board.{Scan, scan}

-- what the board was made with, and what its seats did there
pub record Outcome : Type 0 where
  pub blocks : ℕ
  pub enough : Option ℕ
  pub next : ℕ
  pub rows : ℕ
  pub damage : Option ℕ

-- the state of the machine that this and the views of the seats show
abbrev pub state_of : Outcome → List ScanView → Scan
state_of o vs = scan o.blocks o.enough o.next o.rows o.damage vs
