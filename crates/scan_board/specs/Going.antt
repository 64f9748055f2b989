-- What a look says of going on.
use Rattle.std.specs.Prelude.{ℕ, nat_le, Bool, false, Option, Some, None, if◌then◌else◌}
use Rattle.scan_board.specs.declared.board.Go.{Go}
use Rattle.scan_board.specs.declared.board.Go.TheVariants.{On, Enough, Harm}

-- whether so many rows are enough
abbrev pub reached : Option ℕ → ℕ → Bool
reached None rows = false
reached (Some e) rows = nat_le e rows

-- the answer where the rows aren't enough
abbrev pub harm_or_on : Option ℕ → Go
harm_or_on None = On
harm_or_on (Some k) = Harm k

-- the answer, by the rows and the damage that were seen
abbrev pub go_of : Option ℕ → ℕ → Option ℕ → Go
go_of enough rows damage = if reached enough rows then Enough else harm_or_on damage
