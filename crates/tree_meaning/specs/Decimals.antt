-- Numbers that decimal digits spell.
use Rattle.std.specs.Prelude.{ℕ, ◌+◌, ◌*◌, ◌-◌, List, [], ◌∷◌}

-- the decimal number behind the digits so far
abbrev pub decimal_on : ℕ → List ℕ → ℕ
decimal_on so_far [] = so_far
decimal_on so_far (b ∷ bs) = decimal_on (so_far * 10 + (b - 48)) bs
