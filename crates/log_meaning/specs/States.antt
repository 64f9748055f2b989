-- The numbers from which the rows of a made log come: a linear congruential generator on 64 bits.
use Rattle.std.specs.Prelude.{ℕ, zero, suc, ◌+◌, ◌*◌, ◌%◌, ◌^◌}

-- the state after a state
unfoldable pub next_state : ℕ → ℕ
next_state s = (s * 6_364_136_223_846_793_005 + 1_442_695_040_888_963_407) % 2 ^ 64

-- the state after so many steps from the start
abbrev pub state_at : ℕ → ℕ → ℕ
state_at start zero = start
state_at start (suc i) = next_state (state_at start i)
