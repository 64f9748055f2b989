-- A status and its cause.
use Rattle.std.specs.Prelude.{◌≡◌, ◌⊎◌, ℕ}

-- This status comes exactly where this is its cause, and yields to want of memory.
pub record Exactly (status result : ℕ) (cause : Type 0) : Type 0 where
  pub only : result ≡ status → cause
  pub always : cause → (result ≡ status) ⊎ (result ≡ 10)
