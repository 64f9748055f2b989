-- What holds of what is asked holds of what the words ask.
use Rattle.std.proofs.Common.{◌≡◌, ℕ, subst, sym}
use Rattle.snel_words.specs.Words.{Ask}

pub moved : (P : Ask → ℕ → Type 0) (a b : Ask) (m n : ℕ) → a ≡ b → n ≡ m → P a m → P b n
moved P a b m n e is h = subst (λ (k : ℕ). P b k) (sym is) (subst (λ (x : Ask). P x m) e h)
