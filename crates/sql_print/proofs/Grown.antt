-- Texts that have grown piece by piece.
use Rattle.std.proofs.Common.{◌≡◌, ◌∙◌, ℕ, List, ◌++◌, append_assoc}

-- by two pieces, the first of them added before
pub by_two : (old mid p q whole : List ℕ) → mid ≡ old ++ p → whole ≡ p ++ q → mid ++ q ≡ old ++ whole
by_two old mid p q whole e f = rw (e, f) (append_assoc old p q)

-- by three pieces
pub by_three : (old first second p q r whole : List ℕ) → first ≡ old ++ p → second ≡ first ++ q → whole ≡ p ++ (q ++ r) → second ++ r ≡ old ++ whole
by_three old first second p q r whole e f g = rw (f, e, g) (append_assoc (old ++ p) q r ∙ append_assoc old p (q ++ r))

-- by four pieces
pub by_four : (old first second third p q r s whole : List ℕ) → first ≡ old ++ p → second ≡ first ++ q → third ≡ second ++ r → whole ≡ p ++ (q ++ (r ++ s)) → third ++ s ≡ old ++ whole
by_four old first second third p q r s whole e f g h = rw (g, f, e, h) (append_assoc ((old ++ p) ++ q) r s ∙ append_assoc (old ++ p) q (r ++ s) ∙ append_assoc old p (q ++ (r ++ s)))
