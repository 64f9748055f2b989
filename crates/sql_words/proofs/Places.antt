-- The tokens from a place on.
use Rattle.std.proofs.Common.{◌≡◌, ℕ, zero, suc, ◌+◌, List, [], ◌∷◌, drop, Option, refl, add-one, true, false}
use Rattle.std.specs.Prelude.{slice_get, MatchOption}
use Rattle.sql_words.specs.declared.look.Look.{Look}
use Rattle.sql_words.specs.Seen.{seen, toks}
use Rattle.query_meaning.specs.declared.Mark.{Mark}
use Rattle.query_meaning.specs.Tokens.{Toks}
use Rattle.query_meaning.specs.Reading.{count_of, behind, begins}

first_at : (xs : List Look) (i : ℕ) (o : Option Look) → o ≡ slice_get xs i → MatchOption o (drop i (toks xs) ≡ []) (λ t. drop i (toks xs) ≡ seen t ∷ drop (suc i) (toks xs))
first_at [] zero o e = rw e refl
first_at [] (suc i) o e = rw e refl
first_at (x ∷ xs) zero o e = rw e refl
first_at (x ∷ xs) (suc i) o e = first_at xs i o e

pub first_of : (xs : List Look) (i : ℕ) (o : Option Look) → o ≡ slice_get xs i → MatchOption o (drop i (toks xs) ≡ []) (λ t. drop i (toks xs) ≡ seen t ∷ drop (i + 1) (toks xs))
first_of xs i o e = rw add-one (first_at xs i o e)

-- a mark that stands at a place, and one that doesn't
pub one_more : (k : Mark) (ts : Toks) (i : ℕ) → begins k (drop i ts) ≡ true → (count_of k (drop i ts) ≡ suc (count_of k (drop (i + 1) ts))) × (behind k (drop i ts) ≡ behind k (drop (i + 1) ts))
one_more k ts i e = rw add-one (go ts i e)
  where
    go : (ts : Toks) (i : ℕ) → begins k (drop i ts) ≡ true → (count_of k (drop i ts) ≡ suc (count_of k (drop (suc i) ts))) × (behind k (drop i ts) ≡ behind k (drop (suc i) ts))
    go [] zero e = absurd cc
    go [] (suc i) e = absurd cc
    go (t ∷ ts) zero e = rw e (refl, refl)
    go (t ∷ ts) (suc i) e = go ts i e

pub no_more : (k : Mark) (ts : Toks) → begins k ts ≡ false → (count_of k ts ≡ 0) × (behind k ts ≡ ts)
no_more k [] e = (refl, refl)
no_more k (t ∷ ts) e = rw e (refl, refl)
