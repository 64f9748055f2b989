-- The rows of a chunk or of a block that pass, one after the other.
use Rattle.std.proofs.Common.{◌≡◌, ℕ, zero, suc, ◌+◌, ◌≤◌, ◌<◌, Bool, true, false, cond, List, [], ◌∷◌, ◌++◌, length, take, drop, Option, None, Some, refl, sym, ap, subst, ◌∙◌, arith}
use Rattle.std.specs.Prelude.{slice_get}
use Rattle.std.specs.List.{filter}
use Rattle.std.proofs.lemmas.List.Elements.{filter-append}
use Rattle.value_meaning.specs.Val.{Val}
use Rattle.program_meaning.specs.Jobs.{Job}
use Rattle.lane_ssa.specs.ChunksOf.{rows_from}
use Rattle.block_lines.specs.RowLines.{keeps, kept_rows}
use Rattle.block_lines.proofs.LaneByLane.{keeps_at}

-- the rows up to a place where one passes
pub kept_here : (job : Job) (rows : List Val) (i : ℕ) (row : Val) → slice_get rows i ≡ Some row → keeps_at job (slice_get rows i) ≡ true
    → kept_rows job (take (suc i) rows) ≡ kept_rows job (take i rows) ++ row ∷ []
kept_here job [] i row e k = absurd (cc)
kept_here job (r ∷ rows) zero row e k =
    let same : r ≡ row = cc in
    rw k (ap (λ (x : Val). x ∷ []) same)
kept_here job (r ∷ rows) (suc i) row e k = by_test (keeps job r) (kept_rows job (take (suc i) rows)) (kept_rows job (take i rows)) (kept_here job rows i row e k)
  where
    by_test : (b : Bool) (xs ys : List Val) → xs ≡ ys ++ row ∷ [] → cond b (r ∷ xs) xs ≡ cond b (r ∷ ys) ys ++ row ∷ []
    by_test true xs ys h = ap (λ (l : List Val). r ∷ l) h
    by_test false xs ys h = h

-- and where none does
pub none_here : (job : Job) (rows : List Val) (i : ℕ) → keeps_at job (slice_get rows i) ≡ false → kept_rows job (take (suc i) rows) ≡ kept_rows job (take i rows)
none_here job [] zero k = refl
none_here job [] (suc i) k = refl
none_here job (r ∷ rows) zero k = rw k refl
none_here job (r ∷ rows) (suc i) k = by_test (keeps job r) (kept_rows job (take (suc i) rows)) (kept_rows job (take i rows)) (none_here job rows i k)
  where
    by_test : (b : Bool) (xs ys : List Val) → xs ≡ ys → cond b (r ∷ xs) xs ≡ cond b (r ∷ ys) ys
    by_test true xs ys h = ap (λ (l : List Val). r ∷ l) h
    by_test false xs ys h = h

-- a kept place has a row
pub row_here : (job : Job) (rows : List Val) (i : ℕ) → keeps_at job (slice_get rows i) ≡ true → (row : Val) × (slice_get rows i ≡ Some row)
row_here job [] zero k = absurd (cc)
row_here job [] (suc i) k = absurd (cc)
row_here job (r ∷ rows) zero k = (r, refl)
row_here job (r ∷ rows) (suc i) k = row_here job rows i k

-- as many rows as there are, or more, are all
pub all_taken : (rows : List Val) (n : ℕ) → length rows ≤ n → take n rows ≡ rows
all_taken [] zero l = refl
all_taken [] (suc n) l = refl
all_taken (r ∷ rows) zero l = absurd (omega arith)
all_taken (r ∷ rows) (suc n) l = ap (λ (x : List Val). r ∷ x) (all_taken rows n (omega arith))

take_more : (first : ℕ) (rows : List Val) → take first rows ++ take 16 (drop first rows) ≡ take (first + 16) rows
take_more zero rows = let e : 16 ≡ 0 + 16 = omega arith in ap (λ n. take n rows) e
take_more (suc n) [] = let e : suc (n + 16) ≡ suc n + 16 = omega arith in ap (λ k. take {A = Val} k []) e
take_more (suc n) (r ∷ rows) = let e : suc (n + 16) ≡ suc n + 16 = omega arith in ap (λ (l : List Val). r ∷ l) (take_more n rows) ∙ ap (λ k. take k (r ∷ rows)) e

-- those that pass up to a chunk, and in it
pub kept_split : (job : Job) (first : ℕ) (rows : List Val) → kept_rows job (take first rows) ++ kept_rows job (rows_from first rows) ≡ kept_rows job (take (first + 16) rows)
kept_split job first rows = sym (filter-append (keeps job) (take first rows) (rows_from first rows)) ∙ ap (kept_rows job) (take_more first rows)
