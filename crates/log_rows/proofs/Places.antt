-- The pairs of a row are added in the order of their names.
use Rattle.std.proofs.Common.{◌≡◌, ℕ, ◌%◌, ◌==◌, Bool, true, false, List, [], ◌∷◌, ◌++◌, refl, sym, ap, ◌∙◌, subst}
use Rattle.std.specs.Prelude.{ℤ, pos, codes, if◌then◌else◌}
use Rattle.value_meaning.specs.Val.{Val, int, time, text, struct, fields}
use Rattle.value_meaning.specs.Pairs.{Pairs, IsAboveLast}
use Rattle.log_meaning.specs.Rows.{agent_of, bytes_of, path_of, first_pairs, status_pairs, status_value, row_pairs, row_from, time_of}

above_path : (state : ℕ) → IsAboveLast (codes "status") (first_pairs state)
unfolding first_pairs
above_path state = refl

-- `status` is above `path`
pub status_fits : (state : ℕ) (pairs : Pairs) → pairs ≡ first_pairs state → IsAboveLast (codes "status") pairs
status_fits state pairs are = subst (λ p. IsAboveLast (codes "status") p) (sym are) (above_path state)

above_status : (absent : Bool) (agent path : List ℕ) (bytes : ℤ) (v : Val)
    → IsAboveLast (codes "time") ((codes "agent", text agent) ∷ (codes "bytes", int bytes) ∷ (codes "path", text path) ∷ (if absent then [] else (codes "status", v) ∷ []))
above_status true agent path bytes v = refl
above_status false agent path bytes v = refl

above_all : (number state : ℕ) → IsAboveLast (codes "time") (first_pairs state ++ status_pairs number state)
unfolding first_pairs status_pairs
above_all number state = above_status (number % 7 == 3) (agent_of state) (path_of state) (pos (bytes_of state)) (status_value number state)

-- `time` is above `status`, and above `path` where there is no status
pub time_fits : (number state : ℕ) (before after : Pairs) (name : List ℕ) → before ≡ first_pairs state
    → after ≡ before ++ status_pairs number state → name ≡ codes "time" → IsAboveLast name after
time_fits number state before after name first next named =
    subst (λ n. IsAboveLast n after) (sym named)
    (subst (λ p. IsAboveLast (codes "time") p) (sym (next ∙ ap (λ p. p ++ status_pairs number state) first)) (above_all number state))

-- the pairs are those of the row
pub row_is : (number state : ℕ) (before after all : Pairs) (name : List ℕ) (t : ℤ) → before ≡ first_pairs state
    → after ≡ before ++ status_pairs number state → name ≡ codes "time" → t ≡ time_of number
    → all ≡ after ++ (name, time t) ∷ [] → struct (fields all) ≡ row_from number state
unfolding row_pairs
row_is number state before after all name t first next named at whole =
    ap (λ p. struct (fields p))
    (whole ∙ ap (λ p. p ++ (name, time t) ∷ []) (next ∙ ap (λ p. p ++ status_pairs number state) first)
    ∙ ap (λ n. first_pairs state ++ status_pairs number state ++ (n, time t) ∷ []) named
    ∙ ap (λ z. first_pairs state ++ status_pairs number state ++ (codes "time", time z) ∷ []) at)
