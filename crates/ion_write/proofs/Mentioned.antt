-- Steps of the loops that gather names and texts.
use Rattle.std.proofs.Common.{◌≡◌, ℕ, ◌+◌, List, [], ◌∷◌, ◌++◌, drop, Bor, refl, sym, ap, ◌∙◌, append_assoc}
use Rattle.std.specs.Prelude.{filter}
use Rattle.std.proofs.lemmas.List.Elements.{filter-append}
use Rattle.value_meaning.specs.Val.{Val, fields}
use Rattle.value_meaning.specs.Pairs.{Pairs}
use Rattle.write_meaning.specs.BlockTables.{names, texts, pair_names, pair_texts, is_short}
use Rattle.ion_write.specs.PairAt.{IsPairAt}
use Rattle.ion_write.specs.Mentions.{shown}
use Rattle.ion_write.proofs.Smaller.{pairs_from}

pub shown_joined : (xs ys : List (Bor (List ℕ))) → shown (xs ++ ys) ≡ shown xs ++ shown ys
shown_joined [] ys = refl
shown_joined (x ∷ xs) ys = ap (λ ts. x.now ∷ ts) (shown_joined xs ys)

-- the name of one more pair, and the names in its value
pub names_next : (fs : Pairs) (i : ℕ) (b : Bor (List ℕ)) (v : Val) (old pushed new : List (Bor (List ℕ))) (whole : List (List ℕ)) → IsPairAt fs i b.now v
    → pushed ≡ old ++ b ∷ [] → shown new ≡ shown pushed ++ names v → shown old ++ pair_names (fields (drop i fs)) ≡ whole
    → shown new ++ pair_names (fields (drop (i + 1) fs)) ≡ whole
names_next fs i b v old pushed new whole p added grown so_far =
    let rest = pair_names (fields (drop (i + 1) fs)) in
    let here : pair_names (fields (drop i fs)) ≡ b.now ∷ (names v ++ rest) = ap pair_names (pairs_from fs i b.now v p) in
    let first : shown pushed ≡ shown old ++ b.now ∷ [] = ap shown added ∙ shown_joined old (b ∷ []) in
    let step : (shown old ++ b.now ∷ []) ++ (names v ++ rest) ≡ shown old ++ b.now ∷ (names v ++ rest) = append_assoc (shown old) (b.now ∷ []) (names v ++ rest) in
    ap (λ ts. ts ++ rest) grown ∙ append_assoc (shown pushed) (names v) rest ∙ ap (λ ts. ts ++ (names v ++ rest)) first ∙ step ∙ ap (λ ts. shown old ++ ts) (sym here) ∙ so_far

-- the texts in its value
pub texts_next : (fs : Pairs) (i : ℕ) (name : List ℕ) (v : Val) (old new : List (Bor (List ℕ))) (whole : List (List ℕ)) → IsPairAt fs i name v
    → shown new ≡ shown old ++ filter is_short (texts v) → shown old ++ filter is_short (pair_texts (fields (drop i fs))) ≡ whole
    → shown new ++ filter is_short (pair_texts (fields (drop (i + 1) fs))) ≡ whole
texts_next fs i name v old new whole p grown so_far =
    let rest = pair_texts (fields (drop (i + 1) fs)) in
    let here : pair_texts (fields (drop i fs)) ≡ texts v ++ rest = ap pair_texts (pairs_from fs i name v p) in
    let apart : filter is_short (pair_texts (fields (drop i fs))) ≡ filter is_short (texts v) ++ filter is_short rest = ap (filter is_short) here ∙ filter-append is_short (texts v) rest in
    ap (λ ts. ts ++ filter is_short rest) grown ∙ append_assoc (shown old) (filter is_short (texts v)) (filter is_short rest) ∙ ap (λ ts. shown old ++ ts) (sym apart) ∙ so_far
