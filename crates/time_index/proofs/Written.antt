-- Entries that are written one after the other.
use Rattle.std.proofs.Common.{◌≡◌, ℕ, zero, suc, ◌+◌, ◌<◌, List, [], ◌∷◌, ◌++◌, length, drop, sym, ap, ◌∙◌, arith, append_assoc, slice_index_or}
use Rattle.std.specs.Prelude.{flat_map}
use Rattle.file_meaning.specs.Files.{Entry, entry_bytes}

cons_at : (es : List Entry) (i : ℕ) (e : Entry) → i < length es → e ≡ slice_index_or es i e → drop i es ≡ e ∷ drop (suc i) es
cons_at [] i e h is = absurd (omega arith)
cons_at (x ∷ xs) zero e h is = ap (λ (y : Entry). y ∷ xs) (sym is)
cons_at (x ∷ xs) (suc i) e h is = cons_at xs i e (omega arith) is

-- what is written and what is to come stay the whole
pub next_entry : (now next old : List ℕ) (es : List Entry) (i : ℕ) (e : Entry) → i < length es → e ≡ slice_index_or es i e → next ≡ now ++ entry_bytes e → now ++ flat_map entry_bytes (drop i es) ≡ old ++ flat_map entry_bytes es → next ++ flat_map entry_bytes (drop (i + 1) es) ≡ old ++ flat_map entry_bytes es
next_entry now next old es i e h is pushed before =
    let one : i + 1 ≡ suc i = omega arith in
    ap (λ (k : ℕ). next ++ flat_map entry_bytes (drop k es)) one
    ∙ ap (λ (l : List ℕ). l ++ flat_map entry_bytes (drop (suc i) es)) pushed
    ∙ append_assoc now (entry_bytes e) (flat_map entry_bytes (drop (suc i) es))
    ∙ ap (λ (l : List Entry). now ++ flat_map entry_bytes l) (sym (cons_at es i e h is))
    ∙ before
