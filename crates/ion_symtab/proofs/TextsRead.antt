-- Texts of a symbol table, read one after the other.
use Rattle.std.proofs.Common.{◌≡◌, ℕ, ◌<◌, Bool, true, false, List, [], ◌∷◌, ◌++◌, length, Option, Some, None, cond, map, Bor, refl, sym, ap, ◌∙◌, arith}
use Rattle.std.specs.Option.{option_map}
use Rattle.std.specs.Prelude.{◌&&◌}
use Rattle.std.specs.Str.{is_utf8}
use Rattle.std.proofs.lemmas.List.{append_assoc, map-append}
use Rattle.block_meaning.specs.Tables.{Table}
use Rattle.block_meaning.specs.Blocks.{payload_of, is_above, texts_by}
use Rattle.block_meaning.proofs.Answered.{some_is, and_true}
use Rattle.block_meaning.proofs.TableReading.{texts_next, texts_stop, texts_stop_test}
use Rattle.ion_symtab.specs.TextCells.{text_by}

-- where no text that rises stands, the bytes are no texts
pub no_text : (before : Option (List ℕ)) (bytes : List ℕ) → None ≡ text_by before bytes → 0 < length bytes → texts_by before (length bytes) bytes ≡ None
unfolding text_by
no_text before bytes e h = go (payload_of 8 bytes) refl e
  where
    go : (o : Option (List ℕ × List ℕ)) → payload_of 8 bytes ≡ o → None ≡ Rattle.std.specs.Option.option_and_then (λ p. cond (is_utf8 p.0 && is_above before p.0) (Some p) None) o → texts_by before (length bytes) bytes ≡ None
    go None at e = texts_stop before (length bytes) bytes at h
    go (Some p) at e = texts_stop_test before (length bytes) bytes p at (test (is_utf8 p.0 && is_above before p.0) e)
      where
        test : (b : Bool) → None ≡ cond b (Some p) None → b ≡ false
        test true e = absurd cc
        test false e = refl

-- a text that rises is the first of the texts
pub one_text : (before : Option (List ℕ)) (bytes t rest : List ℕ) → Some (t, rest) ≡ text_by before bytes → texts_by before (length bytes) bytes ≡ option_map (λ (ts : Table). t ∷ ts) (texts_by (Some t) (length rest) rest)
unfolding text_by
one_text before bytes t rest e = go (payload_of 8 bytes) refl e
  where
    go : (o : Option (List ℕ × List ℕ)) → payload_of 8 bytes ≡ o → Some (t, rest) ≡ Rattle.std.specs.Option.option_and_then (λ p. cond (is_utf8 p.0 && is_above before p.0) (Some p) None) o → texts_by before (length bytes) bytes ≡ option_map (λ (ts : Table). t ∷ ts) (texts_by (Some t) (length rest) rest)
    go None at e = absurd cc
    go (Some p) at e = test (is_utf8 p.0 && is_above before p.0) refl e
      where
        test : (b : Bool) → (is_utf8 p.0 && is_above before p.0) ≡ b → Some (t, rest) ≡ cond b (Some p) None → texts_by before (length bytes) bytes ≡ option_map (λ (ts : Table). t ∷ ts) (texts_by (Some t) (length rest) rest)
        test false b e = absurd cc
        test true b e =
            let same : (t, rest) ≡ p = some_is _ _ e in
            let tests = and_true (is_utf8 p.0) (is_above before p.0) b in
            rw (← same) at (texts_next before (length bytes) (length p.1) bytes p at tests.0 tests.1 (omega arith) (omega arith))

after_one : (shown : Table) (t : List ℕ) (o : Option Table) → option_map (λ (ts : Table). shown ++ ts) (option_map (λ (ts : Table). t ∷ ts) o) ≡ option_map (λ (ts : Table). (shown ++ t ∷ []) ++ ts) o
after_one shown t None = refl
after_one shown t (Some ts) = ap Some (sym (append_assoc shown (t ∷ []) ts))

-- behind the texts so far one more is read
pub text_step : (whole : Option Table) (shown : Table) (before : Option (List ℕ)) (bytes t rest : List ℕ) → whole ≡ option_map (λ (ts : Table). shown ++ ts) (texts_by before (length bytes) bytes) → Some (t, rest) ≡ text_by before bytes → whole ≡ option_map (λ (ts : Table). (shown ++ t ∷ []) ++ ts) (texts_by (Some t) (length rest) rest)
text_step whole shown before bytes t rest e read =
    e ∙ ap (option_map (λ (ts : Table). shown ++ ts)) (one_text before bytes t rest read) ∙ after_one shown t (texts_by (Some t) (length rest) rest)

-- behind the texts so far none stands
pub text_stop : (whole : Option Table) (shown : Table) (before : Option (List ℕ)) (bytes : List ℕ) → whole ≡ option_map (λ (ts : Table). shown ++ ts) (texts_by before (length bytes) bytes) → None ≡ text_by before bytes → 0 < length bytes → whole ≡ None
text_stop whole shown before bytes e read h =
    e ∙ ap (option_map (λ (ts : Table). shown ++ ts)) (no_text before bytes read h)

-- the same with the texts lent
pub lent_step : (whole : Option Table) (lent next : List (Bor (List ℕ))) (before : Option (List ℕ)) (bytes : List ℕ) (t : Bor (List ℕ)) (rest : List ℕ) → whole ≡ option_map (λ (ts : Table). map (λ s. s.now) lent ++ ts) (texts_by before (length bytes) bytes) → Some (t.now, rest) ≡ text_by before bytes → next ≡ lent ++ t ∷ [] → whole ≡ option_map (λ (ts : Table). map (λ s. s.now) next ++ ts) (texts_by (Some t.now) (length rest) rest)
lent_step whole lent next before bytes t rest e read pushed =
    let shown : map (λ (s : Bor (List ℕ)). s.now) next ≡ map (λ s. s.now) lent ++ t.now ∷ [] = ap (map (λ (s : Bor (List ℕ)). s.now)) pushed ∙ map-append (λ (s : Bor (List ℕ)). s.now) lent (t ∷ []) in
    text_step whole (map (λ s. s.now) lent) before bytes t.now rest e read ∙ ap (λ (us : Table). option_map (λ (ts : Table). us ++ ts) (texts_by (Some t.now) (length rest) rest)) (sym shown)
