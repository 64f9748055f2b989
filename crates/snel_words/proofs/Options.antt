-- What stands at the front of a list of words.
use Rattle.std.proofs.Common.{◌≡◌, ℕ, Bool, true, false, List, [], ◌∷◌, Option, Some, refl, sym, ap, ◌∙◌}
use Rattle.std.specs.Prelude.{length, if◌then◌else◌}
use Rattle.std.specs.Option.{option_map}
use Rattle.std.specs.Str.{bytes_eq}
use Rattle.snel_words.specs.declared.fronts.Limits.{Limits}
use Rattle.snel_words.specs.Words.{nothing, explain, is_operand, number_in, setting, flag, explain_of}

-- a list's word that isn't there
pub flag_none : (name : List ℕ) (ws : List (List ℕ)) → ws ≡ [] → (false, ws) ≡ flag name ws
unfolding flag
flag_none name [] e = refl
flag_none name (w ∷ ws) e = absurd (cc)

pub flag_given : (name word : List ℕ) (ws rest : List (List ℕ)) → ws ≡ word ∷ rest → bytes_eq word name ≡ true → (true, rest) ≡ flag name ws
unfolding flag
flag_given name word ws rest e h = sym (ap (flag name) e ∙ ap (λ (b : Bool). if b then (true, rest) else (false, word ∷ rest)) h)

pub flag_other : (name word : List ℕ) (ws rest : List (List ℕ)) → ws ≡ word ∷ rest → bytes_eq word name ≡ false → (false, ws) ≡ flag name ws
unfolding flag
flag_other name word ws rest e h =
    ap (λ (l : List (List ℕ)). (false, l)) e ∙ sym (ap (flag name) e ∙ ap (λ (b : Bool). if b then (true, rest) else (false, word ∷ rest)) h)

-- fewer than two words are left
pub setting_none : (name : List ℕ) (limits : Limits) (ws : List (List ℕ)) → ws ≡ [] → Some (limits.usual, ws) ≡ setting name limits ws
unfolding setting
setting_none name limits [] e = refl
setting_none name limits (w ∷ ws) e = absurd (cc)

pub setting_one : (name word : List ℕ) (limits : Limits) (ws : List (List ℕ)) → ws ≡ word ∷ [] → Some (limits.usual, ws) ≡ setting name limits ws
unfolding setting
setting_one name word limits ws e = ap (λ (l : List (List ℕ)). Some (limits.usual, l)) e ∙ sym (ap (setting name limits) e)

pub setting_other : (name word value : List ℕ) (limits : Limits) (ws rest : List (List ℕ)) → ws ≡ word ∷ value ∷ rest → bytes_eq word name ≡ false → Some (limits.usual, ws) ≡ setting name limits ws
unfolding setting
setting_other name word value limits ws rest e h =
    ap (λ (l : List (List ℕ)). Some (limits.usual, l)) e ∙ sym (ap (setting name limits) e
    ∙ ap (λ (b : Bool). if b then option_map (λ n. (n, rest)) (number_in limits value) else Some (limits.usual, word ∷ value ∷ rest)) h)

pub setting_given : (name word value : List ℕ) (limits : Limits) (ws rest : List (List ℕ)) (n : Option ℕ) → ws ≡ word ∷ value ∷ rest → bytes_eq word name ≡ true → n ≡ number_in limits value → option_map (λ n. (n, rest)) n ≡ setting name limits ws
unfolding setting
setting_given name word value limits ws rest n e h is =
    ap (option_map (λ n. (n, rest))) is ∙ sym (ap (setting name limits) e
    ∙ ap (λ (b : Bool). if b then option_map (λ n. (n, rest)) (number_in limits value) else Some (limits.usual, word ∷ value ∷ rest)) h)

-- one text to be explained
pub explained : (sql : List ℕ) (ws : List (List ℕ)) → ws ≡ sql ∷ [] → is_operand sql ≡ true → explain sql ≡ explain_of ws
unfolding explain_of
explained sql ws e h = sym (ap explain_of e ∙ ap (λ (b : Bool). if b then explain sql else nothing) h)

pub unexplained : (sql : List ℕ) (ws : List (List ℕ)) → ws ≡ sql ∷ [] → is_operand sql ≡ false → nothing ≡ explain_of ws
unfolding explain_of
unexplained sql ws e h = sym (ap explain_of e ∙ ap (λ (b : Bool). if b then explain sql else nothing) h)

pub none_explained : (ws : List (List ℕ)) → ws ≡ [] → nothing ≡ explain_of ws
unfolding explain_of
none_explained [] e = refl
none_explained (w ∷ ws) e = absurd (cc)

-- more or fewer words than one
pub not_explained : (ws : List (List ℕ)) → (length ws ≡ 1 → ⊥) → nothing ≡ explain_of ws
unfolding explain_of
not_explained [] h = refl
not_explained (w ∷ []) h = absurd (h refl)
not_explained (w ∷ v ∷ ws) h = refl
