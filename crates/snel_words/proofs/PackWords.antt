-- What the words behind `pack` ask.
use Rattle.std.proofs.Common.{◌≡◌, ℕ, zero, suc, ◌<◌, Bool, true, false, List, [], ◌∷◌, Option, Some, None, refl, sym, ap, ◌∙◌, arith}
use Rattle.std.specs.Prelude.{drop, length, codes, if◌then◌else◌}
use Rattle.std.specs.Str.{bytes_eq}
use Rattle.snel_words.specs.Words.{Packing, nothing, pack, is_operand, is_field, setting, flag, time_field, block_weights, pack_of, after_block, after_time, asked_pack}

-- the name of a file, alone
module _ (p : Packing) (ws : List (List ℕ)) where
  pub no_name : ws ≡ [] → nothing ≡ pack_of p ws
  unfolding pack_of
  no_name e = sym (ap (pack_of p) e)

  pub more_names : (w v : List ℕ) (vs : List (List ℕ)) → ws ≡ w ∷ v ∷ vs → nothing ≡ pack_of p ws
  unfolding pack_of
  more_names w v vs e = sym (ap (pack_of p) e)

  pub packed : (name : List ℕ) → ws ≡ name ∷ [] → is_operand name ≡ true → pack p name ≡ pack_of p ws
  unfolding pack_of
  packed name e h = sym (ap (pack_of p) e ∙ ap (λ (b : Bool). if b then pack p name else nothing) h)

  pub unpacked : (name : List ℕ) → ws ≡ name ∷ [] → is_operand name ≡ false → nothing ≡ pack_of p ws
  unfolding pack_of
  unpacked name e h = sym (ap (pack_of p) e ∙ ap (λ (b : Bool). if b then pack p name else nothing) h)

-- a list that isn't empty
pub some_left : {A : Type 0} (xs : List A) (i : ℕ) → i < length xs → (x : A) × (drop i xs ≡ x ∷ drop (suc i) xs)
some_left [] i h = absurd (omega arith)
some_left (x ∷ xs) zero h = (x, refl)
some_left (x ∷ xs) (suc i) h = some_left xs i (omega arith)

-- the field behind `--time`
module _ (ws : List (List ℕ)) where
  pub time_none : ws ≡ [] → Some (None, ws) ≡ time_field ws
  unfolding time_field
  time_none e = ap (λ (l : List (List ℕ)). Some (None, l)) e ∙ sym (ap time_field e)

  pub time_one : (word : List ℕ) → ws ≡ word ∷ [] → Some (None, ws) ≡ time_field ws
  unfolding time_field
  time_one word e = ap (λ (l : List (List ℕ)). Some (None, l)) e ∙ sym (ap time_field e)

  module _ (word value : List ℕ) (rest : List (List ℕ)) (e : ws ≡ word ∷ value ∷ rest) where
    abbrev chosen : Bool → Bool → Option (Option (List ℕ) × List (List ℕ))
    chosen b f = if b then (if f then Some (Some value, rest) else None) else Some (None, word ∷ value ∷ rest)

    is_chosen : time_field ws ≡ chosen (bytes_eq word (codes "--time")) (is_field value)
    unfolding time_field
    is_chosen = ap time_field e

    pub time_other : bytes_eq word (codes "--time") ≡ false → Some (None, ws) ≡ time_field ws
    time_other h =
        ap (λ (l : List (List ℕ)). Some (None, l)) e ∙ sym (is_chosen ∙ ap (λ (b : Bool). chosen b (is_field value)) h)

    pub time_given : bytes_eq word (codes "--time") ≡ true → is_field value ≡ true → Some (Some value, rest) ≡ time_field ws
    time_given h f = sym (is_chosen ∙ ap (λ (b : Bool). chosen b (is_field value)) h ∙ ap (λ (b : Bool). chosen true b) f)

    pub time_bad : bytes_eq word (codes "--time") ≡ true → is_field value ≡ false → None ≡ time_field ws
    time_bad h f = sym (is_chosen ∙ ap (λ (b : Bool). chosen b (is_field value)) h ∙ ap (λ (b : Bool). chosen true b) f)

-- the settings in front of a name
pub no_time : (ws : List (List ℕ)) → None ≡ time_field ws → nothing ≡ asked_pack ws
unfolding asked_pack
no_time ws e = ap after_time e

pub no_block : (ws rest : List (List ℕ)) (t : Option (List ℕ)) → Some (t, rest) ≡ time_field ws → None ≡ setting (codes "--block") block_weights rest → nothing ≡ asked_pack ws
unfolding asked_pack
no_block ws rest t e f = ap (after_block t) f ∙ ap after_time e

pub all_settings : (ws rest more last : List (List ℕ)) (t : Option (List ℕ)) (n : ℕ) (b : Bool) → Some (t, rest) ≡ time_field ws → Some (n, more) ≡ setting (codes "--block") block_weights rest → (b, last) ≡ flag (codes "--drop-fractions") more → pack_of (record { time = t; block = n; drops = b }) last ≡ asked_pack ws
unfolding asked_pack
all_settings ws rest more last t n b e f g =
    ap (λ (p : Bool × List (List ℕ)). pack_of (record { time = t; block = n; drops = p.0 }) p.1) g ∙ ap (after_block t) f ∙ ap after_time e
