-- What a command's words ask.
use Rattle.std.proofs.Common.{◌≡◌, ℕ, Bool, true, false, List, [], ◌∷◌, Some, None, refl, sym, ap, ◌∙◌}
use Rattle.std.specs.Prelude.{codes, ◌&&◌, if◌then◌else◌}
use Rattle.std.specs.Str.{bytes_eq}
use Rattle.snel_words.specs.declared.ask.Settings.{Settings}
use Rattle.snel_words.specs.Words.{Ask, nothing, query, check, is_operand, are_files, workers, groups, setting, flag, query_of, check_of, explain_of, after_groups, after_workers, asked_query, asked_pack, make_of, asked}

-- names that were found are all of the words
found : (b : Bool) (ws names : List (List ℕ)) → Some names ≡ (if b then Some ws else None) → (b ≡ true) × (names ≡ ws)
found true ws names e = (refl, cc)
found false ws names e = absurd (cc)

not_found : (b : Bool) (ws : List (List ℕ)) → None ≡ (if b then Some ws else None) → b ≡ false
not_found true ws e = absurd (cc)
not_found false ws e = refl

-- names are checked
pub checked : (ws names : List (List ℕ)) → Some names ≡ (if are_files ws then Some ws else None) → check names ≡ check_of ws
unfolding check_of
checked ws names e =
    let f = found (are_files ws) ws names e in
    ap check f.1 ∙ sym (ap (λ (b : Bool). if b then check ws else nothing) f.0)

pub unchecked : (ws : List (List ℕ)) → None ≡ (if are_files ws then Some ws else None) → nothing ≡ check_of ws
unfolding check_of
unchecked ws e = sym (ap (λ (b : Bool). if b then check ws else nothing) (not_found (are_files ws) ws e))

-- a query's text and names
pub no_text : (settings : Settings) (ws : List (List ℕ)) → ws ≡ [] → nothing ≡ query_of settings ws
unfolding query_of
no_text settings [] e = refl
no_text settings (w ∷ ws) e = absurd (cc)

pub bad_text : (settings : Settings) (ws names : List (List ℕ)) (sql : List ℕ) → ws ≡ sql ∷ names → is_operand sql ≡ false → nothing ≡ query_of settings ws
unfolding query_of
bad_text settings ws names sql e h =
    sym (ap (query_of settings) e ∙ ap (λ (b : Bool). if b && are_files names then query settings sql names else nothing) h)

pub text_and_names : (settings : Settings) (ws rest names : List (List ℕ)) (sql : List ℕ) → ws ≡ sql ∷ rest → is_operand sql ≡ true → Some names ≡ (if are_files rest then Some rest else None) → query settings sql names ≡ query_of settings ws
unfolding query_of
text_and_names settings ws rest names sql e h n =
    let f = found (are_files rest) rest names n in
    ap (query settings sql) f.1 ∙ sym (ap (query_of settings) e
    ∙ ap (λ (b : Bool). if b && are_files rest then query settings sql rest else nothing) h
    ∙ ap (λ (b : Bool). if b then query settings sql rest else nothing) f.0)

pub bad_names : (settings : Settings) (ws rest : List (List ℕ)) (sql : List ℕ) → ws ≡ sql ∷ rest → is_operand sql ≡ true → None ≡ (if are_files rest then Some rest else None) → nothing ≡ query_of settings ws
unfolding query_of
bad_names settings ws rest sql e h n =
    sym (ap (query_of settings) e
    ∙ ap (λ (b : Bool). if b && are_files rest then query settings sql rest else nothing) h
    ∙ ap (λ (b : Bool). if b then query settings sql rest else nothing) (not_found (are_files rest) rest n))

-- the settings in front of a query's text
pub no_workers : (ws : List (List ℕ)) → None ≡ setting (codes "--workers") workers ws → nothing ≡ asked_query ws
unfolding asked_query
no_workers ws e = ap after_workers e

pub no_groups : (ws rest : List (List ℕ)) (n : ℕ) → Some (n, rest) ≡ setting (codes "--workers") workers ws → None ≡ setting (codes "--groups") groups rest → nothing ≡ asked_query ws
unfolding asked_query
no_groups ws rest n e f = ap (after_groups n) f ∙ ap after_workers e

pub all_settings : (ws rest more last : List (List ℕ)) (n m : ℕ) (b : Bool) → Some (n, rest) ≡ setting (codes "--workers") workers ws → Some (m, more) ≡ setting (codes "--groups") groups rest → (b, last) ≡ flag (codes "--stats") more → query_of (record { workers = n; groups = m; stats = b }) last ≡ asked_query ws
unfolding asked_query
all_settings ws rest more last n m b e f g =
    ap (λ (p : Bool × List (List ℕ)). query_of (record { workers = n; groups = m; stats = p.0 }) p.1) g ∙ ap (after_groups n) f ∙ ap after_workers e

-- the command that its name calls
abbrev named : Bool → Bool → Bool → Bool → Bool → List (List ℕ) → Ask
named q c x p m rest = if q then asked_query rest else (if c then check_of rest else (if x then explain_of rest else (if p then asked_pack rest else (if m then make_of rest else nothing))))

module _ (words rest : List (List ℕ)) (command : List ℕ) (first : words ≡ command ∷ rest) where
  abbrev is : List ℕ → Bool
  is name = bytes_eq command name

  abbrev from_query : Bool → Ask
  from_query b = named b (is (codes "check")) (is (codes "explain")) (is (codes "pack")) (is (codes "make")) rest

  abbrev from_check : Bool → Ask
  from_check b = named false b (is (codes "explain")) (is (codes "pack")) (is (codes "make")) rest

  abbrev from_explain : Bool → Ask
  from_explain b = named false false b (is (codes "pack")) (is (codes "make")) rest

  abbrev from_pack : Bool → Ask
  from_pack b = named false false false b (is (codes "make")) rest

  named_is : asked words ≡ from_query (is (codes "query"))
  unfolding asked
  named_is = ap asked first

  pub of_query : is (codes "query") ≡ true → asked_query rest ≡ asked words
  of_query q = sym (named_is ∙ ap from_query q)

  behind_query : is (codes "query") ≡ false → asked words ≡ from_check (is (codes "check"))
  behind_query q = named_is ∙ ap from_query q

  pub of_check : is (codes "query") ≡ false → is (codes "check") ≡ true → check_of rest ≡ asked words
  of_check q c = sym (behind_query q ∙ ap from_check c)

  behind_check : is (codes "query") ≡ false → is (codes "check") ≡ false → asked words ≡ from_explain (is (codes "explain"))
  behind_check q c = behind_query q ∙ ap from_check c

  pub of_explain : is (codes "query") ≡ false → is (codes "check") ≡ false → is (codes "explain") ≡ true → explain_of rest ≡ asked words
  of_explain q c x = sym (behind_check q c ∙ ap from_explain x)

  behind_explain : is (codes "query") ≡ false → is (codes "check") ≡ false → is (codes "explain") ≡ false → asked words ≡ from_pack (is (codes "pack"))
  behind_explain q c x = behind_check q c ∙ ap from_explain x

  pub of_pack : is (codes "query") ≡ false → is (codes "check") ≡ false → is (codes "explain") ≡ false → is (codes "pack") ≡ true → asked_pack rest ≡ asked words
  of_pack q c x p = sym (behind_explain q c x ∙ ap from_pack p)

  pub of_make : is (codes "query") ≡ false → is (codes "check") ≡ false → is (codes "explain") ≡ false → is (codes "pack") ≡ false → is (codes "make") ≡ true → make_of rest ≡ asked words
  of_make q c x p m = sym (behind_explain q c x ∙ ap from_pack p ∙ ap (λ (b : Bool). named false false false false b rest) m)

  pub of_other : is (codes "query") ≡ false → is (codes "check") ≡ false → is (codes "explain") ≡ false → is (codes "pack") ≡ false → is (codes "make") ≡ false → nothing ≡ asked words
  of_other q c x p m = sym (behind_explain q c x ∙ ap from_pack p ∙ ap (λ (b : Bool). named false false false false b rest) m)

-- no word at all
pub no_words : (words : List (List ℕ)) → words ≡ [] → nothing ≡ asked words
unfolding asked
no_words [] e = refl
no_words (w ∷ ws) e = absurd (cc)
