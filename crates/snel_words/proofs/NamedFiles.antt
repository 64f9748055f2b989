-- What the words ask names one to sixty-four files, where it is about files.
use Rattle.std.proofs.Common.{◌≡◌, ℕ, ◌≤◌, Bool, true, false, List, [], ◌∷◌, Option, Some, None, refl, arith}
use Rattle.std.specs.Prelude.{length, codes, nat_le, ◌&&◌, IfSome, if◌then◌else◌}
use Rattle.std.specs.List.{list_all}
use Rattle.std.specs.Str.{bytes_eq}
use Rattle.std.specs.Str.Parse.{digits_value}
use Rattle.std.specs.Fmt.{decimal}
use Rattle.std.specs.Option.{option_map}
use Rattle.std.proofs.lemmas.Bool.{leb-true}
use Rattle.snel_words.specs.declared.ask.Settings.{Settings}
use Rattle.snel_words.specs.declared.fronts.Limits.{Limits}
use Rattle.snel_words.specs.Words.{Ask, Packing, nothing, query, check, pack, explain, is_operand, is_field, number_in, are_files, groups, workers, block_weights, setting, flag, time_field, query_of, check_of, pack_of, explain_of, after_groups, after_workers, after_block, after_time, asked_query, asked_pack, make, starts, row_counts, make_with, make_of, asked}
use Rattle.snel_words.specs.NamedFiles.{AreFew, AreSettings, IsWithinLimits, HasNames}
use Rattle.snel_words.proofs.Numbers.{first_of, second_of}

few : (names : List (List ℕ)) → are_files names ≡ true → AreFew names
few names e = record {
  some = leb-true 1 (length names) (first_of (nat_le 1 (length names)) (nat_le (length names) 64) (list_all is_operand names) e);
  few = leb-true (length names) 64 (second_of (nat_le 1 (length names)) (nat_le (length names) 64) (list_all is_operand names) e);
}

left_of : (a b : Bool) → (a && b) ≡ true → a ≡ true
left_of true b e = refl
left_of false b e = e

right_of : (a b : Bool) → (a && b) ≡ true → b ≡ true
right_of true b e = e
right_of false b e = absurd (cc)

chosen_query : (settings : Settings) (sql : List ℕ) (names : List (List ℕ)) (b : Bool) → AreSettings settings → (b ≡ true → AreFew names) → HasNames (if b then query settings sql names else nothing)
chosen_query settings sql names true within h = (h refl, within)
chosen_query settings sql names false within h = tt

of_query : (settings : Settings) → AreSettings settings → (ws : List (List ℕ)) → HasNames (query_of settings ws)
unfolding query_of
of_query settings within [] = tt
of_query settings within (sql ∷ names) = chosen_query settings sql names (is_operand sql && are_files names) within (λ e. few names (right_of (is_operand sql) (are_files names) e))

chosen_check : (names : List (List ℕ)) (b : Bool) → (b ≡ true → AreFew names) → HasNames (if b then check names else nothing)
chosen_check names true h = h refl
chosen_check names false h = tt

of_check : (ws : List (List ℕ)) → HasNames (check_of ws)
unfolding check_of
of_check ws = chosen_check ws (are_files ws) (few ws)

chosen_explain : (sql : List ℕ) (b : Bool) → HasNames (if b then explain sql else nothing)
chosen_explain sql true = tt
chosen_explain sql false = tt

of_explain : (ws : List (List ℕ)) → HasNames (explain_of ws)
unfolding explain_of
of_explain [] = tt
of_explain (sql ∷ []) = chosen_explain sql (is_operand sql)
of_explain (sql ∷ w ∷ ws) = tt

-- the number of a setting lies within its limits
abbrev IsIn : Limits → Option (ℕ × List (List ℕ)) → Type 0
IsIn limits found = IfSome found (λ p. (limits.least ≤ p.0) × (p.0 ≤ limits.most))

number_within : (limits : Limits) (n : ℕ) (rest : List (List ℕ)) (a b c : Bool) → (b ≡ true → limits.least ≤ n) → (c ≡ true → n ≤ limits.most) → IsIn limits (option_map (λ n. (n, rest)) (if a && b && c then Some n else None))
number_within limits n rest true true true h k = (h refl, k refl)
number_within limits n rest true true false h k = tt
number_within limits n rest true false c h k = tt
number_within limits n rest false b c h k = tt

number_is_within : (limits : Limits) (word : List ℕ) (rest : List (List ℕ)) → IsIn limits (option_map (λ n. (n, rest)) (number_in limits word))
unfolding number_in
number_is_within limits word rest =
    number_within limits (digits_value 10 word) rest (bytes_eq word (decimal (digits_value 10 word))) (nat_le limits.least (digits_value 10 word)) (nat_le (digits_value 10 word) limits.most)
    (leb-true limits.least (digits_value 10 word)) (leb-true (digits_value 10 word) limits.most)

chosen_number : (limits : Limits) → limits.least ≤ limits.usual → limits.usual ≤ limits.most → (word value : List ℕ) (rest : List (List ℕ)) (b : Bool) → IsIn limits (if b then option_map (λ n. (n, rest)) (number_in limits value) else Some (limits.usual, word ∷ value ∷ rest))
chosen_number limits least most word value rest true = number_is_within limits value rest
chosen_number limits least most word value rest false = (least, most)

setting_within : (name : List ℕ) (limits : Limits) → limits.least ≤ limits.usual → limits.usual ≤ limits.most → (ws : List (List ℕ)) → IsIn limits (setting name limits ws)
unfolding setting
setting_within name limits least most [] = (least, most)
setting_within name limits least most (word ∷ []) = (least, most)
setting_within name limits least most (word ∷ value ∷ rest) = chosen_number limits least most word value rest (bytes_eq word name)

of_groups : (n : ℕ) → 1 ≤ n → n ≤ 64 → (found : Option (ℕ × List (List ℕ))) → IsIn groups found → HasNames (after_groups n found)
of_groups n some few None within = tt
of_groups n some few (Some found) within =
    of_query (record { workers = n; groups = found.0; stats = (flag (codes "--stats") found.1).0 })
    (record { some_workers = some; few_workers = few; some_groups = within.0; few_groups = within.1 }) (flag (codes "--stats") found.1).1

of_workers : (found : Option (ℕ × List (List ℕ))) → IsIn workers found → HasNames (after_workers found)
of_workers None within = tt
of_workers (Some found) within = of_groups found.0 within.0 within.1 (setting (codes "--groups") groups found.1) (setting_within (codes "--groups") groups (omega arith) (omega arith) found.1)

of_settings : (ws : List (List ℕ)) → HasNames (asked_query ws)
unfolding asked_query
of_settings ws = of_workers (setting (codes "--workers") workers ws) (setting_within (codes "--workers") workers (omega arith) (omega arith) ws)

chosen : (a b : Ask) (c : Bool) → HasNames a → HasNames b → HasNames (if c then a else b)
chosen a b true h k = h
chosen a b false h k = k

-- limits of packing
field_limits : (field : List ℕ) → is_field field ≡ true → (1 ≤ length field) × (length field ≤ 255)
field_limits field e = (
  leb-true 1 (length field) (left_of (nat_le 1 (length field)) (nat_le (length field) 255) e),
  leb-true (length field) 255 (right_of (nat_le 1 (length field)) (nat_le (length field) 255) e),
)

abbrev IsNamed : Option (List ℕ) → Type 0
IsNamed time = IfSome time (λ field. (1 ≤ length field) × (length field ≤ 255))

abbrev TimeIsNamed : Option (Option (List ℕ) × List (List ℕ)) → Type 0
TimeIsNamed found = IfSome found (λ p. IsNamed p.0)

chosen_time : (word value : List ℕ) (rest : List (List ℕ)) (b f : Bool) → (f ≡ true → (1 ≤ length value) × (length value ≤ 255)) → TimeIsNamed (if b then (if f then Some (Some value, rest) else None) else Some (None, word ∷ value ∷ rest))
chosen_time word value rest true true h = h refl
chosen_time word value rest true false h = tt
chosen_time word value rest false f h = tt

time_is_named : (ws : List (List ℕ)) → TimeIsNamed (time_field ws)
unfolding time_field
time_is_named [] = tt
time_is_named (word ∷ []) = tt
time_is_named (word ∷ value ∷ rest) = chosen_time word value rest (bytes_eq word (codes "--time")) (is_field value) (field_limits value)

chosen_pack : (packing : Packing) (name : List ℕ) (b : Bool) → IsWithinLimits packing → HasNames (if b then pack packing name else nothing)
chosen_pack packing name true h = h
chosen_pack packing name false h = tt

of_name : (packing : Packing) (ws : List (List ℕ)) → IsWithinLimits packing → HasNames (pack_of packing ws)
unfolding pack_of
of_name packing [] h = tt
of_name packing (name ∷ []) h = chosen_pack packing name (is_operand name) h
of_name packing (name ∷ w ∷ ws) h = tt

of_block : (time : Option (List ℕ)) (found : Option (ℕ × List (List ℕ))) → IsNamed time → IsIn block_weights found → HasNames (after_block time found)
of_block time None named low = tt
of_block time (Some found) named low =
    of_name (record { time = time; block = found.0; drops = (flag (codes "--drop-fractions") found.1).0 }) (flag (codes "--drop-fractions") found.1).1 (record { block = low.1; time = named })

of_time : (found : Option (Option (List ℕ) × List (List ℕ))) → TimeIsNamed found → HasNames (after_time found)
of_time None named = tt
of_time (Some found) named = of_block found.0 (setting (codes "--block") block_weights found.1) named (setting_within (codes "--block") block_weights (omega arith) (omega arith) found.1)

of_pack : (ws : List (List ℕ)) → HasNames (asked_pack ws)
unfolding asked_pack
of_pack ws = of_time (time_field ws) (time_is_named ws)

-- the rows of a log
chosen_make : (start rows : ℕ) (name : List ℕ) (b : Bool) → rows ≤ 1000000 → HasNames (if b then make start rows name else nothing)
chosen_make start rows name true h = h
chosen_make start rows name false h = tt

number_low : (limits : Limits) (n : ℕ) (a b c : Bool) → (c ≡ true → n ≤ limits.most) → IfSome (if a && b && c then Some n else None) (λ k. k ≤ limits.most)
number_low limits n true true true h = h refl
number_low limits n true true false h = tt
number_low limits n true false c h = tt
number_low limits n false b c h = tt

number_is_low : (limits : Limits) (word : List ℕ) → IfSome (number_in limits word) (λ k. k ≤ limits.most)
unfolding number_in
number_is_low limits word =
    number_low limits (digits_value 10 word) (bytes_eq word (decimal (digits_value 10 word))) (nat_le limits.least (digits_value 10 word)) (nat_le (digits_value 10 word) limits.most)
    (leb-true (digits_value 10 word) limits.most)

of_log : (a b : Option ℕ) (name : List ℕ) → IfSome b (λ k. k ≤ 1000000) → HasNames (make_with a b name)
of_log None b name h = tt
of_log (Some start) None name h = tt
of_log (Some start) (Some rows) name h = chosen_make start rows name (is_operand name) h

of_make : (ws : List (List ℕ)) → HasNames (make_of ws)
unfolding make_of
of_make [] = tt
of_make (a ∷ []) = tt
of_make (a ∷ b ∷ []) = tt
of_make (a ∷ b ∷ c ∷ []) = of_log (number_in starts a) (number_in row_counts b) c (number_is_low row_counts b)
of_make (a ∷ b ∷ c ∷ d ∷ ws) = tt

-- what the words ask names so many, and packs and makes rows within its limits
pub asked_has_names : (words : List (List ℕ)) → HasNames (asked words)
unfolding asked
asked_has_names [] = tt
asked_has_names (command ∷ words) =
    chosen (asked_query words) _ (bytes_eq command (codes "query")) (of_settings words)
    (chosen (check_of words) _ (bytes_eq command (codes "check")) (of_check words)
    (chosen (explain_of words) _ (bytes_eq command (codes "explain")) (of_explain words)
    (chosen (asked_pack words) _ (bytes_eq command (codes "pack")) (of_pack words)
    (chosen (make_of words) nothing (bytes_eq command (codes "make")) (of_make words) tt))))
