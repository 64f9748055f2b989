-- Texts whose case is folded.
use Rattle.std.proofs.Common.{◌≡◌, ℕ, ◌<◌, Bool, true, false, List, [], ◌∷◌, ◌++◌, zero, suc, refl, ap, sym, subst, ◌∙◌, arith, length, drop, map, get_or}
use Rattle.std.specs.Prelude.{◌&&◌}
use Rattle.std.specs.Str.{IsUtf8, chars, all_scalars as scalars, encode_utf8_all as encodes}
use Rattle.std.specs.Char.{to_ascii_lowercase, encode_utf8 as encode}
use Rattle.std.proofs.str.Laws as laws
use Rattle.std.proofs.Math.Utf8.{scalar}
use Rattle.std.proofs.lemmas.List.{length-map, map-id, map-append}
use Rattle.std.proofs.lemmas.Str.{encodes-chars, scalars-chars, chars_from_encodes}
use Rattle.lane_text.specs.Bytewise.{folded_byte, folded}
use Rattle.lane_text.proofs.Leads.{lower_encode, lower_scalar}

pub unfolded : (text : List ℕ) → folded false text ≡ text
unfolded text = map-id text

pub folded_length : (fold : Bool) (text : List ℕ) → length (folded fold text) ≡ length text
folded_length fold text = length-map text (folded_byte fold)

pub folded_at : (fold : Bool) (text : List ℕ) (i : ℕ) → i < length text → get_or (folded fold text) i 0 ≡ folded_byte fold (get_or text i 0)
folded_at fold [] i h = absurd (omega arith)
folded_at fold (x ∷ text) zero h = refl
folded_at fold (x ∷ text) (suc i) h = folded_at fold text i (omega arith)

pub folded_drop : (fold : Bool) (i : ℕ) (text : List ℕ) → folded fold (drop i text) ≡ drop i (folded fold text)
folded_drop fold zero text = refl
folded_drop fold (suc i) [] = refl
folded_drop fold (suc i) (x ∷ text) = folded_drop fold i text

lower_encodes : (cs : List ℕ) → scalars cs ≡ true → map to_ascii_lowercase (encodes cs) ≡ encodes (map to_ascii_lowercase cs)
lower_encodes [] s = refl
lower_encodes (c ∷ cs) s =
    let parts = laws.both (scalar c) (scalars cs) s in
    map-append to_ascii_lowercase (encode c) (encodes cs)
    ∙ ap (λ l. l ++ map to_ascii_lowercase (encodes cs)) (lower_encode c parts.0)
    ∙ ap (λ l. encode (to_ascii_lowercase c) ++ l) (lower_encodes cs parts.1)

both_true : (a b : Bool) → a ≡ true → b ≡ true → (a && b) ≡ true
both_true true b g h = h
both_true false b g h = absurd (cc)

lower_scalars : (cs : List ℕ) → scalars cs ≡ true → scalars (map to_ascii_lowercase cs) ≡ true
lower_scalars [] s = refl
lower_scalars (c ∷ cs) s =
    let parts = laws.both (scalar c) (scalars cs) s in
    both_true (scalar (to_ascii_lowercase c)) (scalars (map to_ascii_lowercase cs)) (lower_scalar c parts.0) (lower_scalars cs parts.1)

pub lower_utf8 : (text : List ℕ) → IsUtf8 text → IsUtf8 (map to_ascii_lowercase text)
lower_utf8 text u =
    (map to_ascii_lowercase (chars text), (lower_scalars (chars text) (scalars-chars text u), sym (lower_encodes (chars text) (scalars-chars text u)) ∙ ap (map to_ascii_lowercase) (encodes-chars text u)))

pub lower_chars : (text : List ℕ) → IsUtf8 text → chars (map to_ascii_lowercase text) ≡ map to_ascii_lowercase (chars text)
lower_chars text u =
    sym (chars_from_encodes (map to_ascii_lowercase (chars text)) (map to_ascii_lowercase text) (lower_utf8 text u)
    (sym (lower_encodes (chars text) (scalars-chars text u)) ∙ ap (map to_ascii_lowercase) (encodes-chars text u)))

pub folded_utf8 : (fold : Bool) (text : List ℕ) → IsUtf8 text → IsUtf8 (folded fold text)
folded_utf8 true text u = lower_utf8 text u
folded_utf8 false text u = subst IsUtf8 (sym (unfolded text)) u

pub utf8_unfolded : (fold : Bool) (text : List ℕ) → fold ≡ false → IsUtf8 (folded fold text) → IsUtf8 text
utf8_unfolded true text e u = absurd (cc)
utf8_unfolded false text e u = subst IsUtf8 (unfolded text) u
