-- Pieces without `_`: their bytes stand in a text exactly where their characters do.
use Rattle.std.proofs.Common.{◌≡◌, ℕ, suc, true, false, List, [], ◌∷◌, ◌++◌, Option, None, Some, refl, ap, sym, ◌∙◌, arith, length, drop, append-nil}
use Rattle.std.specs.Prelude.{◌==◌, option_map}
use Rattle.std.specs.Str.{IsUtf8, chars, all_scalars as scalars, encode_utf8_all as encodes}
use Rattle.std.proofs.lemmas.List.{drop_at, length-append}
use Rattle.std.proofs.lemmas.Bool.Decides.{nat_tests}
use Rattle.std.proofs.lemmas.Str.{encodes-chars, scalars-chars}
use Rattle.eval_meaning.specs.Matching.{is_empty}
use Rattle.lane_text.specs.Pieces.{after_piece, passes, is_whole}
use Rattle.lane_text.specs.Bytewise.{after_bytes, IsRest, IsPlain}
use Rattle.lane_text.proofs.Leads.{Free}
use Rattle.lane_text.proofs.BytesAsChars.{over_same, Begins, begun, bytes_are_chars, rest_is}

apart : (a b : ℕ) → (a ≡ b → ⊥) → (a == b) ≡ false
apart a b h = grind (arith, nat_tests)

pub free_of_plain : (piece : List ℕ) → IsPlain piece → Free 95 piece
free_of_plain [] h = tt
free_of_plain (x ∷ piece) h = (apart x 95 (h 0 (omega arith)), free_of_plain piece (λ i l. h (suc i) (omega arith)))

-- where the text begins with the bytes of the piece, the rest follows
plain_bytes : (piece rest : List ℕ) → IsPlain piece → after_bytes piece (piece ++ rest) ≡ Some rest
unfolding after_bytes
plain_bytes piece rest h = ap (λ x. after_bytes x (piece ++ rest)) (sym (append-nil piece)) ∙ over_same piece [] rest (free_of_plain piece h)

pub plain_here : (piece text rest : List ℕ) → IsUtf8 piece → IsUtf8 text → IsPlain piece → text ≡ piece ++ rest
    → IsRest text (after_piece (chars piece) (chars text)) (Some (length piece))
plain_here piece text rest p t h e =
    let after : drop (length piece) text ≡ rest = ap (drop (length piece)) e ∙ drop_at piece rest (length piece) refl in
    let all : after_bytes piece text ≡ Some (drop (length piece) text) = ap (after_bytes piece) e ∙ plain_bytes piece rest h ∙ ap Some (sym after) in
    rest_is piece text (Some (length piece)) p t (all, omega (arith, ap length e, length-append piece rest))

-- where the piece stands, the text begins with its bytes
pub plain_begins : (piece text u : List ℕ) → IsUtf8 piece → IsUtf8 text → IsPlain piece → after_piece (chars piece) (chars text) ≡ Some u → Begins piece text
plain_begins piece text u p t h e =
    let chars_say = bytes_are_chars (chars piece) (chars text) (scalars-chars piece p) (scalars-chars text t) in
    let said : after_bytes piece text ≡ Some (encodes u) =
    ap (λ x. after_bytes x text) (sym (encodes-chars piece p)) ∙ ap (after_bytes (encodes (chars piece))) (sym (encodes-chars text t)) ∙ chars_say
    ∙ ap (option_map encodes) e in
    begun piece [] text (encodes u) (free_of_plain piece h) (ap (λ x. after_bytes x text) (append-nil piece) ∙ said)

-- where the piece is all of the characters, its bytes are all of theirs
whole_by : (o : Option (List ℕ)) → passes is_empty o ≡ true → o ≡ Some []
whole_by None h = absurd (cc)
whole_by (Some []) h = refl
whole_by (Some (c ∷ cs)) h = absurd (cc)

begins_rest : (piece rest text : List ℕ) → IsPlain piece → text ≡ piece ++ rest → after_bytes piece text ≡ Some [] → text ≡ piece
begins_rest piece rest text h e f =
    let same : Some rest ≡ Some [] = sym (plain_bytes piece rest h) ∙ ap (after_bytes piece) (sym e) ∙ f in
    let none : rest ≡ [] = cc in
    e ∙ ap (λ r. piece ++ r) none ∙ append-nil piece

pub plain_whole : (piece cs : List ℕ) → IsUtf8 piece → IsPlain piece → scalars cs ≡ true → is_whole (chars piece) cs ≡ true → encodes cs ≡ piece
plain_whole piece cs p h s e =
    let is = whole_by (after_piece (chars piece) cs) e in
    let said : after_bytes piece (encodes cs) ≡ Some [] =
    ap (λ x. after_bytes x (encodes cs)) (sym (encodes-chars piece p)) ∙ bytes_are_chars (chars piece) cs (scalars-chars piece p) s ∙ ap (option_map encodes) is in
    let found = begun piece [] (encodes cs) [] (free_of_plain piece h) (ap (λ x. after_bytes x (encodes cs)) (append-nil piece) ∙ said) in
    begins_rest piece found.rest (encodes cs) h found.is said
