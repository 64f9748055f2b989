-- The pieces of a pattern by the places of its `%`.
use Rattle.std.proofs.Common.{◌≡◌, ℕ, zero, suc, ◌+◌, ◌-◌, ◌<◌, ◌≤◌, Bool, true, false, List, [], ◌∷◌, ◌++◌, refl, ap, sym, subst, ◌∙◌, cond, arith, length, drop, take, get_or}
use Rattle.std.specs.Prelude.{◌==◌, ◌&&◌, map}
use Rattle.std.specs.Str.{IsUtf8, chars, all_scalars as scalars, encode_utf8_all as encodes}
use Rattle.std.specs.Char.{IsScalar, encode_utf8 as encode}
use Rattle.std.proofs.str.Laws as laws
use Rattle.std.proofs.Math.Utf8.{scalar}
use Rattle.std.proofs.lemmas.Bool.{eqb-true, eq-eqb}
use Rattle.std.proofs.lemmas.List.{take_all, drop-drop, length-drop, append_assoc, append-nil}
use Rattle.memchr.specs.Find.{IsFirstByte, is_byte}
use Rattle.std.specs.Prelude.{Some, None}
use Rattle.std.proofs.lemmas.Str.{IsUtf8-take, IsUtf8-drop, IsCharBoundary-before_ascii, IsCharBoundary-after_ascii, encodes-chars, scalars-chars, chars-encodes, chars-append, chars-nil, encode_ascii, IsUtf8-encode}
use Rattle.lane_text.specs.Pieces.{pieces, put_first}
use Rattle.lane_text.proofs.Leads.{Free, free}
use Rattle.lane_text.proofs.Greedy.{IsSome, pieces_some}

when_true : (b : Bool) (p q : List (List ℕ)) → b ≡ true → cond b p q ≡ p
when_true true p q h = refl
when_true false p q h = absurd (cc)

when_false : (b : Bool) (p q : List (List ℕ)) → b ≡ false → cond b p q ≡ q
when_false false p q h = refl
when_false true p q h = absurd (cc)

not_true : (b : Bool) → (b ≡ true → ⊥) → b ≡ false
not_true true h = absurd (h refl)
not_true false h = refl

pub cut_none : (pattern : List ℕ) → ((k : ℕ) → k < length pattern → (get_or pattern k 0 == 37) ≡ true → ⊥) → pieces pattern ≡ pattern ∷ []
unfolding pieces
cut_none [] h = refl
cut_none (sign ∷ pattern) h =
    when_false (sign == 37) _ _ (not_true (sign == 37) (h 0 (omega arith))) ∙ ap (put_first sign) (cut_none pattern (λ k l e. h (suc k) (omega arith) e))

pub cut_some : (pattern : List ℕ) (n : ℕ) → n < length pattern → (get_or pattern n 0 == 37) ≡ true → ((k : ℕ) → k < n → (get_or pattern k 0 == 37) ≡ true → ⊥)
    → pieces pattern ≡ take n pattern ∷ pieces (drop (n + 1) pattern)
unfolding pieces
cut_some [] n l e h = absurd (omega arith)
cut_some (sign ∷ pattern) zero l e h = when_true (sign == 37) _ _ e
cut_some (sign ∷ pattern) (suc n) l e h =
    let later = ap (put_first sign) (cut_some pattern n (omega arith) e (λ k m f. h (suc k) (omega arith) f)) in
    let is : suc n + 1 ≡ suc (n + 1) = omega arith in
    when_false (sign == 37) _ _ (not_true (sign == 37) (h 0 (omega arith))) ∙ later
    ∙ ap (λ k. (sign ∷ take n pattern) ∷ pieces (drop k (sign ∷ pattern))) (sym is)

-- ---- the pieces of the bytes are those of the characters
put_bytes : List ℕ → List (List ℕ) → List (List ℕ)
put_bytes [] ps = ps
put_bytes (x ∷ xs) ps = put_first x (put_bytes xs ps)

pieces_over : (xs pattern : List ℕ) → Free 37 xs → pieces (xs ++ pattern) ≡ put_bytes xs (pieces pattern)
unfolding pieces put_bytes
pieces_over [] pattern f = refl
pieces_over (x ∷ xs) pattern f = when_false (x == 37) _ _ f.0 ∙ ap (put_first x) (pieces_over xs pattern f.1)

put_bytes_some : (xs p : List ℕ) (ps : List (List ℕ)) → put_bytes xs (p ∷ ps) ≡ (xs ++ p) ∷ ps
unfolding put_bytes
put_bytes_some [] p ps = refl
put_bytes_some (x ∷ xs) p ps = ap (put_first x) (put_bytes_some xs p ps)

char_first : (c : ℕ) (cs : List ℕ) (some : IsSome (pieces (encodes cs))) → IsScalar c → map chars (put_bytes (encode c) (pieces (encodes cs))) ≡ put_first c (map chars (pieces (encodes cs)))
char_first c cs some s =
    let one : scalars (c ∷ []) ≡ true = both_true (scalar c) s in
    let alone : chars (encode c) ≡ c ∷ [] = ap chars (sym (append-nil (encode c))) ∙ chars-encodes (c ∷ []) one in
    let all : chars (encode c ++ some.piece) ≡ c ∷ chars some.piece = chars-append (encode c) some.piece (IsUtf8-encode c s) ∙ ap (λ l. l ++ chars some.piece) alone in
    ap (λ ps. map chars (put_bytes (encode c) ps)) some.is
    ∙ ap (map chars) (put_bytes_some (encode c) some.piece some.later)
    ∙ ap (λ l. l ∷ map chars some.later) all
    ∙ ap (λ ps. put_first c (map chars ps)) (sym some.is)
  where
    both_true : (b : Bool) → b ≡ true → (b && true) ≡ true
    both_true true h = refl
    both_true false h = absurd (cc)

pieces_by : (b : Bool) (c : ℕ) (cs : List ℕ) → (c == 37) ≡ b → IsScalar c → map chars (pieces (encodes cs)) ≡ pieces cs
    → map chars (pieces (encode c ++ encodes cs)) ≡ cond b ([] ∷ pieces cs) (put_first c (pieces cs))
unfolding pieces
pieces_by true c cs e s h =
    ap (λ x. map chars (pieces (encode x ++ encodes cs))) (eqb-true c 37 e)
    ∙ ap (λ x. map chars (pieces (x ++ encodes cs))) (encode_ascii 37 (omega arith))
    ∙ ap (λ x. x ∷ map chars (pieces (encodes cs))) chars-nil ∙ ap (λ ps. [] ∷ ps) h
pieces_by false c cs e s h =
    ap (map chars) (pieces_over (encode c) (encodes cs) (free c 37 (omega arith) (λ same. let w : true ≡ false = sym (eq-eqb c 37 same) ∙ e in cc) s))
    ∙ char_first c cs (pieces_some (encodes cs)) s ∙ ap (put_first c) h

pieces_of : (cs : List ℕ) → scalars cs ≡ true → map chars (pieces (encodes cs)) ≡ pieces cs
unfolding pieces
pieces_of [] s = ap (λ x. x ∷ []) chars-nil
pieces_of (c ∷ cs) s =
    let parts = laws.both (scalar c) (scalars cs) s in
    pieces_by (c == 37) c cs refl parts.0 (pieces_of cs parts.1)

pub pieces_chars : (pattern : List ℕ) → IsUtf8 pattern → map chars (pieces pattern) ≡ pieces (chars pattern)
pieces_chars pattern u = ap (λ x. map chars (pieces x)) (sym (encodes-chars pattern u)) ∙ pieces_of (chars pattern) (scalars-chars pattern u)

-- ---- the loop that cuts
pub record CutStep (pattern : List ℕ) (start count : ℕ) : Type 0 where
  pub piece : IsUtf8 (take (start + count - start) (drop start pattern))
  pub within : start + count + 1 ≤ length pattern
  pub utf8 : IsUtf8 (drop (start + count + 1) pattern)
  pub same : pieces (drop start pattern) ≡ take (start + count - start) (drop start pattern) ∷ pieces (drop (start + count + 1) pattern)

pub rest_is : (pattern : List ℕ) (start : ℕ) → take (length pattern - start) (drop start pattern) ≡ drop start pattern
rest_is pattern start = take_all (length pattern - start) (drop start pattern) (let e = length-drop start pattern in omega arith)

step_in : (pattern : List ℕ) (start count : ℕ) (rest : List ℕ) → start ≤ length pattern → rest ≡ drop start pattern → IsUtf8 rest → IsFirstByte (is_byte 37) rest (Some count) → CutStep pattern start count
step_in pattern start count rest l e u f =
    let high = f.0.high in
    let long : length rest ≡ length pattern - start = ap length e ∙ length-drop start pattern in
    let sign : get_or rest count 0 ≡ 37 = eqb-true _ 37 f.1 in
    let n : count ≡ start + count - start = omega arith in
    let taken : take count rest ≡ take (start + count - start) (drop start pattern) = ap (λ k. take k rest) n ∙ ap (take (start + count - start)) e in
    let m : start + (count + 1) ≡ start + count + 1 = omega arith in
    let dropped : drop (count + 1) rest ≡ drop (start + count + 1) pattern = ap (drop (count + 1)) e ∙ drop-drop (count + 1) start pattern ∙ ap (λ k. drop k pattern) m in
    record {
      piece = subst IsUtf8 taken (IsUtf8-take rest count u (IsCharBoundary-before_ascii rest count high (omega arith)));
      within = omega arith;
      utf8 = subst IsUtf8 dropped (IsUtf8-drop rest (count + 1) u (IsCharBoundary-after_ascii rest count u high (omega arith)));
      same = ap pieces (sym e) ∙ cut_some rest count high f.1 (λ k lt p. f.0.before k (omega arith) lt p) ∙ ap (λ x. x ∷ pieces (drop (count + 1) rest)) taken
          ∙ ap (λ x. take (start + count - start) (drop start pattern) ∷ pieces x) dropped;
    }

pub cut_step : (pattern : List ℕ) (start count : ℕ) → start ≤ length pattern → IsUtf8 (drop start pattern)
    → IsFirstByte (is_byte 37) (take (length pattern - start) (drop start pattern)) (Some count) → CutStep pattern start count
cut_step pattern start count l u f = step_in pattern start count _ l (rest_is pattern start) (subst IsUtf8 (sym (rest_is pattern start)) u) f

pub cut_last : (pattern : List ℕ) (start : ℕ) → IsFirstByte (is_byte 37) (take (length pattern - start) (drop start pattern)) None
    → pieces (drop start pattern) ≡ take (length pattern - start) (drop start pattern) ∷ []
cut_last pattern start f = ap pieces (sym (rest_is pattern start)) ∙ cut_none _ (λ k l p. f k (omega arith) l p)

pub pushed : (old new : List (List ℕ)) (x piece : List ℕ) (rest later all : List (List ℕ)) → new ≡ old ++ x ∷ [] → x ≡ piece → old ++ rest ≡ all → rest ≡ piece ∷ later → new ++ later ≡ all
pushed old new x piece rest later all e f g h =
    ap (λ l. l ++ later) e ∙ append_assoc old (x ∷ []) later ∙ ap (λ y. old ++ (y ∷ later)) f ∙ ap (λ l. old ++ l) (sym h) ∙ g

pub pushed_last : (old new : List (List ℕ)) (x piece : List ℕ) (rest all : List (List ℕ)) → new ≡ old ++ x ∷ [] → x ≡ piece → old ++ rest ≡ all → rest ≡ piece ∷ [] → new ≡ all
pushed_last old new x piece rest all e f g h = sym (append-nil new) ∙ pushed old new x piece rest [] all e f g h
