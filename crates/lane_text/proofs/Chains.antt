-- One step along the pieces of a pattern.
use Rattle.std.proofs.Common.{◌≡◌, ℕ, zero, suc, ◌+◌, ◌<◌, ◌≤◌, Bool, true, false, List, [], ◌∷◌, Option, None, Some, refl, ap, sym, ◌∙◌, arith, length, drop, take, ◌-◌, get_or, map}
use Rattle.std.specs.Str.{chars, IsUtf8}
use Rattle.std.proofs.lemmas.List.{drop_all, take_all, length-drop}
use Rattle.std.specs.Char.{to_ascii_lowercase}
use Rattle.eval_meaning.specs.Matching.{likes}
use Rattle.lane_text.specs.Bytewise.{folded}
use Rattle.lane_text.specs.Pieces.{pieces, after_piece, after_first, passes, is_whole, ends_in, floating, anchored}
use Rattle.lane_text.proofs.Folding.{lower_chars, lower_utf8}
use Rattle.lane_text.proofs.Greedy.{greedy}
use Rattle.lane_text.proofs.Percents.{pieces_chars}

read_item : (xs : List (List ℕ)) (i : ℕ) (x : List ℕ) → i < length xs → x ≡ get_or xs i x → drop i xs ≡ x ∷ drop (i + 1) xs
read_item [] i x l e = absurd (omega arith)
read_item (y ∷ xs) zero x l e = ap (λ z. z ∷ xs) (sym e)
read_item (y ∷ xs) (suc i) x l e = let n : suc i + 1 ≡ suc (i + 1) = omega arith in read_item xs i x (omega arith) e ∙ ap (λ k. x ∷ drop k (y ∷ xs)) (sym n)

-- there is an item
record Has (xs : List (List ℕ)) : Type 0 where
  item : List ℕ
  later : List (List ℕ)
  is : xs ≡ item ∷ later

has : (xs : List (List ℕ)) (i : ℕ) → i < length xs → Has (drop i xs)
has [] i l = absurd (omega arith)
has (x ∷ xs) zero l = record { item = x; later = xs; is = refl }
has (x ∷ xs) (suc i) l = has xs i (omega arith)

float_on : (x : List ℕ) (rest : List (List ℕ)) (text : List ℕ) → Has rest → floating (map chars (x ∷ rest)) text ≡ passes (floating (map chars rest)) (after_first (chars x) text)
unfolding floating
float_on x rest text h = ap (λ ps. floating (map chars (x ∷ ps)) text) h.is ∙ ap (λ ps. passes (floating (map chars ps)) (after_first (chars x) text)) (sym h.is)

float_last : (x text : List ℕ) → floating (map chars (x ∷ [])) text ≡ ends_in (chars x) text
unfolding floating
float_last x text = refl

pub floating_step : (xs : List (List ℕ)) (i : ℕ) (x text : List ℕ) → i + 1 < length xs → x ≡ get_or xs i x
    → floating (map chars (drop i xs)) text ≡ passes (floating (map chars (drop (i + 1) xs))) (after_first (chars x) text)
floating_step xs i x text l e = ap (λ ps. floating (map chars ps) text) (read_item xs i x (omega arith) e) ∙ float_on x (drop (i + 1) xs) text (has xs (i + 1) l)

pub floating_last : (xs : List (List ℕ)) (i : ℕ) (x text : List ℕ) → i < length xs → length xs ≤ i + 1 → x ≡ get_or xs i x
    → floating (map chars (drop i xs)) text ≡ ends_in (chars x) text
floating_last xs i x text l m e =
    ap (λ ps. floating (map chars ps) text) (read_item xs i x l e ∙ ap (λ ps. x ∷ ps) (drop_all (i + 1) xs m)) ∙ float_last x text

anchor_on : (x : List ℕ) (rest : List (List ℕ)) (text : List ℕ) → Has rest → anchored (map chars (x ∷ rest)) text ≡ passes (floating (map chars rest)) (after_piece (chars x) text)
unfolding anchored
anchor_on x rest text h = ap (λ ps. anchored (map chars (x ∷ ps)) text) h.is ∙ ap (λ ps. passes (floating (map chars ps)) (after_piece (chars x) text)) (sym h.is)

anchor_only : (x text : List ℕ) → anchored (map chars (x ∷ [])) text ≡ is_whole (chars x) text
unfolding anchored
anchor_only x text = refl

pub anchored_none : (xs : List (List ℕ)) (text : List ℕ) → length xs < 1 → anchored (map chars xs) text ≡ false
unfolding anchored
anchored_none [] text l = refl
anchored_none (x ∷ xs) text l = absurd (omega arith)

pub anchored_only : (xs : List (List ℕ)) (x text : List ℕ) → 1 ≤ length xs → length xs < 2 → x ≡ get_or xs 0 x → anchored (map chars xs) text ≡ is_whole (chars x) text
anchored_only xs x text l m e =
    ap (λ ps. anchored (map chars ps) text) (read_item xs 0 x (omega arith) e ∙ ap (λ ps. x ∷ ps) (drop_all (0 + 1) xs (omega arith))) ∙ anchor_only x text

pub anchored_step : (xs : List (List ℕ)) (x text : List ℕ) → 2 ≤ length xs → x ≡ get_or xs 0 x
    → anchored (map chars xs) text ≡ passes (floating (map chars (drop 1 xs))) (after_piece (chars x) text)
anchored_step xs x text l e = ap (λ ps. anchored (map chars ps) text) (read_item xs 0 x (omega arith) e) ∙ anchor_on x (drop 1 xs) text (has xs 1 l)

pub tail_is : (xs : List (List ℕ)) → take (length xs - 1) (drop 1 xs) ≡ drop 1 xs
tail_is xs = take_all (length xs - 1) (drop 1 xs) (let e = length-drop 1 xs in omega arith)

-- ---- what is left of a text
pub passes_none : (test : List ℕ → Bool) (o : Option (List ℕ)) → o ≡ None → passes test o ≡ false
passes_none test o e = ap (passes test) e

pub passes_some : (test : List ℕ → Bool) (o : Option (List ℕ)) (u : List ℕ) → o ≡ Some u → passes test o ≡ test u
passes_some test o u e = ap (passes test) e

-- ---- whole patterns
pub like_is : (pattern text : List ℕ) → IsUtf8 pattern → anchored (map chars (pieces pattern)) (chars text) ≡ likes (chars pattern) (chars text)
like_is pattern text p = ap (λ ps. anchored ps (chars text)) (pieces_chars pattern p) ∙ sym (greedy (chars pattern) (chars text))

pub ilike_is : (pattern text : List ℕ) → IsUtf8 pattern → IsUtf8 text
    → anchored (map chars (pieces (folded true pattern))) (chars (folded true text)) ≡ likes (map to_ascii_lowercase (chars pattern)) (map to_ascii_lowercase (chars text))
ilike_is pattern text p t =
    like_is (folded true pattern) (folded true text) (lower_utf8 pattern p)
    ∙ ap (λ x. likes x (chars (folded true text))) (lower_chars pattern p) ∙ ap (likes (map to_ascii_lowercase (chars pattern))) (lower_chars text t)
