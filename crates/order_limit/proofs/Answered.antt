-- Rows that are arranged are an answer.
use Rattle.std.proofs.Common.{◌≡◌, ℕ, ◌+◌, List, [], ◌∷◌, get_or, set, arith, map, drop, Option, Bool, refl, sym, ap, ◌∙◌, subst}
use Rattle.std.specs.Prelude.{flat_map}
use Rattle.std.specs.List.{swap}
use Rattle.std.specs.List.Sorted.{IsPermutation, IsSortedByKey, apply_swaps, SwapsInRange}
use Rattle.std.specs.Ordering.{is_lt}
use Rattle.std.proofs.Math.ListN.{get_or-map}
use Rattle.std.proofs.lemmas.List.{map-set, length-map}
use Rattle.std.proofs.lemmas.Simd.{map-map}
use Rattle.std.proofs.lemmas.List.Folds.{flat_map-map}
use Rattle.std.proofs.lemmas.List.Sorted.{IsPermutation-trans}
use Rattle.answer_meaning.specs.Made.{Made}
use Rattle.answer_meaning.specs.Answers.{keys_cmp, limited}
use Rattle.answer_meaning.specs.Lines.{line_text}
use Rattle.order_limit.specs.Arranged.{Row, IsArranged}
use Rattle.order_limit.specs.Laws.{keyed_made, lines_of, PrintsAnswer}
use Rattle.order_limit.proofs.Rows.{cut_rows}

module _ {X Y : Type 0} (f : X → Y) where
  map-swap : (xs : List X) (i j : ℕ) → map f (swap xs i j) ≡ swap (map f xs) i j
  map-swap [] i j = refl
  map-swap (d ∷ ys) i j =
      map-set f (set (d ∷ ys) i (get_or (d ∷ ys) j d)) j (get_or (d ∷ ys) i d)
      ∙ (λ k. set ((map-set f (d ∷ ys) i (get_or (d ∷ ys) j d) ∙ ap (set (map f (d ∷ ys)) i) (sym (get_or-map f (d ∷ ys) j d))) k) j (sym (get_or-map f (d ∷ ys) i d) k))

  map-swaps : (xs : List X) (moves : List (ℕ × ℕ)) → map f (apply_swaps xs moves) ≡ apply_swaps (map f xs) moves
  map-swaps xs [] = refl
  map-swaps xs (m ∷ ms) = map-swap (apply_swaps xs ms) m.0 m.1 ∙ ap (λ l. swap l m.0 m.1) (map-swaps xs ms)

  -- what is mapped moves as its images move
  abbrev moved_as : (xs : List X) (ys : List Y) → IsPermutation (map f xs) ys → List X
  moved_as xs ys p = apply_swaps xs p.moves

  moves_as : (xs : List X) (ys : List Y) (p : IsPermutation (map f xs) ys) → IsPermutation xs (moved_as xs ys p)
  moves_as xs ys p = record { moves = p.moves; below = subst (λ n. SwapsInRange n p.moves) (length-map xs f) p.below; is = refl }

  images_moved : (xs : List X) (ys : List Y) (p : IsPermutation (map f xs) ys) → map f (moved_as xs ys p) ≡ ys
  images_moved xs ys p = map-swaps xs p.moves ∙ sym p.is

-- rows are sorted as those are of which they are the keys and lines
sorted_as_made : (falling : List Bool) (ms : List Made) → IsSortedByKey (λ (r : Row). r.0) (keys_cmp falling) (map keyed_made ms) → IsSortedByKey (λ (m : Made). m.keys) (keys_cmp falling) ms
sorted_as_made falling ms up k d low below =
    let same = length-map ms keyed_made in
    sym (λ j. is_lt (keys_cmp falling (get_or-map keyed_made ms (k + 1) d j).0 (get_or-map keyed_made ms k d j).0))
    ∙ up k (keyed_made d) low (omega (arith, below, same))

-- the lines of rows that are cut
lines_cut : (most : Option ℕ) (skip : ℕ) (ms : List Made) → lines_of (limited most (drop skip (map keyed_made ms))) ≡ map line_text (limited most (drop skip (map (λ (m : Made). m.output) ms)))
lines_cut most skip ms =
    let line = λ (r : Row). r.1 in
    let output = λ (m : Made). m.output in
    cut_rows line most skip (map keyed_made ms)
    ∙ ap (λ l. limited most (drop skip l)) (map-map line keyed_made ms ∙ sym (map-map line_text output ms))
    ∙ sym (cut_rows line_text most skip (map output ms))

pub arranged_answers : (falling : List Bool) (skip : ℕ) (most : Option ℕ) (made : List Made) (rows out : List Row) → IsPermutation (map keyed_made made) rows → IsArranged falling skip most rows out → PrintsAnswer falling skip most made out
arranged_answers falling skip most made rows out p h =
    let moved = IsPermutation-trans (map keyed_made made) rows h.arrangement p h.permutes in
    let ms = moved_as keyed_made made h.arrangement moved in
    let images = images_moved keyed_made made h.arrangement moved in
    let outputs = limited most (drop skip (map (λ (m : Made). m.output) ms)) in
    let lines : lines_of out ≡ map line_text outputs =
    ap lines_of (h.cut ∙ ap (λ l. limited most (drop skip l)) (sym images)) ∙ lines_cut most skip ms in
    record {
      outputs = outputs;
      answer = record {
        arrangement = ms;
        permutes = moves_as keyed_made made h.arrangement moved;
        sorted = sorted_as_made falling ms (subst (IsSortedByKey (λ (r : Row). r.0) (keys_cmp falling)) (sym images) h.sorted);
        cut = refl;
      };
      lines = lines;
      text = ap (flat_map (λ (l : List ℕ). l)) lines ∙ flat_map-map (λ (l : List ℕ). l) line_text outputs;
    }
