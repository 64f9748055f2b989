-- Lines that are put one after the other, and the range of those that are let through.
use Rattle.std.proofs.Common.{◌≡◌, ◌⊎◌, ℕ, zero, suc, ◌+◌, ◌-◌, ◌<◌, ◌≤◌, min, List, [], ◌∷◌, ◌++◌, length, take, drop, Option, Some, refl, sym, ap, ◌∙◌, subst, arith, append_assoc, take-append-drop}
use Rattle.std.specs.Prelude.{slice_get}
use Rattle.std.proofs.Math.Logic.{⊎_elim}
use Rattle.std.proofs.lemmas.Bool.{cases_lt}
use Rattle.std.proofs.lemmas.List.{append-nil, take_all, drop_all, length-drop, length-take, length-map}
use Rattle.std.specs.Io.KnownBytes.{Appends}
use Rattle.value_meaning.specs.Val.{Val}
use Rattle.scan_batches.specs.Gathers.{lines_of}
use Rattle.scan_batches.specs.Lines.{text_of, let_through, TakesPart}
use Rattle.scan_batches.proofs.Texts.{Appends-both, Appends-nothing, text-append}

get_drop : (from i : ℕ) (lines : List (List ℕ)) → slice_get (drop from lines) i ≡ slice_get lines (from + i)
get_drop zero i lines = let e : 0 + i ≡ i = omega arith in sym (ap (λ (k : ℕ). slice_get lines k) e)
get_drop (suc n) i [] = refl
get_drop (suc n) i (x ∷ xs) = let e : suc n + i ≡ suc (n + i) = omega arith in get_drop n i xs ∙ sym (ap (λ (k : ℕ). slice_get (x ∷ xs) k) e)

take_rest : (xs : List (List ℕ)) (i m : ℕ) (line : List ℕ) → i < m → slice_get xs i ≡ Some line → (rest : List (List ℕ)) × (take m xs ≡ take i xs ++ line ∷ rest)
take_rest [] i m line lt at = absurd (cc)
take_rest (x ∷ xs) i zero line lt at = absurd (omega arith)
take_rest (x ∷ xs) zero (suc m) line lt at = let same : x ≡ line = cc in (take m xs, ap (λ (l : List ℕ). l ∷ take m xs) same)
take_rest (x ∷ xs) (suc i) (suc m) line lt at = let h = take_rest xs i m line (omega arith) at in (h.0, ap (λ (l : List (List ℕ)). x ∷ l) h.1)

take_one : (xs : List (List ℕ)) (i : ℕ) (line : List ℕ) → slice_get xs i ≡ Some line → take (suc i) xs ≡ take i xs ++ line ∷ []
take_one [] i line at = absurd (cc)
take_one (x ∷ xs) zero line at = let same : x ≡ line = cc in ap (λ (l : List ℕ). l ∷ []) same
take_one (x ∷ xs) (suc i) line at = ap (λ (l : List (List ℕ)). x ∷ l) (take_one xs i line at)

-- lines from a place up to another
abbrev pub between : ℕ → ℕ → List (List ℕ) → List (List ℕ)
between from to lines = take (to - from) (drop from lines)

pub none_put : (a : Option (List ℕ)) (from : ℕ) (lines : List (List ℕ)) → Appends a a (text_of (between from from lines))
none_put a from lines = let e : from - from ≡ 0 = omega arith in subst (λ (n : ℕ). Appends a a (text_of (take n (drop from lines)))) (sym e) (Appends-nothing a)

module _ (old now new : Option (List ℕ)) (from at : ℕ) (lines : List (List ℕ)) (line : List ℕ) (le : from ≤ at) (got : slice_get lines at ≡ Some line) (so_far : Appends old now (text_of (between from at lines))) where
  here : slice_get (drop from lines) (at - from) ≡ Some line
  here = let e : from + (at - from) ≡ at = omega arith in get_drop from (at - from) lines ∙ ap (λ (k : ℕ). slice_get lines k) e ∙ got

  pub put_one : Appends now new line → Appends old new (text_of (between from (at + 1) lines))
  put_one took =
      let e : at + 1 - from ≡ suc (at - from) = omega arith in
      let text : text_of (between from (at + 1) lines) ≡ text_of (between from at lines) ++ line =
      ap (λ (n : ℕ). text_of (take n (drop from lines))) e ∙ ap (λ (l : List (List ℕ)). text_of l) (take_one (drop from lines) (at - from) line here)
      ∙ text-append (between from at lines) (line ∷ []) ∙ ap (λ (l : List ℕ). text_of (between from at lines) ++ l) (append-nil line) in
      subst (λ (l : List ℕ). Appends old new l) (sym text) (Appends-both old now new (text_of (between from at lines)) line so_far took)

  pub put_cut : (to n : ℕ) (through : List (List ℕ)) → at < to → between from to lines ≡ through → Appends now new (take n line) → TakesPart old new (text_of through)
  put_cut to n through lt is took =
      let h = take_rest (drop from lines) (at - from) (to - from) line (omega arith) here in
      let front = text_of (between from at lines) in
      let rest = text_of h.0 in
      let text : text_of through ≡ front ++ (line ++ rest) = ap (λ (l : List (List ℕ)). text_of l) (sym is ∙ h.1) ∙ text-append (between from at lines) (line ∷ h.0) in
      let cut_line : line ≡ take n line ++ drop n line = sym (take-append-drop n line) in
      record {
        added = front ++ take n line;
        appends = Appends-both old now new front (take n line) so_far took;
        front = (
          drop n line ++ rest,
          text ∙ ap (λ (l : List ℕ). front ++ (l ++ rest)) cut_line ∙ ap (λ (l : List ℕ). front ++ l) (append_assoc (take n line) (drop n line) rest) ∙ sym (append_assoc front (take n line) (drop n line ++ rest)),
        );
      }

pub between_long : (from to : ℕ) (lines through : List (List ℕ)) → from ≤ to → to ≤ length lines → between from to lines ≡ through → to - from ≡ length through
between_long from to lines through le bound is =
    let dropped = length-drop from lines in
    sym (ap (λ (l : List (List ℕ)). length l) (sym is) ∙ length-take (to - from) (drop from lines) ∙ omega arith)

-- what is dropped and what is let through, as a range
pub range_is : (skip from left most : ℕ) (take_most : Option ℕ) (lines : List (List ℕ)) → from ≡ min skip (length lines) → ((xs : List (List ℕ)) → length xs ≡ left → take most xs ≡ let_through 0 take_most xs) → left ≡ length lines - from → take (from + most - from) (drop from lines) ≡ let_through skip take_most lines
range_is skip from left most take_most lines from_is cut left_is =
    let e : from + most - from ≡ most = omega arith in
    let dropped = length-drop from lines in
    let long : length (drop from lines) ≡ left = omega arith in
    ap (λ (n : ℕ). take n (drop from lines)) e ∙ cut (drop from lines) long ∙ ap (λ (l : List (List ℕ)). let_through 0 take_most l) (same (cases_lt skip (length lines)))
  where
    same : (skip < length lines) ⊎ (length lines ≤ skip) → drop from lines ≡ drop skip lines
    same h = ⊎_elim
        (λ (l : skip < length lines). let f : from ≡ skip = omega arith in ap (λ (n : ℕ). drop n lines) f)
        (λ (g : length lines ≤ skip). let f : from ≡ length lines = omega arith in drop_all from lines (omega arith) ∙ sym (drop_all skip lines g))
        h

-- the line of a made row at a place
pub line_at : (rows : List (List Val × List ℕ)) (at : ℕ) (keys : List Val) (line : List ℕ) → Some (keys, line) ≡ slice_get rows at → slice_get (lines_of rows) at ≡ Some line
line_at [] at keys line got = absurd (cc)
line_at (r ∷ rs) zero keys line got = let same : (keys, line) ≡ r = cc in ap (λ (x : List Val × List ℕ). Some x.1) (sym same)
line_at (r ∷ rs) (suc n) keys line got = line_at rs n keys line got

pub all_between : (lines : List (List ℕ)) (n : ℕ) → n ≡ length lines → between 0 n lines ≡ lines
all_between lines n is = let e : n - 0 ≡ n = omega arith in ap (λ (k : ℕ). take k lines) e ∙ take_all n lines (omega arith)

pub lines_long : (rows : List (List Val × List ℕ)) → length (lines_of rows) ≡ length rows
lines_long rows = length-map rows (λ r. r.1)
