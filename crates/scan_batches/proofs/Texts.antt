-- Lines as the text of an answer.
use Rattle.std.proofs.Common.{◌≡◌, ℕ, true, List, [], ◌∷◌, ◌++◌, length, drop, map, Option, Some, None, refl, sym, ap, ◌∙◌, subst, append_assoc}
use Rattle.std.proofs.lemmas.List.{append-nil, length-map, take-map, drop-map}
use Rattle.std.proofs.lemmas.Grind.{flat_map-append}
use Rattle.std.proofs.lemmas.List.Sorted.{IsPermutation-refl}
use Rattle.std.specs.Io.KnownBytes.{Appends}
use Rattle.value_meaning.specs.Val.{Val}
use Rattle.tree_meaning.specs.Tree.{Query}
use Rattle.answer_meaning.specs.Made.{Output, Made}
use Rattle.answer_meaning.specs.Answers.{limited}
use Rattle.answer_meaning.specs.Lines.{print, line_text}
use Rattle.made_meaning.specs.MadeRows.{made}
use Rattle.scan_meaning.specs.Batches.{is_plain}
use Rattle.scan_meaning.specs.Answers.{AddsWhole, AddsAnswer, IsPrefix}
use Rattle.scan_meaning.proofs.Plain.{cut, outputs_of, unsorted, in_any_order}
use Rattle.scan_batches.specs.Lines.{made_lines, text_of, let_through}

text_is : (os : List Output) → text_of (map line_text os) ≡ print os
text_is [] = refl
text_is (o ∷ os) = ap (λ (l : List ℕ). line_text o ++ l) (text_is os)

lines_are : (ms : List Made) → map (λ (m : Made). line_text m.output) ms ≡ map line_text (outputs_of ms)
lines_are [] = refl
lines_are (m ∷ ms) = ap (λ (l : List (List ℕ)). line_text m.output ∷ l) (lines_are ms)

limited_map : (most : Option ℕ) (os : List Output) → limited most (map line_text os) ≡ map line_text (limited most os)
limited_map None os = refl
limited_map (Some n) os = take-map line_text n os

cut_map : (skip : ℕ) (most : Option ℕ) (os : List Output) → let_through skip most (map line_text os) ≡ map line_text (cut skip most os)
cut_map skip most os = ap (λ (l : List (List ℕ)). limited most l) (drop-map line_text skip os) ∙ limited_map most (drop skip os)

-- the lines that are let through are those of an answer
pub text_through : (q : Query) (rows : List Val) (lines : List (List ℕ)) → lines ≡ made_lines q rows → text_of (let_through q.skip q.take lines) ≡ print (cut q.skip q.take (outputs_of (made q rows)))
text_through q rows lines is =
    ap (λ (l : List (List ℕ)). text_of (let_through q.skip q.take l)) (is ∙ lines_are (made q rows))
    ∙ ap (λ (l : List (List ℕ)). text_of l) (cut_map q.skip q.take (outputs_of (made q rows)))
    ∙ text_is (cut q.skip q.take (outputs_of (made q rows)))

pub adds_whole : (q : Query) → is_plain q ≡ true → (rows : List Val) (lines : List (List ℕ)) (old new : Option (List ℕ)) → lines ≡ made_lines q rows → Appends old new (text_of (let_through q.skip q.take lines)) → AddsWhole q rows old new
adds_whole q plain rows lines old new is appends = record {
  outputs = cut q.skip q.take (outputs_of (made q rows));
  answer = in_any_order q (unsorted q plain) rows (made q rows) (IsPermutation-refl (made q rows));
  appends = subst (λ (l : List ℕ). Appends old new l) (text_through q rows lines is) appends;
}

-- some of them, at a status that isn't 0
pub adds_part : (q : Query) → is_plain q ≡ true → (rows : List Val) (lines : List (List ℕ)) (status : ℕ) (old new : Option (List ℕ)) (added : List ℕ) → (status ≡ 0 → ⊥) → lines ≡ made_lines q rows → Appends old new added → IsPrefix added (text_of (let_through q.skip q.take lines)) → AddsAnswer q rows status old new
adds_part q plain rows lines status old new added other is appends front = record {
  outputs = cut q.skip q.take (outputs_of (made q rows));
  answer = in_any_order q (unsorted q plain) rows (made q rows) (IsPermutation-refl (made q rows));
  added = added;
  appends = appends;
  whole = λ e. absurd (other e);
  front = (front.0, sym (text_through q rows lines is) ∙ front.1);
}

pub made_long : (q : Query) (rows : List Val) (lines : List (List ℕ)) → lines ≡ made_lines q rows → length lines ≡ length (made q rows)
made_long q rows lines is = ap (λ (l : List (List ℕ)). length l) is ∙ length-map (made q rows) (λ (m : Made). line_text m.output)

-- a sink that took two texts took both
pub Appends-both : (a b c : Option (List ℕ)) (x y : List ℕ) → Appends a b x → Appends b c y → Appends a c (x ++ y)
Appends-both None b c x y h k = tt
Appends-both (Some k) None c x y h l = absurd h
Appends-both (Some k) (Some m) None x y h l = absurd l
Appends-both (Some k) (Some m) (Some n) x y h l = l ∙ ap (λ (z : List ℕ). z ++ y) h ∙ append_assoc k x y

pub Appends-nothing : (a : Option (List ℕ)) → Appends a a []
Appends-nothing None = tt
Appends-nothing (Some xs) = sym (append-nil xs)

pub text-append : (xs ys : List (List ℕ)) → text_of (xs ++ ys) ≡ text_of xs ++ text_of ys
text-append xs ys = flat_map-append (λ l. l) xs ys
