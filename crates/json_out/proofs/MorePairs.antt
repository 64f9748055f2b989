-- A pair that is added stands at the end of the pairs.
use Rattle.std.proofs.Common.{◌≡◌, ℕ, true, List, [], ◌∷◌, ◌++◌, length, sym, ◌∙◌, ap, append_assoc, arith}
use Rattle.std.specs.Prelude.{nat_lt}
use Rattle.std.proofs.lemmas.Bool.Decides.{nat_tests}
use Rattle.std.proofs.lemmas.List.{append-nil}
use Rattle.json.specs.Print.{quoted}
use Rattle.value_meaning.specs.Val.{Val, fields}
use Rattle.answer_meaning.specs.Made.{Output}
use Rattle.answer_meaning.specs.Lines.{comma_if, value_text, fields_text}
use Rattle.json_out.specs.Begun.{begun, pair_text}

-- a pair behind others
later_pair : (output : Output) (name : List ℕ) (v : Val)
    → fields_text true (fields (output ++ (name, v) ∷ [])) ≡ fields_text true (fields output) ++ (44 ∷ []) ++ (quoted name ++ 58 ∷ value_text v)
later_pair [] name v = simp (append_assoc, append-nil)
later_pair (f ∷ fs) name v =
    ap (λ l. (44 ∷ []) ++ (quoted f.0 ++ 58 ∷ (value_text f.1 ++ l))) (later_pair fs name v) ∙ simp append_assoc

joined : (name value rest comma more : List ℕ)
    → 123 ∷ (name ++ 58 ∷ (value ++ rest)) ++ (comma ++ more) ≡ 123 ∷ (name ++ 58 ∷ (value ++ ((rest ++ comma) ++ more)))
joined name value rest comma more = simp append_assoc

more_pairs : (output : Output) (name : List ℕ) (v : Val) → begun output ++ pair_text (begun output) name (value_text v) ≡ begun (output ++ (name, v) ∷ [])
more_pairs [] name v = simp append-nil
more_pairs (f ∷ fs) name v =
    let more = quoted name ++ 58 ∷ value_text v in
    let some : nat_lt 1 (length (begun (f ∷ fs))) ≡ true = grind (arith, nat_tests) in
    ap (λ b. begun (f ∷ fs) ++ (comma_if b ++ more)) some ∙ joined (quoted f.0) (value_text f.1) (fields_text true (fields fs)) (44 ∷ []) more
    ∙ ap (λ l. 123 ∷ (quoted f.0 ++ 58 ∷ (value_text f.1 ++ l))) (sym (later_pair fs name v))

-- the same of a line that was made
pub pair_added : (line next : List ℕ) (output : Output) (name : List ℕ) (v : Val) → next ≡ line ++ pair_text line name (value_text v) → line ≡ begun output
    → next ≡ begun (output ++ (name, v) ∷ [])
pair_added line next output name v e f = e ∙ ap (λ l. l ++ pair_text l name (value_text v)) f ∙ more_pairs output name v
