-- A row's text and the line end are its line.
use Rattle.std.proofs.Common.{◌≡◌, ℕ, true, List, [], ◌∷◌, ◌++◌, sym, ◌∙◌, ap, append_assoc}
use Rattle.value_meaning.specs.Val.{Val, struct}
use Rattle.value_meaning.proofs.Chains.{fields-pairs}
use Rattle.block_meaning.specs.Blocks.{is_struct}
use Rattle.answer_meaning.specs.Made.{pairs_of}
use Rattle.answer_meaning.specs.Lines.{value_text, line_text}

text_of_pairs : (v : Val) → is_struct v ≡ true → value_text v ++ 10 ∷ [] ≡ line_text (pairs_of v)
text_of_pairs (struct fs) h = ap (λ gs. value_text (struct gs) ++ 10 ∷ []) (sym (fields-pairs fs))
text_of_pairs v h = cc

pub row_text : (old : List ℕ) (v : Val) → is_struct v ≡ true → (old ++ value_text v) ++ 10 ∷ [] ≡ old ++ line_text (pairs_of v)
row_text old v h = append_assoc old (value_text v) (10 ∷ []) ∙ ap (λ l. old ++ l) (text_of_pairs v h)
