-- What stands before the values of a line.
use Rattle.std.specs.Prelude.{◌≡◌, ℕ, List, [], ◌∷◌, ◌++◌, map, cond}
use Rattle.json.specs.Print.{quoted}
use Rattle.value_meaning.specs.Val.{Val}
use Rattle.eval_meaning.specs.Logic.{is_missing}
use Rattle.answer_meaning.specs.Lines.{value_text}
use Rattle.block_lines.specs.declared.heads.LineHeads.{LineHeads}

-- a mark, the name in quotes and a colon
abbrev pub head_text : List ℕ → List ℕ → List ℕ
head_text mark name = mark ++ (quoted name ++ 58 ∷ [])

-- the same for each output
abbrev pub head_texts : List ℕ → List (List ℕ × ℕ) → List (List ℕ)
head_texts mark outs = map (λ (o : List ℕ × ℕ). head_text mark o.0) outs

-- behind an opened brace where the value is the first of its line, behind a comma where it isn't
pub record AreHeads (outs : List (List ℕ × ℕ)) (heads : LineHeads) : Type 0 where
  pub opening : heads.opening ≡ head_texts (123 ∷ []) outs
  pub following : heads.following ≡ head_texts (44 ∷ []) outs

-- the value behind such a text, and nothing where it is MISSING
abbrev pub value_behind : List ℕ → Val → List ℕ
value_behind head v = cond (is_missing v) [] (head ++ value_text v)
