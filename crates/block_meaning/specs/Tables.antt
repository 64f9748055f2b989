-- The symbol table of a block (Ion 1.0, "Local symbol tables"): its texts, strictly increasing by bytes and numbered from 10.
use Rattle.std.specs.Prelude.{ℕ, suc, ◌+◌, List, [], ◌∷◌, length, Option, Some, None, ◌==◌, if◌then◌else◌}
use Rattle.value_meaning.specs.Pairs.{IsBelow}

abbrev pub Table : Type 0
Table = List (List ℕ)

-- the last number, 9 where there is no text
abbrev pub last_symbol : Table → ℕ
last_symbol table = length table + 9

abbrev pub text_from : ℕ → Table → ℕ → Option (List ℕ)
text_from first [] n = None
text_from first (t ∷ ts) n = if n == first then Some t else text_from (suc first) ts n

-- the text of a number
unfoldable pub text_of : Table → ℕ → Option (List ℕ)
text_of table n = text_from 10 table n

-- each text is below the next
abbrev pub TextsRise : Table → Type 0
TextsRise [] = Unit {0}
TextsRise (t ∷ []) = Unit {0}
TextsRise (t ∷ u ∷ ts) = IsBelow t u × TextsRise (u ∷ ts)
