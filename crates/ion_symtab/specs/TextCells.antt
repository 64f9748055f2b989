-- One text of a symbol table.
use Rattle.std.specs.Prelude.{ℕ, List, Option, Some, None, ◌&&◌, if◌then◌else◌}
use Rattle.std.specs.Option.{option_and_then}
use Rattle.std.specs.Str.{is_utf8}
use Rattle.block_meaning.specs.Blocks.{payload_of, is_above}

-- the text of the string cell at the front, which is above the text before, if there is one, and what follows the cell
unfoldable pub text_by : Option (List ℕ) → List ℕ → Option (List ℕ × List ℕ)
text_by before bytes =
    option_and_then (λ p. if is_utf8 p.0 && is_above before p.0 then Some p else None) (payload_of 8 bytes)
