-- The count of the characters of a text, by its bytes.
use Rattle.std.proofs.Common.{◌≡◌, ◌≤◌, ℕ, List, refl, ap, sym, ◌∙◌, length}
use Rattle.std.specs.List.{count_by}
use Rattle.std.specs.Str.{IsUtf8, chars}
use Rattle.std.proofs.lemmas.List.Recursion.{is_count_by}
use Rattle.std.proofs.lemmas.List.Sums.{count_by-le-length}
use Rattle.std.proofs.lemmas.Str.{encodes-chars, scalars-chars}
use Rattle.lane_text.proofs.Leads.{begins, begin_count, begin_count_is}

-- as many bytes begin a character as there are characters
pub count_is : (text : List ℕ) → IsUtf8 text → count_by begins text ≡ length (chars text)
count_is text u =
    sym (is_count_by begin_count begins refl (λ x xs. refl) text)
    ∙ ap begin_count (sym (encodes-chars text u)) ∙ begin_count_is (chars text) (scalars-chars text u)

-- no more bytes begin a character than there are
pub count_within : (text : List ℕ) → count_by begins text ≤ length text
count_within text = count_by-le-length begins text
