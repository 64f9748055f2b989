-- A good block that was opened.
use Rattle.std.proofs.Common.{◌≡◌, ℕ, List, subst}
use Rattle.value_meaning.specs.Val.{Val}
use Rattle.block_meaning.proofs.BlockReading.{one_list}
use Rattle.file_meaning.specs.Files.{Entry}
use Rattle.block_lines.specs.GoodBlocks.{IsGoodBlock}

-- the bytes of a good block are one list of rows
pub one_good : (field bytes : List ℕ) (entry : Entry) (own rows : List Val) → IsGoodBlock field entry bytes own → IsGoodBlock field entry bytes rows → own ≡ rows
one_good field bytes entry own rows g h = (one_list g.table h.table own rows bytes g.block h.block).1

-- what holds of the rows of the opened block holds of whatever rows make it good
pub of_any : (field bytes : List ℕ) (entry : Entry) (own : List Val) (P : List Val → Type 0) → IsGoodBlock field entry bytes own → P own → (rows : List Val) → IsGoodBlock field entry bytes rows → P rows
of_any field bytes entry own P g p rows h = subst P (one_good field bytes entry own rows g h) p
