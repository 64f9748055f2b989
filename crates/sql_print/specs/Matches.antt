-- How a match is written: before what is matched, and between that and the text.
use Rattle.std.specs.Prelude.{ℕ, List, codes}
use Rattle.tree_meaning.specs.declared.How.{How}
use Rattle.tree_meaning.specs.declared.How.TheVariants as how

abbrev pub before : How → List ℕ
before how.Like = codes "("
before how.ILike = codes "("
before how.Starts = codes "STARTS_WITH("
before how.Ends = codes "ENDS_WITH("
before how.Contains = codes "CONTAINS("

abbrev pub between : How → List ℕ
between how.Like = codes " LIKE "
between how.ILike = codes " ILIKE "
between how.Starts = codes ", "
between how.Ends = codes ", "
between how.Contains = codes ", "
