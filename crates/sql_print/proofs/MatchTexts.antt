-- The text of a match, whatever its form.
use Rattle.std.proofs.Common.{◌≡◌, ℕ, List, ◌++◌}
use Rattle.std.specs.Prelude.{codes}
use Rattle.tree_meaning.specs.declared.How.{How}
use Rattle.tree_meaning.specs.declared.How.TheVariants as how
use Rattle.tree_meaning.specs.Tree.{Ex, matching}
use Rattle.print_meaning.specs.Pieces.{in_quotes}
use Rattle.print_meaning.specs.Texts.{text}
use Rattle.print_meaning.proofs.PrintedTexts.{match_text}
use Rattle.sql_print.specs.Matches.{before, between}

pub matching_text : (row : List ℕ) (h : How) (e : Ex) (p : List ℕ) → text row (matching h e p) ≡ (before h ++ (text row e ++ between h)) ++ (in_quotes 39 p ++ codes ")")
matching_text row how.Like e p = match_text row how.Like e p
matching_text row how.ILike e p = match_text row how.ILike e p
matching_text row how.Starts e p = match_text row how.Starts e p
matching_text row how.Ends e p = match_text row how.Ends e p
matching_text row how.Contains e p = match_text row how.Contains e p
