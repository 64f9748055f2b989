-- By computing.
use Rattle.std.proofs.Common.{refl}
use Rattle.std.specs.Fmt.{digits}
use Rattle.print_meaning.specs.Pieces.{spelling}
use Rattle.print_meaning.specs.Print.{printed, query_text}
use Rattle.print_meaning.specs.Texts.{text}
use Rattle.print_meaning.proofs.examples_are_printed_so.Goals as goal

pub returns : goal.returns
unfolding spelling printed query_text text digits
returns c = record { forms_so = refl; refusing_so = refl; whole_so = refl }
