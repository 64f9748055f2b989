use Rattle.ion_symtab.proofs.Lookups.{numbers_have_texts}
use Rattle.ion_symtab.proofs.table.numbers_have_texts.Goals as goal

pub returns : goal.returns
returns c = numbers_have_texts
