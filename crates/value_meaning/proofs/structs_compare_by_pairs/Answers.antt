use Rattle.value_meaning.proofs.OrderLaws.{fields_cmp-fields}
use Rattle.value_meaning.proofs.structs_compare_by_pairs.Goals as goal

pub returns : goal.returns
returns c = fields_cmp-fields
