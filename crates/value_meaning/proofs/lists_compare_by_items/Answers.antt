use Rattle.value_meaning.proofs.OrderLaws.{vals_cmp-vals}
use Rattle.value_meaning.proofs.lists_compare_by_items.Goals as goal

pub returns : goal.returns
returns c = vals_cmp-vals
