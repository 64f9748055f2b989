use Rattle.value_meaning.proofs.Chains.{items-vals, vals-items, pairs-fields, fields-pairs}
use Rattle.value_meaning.proofs.chains_are_lists.Goals as goal

pub returns : goal.returns
returns c = record { items = items-vals; vals = vals-items; pairs = pairs-fields; fields = fields-pairs }
